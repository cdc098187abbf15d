use Rattle.not_node.proofs.{Common.{SFits, to_z-of_z, ◌∙◌, sym, w128, moment_at, waits}, Pairs.{dropped, not_dropped}}
use Rattle.not_node.proofs.ripening.Ripening.drop_row.Goals as goal

pub returns-in_ok-copy-in-Some : goal.returns-in_ok-copy-in-Some
returns-in_ok-copy-in-Some g c at r =
    let fits : SFits w128 c.in-Some.at = search in
    let e = simp to_z-of_z at c.remove.ensures.updates.0 (at, r) in
    dropped (moment_at c.args.program.now c.args.pattern.now (g.F.Facts.map c.args.facts.now)) c.args.row.now c.in_ok-copy-in-Some.field-0 c.in-Some.at c.in_ok-copy-in-Some.ensures (sym c.in_ok-at.ensures ∙ c.in-Some.is) at r (waits c.args.self.now.waiting.keys at r) (waits c.remove.new.self.keys at r) e

pub returns-in-None : goal.returns-in-None
returns-in-None g c at r = not_dropped (moment_at c.args.program.now c.args.pattern.now (g.F.Facts.map c.args.facts.now)) c.args.row.now (sym c.in_ok-at.ensures ∙ c.in-None.is) at r (waits c.args.self.now.waiting.keys at r)
