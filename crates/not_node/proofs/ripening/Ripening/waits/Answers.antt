use Rattle.not_node.proofs.{Common.{◌∙◌, sym, SFits, to_z-of_z, w128, moment_at}, Pairs.{asked}}
use Rattle.not_node.proofs.ripening.Ripening.waits.Goals as goal

pub returns-in_ok-copy-in-Some : goal.returns-in_ok-copy-in-Some
returns-in_ok-copy-in-Some g c =
    let fits : SFits w128 c.in-Some.at = search in
    let e = simp to_z-of_z at c.contains.ensures in
    e ∙ asked (moment_at c.args.program.now c.args.pattern.now (g.F.Facts.map c.args.facts.now)) c.args.row.now c.args.self.now.waiting.keys c.in_ok-copy-in-Some.field-0 c.in-Some.at c.in_ok-copy-in-Some.ensures (sym c.in_ok-at.ensures ∙ c.in-Some.is)
