use Rattle.not_node.proofs.{Common.{SFits, to_z-of_z, ◌∙◌, sym, ap, w128, moment_at, waits, mature}, Pairs.{added, ripe_added}}
use Rattle.not_node.proofs.ripening.Ripening.add_row.Goals as goal

pub returns-in_ok-insert-in-Some : goal.returns-in_ok-insert-in-Some
returns-in_ok-insert-in-Some g c at r =
    let fits : SFits w128 c.in-Some.at = search in
    let fits_floor : SFits w128 c.args.floor = c.ranges.floor in
    let e = simp to_z-of_z at c.in_ok-insert-in-Some.ensures.updates.0 (at, r) in
    let m = simp to_z-of_z at c.is_mature.ensures in
    added (moment_at c.args.program.now c.args.pattern.now (g.F.Facts.map c.args.facts.now)) c.args.row.now c.in_ok-copy-in-Some.field-0 c.in-Some.at c.args.floor c.in_ok-copy-in-Some.ensures (sym c.in_ok-at.ensures ∙ c.in-Some.is)
    (ap (mature c.args.floor) (sym c.in-Some.is) ∙ sym m ∙ c.if-is_mature.false) at r (waits c.args.self.now.waiting.keys at r) (waits c.insert.new.self.keys at r) e

pub returns-then-is_mature : goal.returns-then-is_mature
returns-then-is_mature g c at r =
    let fits_floor : SFits w128 c.args.floor = c.ranges.floor in
    let m = simp to_z-of_z at c.is_mature.ensures in
    ripe_added (moment_at c.args.program.now c.args.pattern.now (g.F.Facts.map c.args.facts.now)) c.args.row.now c.args.floor c.in_ok-at.at (sym c.in_ok-at.ensures) (sym m ∙ c.if-is_mature.true) at r (waits c.args.self.now.waiting.keys at r)
