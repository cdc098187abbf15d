use Rattle.beta_node.proofs.{Common.{◌≡◌, sym, subst, SFits, to_z-of_z, w128, IsAt, Snapshot, floor, awaited_entry, blocking_pattern}, Still.{Stays}}
use Rattle.beta_node.proofs.Still.{TellsNothing, TellsOne, join_still, join_tells_nothing, exists_still, exists_tells_nothing, fold_still, fold_tells_nothing}
use Rattle.beta_node.proofs.{Still.{not_still, not_tells_nothing, not_tells_one}, Turning.{floor_told}, Untouched.{StaysUntouched, TellsUntouched}}
use Rattle.beta_node.proofs.Untouched.{join_untouched, join_tells_untouched, exists_untouched, exists_tells_untouched, fold_untouched, fold_tells_untouched}
use Rattle.beta_node.proofs.Untouched.{not_untouched, not_tells_untouched}
use Rattle.beta_node.proofs.node.Node.is_still.Goals as goal

-- the floor that is told is that of each snapshot of the moment
told_is : (c : goal.After-is_still) (next : Snapshot) → IsAt next c.args.moment.now → c.floor-floor.result ≡ floor c.args.program.now next (awaited_entry c.in-Not.waiting)
told_is c = floor_told c.args.program.now c.args.moment.now c.pattern.result.now (blocking_pattern c.in-Not.waiting) c.floor-floor.result c.pattern.ensures c.floor-floor.ensures

pub returns-in-Not-clause-stands : goal.returns-in-Not-clause-stands
returns-in-Not-clause-stands c told =
    let fits : SFits w128 c.floor-floor.result = search in
    let quiet = simp to_z-of_z at c.is_still.ensures.quiet in
    subst (Stays c.args.program.now c.args.moment.now) (sym c.in-Not.is) (not_still c.args.program.now c.args.moment.now c.in-Not.waiting c.floor-floor.result (told_is c) (quiet told))

pub returns-in-Not-clause-rows : goal.returns-in-Not-clause-rows
returns-in-Not-clause-rows c told =
    let fits : SFits w128 c.floor-floor.result = search in
    let quiet = simp to_z-of_z at c.is_still.ensures.quiet in
    subst (TellsNothing c.args.program.now c.args.moment.now) (sym c.in-Not.is) (not_tells_nothing c.args.program.now c.args.moment.now c.in-Not.waiting c.floor-floor.result (told_is c) (quiet told))

pub returns-in-Not-clause-due : goal.returns-in-Not-clause-due
returns-in-Not-clause-due c told =
    let fits : SFits w128 c.floor-floor.result = search in
    let due = simp to_z-of_z at c.is_still.ensures.due in
    let first = due told in
    subst (TellsOne c.args.program.now c.args.moment.now) (sym c.in-Not.is) (not_tells_one c.args.program.now c.args.moment.now c.in-Not.waiting c.floor-floor.result (told_is c) first.0 first.1 first.2 first.3)

pub returns-in-Join-clause-stands : goal.returns-in-Join-clause-stands
returns-in-Join-clause-stands c told = subst (Stays c.args.program.now c.args.moment.now) (sym c.in-Join.is) (join_still c.args.program.now c.args.moment.now c.in-Join.field-0)

pub returns-in-Join-clause-rows : goal.returns-in-Join-clause-rows
returns-in-Join-clause-rows c told = subst (TellsNothing c.args.program.now c.args.moment.now) (sym c.in-Join.is) (join_tells_nothing c.args.program.now c.args.moment.now c.in-Join.field-0)

pub returns-in-Exists-clause-stands : goal.returns-in-Exists-clause-stands
returns-in-Exists-clause-stands c told = subst (Stays c.args.program.now c.args.moment.now) (sym c.in-Exists.is) (exists_still c.args.program.now c.args.moment.now c.in-Exists.field-0)

pub returns-in-Exists-clause-rows : goal.returns-in-Exists-clause-rows
returns-in-Exists-clause-rows c told = subst (TellsNothing c.args.program.now c.args.moment.now) (sym c.in-Exists.is) (exists_tells_nothing c.args.program.now c.args.moment.now c.in-Exists.field-0)

pub returns-in-Fold-clause-stands : goal.returns-in-Fold-clause-stands
returns-in-Fold-clause-stands c told = subst (Stays c.args.program.now c.args.moment.now) (sym c.in-Fold.is) (fold_still c.args.program.now c.args.moment.now c.in-Fold.field-0)

pub returns-in-Fold-clause-rows : goal.returns-in-Fold-clause-rows
returns-in-Fold-clause-rows c told = subst (TellsNothing c.args.program.now c.args.moment.now) (sym c.in-Fold.is) (fold_tells_nothing c.args.program.now c.args.moment.now c.in-Fold.field-0)

pub returns-in-Not-clause-untouched : goal.returns-in-Not-clause-untouched
returns-in-Not-clause-untouched c told =
    let fits : SFits w128 c.floor-floor.result = search in
    let quiet = simp to_z-of_z at c.is_still.ensures.quiet in
    subst (StaysUntouched c.args.program.now c.args.moment.now) (sym c.in-Not.is) (not_untouched c.args.program.now c.args.moment.now c.in-Not.waiting c.floor-floor.result (told_is c) (quiet told))

pub returns-in-Not-clause-untouched_rows : goal.returns-in-Not-clause-untouched_rows
returns-in-Not-clause-untouched_rows c told =
    let fits : SFits w128 c.floor-floor.result = search in
    let quiet = simp to_z-of_z at c.is_still.ensures.quiet in
    subst (TellsUntouched c.args.program.now c.args.moment.now) (sym c.in-Not.is) (not_tells_untouched c.args.program.now c.args.moment.now c.in-Not.waiting c.floor-floor.result (told_is c) (quiet told))

pub returns-in-Join-clause-untouched : goal.returns-in-Join-clause-untouched
returns-in-Join-clause-untouched c told = subst (StaysUntouched c.args.program.now c.args.moment.now) (sym c.in-Join.is) (join_untouched c.args.program.now c.args.moment.now c.in-Join.field-0)

pub returns-in-Join-clause-untouched_rows : goal.returns-in-Join-clause-untouched_rows
returns-in-Join-clause-untouched_rows c told = subst (TellsUntouched c.args.program.now c.args.moment.now) (sym c.in-Join.is) (join_tells_untouched c.args.program.now c.args.moment.now c.in-Join.field-0)

pub returns-in-Exists-clause-untouched : goal.returns-in-Exists-clause-untouched
returns-in-Exists-clause-untouched c told = subst (StaysUntouched c.args.program.now c.args.moment.now) (sym c.in-Exists.is) (exists_untouched c.args.program.now c.args.moment.now c.in-Exists.field-0)

pub returns-in-Exists-clause-untouched_rows : goal.returns-in-Exists-clause-untouched_rows
returns-in-Exists-clause-untouched_rows c told = subst (TellsUntouched c.args.program.now c.args.moment.now) (sym c.in-Exists.is) (exists_tells_untouched c.args.program.now c.args.moment.now c.in-Exists.field-0)

pub returns-in-Fold-clause-untouched : goal.returns-in-Fold-clause-untouched
returns-in-Fold-clause-untouched c told = subst (StaysUntouched c.args.program.now c.args.moment.now) (sym c.in-Fold.is) (fold_untouched c.args.program.now c.args.moment.now c.in-Fold.field-0)

pub returns-in-Fold-clause-untouched_rows : goal.returns-in-Fold-clause-untouched_rows
returns-in-Fold-clause-untouched_rows c told = subst (TellsUntouched c.args.program.now c.args.moment.now) (sym c.in-Fold.is) (fold_tells_untouched c.args.program.now c.args.moment.now c.in-Fold.field-0)
