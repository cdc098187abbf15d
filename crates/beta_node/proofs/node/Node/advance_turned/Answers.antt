use Rattle.beta_node.proofs.{Common.{refl, subst, sym, SFits, to_z-of_z, w128, IsAt, FoldNode, Node, blocking_pattern}, Lending.{TurnsFrom, TellsFrom}}
use Rattle.beta_node.proofs.{Lending.{join_with, exists_with, not_with, fold_with, fold_difference}, Turning.{floor_told}, Telling.{join_turns, join_tells}}
use Rattle.beta_node.proofs.Telling.{exists_turns, exists_tells, not_turns, not_tells, fold_turns, fold_tells}
use Rattle.beta_node.specs.declared.node.Node.TheVariants as node
use Rattle.beta_node.proofs.node.Node.advance_turned.Goals as goal

pub returns-in_ok-delta-in-Join-clause-stands : goal.returns-in_ok-delta-in-Join-clause-stands
returns-in_ok-delta-in-Join-clause-stands g c =
    let p = c.args.program.now in
    let look = g.F.Facts.map c.args.facts.now in
    let old = c.in-Join.join in
    let told = c.in_ok-delta-in-Join.ensures in
    let new = c.advance_turned.new.self in
    subst (λ (n : Node). TurnsFrom p (λ next. IsAt next c.args.moment.now) look c.args.left.now c.args.gone.now c.args.come.now n (node.Join new)) (sym c.in-Join.is)
    (λ was right takes. join_turns p (λ next. IsAt next c.args.moment.now) look c.args.left.now right (join_with old was) new (told.kept was right takes))

pub returns-in_ok-delta-in-Join-clause-difference : goal.returns-in_ok-delta-in-Join-clause-difference
returns-in_ok-delta-in-Join-clause-difference g c =
    let p = c.args.program.now in
    let look = g.F.Facts.map c.args.facts.now in
    let old = c.in-Join.join in
    let told = c.in_ok-delta-in-Join.ensures in
    let new = c.advance_turned.new.self in
    subst (λ (n : Node). TellsFrom p (λ next. IsAt next c.args.moment.now) look c.args.left.now c.args.gone.now c.args.come.now n c.in_ok-delta-in-Join.delta) (sym c.in-Join.is)
    (λ was right takes. join_tells p (λ next. IsAt next c.args.moment.now) look c.args.left.now right (join_with old was) new (told.kept was right takes) c.in_ok-delta-in-Join.delta (told.difference was right takes))

pub returns-in_ok-delta-in-Not-clause-stands : goal.returns-in_ok-delta-in-Not-clause-stands
returns-in_ok-delta-in-Not-clause-stands g c =
    let p = c.args.program.now in
    let look = g.F.Facts.map c.args.facts.now in
    let old = c.in-Not.waiting in
    let told = c.in_ok-delta-in-Not.ensures in
    let fits : SFits w128 c.floor-floor.result = search in
    let risen = simp to_z-of_z at told.floor in
    let told_is = floor_told p c.args.moment.now c.pattern.result.now (blocking_pattern old) c.floor-floor.result c.pattern.ensures c.floor-floor.ensures in
    let new = c.advance_turned-in-Not.new.self in
    subst (λ (n : Node). TurnsFrom p (λ next. IsAt next c.args.moment.now) look c.args.left.now c.args.gone.now c.args.come.now n (node.Not new)) (sym c.in-Not.is)
    (λ was right takes. not_turns p (λ next. IsAt next c.args.moment.now) look c.args.left.now right (not_with old was) new (told.kept was right takes) (told.tallies was right takes) c.floor-floor.result told_is risen told.in_step)

pub returns-in_ok-delta-in-Not-clause-difference : goal.returns-in_ok-delta-in-Not-clause-difference
returns-in_ok-delta-in-Not-clause-difference g c =
    let p = c.args.program.now in
    let look = g.F.Facts.map c.args.facts.now in
    let old = c.in-Not.waiting in
    let told = c.in_ok-delta-in-Not.ensures in
    let fits : SFits w128 c.floor-floor.result = search in
    let risen = simp to_z-of_z at told.floor in
    let told_is = floor_told p c.args.moment.now c.pattern.result.now (blocking_pattern old) c.floor-floor.result c.pattern.ensures c.floor-floor.ensures in
    let new = c.advance_turned-in-Not.new.self in
    subst (λ (n : Node). TellsFrom p (λ next. IsAt next c.args.moment.now) look c.args.left.now c.args.gone.now c.args.come.now n c.in_ok-delta-in-Not.delta) (sym c.in-Not.is)
    (λ was right takes. not_tells p (λ next. IsAt next c.args.moment.now) look c.args.left.now right (not_with old was) new (told.kept was right takes) (told.tallies was right takes) c.floor-floor.result told_is risen told.in_step c.in_ok-delta-in-Not.delta told.difference)

pub returns-in_ok-delta-in-Exists-clause-stands : goal.returns-in_ok-delta-in-Exists-clause-stands
returns-in_ok-delta-in-Exists-clause-stands g c =
    let p = c.args.program.now in
    let look = g.F.Facts.map c.args.facts.now in
    let old = c.in-Exists.tally in
    let told = c.in_ok-delta-in-Exists.ensures in
    let new = c.advance_turned-in-Exists.new.self in
    subst (λ (n : Node). TurnsFrom p (λ next. IsAt next c.args.moment.now) look c.args.left.now c.args.gone.now c.args.come.now n (node.Exists new)) (sym c.in-Exists.is)
    (λ was right takes. exists_turns p (λ next. IsAt next c.args.moment.now) look c.args.left.now right (exists_with old was) new (told.kept was right takes) (told.tallies was right takes))

pub returns-in_ok-delta-in-Exists-clause-difference : goal.returns-in_ok-delta-in-Exists-clause-difference
returns-in_ok-delta-in-Exists-clause-difference g c =
    let p = c.args.program.now in
    let look = g.F.Facts.map c.args.facts.now in
    let old = c.in-Exists.tally in
    let told = c.in_ok-delta-in-Exists.ensures in
    let new = c.advance_turned-in-Exists.new.self in
    subst (λ (n : Node). TellsFrom p (λ next. IsAt next c.args.moment.now) look c.args.left.now c.args.gone.now c.args.come.now n c.in_ok-delta-in-Exists.delta) (sym c.in-Exists.is)
    (λ was right takes. exists_tells p (λ next. IsAt next c.args.moment.now) look c.args.left.now right (exists_with old was) new (told.kept was right takes) (told.tallies was right takes) c.in_ok-delta-in-Exists.delta told.difference)

pub returns-in_ok-delta-in-Fold-clause-stands : goal.returns-in_ok-delta-in-Fold-clause-stands
returns-in_ok-delta-in-Fold-clause-stands g c =
    let p = c.args.program.now in
    let look = g.F.Facts.map c.args.facts.now in
    let old = c.in-Fold.fold in
    let told = c.in_ok-delta-in-Fold.ensures in
    let new : FoldNode = record { accumulate = old.accumulate; tally = c.advance_turned-in-Fold.new.self } in
    subst (λ (n : Node). TurnsFrom p (λ next. IsAt next c.args.moment.now) look c.args.left.now c.args.gone.now c.args.come.now n (node.Fold new)) (sym c.in-Fold.is)
    (λ was right takes. fold_turns p (λ next. IsAt next c.args.moment.now) look c.args.left.now right (fold_with old was) new refl (told.kept was right takes) (told.tallies was right takes))

pub returns-in_ok-delta-in-Fold-clause-difference : goal.returns-in_ok-delta-in-Fold-clause-difference
returns-in_ok-delta-in-Fold-clause-difference g c =
    let p = c.args.program.now in
    let look = g.F.Facts.map c.args.facts.now in
    let old = c.in-Fold.fold in
    let told = c.in_ok-delta-in-Fold.ensures in
    let new : FoldNode = record { accumulate = old.accumulate; tally = c.advance_turned-in-Fold.new.self } in
    subst (λ (n : Node). TellsFrom p (λ next. IsAt next c.args.moment.now) look c.args.left.now c.args.gone.now c.args.come.now n c.in_ok-delta-in-Fold.delta) (sym c.in-Fold.is)
    (λ was right takes. fold_tells p (λ next. IsAt next c.args.moment.now) look c.args.left.now right (fold_with old was) new refl (told.kept was right takes) (told.tallies was right takes) c.in_ok-delta-in-Fold.delta (fold_difference old new was look c.in_ok-delta-in-Fold.delta told.difference))
