use Rattle.beta_node.proofs.{Common.{sym, refl, subst, SFits, to_z-of_z, w128, IsAt, FoldNode, Node, blocking_pattern}, Turning.{floor_told}, Telling.{TurnsTo}}
use Rattle.beta_node.proofs.Telling.{Tells, join_turns, join_tells, exists_turns, exists_tells, not_turns, not_tells, fold_turns, fold_tells}
use Rattle.beta_node.specs.declared.node.Node.TheVariants as node
use Rattle.beta_node.proofs.node.Node.advance.Goals as goal

pub returns-in_ok-delta-in-Join-clause-stands : goal.returns-in_ok-delta-in-Join-clause-stands
returns-in_ok-delta-in-Join-clause-stands g c =
    let p = c.args.program.now in
    let look = g.F.Facts.map c.args.facts.now in
    let new = c.advance.new.self in
    subst (λ (old : Node). TurnsTo p (λ next. IsAt next c.args.moment.now) look old (node.Join new) c.args.left.now c.args.right.now) (sym c.in-Join.is)
    (join_turns p (λ next. IsAt next c.args.moment.now) look c.args.left.now c.args.right.now c.in-Join.join new c.in_ok-delta-in-Join.ensures.kept)

pub returns-in_ok-delta-in-Join-clause-difference : goal.returns-in_ok-delta-in-Join-clause-difference
returns-in_ok-delta-in-Join-clause-difference g c =
    let p = c.args.program.now in
    let look = g.F.Facts.map c.args.facts.now in
    let delta = c.in_ok-delta-in-Join.delta in
    let told = c.in_ok-delta-in-Join.ensures in
    subst (λ (old : Node). Tells p (λ next. IsAt next c.args.moment.now) look old c.args.left.now c.args.right.now delta) (sym c.in-Join.is)
    (join_tells p (λ next. IsAt next c.args.moment.now) look c.args.left.now c.args.right.now c.in-Join.join c.advance.new.self told.kept delta told.difference)

pub returns-in_ok-delta-in-Not-clause-stands : goal.returns-in_ok-delta-in-Not-clause-stands
returns-in_ok-delta-in-Not-clause-stands g c =
    let p = c.args.program.now in
    let look = g.F.Facts.map c.args.facts.now in
    let new = c.advance-in-Not.new.self in
    let told = c.in_ok-delta-in-Not.ensures in
    let fits : SFits w128 c.floor-floor.result = search in
    let risen = simp to_z-of_z at told.floor in
    let told_is = floor_told p c.args.moment.now c.pattern.result.now (blocking_pattern c.in-Not.waiting) c.floor-floor.result c.pattern.ensures c.floor-floor.ensures in
    subst (λ (old : Node). TurnsTo p (λ next. IsAt next c.args.moment.now) look old (node.Not new) c.args.left.now c.args.right.now) (sym c.in-Not.is)
    (not_turns p (λ next. IsAt next c.args.moment.now) look c.args.left.now c.args.right.now c.in-Not.waiting new told.kept told.tallies c.floor-floor.result told_is risen told.in_step)

pub returns-in_ok-delta-in-Not-clause-difference : goal.returns-in_ok-delta-in-Not-clause-difference
returns-in_ok-delta-in-Not-clause-difference g c =
    let p = c.args.program.now in
    let look = g.F.Facts.map c.args.facts.now in
    let delta = c.in_ok-delta-in-Not.delta in
    let told = c.in_ok-delta-in-Not.ensures in
    let fits : SFits w128 c.floor-floor.result = search in
    let risen = simp to_z-of_z at told.floor in
    let told_is = floor_told p c.args.moment.now c.pattern.result.now (blocking_pattern c.in-Not.waiting) c.floor-floor.result c.pattern.ensures c.floor-floor.ensures in
    subst (λ (old : Node). Tells p (λ next. IsAt next c.args.moment.now) look old c.args.left.now c.args.right.now delta) (sym c.in-Not.is)
    (not_tells p (λ next. IsAt next c.args.moment.now) look c.args.left.now c.args.right.now c.in-Not.waiting c.advance-in-Not.new.self told.kept told.tallies c.floor-floor.result told_is risen told.in_step delta told.difference)

pub returns-in_ok-delta-in-Exists-clause-stands : goal.returns-in_ok-delta-in-Exists-clause-stands
returns-in_ok-delta-in-Exists-clause-stands g c =
    let p = c.args.program.now in
    let look = g.F.Facts.map c.args.facts.now in
    let new = c.advance-in-Exists.new.self in
    let told = c.in_ok-delta-in-Exists.ensures in
    subst (λ (old : Node). TurnsTo p (λ next. IsAt next c.args.moment.now) look old (node.Exists new) c.args.left.now c.args.right.now) (sym c.in-Exists.is)
    (exists_turns p (λ next. IsAt next c.args.moment.now) look c.args.left.now c.args.right.now c.in-Exists.tally new told.kept told.tallies)

pub returns-in_ok-delta-in-Exists-clause-difference : goal.returns-in_ok-delta-in-Exists-clause-difference
returns-in_ok-delta-in-Exists-clause-difference g c =
    let p = c.args.program.now in
    let look = g.F.Facts.map c.args.facts.now in
    let delta = c.in_ok-delta-in-Exists.delta in
    let told = c.in_ok-delta-in-Exists.ensures in
    subst (λ (old : Node). Tells p (λ next. IsAt next c.args.moment.now) look old c.args.left.now c.args.right.now delta) (sym c.in-Exists.is)
    (exists_tells p (λ next. IsAt next c.args.moment.now) look c.args.left.now c.args.right.now c.in-Exists.tally c.advance-in-Exists.new.self told.kept told.tallies delta told.difference)

pub returns-in_ok-delta-in-Fold-clause-stands : goal.returns-in_ok-delta-in-Fold-clause-stands
returns-in_ok-delta-in-Fold-clause-stands g c =
    let p = c.args.program.now in
    let look = g.F.Facts.map c.args.facts.now in
    let old = c.in-Fold.fold in
    let told = c.in_ok-delta-in-Fold.ensures in
    let new : FoldNode = record { accumulate = old.accumulate; tally = c.advance-in-Fold.new.self } in
    subst (λ (before : Node). TurnsTo p (λ next. IsAt next c.args.moment.now) look before (node.Fold new) c.args.left.now c.args.right.now) (sym c.in-Fold.is)
    (fold_turns p (λ next. IsAt next c.args.moment.now) look c.args.left.now c.args.right.now old new refl told.kept told.tallies)

pub returns-in_ok-delta-in-Fold-clause-difference : goal.returns-in_ok-delta-in-Fold-clause-difference
returns-in_ok-delta-in-Fold-clause-difference g c =
    let p = c.args.program.now in
    let look = g.F.Facts.map c.args.facts.now in
    let delta = c.in_ok-delta-in-Fold.delta in
    let old = c.in-Fold.fold in
    let told = c.in_ok-delta-in-Fold.ensures in
    let new : FoldNode = record { accumulate = old.accumulate; tally = c.advance-in-Fold.new.self } in
    subst (λ (before : Node). Tells p (λ next. IsAt next c.args.moment.now) look before c.args.left.now c.args.right.now delta) (sym c.in-Fold.is)
    (fold_tells p (λ next. IsAt next c.args.moment.now) look c.args.left.now c.args.right.now old new refl told.kept told.tallies delta told.difference)
