use Rattle.beta_node.proofs.Common.{refl, subst, sym, [], map, SFits, to_z-of_z, w128, row_naming, IsAt, FoldNode, Node, blocking_pattern, blocker_tallies}
use Rattle.beta_node.proofs.Lending.{LoadsFrom, LoadTells, join_with, exists_with, not_with, fold_with, fold_difference, loaded_keeps, takes_loaded}
use Rattle.beta_node.proofs.{Loading.{nothing_kept, join_loads, exists_loads, not_loads, fold_loads}, Turning.{floor_told}}
use Rattle.beta_node.specs.declared.node.Node.TheVariants as node
use Rattle.beta_node.proofs.node.Node.load_turned.Goals as goal

pub returns-in_ok-delta-in-Join-clause-laden : goal.returns-in_ok-delta-in-Join-clause-laden
returns-in_ok-delta-in-Join-clause-laden g c =
    let p = c.args.program.now in
    let look = g.F.Facts.map c.args.facts.now in
    let old = c.in-Join.join in
    let told = c.in_ok-delta-in-Join.ensures in
    let new = c.advance_turned.new.self in
    subst (λ (n : Node). LoadsFrom p (λ s. IsAt s c.args.moment.now) look c.args.left.now c.args.extras.now n (node.Join new)) (sym c.in-Join.is)
    (λ own right lent world s rows stands at load.
    join_loads p (λ s. IsAt s c.args.moment.now) look c.args.left.now right c.args.extras.now (join_with old own) new c.in_ok-left-in-Join.left (record { gone = []; come = map row_naming right }) c.in_ok-left-in-Join.ensures.come refl (told.kept own (record { gone = []; come = map row_naming right }) (takes_loaded old.memories own look right lent (nothing_kept p (join_with old own).memories look stands))) world s rows stands at load)

pub returns-in_ok-delta-in-Join-clause-difference : goal.returns-in_ok-delta-in-Join-clause-difference
returns-in_ok-delta-in-Join-clause-difference g c =
    let p = c.args.program.now in
    let look = g.F.Facts.map c.args.facts.now in
    let old = c.in-Join.join in
    let told = c.in_ok-delta-in-Join.ensures in
    let new = c.advance_turned.new.self in
    subst (λ (n : Node). LoadTells p look n (node.Join new) c.in_ok-delta-in-Join.delta) (sym c.in-Join.is) (λ own right lent stands. told.difference own (record { gone = []; come = map row_naming right }) (takes_loaded old.memories own look right lent (nothing_kept p (join_with old own).memories look stands)))

pub returns-in_ok-delta-in-Not-clause-laden : goal.returns-in_ok-delta-in-Not-clause-laden
returns-in_ok-delta-in-Not-clause-laden g c =
    let p = c.args.program.now in
    let look = g.F.Facts.map c.args.facts.now in
    let old = c.in-Not.waiting in
    let told = c.in_ok-delta-in-Not.ensures in
    let fits : SFits w128 c.floor-floor.result = search in
    let risen = simp to_z-of_z at told.floor in
    let told_is = floor_told p c.args.moment.now c.pattern.result.now (blocking_pattern old) c.floor-floor.result c.pattern.ensures c.floor-floor.ensures in
    let new = c.load_turned.new.self in
    subst (λ (n : Node). LoadsFrom p (λ s. IsAt s c.args.moment.now) look c.args.left.now c.args.extras.now n (node.Not new)) (sym c.in-Not.is)
    (λ own right lent world s rows stands at load.
    not_loads p (λ s. IsAt s c.args.moment.now) look c.args.left.now right c.args.extras.now (not_with old own) new (loaded_keeps (blocker_tallies old) own look right lent (nothing_kept p (blocker_tallies (not_with old own)) look stands.counts.stands) (blocker_tallies new) c.args.left.now told.kept) told.laden c.floor-floor.result told_is risen told.in_step world s rows stands at load)

pub returns-in_ok-delta-in-Not-clause-difference : goal.returns-in_ok-delta-in-Not-clause-difference
returns-in_ok-delta-in-Not-clause-difference g c =
    let p = c.args.program.now in
    let look = g.F.Facts.map c.args.facts.now in
    let old = c.in-Not.waiting in
    let told = c.in_ok-delta-in-Not.ensures in
    let new = c.load_turned.new.self in
    subst (λ (n : Node). LoadTells p look n (node.Not new) c.in_ok-delta-in-Not.delta) (sym c.in-Not.is) (λ own right lent stands. told.difference stands.in_step)

pub returns-in_ok-delta-in-Exists-clause-laden : goal.returns-in_ok-delta-in-Exists-clause-laden
returns-in_ok-delta-in-Exists-clause-laden g c =
    let p = c.args.program.now in
    let look = g.F.Facts.map c.args.facts.now in
    let old = c.in-Exists.tally in
    let told = c.in_ok-delta-in-Exists.ensures in
    let new = c.load_turned-in-Exists.new.self in
    subst (λ (n : Node). LoadsFrom p (λ s. IsAt s c.args.moment.now) look c.args.left.now c.args.extras.now n (node.Exists new)) (sym c.in-Exists.is)
    (λ own right lent world s rows stands at load.
    exists_loads p (λ s. IsAt s c.args.moment.now) look c.args.left.now right c.args.extras.now (exists_with old own) new (loaded_keeps old.memories own look right lent (nothing_kept p ((exists_with old own).memories) look stands.stands) new.memories c.args.left.now told.kept) told.laden world s rows stands at load)

pub returns-in_ok-delta-in-Exists-clause-difference : goal.returns-in_ok-delta-in-Exists-clause-difference
returns-in_ok-delta-in-Exists-clause-difference g c =
    let p = c.args.program.now in
    let look = g.F.Facts.map c.args.facts.now in
    let old = c.in-Exists.tally in
    let told = c.in_ok-delta-in-Exists.ensures in
    let new = c.load_turned-in-Exists.new.self in
    subst (λ (n : Node). LoadTells p look n (node.Exists new) c.in_ok-delta-in-Exists.delta) (sym c.in-Exists.is) (λ own right lent stands. told.difference)

pub returns-in_ok-delta-in-Fold-clause-laden : goal.returns-in_ok-delta-in-Fold-clause-laden
returns-in_ok-delta-in-Fold-clause-laden g c =
    let p = c.args.program.now in
    let look = g.F.Facts.map c.args.facts.now in
    let old = c.in-Fold.fold in
    let told = c.in_ok-delta-in-Fold.ensures in
    let new : FoldNode = record { accumulate = old.accumulate; tally = c.load_turned-in-Fold.new.self } in
    subst (λ (n : Node). LoadsFrom p (λ s. IsAt s c.args.moment.now) look c.args.left.now c.args.extras.now n (node.Fold new)) (sym c.in-Fold.is)
    (λ own right lent world s rows stands at load.
    fold_loads p (λ s. IsAt s c.args.moment.now) look c.args.left.now right c.args.extras.now (fold_with old own) new refl (loaded_keeps old.tally.memories own look right lent (nothing_kept p ((fold_with old own).tally.memories) look stands.counts.stands) new.tally.memories c.args.left.now told.kept) told.laden world s rows stands at load)

pub returns-in_ok-delta-in-Fold-clause-difference : goal.returns-in_ok-delta-in-Fold-clause-difference
returns-in_ok-delta-in-Fold-clause-difference g c =
    let p = c.args.program.now in
    let look = g.F.Facts.map c.args.facts.now in
    let old = c.in-Fold.fold in
    let told = c.in_ok-delta-in-Fold.ensures in
    let new : FoldNode = record { accumulate = old.accumulate; tally = c.load_turned-in-Fold.new.self } in
    subst (λ (n : Node). LoadTells p look n (node.Fold new) c.in_ok-delta-in-Fold.delta) (sym c.in-Fold.is) (λ own right lent stands. fold_difference old new own look c.in_ok-delta-in-Fold.delta told.difference)
