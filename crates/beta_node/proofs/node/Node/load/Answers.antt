use Rattle.beta_node.proofs.Common.{sym, refl, subst, SFits, to_z-of_z, w128, IsDifference, IsAt, no_rows, no_names, empty_snapshot, NodeStands, FoldNode, Node}
use Rattle.beta_node.proofs.{Common.{node_rows, blocking_pattern}, Loading.{LoadsTo, join_loads, exists_loads, not_loads, fold_loads}, Turning.{floor_told}}
use Rattle.beta_node.specs.declared.node.Node.TheVariants as node
use Rattle.beta_node.proofs.node.Node.load.Goals as goal

pub returns-in_ok-delta-in-Join-clause-laden : goal.returns-in_ok-delta-in-Join-clause-laden
returns-in_ok-delta-in-Join-clause-laden g c =
    let p = c.args.program.now in
    let look = g.F.Facts.map c.args.facts.now in
    let left = c.args.left.now in
    let right = c.args.right.now in
    let extras = c.args.extras.now in
    let new = c.advance.new.self in
    subst (λ (old : Node). LoadsTo p (λ s. IsAt s c.args.moment.now) look left right extras old (node.Join new)) (sym c.in-Join.is)
    (join_loads p (λ s. IsAt s c.args.moment.now) look left right extras c.in-Join.join new c.in_ok-left-in-Join.left c.in_ok-right-in-Join.right c.in_ok-left-in-Join.ensures.come c.in_ok-right-in-Join.ensures.come c.in_ok-delta-in-Join.ensures.kept)

pub returns-in_ok-delta-in-Not-clause-laden : goal.returns-in_ok-delta-in-Not-clause-laden
returns-in_ok-delta-in-Not-clause-laden g c =
    let p = c.args.program.now in
    let look = g.F.Facts.map c.args.facts.now in
    let left = c.args.left.now in
    let right = c.args.right.now in
    let extras = c.args.extras.now in
    let new = c.load.new.self in
    let told = c.in_ok-delta-in-Not.ensures in
    let fits : SFits w128 c.floor-floor.result = search in
    let risen = simp to_z-of_z at told.floor in
    let told_is = floor_told p c.args.moment.now c.pattern.result.now (blocking_pattern c.in-Not.waiting) c.floor-floor.result c.pattern.ensures c.floor-floor.ensures in
    subst (λ (old : Node). LoadsTo p (λ s. IsAt s c.args.moment.now) look left right extras old (node.Not new)) (sym c.in-Not.is)
    (not_loads p (λ s. IsAt s c.args.moment.now) look left right extras c.in-Not.waiting new told.kept told.laden c.floor-floor.result told_is risen told.in_step)

pub returns-in_ok-delta-in-Exists-clause-laden : goal.returns-in_ok-delta-in-Exists-clause-laden
returns-in_ok-delta-in-Exists-clause-laden g c =
    let p = c.args.program.now in
    let look = g.F.Facts.map c.args.facts.now in
    let left = c.args.left.now in
    let right = c.args.right.now in
    let extras = c.args.extras.now in
    let new = c.load-in-Exists.new.self in
    let told = c.in_ok-delta-in-Exists.ensures in
    subst (λ (old : Node). LoadsTo p (λ s. IsAt s c.args.moment.now) look left right extras old (node.Exists new)) (sym c.in-Exists.is)
    (exists_loads p (λ s. IsAt s c.args.moment.now) look left right extras c.in-Exists.tally new told.kept told.laden)

pub returns-in_ok-delta-in-Fold-clause-laden : goal.returns-in_ok-delta-in-Fold-clause-laden
returns-in_ok-delta-in-Fold-clause-laden g c =
    let p = c.args.program.now in
    let look = g.F.Facts.map c.args.facts.now in
    let left = c.args.left.now in
    let right = c.args.right.now in
    let extras = c.args.extras.now in
    let old = c.in-Fold.fold in
    let told = c.in_ok-delta-in-Fold.ensures in
    let new : FoldNode = record { accumulate = old.accumulate; tally = c.load-in-Fold.new.self } in
    subst (λ (before : Node). LoadsTo p (λ s. IsAt s c.args.moment.now) look left right extras before (node.Fold new)) (sym c.in-Fold.is)
    (fold_loads p (λ s. IsAt s c.args.moment.now) look left right extras old new refl told.kept told.laden)

pub returns-in_ok-delta-in-Join-clause-difference : goal.returns-in_ok-delta-in-Join-clause-difference
returns-in_ok-delta-in-Join-clause-difference g c =
    let p = c.args.program.now in
    let look = g.F.Facts.map c.args.facts.now in
    let new = c.advance.new.self in
    let told = c.in_ok-delta-in-Join.ensures in
    subst (λ (old : Node). NodeStands p old look empty_snapshot no_rows no_names → IsDifference (node_rows p look old) (node_rows p look (node.Join new)) c.in_ok-delta-in-Join.delta) (sym c.in-Join.is) (λ stands. told.difference)

pub returns-in_ok-delta-in-Not-clause-difference : goal.returns-in_ok-delta-in-Not-clause-difference
returns-in_ok-delta-in-Not-clause-difference g c =
    let p = c.args.program.now in
    let look = g.F.Facts.map c.args.facts.now in
    let new = c.load.new.self in
    let told = c.in_ok-delta-in-Not.ensures in
    subst (λ (old : Node). NodeStands p old look empty_snapshot no_rows no_names → IsDifference (node_rows p look old) (node_rows p look (node.Not new)) c.in_ok-delta-in-Not.delta) (sym c.in-Not.is) (λ stands. told.difference stands.in_step)

pub returns-in_ok-delta-in-Exists-clause-difference : goal.returns-in_ok-delta-in-Exists-clause-difference
returns-in_ok-delta-in-Exists-clause-difference g c =
    let p = c.args.program.now in
    let look = g.F.Facts.map c.args.facts.now in
    let new = c.load-in-Exists.new.self in
    let told = c.in_ok-delta-in-Exists.ensures in
    subst (λ (old : Node). NodeStands p old look empty_snapshot no_rows no_names → IsDifference (node_rows p look old) (node_rows p look (node.Exists new)) c.in_ok-delta-in-Exists.delta) (sym c.in-Exists.is) (λ stands. told.difference)

pub returns-in_ok-delta-in-Fold-clause-difference : goal.returns-in_ok-delta-in-Fold-clause-difference
returns-in_ok-delta-in-Fold-clause-difference g c =
    let p = c.args.program.now in
    let look = g.F.Facts.map c.args.facts.now in
    let old = c.in-Fold.fold in
    let told = c.in_ok-delta-in-Fold.ensures in
    let new : FoldNode = record { accumulate = old.accumulate; tally = c.load-in-Fold.new.self } in
    subst (λ (before : Node). NodeStands p before look empty_snapshot no_rows no_names → IsDifference (node_rows p look before) (node_rows p look (node.Fold new)) c.in_ok-delta-in-Fold.delta) (sym c.in-Fold.is) (λ stands. told.difference)
