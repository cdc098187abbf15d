use Rattle.beta_node.proofs.{Common.{refl}, Lending.{join_forgets_from, exists_forgets_from, not_forgets_from, fold_forgets_from}}
use Rattle.beta_node.proofs.node.Node.forget_turned.Goals as goal

pub returns-in_ok-dropped-in-Join-clause-stands : goal.returns-in_ok-dropped-in-Join-clause-stands
returns-in_ok-dropped-in-Join-clause-stands g c =
    let told = c.in_ok-dropped-in-Join.ensures in
    let forgot = join_forgets_from c.args.program.now (g.F.Facts.map c.args.facts.now) c.args.rows.now c.in_ok-dropped-in-Join.dropped c.args.gone.now c.in-Join.join c.forget_turned.new.self told.kept told.dropped told.in_order c.args.self.now c.in-Join.is in
    forgot.stands

pub returns-in_ok-dropped-in-Join-clause-dropped : goal.returns-in_ok-dropped-in-Join-clause-dropped
returns-in_ok-dropped-in-Join-clause-dropped g c =
    let told = c.in_ok-dropped-in-Join.ensures in
    let forgot = join_forgets_from c.args.program.now (g.F.Facts.map c.args.facts.now) c.args.rows.now c.in_ok-dropped-in-Join.dropped c.args.gone.now c.in-Join.join c.forget_turned.new.self told.kept told.dropped told.in_order c.args.self.now c.in-Join.is in
    forgot.drops

pub returns-in_ok-dropped-in-Join-clause-dropped_alone : goal.returns-in_ok-dropped-in-Join-clause-dropped_alone
returns-in_ok-dropped-in-Join-clause-dropped_alone g c =
    let told = c.in_ok-dropped-in-Join.ensures in
    let forgot = join_forgets_from c.args.program.now (g.F.Facts.map c.args.facts.now) c.args.rows.now c.in_ok-dropped-in-Join.dropped c.args.gone.now c.in-Join.join c.forget_turned.new.self told.kept told.dropped told.in_order c.args.self.now c.in-Join.is in
    forgot.alone

pub returns-in_ok-dropped-in-Join-clause-in_order : goal.returns-in_ok-dropped-in-Join-clause-in_order
returns-in_ok-dropped-in-Join-clause-in_order g c =
    let told = c.in_ok-dropped-in-Join.ensures in
    let forgot = join_forgets_from c.args.program.now (g.F.Facts.map c.args.facts.now) c.args.rows.now c.in_ok-dropped-in-Join.dropped c.args.gone.now c.in-Join.join c.forget_turned.new.self told.kept told.dropped told.in_order c.args.self.now c.in-Join.is in
    forgot.ordered

pub returns-in_ok-dropped-in-Not-clause-stands : goal.returns-in_ok-dropped-in-Not-clause-stands
returns-in_ok-dropped-in-Not-clause-stands g c =
    let told = c.in_ok-dropped-in-Not.ensures in
    let forgot = not_forgets_from c.args.program.now (g.F.Facts.map c.args.facts.now) c.args.rows.now c.in_ok-dropped-in-Not.dropped c.args.gone.now c.in-Not.waiting c.forget_turned-in-Not.new.self told.kept told.left told.floor told.in_step told.rows told.in_order c.args.self.now c.in-Not.is in
    forgot.stands

pub returns-in_ok-dropped-in-Not-clause-dropped : goal.returns-in_ok-dropped-in-Not-clause-dropped
returns-in_ok-dropped-in-Not-clause-dropped g c =
    let told = c.in_ok-dropped-in-Not.ensures in
    let forgot = not_forgets_from c.args.program.now (g.F.Facts.map c.args.facts.now) c.args.rows.now c.in_ok-dropped-in-Not.dropped c.args.gone.now c.in-Not.waiting c.forget_turned-in-Not.new.self told.kept told.left told.floor told.in_step told.rows told.in_order c.args.self.now c.in-Not.is in
    forgot.drops

pub returns-in_ok-dropped-in-Not-clause-dropped_alone : goal.returns-in_ok-dropped-in-Not-clause-dropped_alone
returns-in_ok-dropped-in-Not-clause-dropped_alone g c =
    let told = c.in_ok-dropped-in-Not.ensures in
    let forgot = not_forgets_from c.args.program.now (g.F.Facts.map c.args.facts.now) c.args.rows.now c.in_ok-dropped-in-Not.dropped c.args.gone.now c.in-Not.waiting c.forget_turned-in-Not.new.self told.kept told.left told.floor told.in_step told.rows told.in_order c.args.self.now c.in-Not.is in
    forgot.alone

pub returns-in_ok-dropped-in-Not-clause-in_order : goal.returns-in_ok-dropped-in-Not-clause-in_order
returns-in_ok-dropped-in-Not-clause-in_order g c =
    let told = c.in_ok-dropped-in-Not.ensures in
    let forgot = not_forgets_from c.args.program.now (g.F.Facts.map c.args.facts.now) c.args.rows.now c.in_ok-dropped-in-Not.dropped c.args.gone.now c.in-Not.waiting c.forget_turned-in-Not.new.self told.kept told.left told.floor told.in_step told.rows told.in_order c.args.self.now c.in-Not.is in
    forgot.ordered

pub returns-in_ok-dropped-in-Exists-clause-stands : goal.returns-in_ok-dropped-in-Exists-clause-stands
returns-in_ok-dropped-in-Exists-clause-stands g c =
    let told = c.in_ok-dropped-in-Exists.ensures in
    let forgot = exists_forgets_from c.args.program.now (g.F.Facts.map c.args.facts.now) c.args.rows.now c.in_ok-dropped-in-Exists.dropped c.args.gone.now c.in-Exists.tally c.forget_turned-in-Exists.new.self told.kept told.left told.rows told.in_order c.args.self.now c.in-Exists.is in
    forgot.stands

pub returns-in_ok-dropped-in-Exists-clause-dropped : goal.returns-in_ok-dropped-in-Exists-clause-dropped
returns-in_ok-dropped-in-Exists-clause-dropped g c =
    let told = c.in_ok-dropped-in-Exists.ensures in
    let forgot = exists_forgets_from c.args.program.now (g.F.Facts.map c.args.facts.now) c.args.rows.now c.in_ok-dropped-in-Exists.dropped c.args.gone.now c.in-Exists.tally c.forget_turned-in-Exists.new.self told.kept told.left told.rows told.in_order c.args.self.now c.in-Exists.is in
    forgot.drops

pub returns-in_ok-dropped-in-Exists-clause-dropped_alone : goal.returns-in_ok-dropped-in-Exists-clause-dropped_alone
returns-in_ok-dropped-in-Exists-clause-dropped_alone g c =
    let told = c.in_ok-dropped-in-Exists.ensures in
    let forgot = exists_forgets_from c.args.program.now (g.F.Facts.map c.args.facts.now) c.args.rows.now c.in_ok-dropped-in-Exists.dropped c.args.gone.now c.in-Exists.tally c.forget_turned-in-Exists.new.self told.kept told.left told.rows told.in_order c.args.self.now c.in-Exists.is in
    forgot.alone

pub returns-in_ok-dropped-in-Exists-clause-in_order : goal.returns-in_ok-dropped-in-Exists-clause-in_order
returns-in_ok-dropped-in-Exists-clause-in_order g c =
    let told = c.in_ok-dropped-in-Exists.ensures in
    let forgot = exists_forgets_from c.args.program.now (g.F.Facts.map c.args.facts.now) c.args.rows.now c.in_ok-dropped-in-Exists.dropped c.args.gone.now c.in-Exists.tally c.forget_turned-in-Exists.new.self told.kept told.left told.rows told.in_order c.args.self.now c.in-Exists.is in
    forgot.ordered

pub returns-in_ok-dropped-in-Fold-clause-stands : goal.returns-in_ok-dropped-in-Fold-clause-stands
returns-in_ok-dropped-in-Fold-clause-stands g c =
    let told = c.in_ok-dropped-in-Fold.ensures in
    let forgot = fold_forgets_from c.args.program.now (g.F.Facts.map c.args.facts.now) c.args.rows.now c.in_ok-dropped-in-Fold.dropped c.args.gone.now c.in-Fold.fold (record { accumulate = c.in-Fold.fold.accumulate; tally = c.forget_turned-in-Fold.new.self }) refl told.kept told.left told.rows told.in_order c.args.self.now c.in-Fold.is in
    forgot.stands

pub returns-in_ok-dropped-in-Fold-clause-dropped : goal.returns-in_ok-dropped-in-Fold-clause-dropped
returns-in_ok-dropped-in-Fold-clause-dropped g c =
    let told = c.in_ok-dropped-in-Fold.ensures in
    let forgot = fold_forgets_from c.args.program.now (g.F.Facts.map c.args.facts.now) c.args.rows.now c.in_ok-dropped-in-Fold.dropped c.args.gone.now c.in-Fold.fold (record { accumulate = c.in-Fold.fold.accumulate; tally = c.forget_turned-in-Fold.new.self }) refl told.kept told.left told.rows told.in_order c.args.self.now c.in-Fold.is in
    forgot.drops

pub returns-in_ok-dropped-in-Fold-clause-dropped_alone : goal.returns-in_ok-dropped-in-Fold-clause-dropped_alone
returns-in_ok-dropped-in-Fold-clause-dropped_alone g c =
    let told = c.in_ok-dropped-in-Fold.ensures in
    let forgot = fold_forgets_from c.args.program.now (g.F.Facts.map c.args.facts.now) c.args.rows.now c.in_ok-dropped-in-Fold.dropped c.args.gone.now c.in-Fold.fold (record { accumulate = c.in-Fold.fold.accumulate; tally = c.forget_turned-in-Fold.new.self }) refl told.kept told.left told.rows told.in_order c.args.self.now c.in-Fold.is in
    forgot.alone

pub returns-in_ok-dropped-in-Fold-clause-in_order : goal.returns-in_ok-dropped-in-Fold-clause-in_order
returns-in_ok-dropped-in-Fold-clause-in_order g c =
    let told = c.in_ok-dropped-in-Fold.ensures in
    let forgot = fold_forgets_from c.args.program.now (g.F.Facts.map c.args.facts.now) c.args.rows.now c.in_ok-dropped-in-Fold.dropped c.args.gone.now c.in-Fold.fold (record { accumulate = c.in-Fold.fold.accumulate; tally = c.forget_turned-in-Fold.new.self }) refl told.kept told.left told.rows told.in_order c.args.self.now c.in-Fold.is in
    forgot.ordered
