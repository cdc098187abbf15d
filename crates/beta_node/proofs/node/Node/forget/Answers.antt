use Rattle.beta_node.proofs.{Common.{◌∙◌, refl, has_name}, Forgetting.{none_there, nothing_forgot, join_forgot, not_forgot, exists_forgot, fold_forgot}}
use Rattle.beta_node.proofs.node.Node.forget.Goals as goal

pub returns-then-is_empty-2-clause-stands : goal.returns-then-is_empty-2-clause-stands
returns-then-is_empty-2-clause-stands g c =
    let none = none_there c.args.old.now c.is_empty-then-is_empty.result c.is_empty-then-is_empty.ensures c.if-is_empty-2.true in
    let nothing = nothing_forgot c.args.program.now (g.F.Facts.map c.args.facts.now) c.args.self.now c.args.rows.now c.args.old.now none c.from_vec.result (c.from_vec.ensures ∙ c.new.ensures.items) in
    nothing.stands

pub returns-then-is_empty-2-clause-dropped : goal.returns-then-is_empty-2-clause-dropped
returns-then-is_empty-2-clause-dropped g c =
    let none = none_there c.args.old.now c.is_empty-then-is_empty.result c.is_empty-then-is_empty.ensures c.if-is_empty-2.true in
    let nothing = nothing_forgot c.args.program.now (g.F.Facts.map c.args.facts.now) c.args.self.now c.args.rows.now c.args.old.now none c.from_vec.result (c.from_vec.ensures ∙ c.new.ensures.items) in
    nothing.drops

pub returns-then-is_empty-2-clause-dropped_alone : goal.returns-then-is_empty-2-clause-dropped_alone
returns-then-is_empty-2-clause-dropped_alone g c =
    let none = none_there c.args.old.now c.is_empty-then-is_empty.result c.is_empty-then-is_empty.ensures c.if-is_empty-2.true in
    let nothing = nothing_forgot c.args.program.now (g.F.Facts.map c.args.facts.now) c.args.self.now c.args.rows.now c.args.old.now none c.from_vec.result (c.from_vec.ensures ∙ c.new.ensures.items) in
    nothing.alone

pub returns-then-is_empty-2-clause-in_order : goal.returns-then-is_empty-2-clause-in_order
returns-then-is_empty-2-clause-in_order g c =
    let none = none_there c.args.old.now c.is_empty-then-is_empty.result c.is_empty-then-is_empty.ensures c.if-is_empty-2.true in
    let nothing = nothing_forgot c.args.program.now (g.F.Facts.map c.args.facts.now) c.args.self.now c.args.rows.now c.args.old.now none c.from_vec.result (c.from_vec.ensures ∙ c.new.ensures.items) in
    nothing.ordered

pub returns-in_ok-gone-in-Join-clause-stands : goal.returns-in_ok-gone-in-Join-clause-stands
returns-in_ok-gone-in-Join-clause-stands g c =
    let told = c.in_ok-gone-in-Join.ensures in
    let forgot = join_forgot c.args.program.now (g.F.Facts.map c.args.facts.now) (has_name c.args.old.now) c.args.rows.now c.in_ok-gone-in-Join.gone c.in-Join.join c.forget.new.self told.kept told.dropped told.in_order c.args.self.now c.in-Join.is in
    forgot.stands

pub returns-in_ok-gone-in-Join-clause-dropped : goal.returns-in_ok-gone-in-Join-clause-dropped
returns-in_ok-gone-in-Join-clause-dropped g c =
    let told = c.in_ok-gone-in-Join.ensures in
    let forgot = join_forgot c.args.program.now (g.F.Facts.map c.args.facts.now) (has_name c.args.old.now) c.args.rows.now c.in_ok-gone-in-Join.gone c.in-Join.join c.forget.new.self told.kept told.dropped told.in_order c.args.self.now c.in-Join.is in
    forgot.drops

pub returns-in_ok-gone-in-Join-clause-dropped_alone : goal.returns-in_ok-gone-in-Join-clause-dropped_alone
returns-in_ok-gone-in-Join-clause-dropped_alone g c =
    let told = c.in_ok-gone-in-Join.ensures in
    let forgot = join_forgot c.args.program.now (g.F.Facts.map c.args.facts.now) (has_name c.args.old.now) c.args.rows.now c.in_ok-gone-in-Join.gone c.in-Join.join c.forget.new.self told.kept told.dropped told.in_order c.args.self.now c.in-Join.is in
    forgot.alone

pub returns-in_ok-gone-in-Join-clause-in_order : goal.returns-in_ok-gone-in-Join-clause-in_order
returns-in_ok-gone-in-Join-clause-in_order g c =
    let told = c.in_ok-gone-in-Join.ensures in
    let forgot = join_forgot c.args.program.now (g.F.Facts.map c.args.facts.now) (has_name c.args.old.now) c.args.rows.now c.in_ok-gone-in-Join.gone c.in-Join.join c.forget.new.self told.kept told.dropped told.in_order c.args.self.now c.in-Join.is in
    forgot.ordered

pub returns-in_ok-gone-in-Not-clause-stands : goal.returns-in_ok-gone-in-Not-clause-stands
returns-in_ok-gone-in-Not-clause-stands g c =
    let told = c.in_ok-gone-in-Not.ensures in
    let forgot = not_forgot c.args.program.now (g.F.Facts.map c.args.facts.now) (has_name c.args.old.now) c.args.rows.now c.in_ok-gone-in-Not.gone c.in-Not.waiting c.forget-in-Not.new.self told.kept told.left told.floor told.in_step told.rows told.in_order c.args.self.now c.in-Not.is in
    forgot.stands

pub returns-in_ok-gone-in-Not-clause-dropped : goal.returns-in_ok-gone-in-Not-clause-dropped
returns-in_ok-gone-in-Not-clause-dropped g c =
    let told = c.in_ok-gone-in-Not.ensures in
    let forgot = not_forgot c.args.program.now (g.F.Facts.map c.args.facts.now) (has_name c.args.old.now) c.args.rows.now c.in_ok-gone-in-Not.gone c.in-Not.waiting c.forget-in-Not.new.self told.kept told.left told.floor told.in_step told.rows told.in_order c.args.self.now c.in-Not.is in
    forgot.drops

pub returns-in_ok-gone-in-Not-clause-dropped_alone : goal.returns-in_ok-gone-in-Not-clause-dropped_alone
returns-in_ok-gone-in-Not-clause-dropped_alone g c =
    let told = c.in_ok-gone-in-Not.ensures in
    let forgot = not_forgot c.args.program.now (g.F.Facts.map c.args.facts.now) (has_name c.args.old.now) c.args.rows.now c.in_ok-gone-in-Not.gone c.in-Not.waiting c.forget-in-Not.new.self told.kept told.left told.floor told.in_step told.rows told.in_order c.args.self.now c.in-Not.is in
    forgot.alone

pub returns-in_ok-gone-in-Not-clause-in_order : goal.returns-in_ok-gone-in-Not-clause-in_order
returns-in_ok-gone-in-Not-clause-in_order g c =
    let told = c.in_ok-gone-in-Not.ensures in
    let forgot = not_forgot c.args.program.now (g.F.Facts.map c.args.facts.now) (has_name c.args.old.now) c.args.rows.now c.in_ok-gone-in-Not.gone c.in-Not.waiting c.forget-in-Not.new.self told.kept told.left told.floor told.in_step told.rows told.in_order c.args.self.now c.in-Not.is in
    forgot.ordered

pub returns-in_ok-gone-in-Exists-clause-stands : goal.returns-in_ok-gone-in-Exists-clause-stands
returns-in_ok-gone-in-Exists-clause-stands g c =
    let told = c.in_ok-gone-in-Exists.ensures in
    let forgot = exists_forgot c.args.program.now (g.F.Facts.map c.args.facts.now) (has_name c.args.old.now) c.args.rows.now c.in_ok-gone-in-Exists.gone c.in-Exists.tally c.forget-in-Exists.new.self told.kept told.left told.rows told.in_order c.args.self.now c.in-Exists.is in
    forgot.stands

pub returns-in_ok-gone-in-Exists-clause-dropped : goal.returns-in_ok-gone-in-Exists-clause-dropped
returns-in_ok-gone-in-Exists-clause-dropped g c =
    let told = c.in_ok-gone-in-Exists.ensures in
    let forgot = exists_forgot c.args.program.now (g.F.Facts.map c.args.facts.now) (has_name c.args.old.now) c.args.rows.now c.in_ok-gone-in-Exists.gone c.in-Exists.tally c.forget-in-Exists.new.self told.kept told.left told.rows told.in_order c.args.self.now c.in-Exists.is in
    forgot.drops

pub returns-in_ok-gone-in-Exists-clause-dropped_alone : goal.returns-in_ok-gone-in-Exists-clause-dropped_alone
returns-in_ok-gone-in-Exists-clause-dropped_alone g c =
    let told = c.in_ok-gone-in-Exists.ensures in
    let forgot = exists_forgot c.args.program.now (g.F.Facts.map c.args.facts.now) (has_name c.args.old.now) c.args.rows.now c.in_ok-gone-in-Exists.gone c.in-Exists.tally c.forget-in-Exists.new.self told.kept told.left told.rows told.in_order c.args.self.now c.in-Exists.is in
    forgot.alone

pub returns-in_ok-gone-in-Exists-clause-in_order : goal.returns-in_ok-gone-in-Exists-clause-in_order
returns-in_ok-gone-in-Exists-clause-in_order g c =
    let told = c.in_ok-gone-in-Exists.ensures in
    let forgot = exists_forgot c.args.program.now (g.F.Facts.map c.args.facts.now) (has_name c.args.old.now) c.args.rows.now c.in_ok-gone-in-Exists.gone c.in-Exists.tally c.forget-in-Exists.new.self told.kept told.left told.rows told.in_order c.args.self.now c.in-Exists.is in
    forgot.ordered

pub returns-in_ok-gone-in-Fold-clause-stands : goal.returns-in_ok-gone-in-Fold-clause-stands
returns-in_ok-gone-in-Fold-clause-stands g c =
    let told = c.in_ok-gone-in-Fold.ensures in
    let forgot = fold_forgot c.args.program.now (g.F.Facts.map c.args.facts.now) (has_name c.args.old.now) c.args.rows.now c.in_ok-gone-in-Fold.gone c.in-Fold.fold (record { accumulate = c.in-Fold.fold.accumulate; tally = c.forget-in-Fold.new.self }) refl told.kept told.left told.rows told.in_order c.args.self.now c.in-Fold.is in
    forgot.stands

pub returns-in_ok-gone-in-Fold-clause-dropped : goal.returns-in_ok-gone-in-Fold-clause-dropped
returns-in_ok-gone-in-Fold-clause-dropped g c =
    let told = c.in_ok-gone-in-Fold.ensures in
    let forgot = fold_forgot c.args.program.now (g.F.Facts.map c.args.facts.now) (has_name c.args.old.now) c.args.rows.now c.in_ok-gone-in-Fold.gone c.in-Fold.fold (record { accumulate = c.in-Fold.fold.accumulate; tally = c.forget-in-Fold.new.self }) refl told.kept told.left told.rows told.in_order c.args.self.now c.in-Fold.is in
    forgot.drops

pub returns-in_ok-gone-in-Fold-clause-dropped_alone : goal.returns-in_ok-gone-in-Fold-clause-dropped_alone
returns-in_ok-gone-in-Fold-clause-dropped_alone g c =
    let told = c.in_ok-gone-in-Fold.ensures in
    let forgot = fold_forgot c.args.program.now (g.F.Facts.map c.args.facts.now) (has_name c.args.old.now) c.args.rows.now c.in_ok-gone-in-Fold.gone c.in-Fold.fold (record { accumulate = c.in-Fold.fold.accumulate; tally = c.forget-in-Fold.new.self }) refl told.kept told.left told.rows told.in_order c.args.self.now c.in-Fold.is in
    forgot.alone

pub returns-in_ok-gone-in-Fold-clause-in_order : goal.returns-in_ok-gone-in-Fold-clause-in_order
returns-in_ok-gone-in-Fold-clause-in_order g c =
    let told = c.in_ok-gone-in-Fold.ensures in
    let forgot = fold_forgot c.args.program.now (g.F.Facts.map c.args.facts.now) (has_name c.args.old.now) c.args.rows.now c.in_ok-gone-in-Fold.gone c.in-Fold.fold (record { accumulate = c.in-Fold.fold.accumulate; tally = c.forget-in-Fold.new.self }) refl told.kept told.left told.rows told.in_order c.args.self.now c.in-Fold.is in
    forgot.ordered
