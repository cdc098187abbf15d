use Rattle.{candidate_source.proofs.{Common.{◌∙◌, ap, List, Named, Row, has, has_name, row_naming}, Steps.{turned, others_kept}}, std.proofs.Common.{to_z-of_z}}
use Rattle.std.proofs.lemmas.Result.{on_ok_weaker}
use Rattle.candidate_source.proofs.source.Source.turn.Goals as goal

pub returns-clause-turned : goal.returns-clause-turned
returns-clause-turned g c =
    let fits = c.ranges.clock in
    let difference = simp (to_z-of_z, c.pattern.ensures) at c.in_ok-delta.ensures.difference in
    let stands = simp (to_z-of_z, c.pattern.ensures) at c.in_ok-delta.ensures.stands in
    on_ok_weaker c.come.result
    (λ come s next good there moves is.
    turned (g.F.Facts.map c.args.facts.now) c.args.self.now c.leave.new.self c.come.new.self c.advance.new.self c.args.handed.now c.leave.new.handed c.come.new.handed
    c.as_slice-3.result.now c.as_slice-4.result.now c.args.program.now s next c.in_ok-delta.delta (difference s next good there moves is)
    (λ who. ap (λ (names : List Named). has_name names who) c.as_slice-3.ensures.value ∙ c.in_ok-went.ensures who ∙ ap (λ (rows : List Row). has rows (row_naming who)) c.as_slice.ensures)
    (λ who. ap (λ (names : List Named). has_name names who) c.as_slice-4.ensures.value ∙ c.in_ok-came.ensures who ∙ ap (λ (rows : List Row). has rows (row_naming who)) c.as_slice-2.ensures)
    (stands s next good there moves is) c.in_ok-leave.ensures come) c.come.ensures

pub returns-clause-others : goal.returns-clause-others
returns-clause-others g c =
    on_ok_weaker c.come.result
    (others_kept (g.F.Facts.map c.args.facts.now) c.args.self.now c.leave.new.self c.come.new.self c.advance.new.self c.args.handed.now c.leave.new.handed c.come.new.handed _ _ c.in_ok-leave.ensures) c.come.ensures
