use Rattle.session.proofs.Common.{◌≡◌, ◌∙◌, ◌<◌, ◌&&◌, ◌==◌, not, ap, refl, List, arith, Row, has, has_match, all_ahead, drop_turn, nothing_ahead, place_within}
use Rattle.{std.proofs.Common.{rules as std_rules}, session_model.proofs.Dropping.{none_ahead}}
use Rattle.session.proofs.settling.drop_fired.Goals as goal

pub loop-answer-init : goal.loop-answer-init
loop-answer-init c = (
  refl,
  refl,
  λ rules few listed.
      let same : c.into_iter-answer-iterator.result.rest.items ≡ c.args.dropped.items = search std_rules in
      all_ahead c.args.dropped.items c.into_iter-answer-iterator.result.rest.items rules c.args.agenda.now same listed,
)

pub loop-answer-preserved : goal.loop-answer-preserved
loop-answer-preserved c = (
  c.drop_fired.ensures.saliences ∙ c.loop-answer.invariant.0,
  c.drop_fired.ensures.pending ∙ c.loop-answer.invariant.1,
  λ rules few listed.
      let a = c.in-Some.answer in
      let before = c.loop-answer.invariant.2 rules few listed in
      let lower : a.place < rules = place_within c.args.dropped.items c.loop-answer.answer-iterator.rest.items c.next.new.self.rest.items rules c.args.agenda.now c.loop-answer.agenda c.drop_fired.new.self a c.rule_in.result.0 before c.in-Some.ensures.steps.0 in
      drop_turn c.args.dropped.items c.loop-answer.answer-iterator.rest.items c.next.new.self.rest.items rules c.args.agenda.now c.loop-answer.agenda c.drop_fired.new.self a c.rule_in.result.0 before c.in-Some.ensures.steps.0
      (c.rule_in.ensures (omega (arith, lower, few)))
      (λ m. c.drop_fired.ensures.fired m ∙ ap (λ (rows : List Row). has_match c.loop-answer.agenda.fired m && not (c.rule_in.result.0 == m.rule.0 && has rows m.row)) c.into_vec.ensures),
)

pub returns-clause-fired : goal.returns-clause-fired
returns-clause-fired c rules few listed =
    let rest = c.loop-answer.answer-iterator.rest in
    none_ahead c.args.dropped.items rest.items rules c.args.agenda.now c.loop-answer.agenda listed (nothing_ahead rest.items rest.len rest.ok.0 c.in-None.ensures.steps.0) (c.loop-answer.invariant.2 rules few listed)
