use Rattle.session.proofs.Common.{◌≡◌, ◌∙◌, ◌||◌, List, [], ap, sym, subst, In, Row, is_tag_among, none_left, all_made, change_turn, none_ahead, names_in}
use Rattle.{session.proofs.Common.{left_turn, none_made, rules_turn}, fx_base.proofs.Sequences.{empty_from_length}}
use Rattle.session.proofs.refreshing.refresh.Goals as goal

pub loop-change-init : goal.loop-change-init
loop-change-init c =
    let all : c.into_iter-change-iterator.result.rest.items ≡ c.args.changes.items = c.into_iter-change-iterator.ensures.into_iter_gives.0 in
    record {
      agenda = λ p old new between. record { done = []; parts = sym all; made = none_made c.args.agenda.now };
      left = none_left c.args.agenda.now _;
      rules = λ rules within pending. (λ x i. within x (subst (In x) all i), pending);
    }

pub loop-change-preserved : goal.loop-change-preserved
loop-change-preserved c = record {
  agenda = λ p old new between.
      change_turn c.args.changes.items c.loop-change.change-iterator.rest.items c.next.new.self.rest.items c.in-Some.change c.args.agenda.now c.loop-change.agenda c.change.new.self
      between.in_order (c.loop-change.invariant.agenda p old new between) c.in-Some.ensures.steps.0 c.in_ok-change.ensures;
  left =
      left_turn c.args.agenda.now c.loop-change.agenda c.change.new.self c.in-Some.change.rule.0 c.in-Some.change.delta (is_tag_among c.loop-change.left.items) (is_tag_among c.add_rows.new.tags.items)
      c.loop-change.invariant.left c.in_ok-change.ensures
      (λ tag. c.in_ok-add_rows.ensures tag ∙ ap (λ (rows : List Row). is_tag_among c.loop-change.left.items tag || names_in rows tag) c.as_slice.ensures);
  rules = λ rules within pending.
      let was = c.loop-change.invariant.rules rules within pending in
      rules_turn c.loop-change.change-iterator.rest.items c.next.new.self.rest.items c.in-Some.change c.loop-change.agenda c.change.new.self rules c.in-Some.ensures.steps.0 c.in_ok-change.ensures was.0 was.1;
}

pub returns-clause-agenda : goal.returns-clause-agenda
returns-clause-agenda c p old new between =
    let rest = c.loop-change.change-iterator.rest in
    all_made p old new c.args.changes.items between c.args.agenda.now c.loop-change.agenda
    (none_ahead c.args.changes.items rest.items c.args.agenda.now c.loop-change.agenda (empty_from_length rest.items rest.len rest.ok.0 c.in-None.ensures.steps.0) (c.loop-change.invariant.agenda p old new between))

pub returns-clause-rules : goal.returns-clause-rules
returns-clause-rules c rules within pending = (c.loop-change.invariant.rules rules within pending).1
