use Rattle.rete_net.proofs.Common.{◌≡◌, ◌∙◌, sym, ap, refl, ◌++◌, ◌<◌, length, arith, append-nil, get_or, List, slice_get-get_or, RuleChange, has_place}
use Rattle.rete_net.proofs.{Common.{change_at}, Telling.{told_more, pass_to, past_end, one_within}}
use Rattle.rete_net.proofs.changes.changes_of.Goals as goal

pub rules-preserved : goal.rules-preserved
rules-preserved c =
    let was = c.rules.invariant in
    let ends = c.args.ends.now in
    let place = c.in-Some.place in
    let delta = c.answer-delta.result.now in
    let within : c.in-Some.place < length c.args.ends.now = c.in-Some.ensures.below in
    record {
      within = omega (arith, within);
      told = λ few first deltas none ruled known.
          let here = slice_get-get_or ends place 0 within in
          let rule : c.rule_in.result.0 ≡ c.in-Some.place = c.rule_in.ensures (omega (arith, within, few)) in
          told_more first deltas ends place (get_or ends place 0) c.rules.changes.items c.put_change.new.changes.items delta here (c.answer-delta.ensures ∙ sym (known place (get_or ends place 0) here))
          (c.in_ok-put_change.ensures ∙ ap (λ r. c.rules.changes.items ++ change_at r delta) rule)
          ∙ ap (λ (list : List RuleChange). c.rules.changes.items ++ list)
          (sym (pass_to first deltas ends c.args.answered.now none ruled known c.rules.next place c.in-Some.ensures.from (omega (arith, within))
          (λ k le lt. ap (λ set. has_place set.keys k) (sym c.rules-in-rules.ensures) ∙ c.in-Some.ensures.first k le lt)))
          ∙ was.told few first deltas none ruled known;
      rules = λ few.
          let rule : c.rule_in.result.0 ≡ c.in-Some.place = c.rule_in.ensures (omega (arith, within, few)) in
          one_within c.rules.changes.items c.put_change.new.changes.items place (length ends) delta (c.in_ok-put_change.ensures ∙ ap (λ r. c.rules.changes.items ++ change_at r delta) rule) within (was.rules few);
    }

pub returns-clause-changes : goal.returns-clause-changes
returns-clause-changes c few first deltas none ruled known =
    let was = c.rules.invariant in
    let ends = c.args.ends.now in
    sym (ap (λ (list : List RuleChange). c.rules.changes.items ++ list)
    (pass_to first deltas ends c.args.answered.now none ruled known c.rules.next (length ends) was.within (omega arith)
    (λ k le lt. ap (λ set. has_place set.keys k) (sym c.rules-in-rules.ensures) ∙ c.in_default.ensures.none refl k le lt)
    ∙ past_end first deltas ends (length ends) (omega arith)) ∙ append-nil c.rules.changes.items)
    ∙ was.told few first deltas none ruled known
