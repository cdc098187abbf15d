use Rattle.rete_net.proofs.Common.{◌∙◌, sym, ap, refl, subst, ◌+◌, ◌<◌, length, arith, get_or, List, slice_get_within, slice_get-get_or, RuleRows, rows_for}
use Rattle.rete_net.proofs.{Common.{AreListed, has_place}, Listing.{listed_far, listed_more, rows_more, rows_passed}}
use Rattle.rete_net.proofs.forgetting.rows_of_rules.Goals as goal

pub rules-preserved : goal.rules-preserved
rules-preserved c =
    let was = c.rules.invariant in
    let ends = c.args.ends.now in
    let place = c.in-Some.place in
    let rows = c.answer-rows.result.now in
    let within : c.in-Some.place < length c.args.ends.now = c.in-Some.ensures.below in
    record {
      within = omega (arith, within);
      listed = subst (λ (list : List RuleRows). AreListed list (place + 1)) (sym c.in_ok-put_rows.ensures)
          (listed_more c.rules.answers.items place (listed_far c.rules.answers.items c.rules.next place c.in-Some.ensures.from was.listed) rows);
      rows = λ none ruled k end lt e.
          ap (λ (list : List RuleRows). rows_for list k) c.in_ok-put_rows.ensures
          ∙ rows_more c.args.dropped.now ends c.rules.answers.items c.rules.next place none ruled was.listed (was.rows none ruled)
          (λ j le less. ap (λ set. has_place set.keys j) (sym c.rules-in-rules.ensures) ∙ c.in-Some.ensures.first j le less)
          rows (get_or ends place 0) (slice_get-get_or ends place 0 within) c.answer-rows.ensures c.in-Some.ensures.from k end lt e;
    }

pub returns-clause-rows : goal.returns-clause-rows
returns-clause-rows c none ruled place end e =
    let was = c.rules.invariant in
    rows_passed c.args.dropped.now c.args.ends.now c.rules.answers.items c.rules.next (length c.args.ends.now) none ruled was.listed (was.rows none ruled)
    (λ j le less. ap (λ set. has_place set.keys j) (sym c.rules-in-rules.ensures) ∙ c.in_default.ensures.none refl j le less)
    place end (slice_get_within c.args.ends.now place end e) e
