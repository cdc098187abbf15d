use Rattle.counting_node.proofs.{Common.{◌≡◌, ◌∙◌, ◌&&◌, sym, ap, refl, List, Named, has_name, has_right, joins, passing, option_map}, Beside.{none_beyond}}
use Rattle.{counting_node.proofs.Beside.{positive, beyond_is, pattern_over, left_over}, rule_model.specs.declared.condition.Pattern.{Pattern}}
use Rattle.join_memory.specs.Shared.{over}
use Rattle.counting_node.proofs.node.TallyNode.extra_beside.Goals as goal

pub returns-then-more-eq0 : goal.returns-then-more-eq0
returns-then-more-eq0 g c =
    let look = g.F.Facts.map c.args.facts.now in
    let own = c.args.self.now.memories in
    let shared = option_map (λ s. s.now) c.args.shared in
    let m = over own shared in
    let row = c.args.row.now in
    let gathered = g.T.Tally.gathered c.args.plan.now in
    let more = c.in_ok-more-in-Some.more in
    let named : (who : Named) → has_name c.as_slice.result.now who ≡ passing m.pattern look (has_right m look) row who =
    λ who. ap (λ (names : List Named). has_name names who) c.as_slice.ensures.value ∙ c.in_ok-names-in-Some.ensures.names who
    ∙ ap (λ (p : Pattern). has_right m look who && joins p look row who) (sym (pattern_over own shared)) in
    record {
      own = tt;
      exact = λ world others counts kept who.
          none_beyond gathered world (others row) more.count more.values
          (beyond_is (g.T.Tally.holds c.args.plan.now) gathered m look world others counts row c.in-Some.tally.now c.in_ok-part-in-Some.part (left_over own shared look row ∙ sym c.in-Some.ensures) c.as_slice.result.now named c.in_ok-part-in-Some.ensures more.count more.values c.in_ok-more-in-Some.ensures)
          c.if-more-eq0.true who;
    }

pub returns-in_ok-copy-in-Some : goal.returns-in_ok-copy-in-Some
returns-in_ok-copy-in-Some g c =
    let look = g.F.Facts.map c.args.facts.now in
    let own = c.args.self.now.memories in
    let shared = option_map (λ s. s.now) c.args.shared in
    let m = over own shared in
    let row = c.args.row.now in
    let gathered = g.T.Tally.gathered c.args.plan.now in
    let more = c.in_ok-more-in-Some.more in
    let named : (who : Named) → has_name c.as_slice.result.now who ≡ passing m.pattern look (has_right m look) row who =
    λ who. ap (λ (names : List Named). has_name names who) c.as_slice.ensures.value ∙ c.in_ok-names-in-Some.ensures.names who
    ∙ ap (λ (p : Pattern). has_right m look who && joins p look row who) (sym (pattern_over own shared)) in
    record {
      own = record { rule = refl; condition = refl; row = c.in_ok-copy-in-Some.ensures; some = positive more.count c.if-more-eq0.false };
      exact = λ world others counts kept.
          beyond_is (g.T.Tally.holds c.args.plan.now) gathered m look world others counts row c.in-Some.tally.now c.in_ok-part-in-Some.part (left_over own shared look row ∙ sym c.in-Some.ensures) c.as_slice.result.now named c.in_ok-part-in-Some.ensures more.count more.values c.in_ok-more-in-Some.ensures;
    }
