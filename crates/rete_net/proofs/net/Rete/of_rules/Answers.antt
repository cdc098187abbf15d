use Rattle.rete_net.proofs.Common.{◌≡◌, ◌∙◌, sym, ap, refl, subst, ℕ, ◌+◌, ◌<◌, ◌≤◌, nat_le, arith, List, [], ◌∷◌, ◌++◌, length, length-append, Some, slice_get}
use Rattle.rete_net.proofs.Common.{nat_tests, slice_get-get_or, unwrap_or, Condition, Rule, IsRunnable, has_conditions, has_windows, AreGrown, HaveEnds}
use Rattle.rete_net.proofs.{Common.{AreOwnedSoFar, NetNode, member_at, with_fans, AreFans, IsIndexOf, AreScheduled}, Growing.{passes_at, ends_more}}
use Rattle.rete_net.{proofs.{Frames.{index_again}, Kinship.{are_sources}, Owning.{rule_owned}, Seated.{built_shown}}, specs.Sourcing.{AreSourcesBelow}}
use Rattle.{rete_net.proofs.Showing.{replaced_shown}, std.proofs.lemmas.Bool.{and_parts}}
use Rattle.rete_net.proofs.net.Rete.of_rules.Goals as goal

pub loop-rule-init : goal.loop-rule-init
loop-rule-init c = record {
  count = ap length c.in_ok-ends.ensures.items;
  built = λ runnable. ([], c.new-builder.ensures.grown c.args.program.now, λ place rule lt e. absurd (omega arith), c.new-builder.ensures.owned c.args.program.now);
}

pub loop-rule-preserved : goal.loop-rule-preserved
loop-rule-preserved c = record { count = let e = c.loop-rule.invariant.count in rw (c.in_ok-push.ensures.items, length-append) (omega arith); built = built }
  where
    within : c.loop-rule.rule-index < length c.as_slice-rule-items.result.now
    within = omega arith

    found : slice_get c.args.program.now.rules c.loop-rule.rule-index ≡ Some c.rule-item.result
    found =
        ap (λ (rules : List Rule). slice_get rules c.loop-rule.rule-index) (sym c.as_slice-rule-items.ensures)
        ∙ slice_get-get_or c.as_slice-rule-items.result.now c.loop-rule.rule-index c.rule-item.result within ∙ ap Some (sym c.rule-item.is)

    ends_are : c.push.new.self.items ≡ c.loop-rule.ends.items ++ unwrap_or c.in_ok-last.last 0 ∷ []
    ends_are = c.in_ok-push.ensures.items ∙ ap (λ (end : ℕ). c.loop-rule.ends.items ++ end ∷ []) c.unwrap_or.ensures

    -- the rule's number
    number : IsRunnable c.args.program.now → c.rule_in.result.0 ≡ c.loop-rule.rule-index
    number runnable =
        let many : length c.as_slice-rule-items.result.now ≡ length c.args.program.now.rules = ap (λ (rs : List Rule). length rs) c.as_slice-rule-items.ensures in
        let few = runnable.few_rules in
        let count = c.loop-rule.invariant.count in
        let at : c.len.result ≡ c.loop-rule.rule-index = c.len.ensures ∙ c.loop-rule.ends.ok.0 ∙ count in
        c.rule_in.ensures (omega (arith, many, few, at, within)) ∙ at

    built : IsRunnable c.args.program.now → (all : List (List Condition)) × AreGrown c.args.program.now c.put_chain.new.self.nodes.items c.put_chain.new.self.origins.items all × HaveEnds all c.push.new.self.items c.args.program.now.rules (c.loop-rule.rule-index + 1)
        × AreOwnedSoFar c.args.program.now all c.put_chain.new.self.owners.items (c.loop-rule.rule-index + 1) [] 0
    built runnable =
        let p = c.args.program.now in
        let rule = c.rule-item.result in
        let was = c.loop-rule.invariant.built runnable in
        let windows = passes_at (has_windows p) p.rules c.loop-rule.rule-index rule runnable.windows found in
        let some = passes_at has_conditions p.rules c.loop-rule.rule-index rule runnable.conditions found in
        let conditions = and_parts (nat_le 1 (length rule.conditions)) (nat_le (length rule.conditions) 8) some in
        let few : length rule.conditions ≤ 8 = (let le = conditions.1 in grind (arith, nat_tests)) in
        let stands : slice_get p.rules c.rule_in.result.0 ≡ Some rule = ap (slice_get p.rules) (number runnable) ∙ found in
        let owned : AreOwnedSoFar p was.0 c.loop-rule.builder.owners.items c.rule_in.result.0 [] 0 =
        subst (λ n. AreOwnedSoFar p was.0 c.loop-rule.builder.owners.items n [] 0) (sym (number runnable)) was.3 in
        let more = c.in_ok-last.ensures was.0 was.1 stands few windows owned in (
          was.0 ++ more.0,
          more.1,
          subst (λ (ends : List ℕ). HaveEnds (was.0 ++ more.0) ends p.rules (c.loop-rule.rule-index + 1)) (sym ends_are)
              (ends_more was.0 more.0 c.loop-rule.ends.items p.rules rule c.in_ok-last.last c.loop-rule.rule-index was.2 c.loop-rule.invariant.count found
              more.2
              conditions.0),
          subst (λ n. AreOwnedSoFar p (was.0 ++ more.0) c.put_chain.new.self.owners.items (n + 1) [] 0) (number runnable)
              (rule_owned p (was.0 ++ more.0) c.put_chain.new.self.owners.items c.rule_in.result.0 rule stands more.3),
        )

pub returns-clause-fans : goal.returns-clause-fans
returns-clause-fans c = subst (λ (nodes : List NetNode). AreFans nodes c.in_ok-fans.fans) c.deref.ensures.value c.in_ok-fans.ensures.fans

below : (c : goal.After-drop-builder-2) → AreSourcesBelow c.loop-rule.builder.nodes.items c.in_ok-fans.fans.seats.items c.in_ok-sources.sources (length c.loop-rule.builder.nodes.items)
below c = subst (λ (nodes : List NetNode). AreSourcesBelow nodes c.in_ok-fans.fans.seats.items c.in_ok-sources.sources (length nodes)) c.deref-2.ensures.value c.in_ok-sources.ensures

pub returns-clause-sources : goal.returns-clause-sources
returns-clause-sources c = are_sources c.loop-rule.builder.nodes.items c.in_ok-fans.fans c.in_ok-sources.sources (below c)

pub returns-clause-new_sources : goal.returns-clause-new_sources
returns-clause-new_sources c = (below c).fresh

pub returns-clause-indexed : goal.returns-clause-indexed
returns-clause-indexed c =
    let nodes = c.loop-rule.builder.nodes.items in
    let fans = c.in_ok-fans.fans in
    let sources = c.in_ok-sources.sources in
    let ends = c.loop-rule.ends.items in
    let index = c.in_ok-index.index in
    index_again sources sources nodes (with_fans nodes fans) ends ends index index (λ k. refl) (replaced_shown (member_at fans) nodes) refl refl
    (subst (λ (es : List ℕ). IsIndexOf sources nodes es index) c.deref-4.ensures.value
    (subst (λ (ns : List NetNode). IsIndexOf sources ns c.deref-4.result.now index) c.deref-3.ensures.value c.in_ok-index.ensures))

pub returns-clause-scheduled : goal.returns-clause-scheduled
returns-clause-scheduled c = subst (λ (nodes : List NetNode). AreScheduled c.args.program.now c.in_ok-sources.sources nodes c.in_ok-schedule.schedule) c.deref-5.ensures.value c.in_ok-schedule.ensures

pub returns-clause-built : goal.returns-clause-built
returns-clause-built c runnable =
    let was = c.loop-rule.invariant.built runnable in
    let rules : length c.as_slice-rule-items.result.now ≡ length c.args.program.now.rules = ap (λ (rs : List Rule). length rs) c.as_slice-rule-items.ensures in
    let count = c.loop-rule.invariant.count in
    let all_rules : c.loop-rule.rule-index ≡ length c.args.program.now.rules = omega (arith, rules) in
    let fans = subst (λ (nodes : List NetNode). AreFans nodes c.in_ok-fans.fans) c.deref.ensures.value c.in_ok-fans.ensures.fans in (
      was.0,
      built_shown c.args.program.now c.loop-rule.builder.nodes.items was.0 c.in_ok-fans.fans was.1.built fans c.in_ok-fans.ensures.empty,
      λ place rule lt e. was.2 place rule (omega (arith, rules)) e,
      was.1.fronts,
      was.1.distinct,
      omega (arith, rules, count),
      subst (λ n. AreOwnedSoFar c.args.program.now was.0 c.loop-rule.builder.owners.items n [] 0) all_rules was.3,
    )

pub returns-clause-count : goal.returns-clause-count
returns-clause-count c =
    let rules : length c.as_slice-rule-items.result.now ≡ length c.args.program.now.rules = ap (λ (rs : List Rule). length rs) c.as_slice-rule-items.ensures in
    let count = c.loop-rule.invariant.count in
    omega (arith, rules, count)
