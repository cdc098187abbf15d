use Rattle.fact_store.proofs.{Common.{◌≡◌, ◌∙◌, ◌++◌, ◌∷◌, [], sym, ap, subst, List, Option, Some, None, Fact, facts_of}, Draining.{AreTaken, all_taken}}
use Rattle.fact_store.proofs.Draining.{none_left, none_taken, one_taken, same_taken}
use Rattle.fact_store.proofs.store.FactStore.into_facts.Goals as goal

pub loop-tag-init : goal.loop-tag-init
loop-tag-init c =
    none_taken c.args.self c.in_ok-facts.facts.items c.into_iter-tag-iterator.result.rest.items c.in_ok-facts.ensures.items
    (c.into_iter-tag-iterator.ensures.into_iter_gives.0 ∙ c.into_vec-tag-items.ensures ∙ c.in_ok-tags.ensures)

pub loop-tag-preserved-in-Continue-branch-3 : goal.loop-tag-preserved-in-Continue-branch-3
loop-tag-preserved-in-Continue-branch-3 c =
    let made = c.loop-tag.facts.items in
    let all = facts_of c.args.self in
    let r = one_taken all made c.loop-tag.tag-iterator.rest.items c.next.new.self.rest.items c.in-Some.tag c.loop-tag.store c.take.new.self c.in-Some.ensures.steps.0 c.take.ensures.rest c.loop-tag.invariant in
    let same : r.0 ≡ c.in-Some-take.fact = same_taken r.0 c.in-Some-take.fact c.take.result _ c.in-Some-take.is c.take.ensures.taken r.1 in
    subst (λ (facts : List Fact). AreTaken all facts c.next.new.self.rest.items c.take.new.self) (ap (λ f. made ++ f ∷ []) same ∙ sym c.in_ok-push.ensures.items) r.2

pub loop-tag-preserved : goal.loop-tag-preserved
loop-tag-preserved c =
    let r =
    one_taken (facts_of c.args.self) c.loop-tag.facts.items c.loop-tag.tag-iterator.rest.items c.next.new.self.rest.items c.in-Some.tag c.loop-tag.store c.take.new.self c.in-Some.ensures.steps.0 c.take.ensures.rest
    c.loop-tag.invariant in
    absurd (let x : ◌≡◌ {A = Option Fact} None (Some r.0) = sym c.in_default.is ∙ c.take.ensures.taken ∙ r.1 in cc)

pub returns : goal.returns
returns c =
    let rest = c.loop-tag.tag-iterator.rest in
    all_taken (facts_of c.args.self) c.loop-tag.facts.items rest.items c.loop-tag.store (none_left rest.items rest.len rest.ok.0 c.in-None.ensures.steps.0) c.loop-tag.invariant
