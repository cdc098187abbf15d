-- A step of a world is one of the sights.
use Rattle.forgetting_laws.proofs.Common.{◌≡◌, ◌<◌, ℕ, ℤ, ◌==◌, ◌&&◌, ◌≤ℤ◌, ◌+ℤ◌, Bool, true, false, cond, not, List, refl, sym, ◌∙◌, ap, arith, Option, Some}
use Rattle.forgetting_laws.proofs.Common.{None, is_some, option_map, Fact, Value, Program, Step, is_present, HaveDistinctTags, matches, has_match, one_fact}
use Rattle.forgetting_laws.proofs.Common.{IsOrdered, World, snapshot, present, only_present, found, revised, has_id, AllBelow, below_of, kept_ordered, only}
use Rattle.forgetting_laws.proofs.Common.{brought, changed, IsStep, fact_at, sight_of, comes, goes, settled, modify_fault, new_fact, with_new, with_revised}
use Rattle.forgetting_laws.proofs.Common.{with_retracted, world_at_clock, with_promise, with_begin, moved_forward, found_in, has_number, others, kept_new}
use Rattle.forgetting_laws.proofs.{Common.{kept_numbers, kept_revised, kept_without, kept_later, has_still, WorldStepLaw, RetractsOne}, Forgotten.{all_stay}}
use Rattle.{forgetting_laws.proofs.Seeing.{tag_of, fact_in, free_at, at_filter, only_same, at_end, at_revised, at_next}, std.proofs.lemmas.Bool.{and_from}}
use Rattle.{std.proofs.lemmas.Bool.{and_parts, eq-eqb, eqb-true}, rule_model.specs.declared.step.Step.TheVariants.{Insert, Modify, Retract, Advance, At}}
use Rattle.{rule_model.specs.declared.step.Step.TheVariants.{Promise, Begin}, rule_world.{specs.Worlds.{moved, stepped, step_fault}, proofs.Ids.{one_id}}}
use Rattle.fx_base.proofs.{Orders.{≤ℤ_same}, Tests.{same_test}}

twice_not : (t : Bool) → t ≡ not (not t)
twice_not true = refl
twice_not false = refl

-- what comes has the next tag
comes_next : (p : Program) (w : World) (step : Step) (f : Fact) → comes p w step ≡ Some f → f.tag.0 ≡ w.next_tag
comes_next p w (Insert ty entry fields) f e = by (is_present p w.clock (new_fact p w ty.0 entry.0 fields)) e
  where
    by : (t : Bool) → cond t (Some (new_fact p w ty.0 entry.0 fields)) None ≡ Some f → f.tag.0 ≡ w.next_tag
    by true h = let s : new_fact p w ty.0 entry.0 fields ≡ f = cc in ap (λ (x : Fact). x.tag.0) (sym s)
    by false h = absurd (let n : None ≡ Some f = h in cc)
comes_next p w (Modify id sets) f e = by (found p w id.0) e
  where
    by : (o : Option Fact) → option_map (revised w.next_tag sets) o ≡ Some f → f.tag.0 ≡ w.next_tag
    by None h = absurd (let n : None ≡ Some f = h in cc)
    by (Some g) h = let s : revised w.next_tag sets g ≡ f = cc in ap (λ (x : Fact). x.tag.0) (sym s)
comes_next p w (Retract ty id) f e = absurd (let n : None ≡ Some f = e in cc)
comes_next p w (Advance by) f e = absurd (let n : None ≡ Some f = e in cc)
comes_next p w (At moment) f e = absurd (let n : None ≡ Some f = e in cc)
comes_next p w (Promise entry from) f e = absurd (let n : None ≡ Some f = e in cc)
comes_next p w Begin f e = absurd (let n : None ≡ Some f = e in cc)

module _ (p : Program) (w : World) (o : IsOrdered p w) where
  abbrev there : List Fact
  there = present p w

  distinct : HaveDistinctTags there
  distinct = (kept_ordered p w o).tags

  below : AllBelow w.next_tag there
  below = below_of w.next_tag there (kept_ordered p w o).fresh

  none_next : (tag : ℕ) → tag ≡ w.next_tag → fact_at there tag ≡ None
  none_next tag e = free_at there tag (λ g i s. let h : g.tag.0 < w.next_tag = below g i in absurd (omega (arith, s, e)))

  -- what comes stands under a tag that none had
  fresh : (new : Option Fact) → ((f : Fact) → new ≡ Some f → f.tag.0 ≡ w.next_tag) → (tag : ℕ) → is_some (brought new tag) ≡ true → fact_at there tag ≡ None
  fresh None next tag e = absurd (let n : false ≡ true = e in cc)
  fresh (Some f) next tag e = by (f.tag.0 == tag) refl e
    where
      by : (t : Bool) → (f.tag.0 == tag) ≡ t → is_some (cond t (Some f) None) ≡ true → fact_at there tag ≡ None
      by true h k = none_next tag (sym (eqb-true f.tag.0 tag h) ∙ next f refl)
      by false h k = absurd (let n : false ≡ true = k in cc)

  -- ---- the facts behind a step of each kind

  new_facts : (f : Fact) (tag : ℕ) → f.tag.0 ≡ w.next_tag
      → fact_at (present p (with_new p w f)) tag ≡ changed (brought (only (is_present p w.clock) (Some f)) tag) (λ g. false) (fact_at there tag)
  new_facts f tag next = by (is_present p w.clock f) refl
    where
      by : (t : Bool) → is_present p w.clock f ≡ t → fact_at (present p (with_new p w f)) tag ≡ changed (brought (cond t (Some f) None) tag) (λ g. false) (fact_at there tag)
      by true e = ap (λ (v : World). fact_at v.facts tag) (kept_new p w f e) ∙ at_end there f tag (λ s. none_next tag (sym (eqb-true f.tag.0 tag s) ∙ next))
      by false e = ap (λ (v : World). fact_at v.facts tag) (kept_numbers p w f e) ∙ all_stay (fact_at there tag)

  revised_facts : (id : ℕ) (sets : List (ℕ × Value)) (tag : ℕ) (found_one : Option Fact) → found p w id ≡ found_one → modify_fault p found_one ≡ None
      → fact_at (present p (with_revised w id sets)) tag ≡ changed (brought (option_map (revised w.next_tag sets) (found p w id)) tag) (has_id id) (fact_at there tag)
  revised_facts id sets tag None e none = absurd cc
  revised_facts id sets tag (Some g) e none =
      ap (λ (v : World). fact_at v.facts tag) (kept_revised p w id sets) ∙ by (w.next_tag == tag) refl
      ∙ ap (λ x. changed (brought (option_map (revised w.next_tag sets) x) tag) (has_id id) (fact_at there tag)) (sym e)
    where
      by : (t : Bool) → (w.next_tag == tag) ≡ t
          → fact_at (with_revised (only_present p w) id sets).facts tag ≡ changed (cond t (Some (revised w.next_tag sets g)) None) (has_id id) (fact_at there tag)
      by true s = ap (fact_at (with_revised (only_present p w) id sets).facts) (sym (eqb-true w.next_tag tag s)) ∙ at_next id w.next_tag sets there g below e
      by false s = at_revised id w.next_tag sets there tag distinct s

  fewer_facts : (ty id tag : ℕ) → fact_at (present p (with_retracted p w ty id)) tag ≡ changed None (λ f. f.ty.0 == ty && has_id id f) (fact_at there tag)
  fewer_facts ty id tag =
      ap (λ (v : World). fact_at v.facts tag) (kept_without p w ty id) ∙ at_filter (others ty id) there tag distinct

  later_facts : (clock : ℤ) (tag : ℕ) → w.clock ≤ℤ clock → fact_at (present p (world_at_clock w clock)) tag ≡ changed None (λ f. not (is_present p clock f)) (fact_at there tag)
  later_facts clock tag le =
      ap (λ (v : World). fact_at v.facts tag) (kept_later p w clock le) ∙ at_filter (is_present p clock) there tag distinct
      ∙ only_same (is_present p clock) (λ f. not (not (is_present p clock f))) (fact_at there tag) (λ f. twice_not (is_present p clock f))

  -- ---- the step

  is_step : (v : World) (step : Step) → ((tag : ℕ) → fact_at (present p v) tag ≡ changed (brought (comes p w step) tag) (goes p w step) (fact_at there tag))
      → w.clock ≤ℤ v.clock → v.fired ≡ w.fired → IsStep (comes p w step) (goes p w step) (sight_of p w) (sight_of p (settled p v))
  is_step v step facts le same = record {
    facts = facts;
    fresh = fresh (comes p w step) (comes_next p w step);
    clock = le;
    fired = λ m. has_still p (snapshot v) v.fired m ∙ ap (λ fs. has_match fs m && has_match (matches p (snapshot v)) m) same;
  }

pub world_step_law : WorldStepLaw
unfolding stepped moved step_fault
world_step_law p w (Insert ty entry fields) o none =
    let f = new_fact p w ty.0 entry.0 fields in
    is_step p w o (with_new p w f) (Insert ty entry fields) (λ tag. new_facts p w o f tag refl) (≤ℤ_same w.clock w.clock refl) refl
world_step_law p w (Modify id sets) o none =
    is_step p w o (with_revised w id.0 sets) (Modify id sets) (λ tag. revised_facts p w o id.0 sets tag (found p w id.0) refl none) (≤ℤ_same w.clock w.clock refl) refl
world_step_law p w (Retract ty id) o none = is_step p w o (with_retracted p w ty.0 id.0) (Retract ty id) (fewer_facts p w o ty.0 id.0) (≤ℤ_same w.clock w.clock refl) refl
world_step_law p w (Advance by) o none =
    let le = (moved_forward w.clock (w.clock +ℤ by) none).0 in
    is_step p w o (world_at_clock w (w.clock +ℤ by)) (Advance by) (λ tag. later_facts p w o (w.clock +ℤ by) tag le) le refl
world_step_law p w (At moment) o none =
    let le = (moved_forward w.clock moment none).0 in
    is_step p w o (world_at_clock w moment) (At moment) (λ tag. later_facts p w o moment tag le) le refl
world_step_law p w (Promise entry from) o none =
    is_step p w o (with_promise w entry.0 from) (Promise entry from) (λ tag. all_stay (fact_at (present p w) tag)) (≤ℤ_same w.clock w.clock refl) refl
world_step_law p w Begin o none = is_step p w o (with_begin w) Begin (λ tag. all_stay (fact_at (present p w) tag)) (≤ℤ_same w.clock w.clock refl) refl

pub retracts_one : RetractsOne
retracts_one p w ty id g o found_one typed tag f at =
    let own = fact_in (present p w) tag f at in
    let there_g = found_in (present p w) id.0 g found_one in
    same_test (f.ty.0 == ty.0 && has_id id.0 f) (tag == g.tag.0)
    (λ e.
    let named = has_number id.0 f (and_parts (f.ty.0 == ty.0) (has_id id.0 f) e).1 in
    let same = one_id (present p w) f g (kept_ordered p w o).ids own.0 there_g.0 (named ∙ sym there_g.1) in
    eq-eqb tag g.tag.0 (sym own.1 ∙ ap (λ (x : Fact). x.tag.0) same))
    (λ e.
    let same = one_fact (present p w) (distinct p w o) f g own.0 there_g.0 (ap tag_of (own.1 ∙ eqb-true tag g.tag.0 e)) in
    and_from (f.ty.0 == ty.0) (has_id id.0 f) (eq-eqb f.ty.0 ty.0 (ap (λ (x : Fact). x.ty.0) same ∙ typed)) (eq-eqb f.id.0 id.0 (ap (λ (x : Fact). x.id.0) same ∙ there_g.1)))
