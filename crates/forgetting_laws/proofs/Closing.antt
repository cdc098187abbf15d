-- Steps and firings of a lawful world with the lives of its program.
use Rattle.forgetting_laws.proofs.Common.{◌≡◌, ◌<◌, Bool, true, false, cond, not, inl, inr, refl, sym, ◌∙◌, ap, subst, arith, Option, Some, None, is_some}
use Rattle.forgetting_laws.proofs.Common.{list_any, In, Fact, Named, LifeTable, Match, Program, Step, is_present, matches, has_match, name_of, named_of}
use Rattle.forgetting_laws.proofs.Common.{one_fact, rule_of, World, snapshot, present, below_of, clean, ends_by, only, is_kept_tag, is_forgotten_tag, is_clean}
use Rattle.forgetting_laws.proofs.Common.{fact_at, sight_of, comes, goes, marked, lost, StepComesClean, NextClean, WorldStepKept, WorldFireKept}
use Rattle.forgetting_laws.proofs.{Agreeing.{present_at, same_kept, same_clean}, Firing.{fire_law}, Naming.{one_in}, Seeing.{tag_of, fact_in, sight_law}}
use Rattle.{forgetting_laws.proofs.{Seeing.{world_fire_law}, Stepping.{step_law}, WorldSteps.{world_step_law}}, std.proofs.lemmas.Bool.{and_parts, not-true}}
use Rattle.{rule_world.{specs.Worlds.{stepped}, proofs.{Steps.{step_in_order, firing_in_order}, Vain.{next_tag}}}, life_laws.proofs.Remains.{match_names_kept}}
use Rattle.kept_meaning.{specs.Kept.{is_kept as is_kept_in, is_forgotten as is_forgotten_in}, proofs.Decided.{is_tested}}
use Rattle.kept_laws.specs.Steps.{IsLawfulStep}

module _ (p : Program) (table : LifeTable) (w : World) (step : Step) (given : IsLawfulStep p table w step) (m : Match) (is : has_match (matches p (snapshot (stepped p w step))) m ≡ true)
    (was_not : has_match (matches p (snapshot w)) m ≡ false) where
  -- what the match names by the tag of a fact of the world is that fact
  named_own : (n : Named) → In n m.row.facts → (f : Fact) → In f w.facts → f.tag.0 ≡ n.tag.0 → n ≡ name_of f
  named_own n i f inside e =
      let of = rule_of p (snapshot (stepped p w step)) m is in
      let g = named_of p (snapshot (stepped p w step)) of.rule.conditions m.row of.row n i in
      let tags : f.tag.0 ≡ g.0.tag.0 = e ∙ ap (λ (k : Named). k.tag.0) (sym g.2) in
      sym g.2
      ∙ ap name_of (elim (next_tag p w step g.0 g.1) [
        | inl was ↦ sym (one_fact w.facts given.lawful.ordered.tags f g.0 inside was (ap tag_of tags))
        | inr new ↦ absurd (let below : f.tag.0 < w.next_tag = below_of w.next_tag w.facts given.lawful.ordered.fresh f inside in omega (arith, new, tags))
      ])

  kept_own : (f : Fact) → In f w.facts → In (name_of f) m.row.facts → is_kept_in p table w f ≡ true
  unfolding stepped
  kept_own f inside own =
      is_tested p table w given.safe f
      (match_names_kept p table w step given.flagged given.operators given.safe given.lawful given.faultless m is was_not f own inside)

  there_is : (o : Option Fact) → is_some (only (is_present p w.clock) o) ≡ true → (f : Fact) × (o ≡ Some f)
  there_is None e = absurd (let n : false ≡ true = e in cc)
  there_is (Some f) e = (f, refl)

  none_forgotten : (n : Named) → In n m.row.facts → is_forgotten_tag (ends_by table) (sight_of p w) n.tag.0 ≡ true → ⊥
  none_forgotten n i e =
      let both = and_parts (is_some (fact_at (present p w) n.tag.0)) (not (is_kept_tag (ends_by table) (sight_of p w) n.tag.0)) e in
      let f = there_is (fact_at w.facts n.tag.0) (ap is_some (sym (present_at p table w given.safe given.lawful.ordered n.tag.0)) ∙ both.0) in
      let own = fact_in w.facts n.tag.0 f.0 f.1 in
      let keeps = kept_own f.0 own.0 (subst (λ (k : Named). In k m.row.facts) (named_own n i f.0 own.0 own.1) i) in
      let here : is_kept_tag (ends_by table) (sight_of p w) n.tag.0 ≡ true =
      ap is_some (same_kept p table w given.safe given.lawful.ordered n.tag.0 ∙ ap (only (is_kept_in p table w)) f.1) ∙ ap (λ t. is_some (cond t (Some f.0) None)) keeps in
      let n : true ≡ false = sym here ∙ not-true _ both.1 in
      cc

  none_lost : (n : Named) → In n m.row.facts → is_forgotten_in p table w n ≡ true → ⊥
  none_lost n i e =
      let f = lost p table w n e in
      let n : true ≡ false = sym (kept_own f.fact f.inside (subst (λ (k : Named). In k m.row.facts) (sym f.named) i)) ∙ f.not_kept in
      cc

  none_of : (test : Named → Bool) → ((n : Named) → In n m.row.facts → test n ≡ true → ⊥) → not (list_any test m.row.facts) ≡ true
  none_of test h = by (list_any test m.row.facts) refl
    where
      by : (t : Bool) → list_any test m.row.facts ≡ t → not t ≡ true
      by false e = refl
      by true e = let n = one_in test m.row.facts e in absurd (h n.0 n.1 n.2)

pub step_comes_clean : StepComesClean
step_comes_clean p table w step given m is was_not =
    none_of p table w step given m is was_not (λ (n : Named). is_forgotten_tag (ends_by table) (sight_of p w) n.tag.0) (none_forgotten p table w step given m is was_not)

pub next_clean : NextClean
next_clean p table w step given m is = by (has_match (matches p (snapshot w)) m) refl
  where
    by : (t : Bool) → has_match (matches p (snapshot w)) m ≡ t → is_clean (ends_by table) (sight_of p w) m ≡ clean (is_forgotten_in p table w) m.row
    by true was = same_clean p table w given.safe given.lawful.ordered m was
    by false was_not =
        step_comes_clean p table w step given m is was_not
        ∙ sym (none_of p table w step given m is was_not (is_forgotten_in p table w) (none_lost p table w step given m is was_not))

pub world_step_kept : WorldStepKept
world_step_kept p table w step before middle after gone come left old given holds takes leaves forgets =
    let o = given.lawful.ordered in
    step_law (ends_by table) (comes p w step) (goes p w step) (sight_of p w) (sight_of p (stepped p w step)) before middle after gone come left old (sight_law p w o)
    (sight_law p (stepped p w step) (step_in_order p w step o)) (world_step_law p w step o given.faultless) (step_comes_clean p table w step given) holds takes leaves forgets

pub world_fire_kept : WorldFireKept
world_fire_kept p table w m before middle after left old o pends holds fires tags forgets =
    fire_law (ends_by table) m (sight_of p w) (sight_of p (marked w m)) before middle after left old (sight_law p w o) (sight_law p (marked w m) (firing_in_order p w m o pends))
    (world_fire_law p w m) holds (holds.pending m ∙ pends) fires tags forgets
