-- The worlds of a program as forgetting sees them, and the facts under their tags.
use Rattle.forgetting_laws.proofs.Common.{◌≡◌, ◌<◌, ℕ, ◌==◌, ◌||◌, ◌++◌, Bool, true, false, cond, not, List, [], ◌∷◌, inl, inr, refl, sym, ◌∙◌, ap, subst}
use Rattle.forgetting_laws.proofs.Common.{arith, Option, Some, None, is_some, eq_by_cmp, nat_tests, In, Fact, Value, Named, Match, Program, HaveDistinctTags}
use Rattle.forgetting_laws.proofs.Common.{match_equiv, matches, has_match, match_cmp, name_of, named_of, one_fact, rule_of, World, snapshot, present}
use Rattle.forgetting_laws.proofs.Common.{only_present, has_id, revised, AllBelow, has_pending, only, brought, changed, fact_at, map, filter, revised_in}
use Rattle.{forgetting_laws.proofs.{Common.{SightLaw, WorldFireLaw}, Naming.{each_in}}, std.proofs.{lemmas.Bool.{eq-eqb, eqb-true}, Math.Bool.{or_comm}}}
use Rattle.{fx_base.specs.declared.ids.Tag.{Tag}, rule_model.proofs.Listed.{in_map}, rule_world.{specs.Worlds.{fact_of}, proofs.Kept.{kept_matches}}}

abbrev pub tag_of : ℕ → Tag
tag_of number = record { 0 = number }

-- ---- the fact under a tag

-- a fact of the list stands under its tag, or another does
in_at : (facts : List Fact) (g : Fact) → In g facts → is_some (fact_at facts g.tag.0) ≡ true
in_at [] g i = absurd i
in_at (f ∷ facts) g (inl s) = ap (λ b. is_some (cond b (Some f) (fact_at facts g.tag.0))) (eq-eqb f.tag.0 g.tag.0 (ap (λ (x : Fact). x.tag.0) (sym s)))
in_at (f ∷ facts) g (inr j) = by (f.tag.0 == g.tag.0) (in_at facts g j)
  where
    by : (t : Bool) → is_some (fact_at facts g.tag.0) ≡ true → is_some (cond t (Some f) (fact_at facts g.tag.0)) ≡ true
    by true h = refl
    by false h = h

-- the fact under a tag stands in the list and has the tag
pub fact_in : (facts : List Fact) (tag : ℕ) (f : Fact) → fact_at facts tag ≡ Some f → In f facts × (f.tag.0 ≡ tag)
fact_in [] tag f e = absurd (let n : None ≡ Some f = e in cc)
fact_in (g ∷ facts) tag f e = by (g.tag.0 == tag) refl e (fact_in facts tag f)
  where
    by : (t : Bool) → (g.tag.0 == tag) ≡ t → cond t (Some g) (fact_at facts tag) ≡ Some f → (fact_at facts tag ≡ Some f → In f facts × (f.tag.0 ≡ tag))
        → In f (g ∷ facts) × (f.tag.0 ≡ tag)
    by true h is rest = let s : g ≡ f = cc in (inl (sym s), ap (λ (x : Fact). x.tag.0) (sym s) ∙ eqb-true g.tag.0 tag h)
    by false h is rest = let r = rest is in (inr r.0, r.1)

pub some_fact : (o : Option Fact) → is_some o ≡ true → (f : Fact) × (o ≡ Some f)
some_fact None e = absurd (let n : false ≡ true = e in cc)
some_fact (Some f) e = (f, refl)

-- of facts with distinct tags each stands under its own
pub own_at : (facts : List Fact) → HaveDistinctTags facts → (g : Fact) → In g facts → fact_at facts g.tag.0 ≡ Some g
own_at facts distinct g i =
    let f = some_fact (fact_at facts g.tag.0) (in_at facts g i) in
    let own = fact_in facts g.tag.0 f.0 f.1 in
    f.1 ∙ ap Some (one_fact facts distinct f.0 g own.0 i (ap tag_of own.1))

-- no fact stands under a tag that none has
pub free_at : (facts : List Fact) (tag : ℕ) → ((g : Fact) → In g facts → g.tag.0 ≡ tag → ⊥) → fact_at facts tag ≡ None
free_at [] tag none = refl
free_at (g ∷ facts) tag none = by (g.tag.0 == tag) refl (free_at facts tag (λ x i. none x (inr i)))
  where
    by : (t : Bool) → (g.tag.0 == tag) ≡ t → fact_at facts tag ≡ None → cond t (Some g) (fact_at facts tag) ≡ None
    by true e rest = absurd (none g (inl refl) (eqb-true g.tag.0 tag e))
    by false e rest = rest

-- of facts with distinct tags no other stands under the tag of the first
alone_at : (f : Fact) (facts : List Fact) (tag : ℕ) → HaveDistinctTags (f ∷ facts) → (f.tag.0 == tag) ≡ true → fact_at facts tag ≡ None
alone_at f facts tag distinct e =
    free_at facts tag (λ g i s.
    let same : g.tag ≡ f.tag = ap tag_of (s ∙ sym (eqb-true f.tag.0 tag e)) in
    distinct.0 (subst (λ (t : Tag). In t (map (λ (x : Fact). x.tag) facts)) same (in_map (λ (x : Fact). x.tag) g facts i)))

-- ---- facts that go out

pub at_filter : (test : Fact → Bool) (facts : List Fact) (tag : ℕ) → HaveDistinctTags facts → fact_at (filter test facts) tag ≡ only test (fact_at facts tag)
at_filter test [] tag distinct = refl
at_filter test (f ∷ facts) tag distinct = by (test f) (f.tag.0 == tag) refl refl (at_filter test facts tag distinct.1)
  where
    by : (k t : Bool) → test f ≡ k → (f.tag.0 == tag) ≡ t → fact_at (filter test facts) tag ≡ only test (fact_at facts tag)
        → fact_at (cond k (f ∷ filter test facts) (filter test facts)) tag ≡ only test (cond t (Some f) (fact_at facts tag))
    by true true k t rest = ap (λ b. cond b (Some f) (fact_at (filter test facts) tag)) t ∙ sym (ap (λ b. cond b (Some f) None) k)
    by true false k t rest = ap (λ b. cond b (Some f) (fact_at (filter test facts) tag)) t ∙ rest
    by false true k t rest = rest ∙ ap (only test) (alone_at f facts tag distinct t) ∙ sym (ap (λ b. cond b (Some f) None) k)
    by false false k t rest = rest

pub only_same : (a b : Fact → Bool) (o : Option Fact) → ((f : Fact) → a f ≡ b f) → only a o ≡ only b o
only_same a b None e = refl
only_same a b (Some f) e = ap (λ t. cond t (Some f) None) (e f)

-- ---- a fact that comes

pub at_end : (facts : List Fact) (f : Fact) (tag : ℕ) → ((f.tag.0 == tag) ≡ true → fact_at facts tag ≡ None)
    → fact_at (facts ++ f ∷ []) tag ≡ changed (brought (Some f) tag) (λ g. false) (fact_at facts tag)
at_end [] f tag free = by (f.tag.0 == tag)
  where
    by : (t : Bool) → cond t (Some f) None ≡ changed (cond t (Some f) None) (λ g. false) None
    by true = refl
    by false = refl
at_end (g ∷ facts) f tag free = by (f.tag.0 == tag) (g.tag.0 == tag) (fact_at facts tag) (fact_at (facts ++ f ∷ []) tag) free (at_end facts f tag)
  where
    by : (t u : Bool) (rest more : Option Fact) → (t ≡ true → cond u (Some g) rest ≡ None) → ((t ≡ true → rest ≡ None) → more ≡ changed (cond t (Some f) None) (λ x. false) rest)
        → cond u (Some g) more ≡ changed (cond t (Some f) None) (λ x. false) (cond u (Some g) rest)
    by true true rest more free h = absurd (let e : Some g ≡ None = free refl in cc)
    by false true rest more free h = refl
    by t false rest more free h = h free

-- ---- a fact that is revised

module _ (id next : ℕ) (sets : List (ℕ × Value)) where
  -- under the other tags
  pub at_revised : (facts : List Fact) (tag : ℕ) → HaveDistinctTags facts → (next == tag) ≡ false
      → fact_at (revised_in id next sets facts) tag ≡ only (λ f. not (has_id id f)) (fact_at facts tag)
  at_revised [] tag distinct other = refl
  at_revised (f ∷ facts) tag distinct other = by (has_id id f) (f.tag.0 == tag) refl refl (at_revised facts tag distinct.1 other)
    where
      test : Fact → Bool
      test x = not (has_id id x)

      by : (k t : Bool) → has_id id f ≡ k → (f.tag.0 == tag) ≡ t → fact_at (revised_in id next sets facts) tag ≡ only test (fact_at facts tag)
          → fact_at (cond k (revised next sets f) f ∷ revised_in id next sets facts) tag ≡ only test (cond t (Some f) (fact_at facts tag))
      by true true k t rest =
          ap (λ b. cond b (Some (revised next sets f)) (fact_at (revised_in id next sets facts) tag)) other ∙ rest
          ∙ ap (only test) (alone_at f facts tag distinct t) ∙ sym (ap (λ b. cond (not b) (Some f) None) k)
      by true false k t rest = ap (λ b. cond b (Some (revised next sets f)) (fact_at (revised_in id next sets facts) tag)) other ∙ rest
      by false true k t rest = ap (λ b. cond b (Some f) (fact_at (revised_in id next sets facts) tag)) t ∙ sym (ap (λ b. cond (not b) (Some f) None) k)
      by false false k t rest = ap (λ b. cond b (Some f) (fact_at (revised_in id next sets facts) tag)) t ∙ rest

  not_next : (a : ℕ) → a < next → (a == next) ≡ false
  not_next a h = grind (arith, nat_tests)

  -- and under the next one
  pub at_next : (facts : List Fact) (g : Fact) → AllBelow next facts → fact_of facts id ≡ Some g → fact_at (revised_in id next sets facts) next ≡ Some (revised next sets g)
  unfolding fact_of
  at_next [] g below e = absurd cc
  at_next (f ∷ facts) g below e = by (has_id id f) e (at_next facts g (λ x i. below x (inr i)))
    where
      by : (k : Bool) → cond k (Some f) (fact_of facts id) ≡ Some g → (fact_of facts id ≡ Some g → fact_at (revised_in id next sets facts) next ≡ Some (revised next sets g))
          → fact_at (cond k (revised next sets f) f ∷ revised_in id next sets facts) next ≡ Some (revised next sets g)
      by true h rest =
          let s : f ≡ g = cc in
          ap (λ b. cond b (Some (revised next sets f)) (fact_at (revised_in id next sets facts) next)) (eq-eqb next next refl) ∙ ap (λ x. Some (revised next sets x)) s
      by false h rest = ap (λ b. cond b (Some f) (fact_at (revised_in id next sets facts) next)) (not_next f.tag.0 (below f (inl refl))) ∙ rest h

-- ---- worlds

-- a match of a world names present facts
pub named_present : (p : Program) (w : World) (m : Match) → has_match (matches p (snapshot w)) m ≡ true → (n : Named) → In n m.row.facts → (g : Fact) × In g (present p w) × (name_of g ≡ n)
named_present p w m e n i =
    let of = rule_of p (snapshot (only_present p w)) m (ap (λ ms. has_match ms m) (kept_matches p w) ∙ e) in
    named_of p (snapshot (only_present p w)) of.rule.conditions m.row of.row n i

pub sight_law : SightLaw
sight_law p w ordered = record {
  names = λ m e.
      each_in (λ (n : Named). is_some (fact_at (present p w) n.tag.0)) m.row.facts (λ n i.
      let g = named_present p w m e n i in
      subst (λ (n : Named). is_some (fact_at (present p w) n.tag.0) ≡ true) g.2 (in_at (present p w) g.0 g.1));
  fired = ordered.fired;
  pending = has_pending p w;
}

pub world_fire_law : WorldFireLaw
world_fire_law p w m = record {
  facts = λ tag. refl;
  clock = refl;
  matches = λ x. refl;
  fired = λ x. or_comm (eq_by_cmp match_cmp x m) (has_match w.fired x) ∙ ap (λ t. has_match w.fired x || t) (match_equiv.symm x m);
}
