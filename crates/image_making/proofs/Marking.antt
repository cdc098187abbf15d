-- Fired matches, one after the other, and what is told of matches.
use Rattle.std.proofs.Common.{Bool, List, None, Option, Some, [], ap, cond, false, map, refl, sym, true, ℕ, ◌++◌, ◌↔◌, ◌∙◌, ◌∷◌, ◌||◌, ◌≡◌, append_assoc}
use Rattle.std.{proofs.{lemmas.List.{map-append, Folds.{list_any-append}}, Math.Bool.{or-false}}, specs.List.{filter, list_all, list_any}}
use Rattle.std.{specs.{Option.{option_and_then}, Ordering.{eq_by_cmp}, Prelude.{slice_get}}, proofs.lemmas.Bool.{eq-eqb, eqb-true}}
use Rattle.{change_rules.specs.Staying.{place_in}, checkpoint.specs.declared.image.{FiredMatch.{FiredMatch}, Image.{Image}}}
use Rattle.fx_base.{proofs.{Sequences.{In-place, list_all-In, list_all-from, list_any-In, list_any-from}, Tests.{cond_true_first}}, specs.Lists.{In}}
use Rattle.{image_laws.specs.{Fitting.{IsLadenMatch}, Images.{has_fired, match_fired}}, rule_change.specs.Told.{is_place}, rule_model.proofs.RuleOf.{has_in}}
use Rattle.rule_model.{proofs.RuleOf.{in_has, in_place}, specs.{declared.{matched.Match.{Match}, program.Program.{Program}}, MatchOrders.{match_equiv}}}
use Rattle.{rule_model.specs.Matches.{has_match, match_cmp}, image_making.specs.Marks.{if_marked, is_told}}

-- one fired match more
pub one_fired : (now new : List Match) (taken : List FiredMatch) (f : FiredMatch) → ((q : Match) → has_match new q ≡ cond (eq_by_cmp match_cmp (match_fired f) q) true (has_match now q))
    → ((m : Match) → has_match now m ≡ has_match (map match_fired taken) m) → (m : Match) → has_match new m ≡ has_match (map match_fired (taken ++ f ∷ [])) m
one_fired now new taken f put before m =
    put m ∙ cond_true_first (has_match now m) (eq_by_cmp match_cmp (match_fired f) m)
    ∙ ap (λ b. b || eq_by_cmp match_cmp (match_fired f) m) (before m)
    ∙ ap (λ b. has_match (map match_fired taken) m || b) (match_equiv.symm (match_fired f) m ∙ sym (or-false (eq_by_cmp match_cmp m (match_fired f))))
    ∙ sym (list_any-append (eq_by_cmp match_cmp m) (map match_fired taken) (match_fired f ∷ []))
    ∙ ap (λ (ms : List Match). has_match ms m) (sym (map-append match_fired taken (f ∷ [])))

-- one match more
pub one_marked : (t : Match → Bool) (done now all rest : List Match) (m : Match) (b : Bool) → t m ≡ b → now ≡ done ++ if_marked b m
    → done ++ filter t (m ∷ rest) ≡ all → now ++ filter t rest ≡ all
one_marked t done now all rest m b is put before = ap (λ ms. ms ++ filter t rest) put ∙ append_assoc done (if_marked b m) (filter t rest) ∙ ap (λ ms. done ++ ms) (by b is) ∙ before
  where
    by : (b : Bool) → t m ≡ b → if_marked b m ++ filter t rest ≡ filter t (m ∷ rest)
    by true e = sym (ap (λ c. cond c (m ∷ filter t rest) (filter t rest)) e)
    by false e = sym (ap (λ c. cond c (m ∷ filter t rest) (filter t rest)) e)

-- ---- what is pending

module _ (places : List (Option ℕ)) where
  has_place : (old : ℕ) (o : Option ℕ) → is_place old o ≡ true → o ≡ Some old
  has_place old None e = absurd cc
  has_place old (Some place) e = ap Some (eqb-true place old e)

  taken_at : (old : ℕ) → list_any (is_place old) places ≡ true → (new : ℕ) × (place_in places new ≡ Some old)
  taken_at old e =
      let r = list_any-In (is_place old) places e in
      let k = In-place r.0 places r.1 in
      (k.0, ap (option_and_then (λ (o : Option ℕ). o)) k.1 ∙ has_place old r.0 r.2)

  at_taken : (old new : ℕ) → place_in places new ≡ Some old → list_any (is_place old) places ≡ true
  at_taken old new e = by (slice_get places new) refl e
    where
      by : (o : Option (Option ℕ)) → slice_get places new ≡ o → option_and_then (λ (x : Option ℕ). x) o ≡ Some old → list_any (is_place old) places ≡ true
      by None at h = absurd cc
      by (Some None) at h = absurd cc
      by (Some (Some place)) at h =
          let same : place ≡ old = cc in
          list_any-from (is_place old) (Some place) places (in_place places new (Some place) at) (eq-eqb place old same)

  module _ (p : Program) (image : Image) (owners : ℕ → ℕ → ℕ) (set matches : List Match) (fired : (m : Match) → has_match set m ≡ has_fired image m)
      (laden : (m : Match) → (has_match matches m ≡ true) ↔ IsLadenMatch p image owners m.rule.0 m.row) where
    abbrev Told : Type 0
    Told = (m : Match) → IsLadenMatch p image owners m.rule.0 m.row → (has_fired image m ≡ true → ⊥) → (new : ℕ) × (place_in places new ≡ Some m.rule.0)

    pub to_told : list_all (is_told places set) matches ≡ true → Told
    to_told all m h unfired = by (has_match set m) refl (list_all-In (is_told places set) matches all m (in_has matches m ((laden m).1 h)))
      where
        by : (b : Bool) → has_match set m ≡ b → (b || list_any (is_place m.rule.0) places) ≡ true → (new : ℕ) × (place_in places new ≡ Some m.rule.0)
        by true e h = absurd (unfired (sym (fired m) ∙ e))
        by false e h = taken_at m.rule.0 h

    pub from_told : Told → list_all (is_told places set) matches ≡ true
    from_told told = list_all-from (is_told places set) matches (λ m i. by m i (has_match set m) refl)
      where
        by : (m : Match) → In m matches → (b : Bool) → has_match set m ≡ b → (b || list_any (is_place m.rule.0) places) ≡ true
        by m i true e = refl
        by m i false e =
            let new = told m ((laden m).0 (has_in m matches i)) (λ f. let torn : false ≡ true = sym e ∙ fired m ∙ f in cc) in at_taken m.rule.0 new.0 new.1
