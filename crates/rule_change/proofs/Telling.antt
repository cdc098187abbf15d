-- What is told of the rules.
use Rattle.rule_change.proofs.Common.{◌≡◌, ◌||◌, ◌+◌, ◌<◌, ◌++◌, ◌∙◌, ℕ, zero, suc, Bool, true, false, cond, List, [], ◌∷◌, Option, Some, None, inl, inr, refl}
use Rattle.rule_change.proofs.Common.{sym, ap, ap₂, subst, arith, and_from, and_parts, eq-eqb, eqb-true, list_any, length, slice_get, slice_get_within, In}
use Rattle.rule_change.proofs.Common.{EachOnce, In-append, in_left, in_right, Program, AreFrom, moved_rule, some_is}
use Rattle.rule_change.specs.{declared.code.RuleStatus.{RuleStatus, TheVariants.{Stays, New, Gone}}, Told.{ToldRule, status_of, new_told, places_from}}
use Rattle.rule_change.specs.Told.{is_place, gone_told, is_same_status, is_same_told, each_once, rules_told, IsTold, ToldIsExact, ToldOnce}
use Rattle.{std.{proofs.{Common.{◌⊎◌}, lemmas.Slice.Eq.{bytes_eq-Decides}}, specs.Str.{bytes_eq}}, rule_model.proofs.Firsts.{or_split}}
use Rattle.rule_model.specs.declared.program.Rule.{Rule}

-- ---- each once

or_left : (a b : Bool) → a ≡ true → (a || b) ≡ true
or_left true b e = refl
or_left false b e = absurd (let torn : false ≡ true = e in cc)

or_right : (a b : Bool) → b ≡ true → (a || b) ≡ true
or_right true b e = refl
or_right false b e = e

status_same : (a b : RuleStatus) → is_same_status a b ≡ true → a ≡ b
status_same Stays Stays e = refl
status_same New New e = refl
status_same Gone Gone e = refl
status_same Stays New e = absurd (let torn : false ≡ true = e in cc)
status_same Stays Gone e = absurd (let torn : false ≡ true = e in cc)
status_same New Stays e = absurd (let torn : false ≡ true = e in cc)
status_same New Gone e = absurd (let torn : false ≡ true = e in cc)
status_same Gone Stays e = absurd (let torn : false ≡ true = e in cc)
status_same Gone New e = absurd (let torn : false ≡ true = e in cc)

status_itself : (a : RuleStatus) → is_same_status a a ≡ true
status_itself Stays = refl
status_itself New = refl
status_itself Gone = refl

told_same : (a b : ToldRule) → is_same_told a b ≡ true → a ≡ b
told_same a b e =
    let parts = and_parts (bytes_eq a.0 b.0) (is_same_status a.1 b.1) e in
    ap₂ (λ (name : List ℕ) (status : RuleStatus). (name, status)) ((bytes_eq-Decides a.0 b.0).0 parts.0) (status_same a.1 b.1 parts.1)

told_itself : (a : ToldRule) → is_same_told a a ≡ true
told_itself a = and_from (bytes_eq a.0 a.0) (is_same_status a.1 a.1) ((bytes_eq-Decides a.0 a.0).1 refl) (status_itself a.1)

one_of : (before more : List ToldRule) (told : ToldRule) → In told (each_once before more) → In told more
unfolding each_once
one_of before [] told i = i
one_of before (x ∷ more) told i = by (list_any (is_same_told x) before) i (one_of before more told) (one_of (x ∷ before) more told)
  where
    by : (b : Bool) → In told (cond b (each_once before more) (x ∷ each_once (x ∷ before) more)) → (In told (each_once before more) → In told more)
        → (In told (each_once (x ∷ before) more) → In told more) → In told (x ∷ more)
    by true i skipped taken = inr (skipped i)
    by false (inl e) skipped taken = inl e
    by false (inr i) skipped taken = inr (taken i)

each_of : (before more : List ToldRule) (told : ToldRule) → In told more → (list_any (is_same_told told) before ≡ true) ⊎ In told (each_once before more)
unfolding each_once
each_of before [] told i = absurd i
each_of before (x ∷ more) told i = by (list_any (is_same_told x) before) refl i (each_of before more told) (each_of (x ∷ before) more told)
  where
    by : (b : Bool) → list_any (is_same_told x) before ≡ b → In told (x ∷ more) → (In told more → (list_any (is_same_told told) before ≡ true) ⊎ In told (each_once before more))
        → (In told more → (list_any (is_same_told told) (x ∷ before) ≡ true) ⊎ In told (each_once (x ∷ before) more))
        → (list_any (is_same_told told) before ≡ true) ⊎ In told (cond b (each_once before more) (x ∷ each_once (x ∷ before) more))
    by true h (inl e) skipped taken = inl (ap (λ (y : ToldRule). list_any (is_same_told y) before) e ∙ h)
    by true h (inr i) skipped taken = skipped i
    by false h (inl e) skipped taken = inr (inl e)
    by false h (inr i) skipped taken = elim (taken i) [
      | inl was ↦ (elim (or_split (is_same_told told x) (list_any (is_same_told told) before) was) [
        | inl same ↦ inr (inl (told_same told x same))
        | inr early ↦ inl early
      ])
      | inr j ↦ inr (inr j)
    ]

fresh : (before more : List ToldRule) (told : ToldRule) → In told (each_once before more) → list_any (is_same_told told) before ≡ true → ⊥
unfolding each_once
fresh before [] told i was = i
fresh before (x ∷ more) told i was = by (list_any (is_same_told x) before) refl i (fresh before more told) (fresh (x ∷ before) more told)
  where
    by : (b : Bool) → list_any (is_same_told x) before ≡ b → In told (cond b (each_once before more) (x ∷ each_once (x ∷ before) more))
        → (In told (each_once before more) → list_any (is_same_told told) before ≡ true → ⊥)
        → (In told (each_once (x ∷ before) more) → list_any (is_same_told told) (x ∷ before) ≡ true → ⊥) → ⊥
    by true h i skipped taken = skipped i was
    by false h (inl e) skipped taken =
        absurd (let torn : true ≡ false = sym was ∙ ap (λ (y : ToldRule). list_any (is_same_told y) before) e ∙ h in cc)
    by false h (inr i) skipped taken = taken i (or_right (is_same_told told x) (list_any (is_same_told told) before) was)

once_each : (before more : List ToldRule) → EachOnce (each_once before more)
unfolding each_once
once_each before [] = tt
once_each before (x ∷ more) = by (list_any (is_same_told x) before) (once_each before more) (once_each (x ∷ before) more)
  where
    by : (b : Bool) → EachOnce (each_once before more) → EachOnce (each_once (x ∷ before) more) → EachOnce (cond b (each_once before more) (x ∷ each_once (x ∷ before) more))
    by true skipped taken = skipped
    by false skipped taken = (λ i. fresh (x ∷ before) more x i (or_left (is_same_told x x) (list_any (is_same_told x) before) (told_itself x)), taken)

pub told_once : ToldOnce
unfolding rules_told
told_once p q from = once_each [] (new_told from q.rules 0 ++ gone_told (places_from from q.rules 0) p.rules 0)

-- ---- the new rules

further : (k n : ℕ) → k + 1 + n ≡ k + suc n
further k n = omega arith

front : (n : ℕ) → 0 + n ≡ n
front n = omega arith

here : (k : ℕ) → k ≡ k + 0
here k = omega arith

module _ (from : ℕ → Option ℕ) where
  IsNewTold : List Rule → ℕ → ToldRule → Type 0
  IsNewTold rules k told = (n : ℕ) × (rule : Rule) × (slice_get rules n ≡ Some rule) × (told ≡ (rule.name, status_of (from (k + n))))

  new_of : (rules : List Rule) (k : ℕ) (told : ToldRule) → In told (new_told from rules k) → IsNewTold rules k told
  unfolding new_told IsNewTold
  new_of [] k told i = absurd i
  new_of (rule ∷ rules) k told (inl e) = (0, rule, refl, e ∙ ap (λ (n : ℕ). (rule.name, status_of (from n))) (here k))
  new_of (rule ∷ rules) k told (inr i) =
      let r = new_of rules (k + 1) told i in
      (suc r.0, r.1, r.2, r.3 ∙ ap (λ (n : ℕ). (r.1.name, status_of (from n))) (further k r.0))

  of_new : (rules : List Rule) (k n : ℕ) (rule : Rule) → slice_get rules n ≡ Some rule → In (rule.name, status_of (from (k + n))) (new_told from rules k)
  unfolding new_told
  of_new [] k n rule e = absurd cc
  of_new (x ∷ rules) k zero rule e = inl (ap₂ (λ (r : Rule) (n : ℕ). (r.name, status_of (from n))) (sym (some_is e)) (sym (here k)))
  of_new (x ∷ rules) k (suc n) rule e =
      inr (subst (λ (m : ℕ). In (rule.name, status_of (from m)) (new_told from rules (k + 1))) (further k n) (of_new rules (k + 1) n rule e))

  -- ---- the places that stay

  place_of : (old : ℕ) (rules : List Rule) (k : ℕ) → list_any (is_place old) (places_from from rules k) ≡ true → (n : ℕ) × (from n ≡ Some old)
  unfolding places_from
  place_of old [] k e = absurd (let torn : false ≡ true = e in cc)
  place_of old (rule ∷ rules) k e = elim (or_split (is_place old (from k)) (list_any (is_place old) (places_from from rules (k + 1))) e) [
    | inl h ↦ (k, of (from k) h)
    | inr h ↦ place_of old rules (k + 1) h
  ]
    where
      of : (o : Option ℕ) → is_place old o ≡ true → o ≡ Some old
      of None h = absurd (let torn : false ≡ true = h in cc)
      of (Some place) h = ap Some (eqb-true place old h)

  of_place : (old : ℕ) (rules : List Rule) (k n : ℕ) → n < length rules → from (k + n) ≡ Some old → list_any (is_place old) (places_from from rules k) ≡ true
  unfolding places_from
  of_place old [] k n less e = absurd (omega (arith, less))
  of_place old (rule ∷ rules) k zero less e =
      or_left (is_place old (from k)) (list_any (is_place old) (places_from from rules (k + 1))) (ap (is_place old) (ap from (here k) ∙ e) ∙ eq-eqb old old refl)
  of_place old (rule ∷ rules) k (suc n) less e =
      or_right (is_place old (from k)) (list_any (is_place old) (places_from from rules (k + 1)))
      (of_place old rules (k + 1) n (omega (arith, less)) (ap from (further k n) ∙ e))

-- ---- the old rules that are gone

module _ (stay : List (Option ℕ)) where
  IsGoneTold : List Rule → ℕ → ToldRule → Type 0
  IsGoneTold rules k told = (n : ℕ) × (rule : Rule) × (slice_get rules n ≡ Some rule) × (list_any (is_place (k + n)) stay ≡ false) × (told ≡ (rule.name, Gone))

  gone_of : (rules : List Rule) (k : ℕ) (told : ToldRule) → In told (gone_told stay rules k) → IsGoneTold rules k told
  unfolding gone_told IsGoneTold
  gone_of [] k told i = absurd i
  gone_of (rule ∷ rules) k told i = by (list_any (is_place k) stay) refl i (gone_of rules (k + 1) told)
    where
      more : IsGoneTold rules (k + 1) told → IsGoneTold (rule ∷ rules) k told
      more r = (suc r.0, r.1, r.2, ap (λ (n : ℕ). list_any (is_place n) stay) (sym (further k r.0)) ∙ r.3, r.4)

      by : (b : Bool) → list_any (is_place k) stay ≡ b → In told (cond b (gone_told stay rules (k + 1)) ((rule.name, Gone) ∷ gone_told stay rules (k + 1)))
          → (In told (gone_told stay rules (k + 1)) → IsGoneTold rules (k + 1) told) → IsGoneTold (rule ∷ rules) k told
      by true h i later = more (later i)
      by false h (inl e) later = (0, rule, refl, ap (λ (n : ℕ). list_any (is_place n) stay) (sym (here k)) ∙ h, e)
      by false h (inr i) later = more (later i)

  of_gone : (rules : List Rule) (k n : ℕ) (rule : Rule) → slice_get rules n ≡ Some rule → list_any (is_place (k + n)) stay ≡ false → In (rule.name, Gone) (gone_told stay rules k)
  unfolding gone_told
  of_gone [] k n rule e none = absurd cc
  of_gone (x ∷ rules) k zero rule e none = by (list_any (is_place k) stay) (ap (λ (n : ℕ). list_any (is_place n) stay) (here k) ∙ none)
    where
      by : (b : Bool) → b ≡ false → In (rule.name, Gone) (cond b (gone_told stay rules (k + 1)) ((x.name, Gone) ∷ gone_told stay rules (k + 1)))
      by true h = absurd (let torn : true ≡ false = h in cc)
      by false h = inl (ap (λ (r : Rule). (r.name, Gone)) (sym (some_is e)))
  of_gone (x ∷ rules) k (suc n) rule e none =
      by (list_any (is_place k) stay) (of_gone rules (k + 1) n rule e (ap (λ (m : ℕ). list_any (is_place m) stay) (further k n) ∙ none))
    where
      by : (b : Bool) → In (rule.name, Gone) (gone_told stay rules (k + 1)) → In (rule.name, Gone) (cond b (gone_told stay rules (k + 1)) ((x.name, Gone) ∷ gone_told stay rules (k + 1)))
      by true i = i
      by false i = inr i

-- ---- all of it

module _ (p q : Program) (from : ℕ → Option ℕ) (are : AreFrom p q from) where
  abbrev stay : List (Option ℕ)
  stay = places_from from q.rules 0

  abbrev new : List ToldRule
  new = new_told from q.rules 0

  abbrev gone : List ToldRule
  gone = gone_told stay p.rules 0

  status_told : (n : ℕ) (rule : Rule) → slice_get q.rules n ≡ Some rule → (o : Option ℕ) → from n ≡ o → IsTold p q from rule.name (status_of o)
  status_told n rule at None e = (n, rule, at, refl, e)
  status_told n rule at (Some old) e = (n, rule, at, refl, old, e)

  is_told : (told : ToldRule) → In told (rules_told p q from) → IsTold p q from told.0 told.1
  unfolding rules_told IsNewTold IsGoneTold
  is_told told i = elim (In-append told new gone (one_of [] (new ++ gone) told i)) [
    | inl j ↦
        (let r = new_of from q.rules 0 told j in
        subst (λ (t : ToldRule). IsTold p q from t.0 t.1) (sym (r.3 ∙ ap (λ (n : ℕ). (r.1.name, status_of (from n))) (front r.0))) (status_told r.0 r.1 r.2 (from r.0) refl))
    | inr j ↦
        (let r = gone_of stay p.rules 0 told j in
        subst (λ (t : ToldRule). IsTold p q from t.0 t.1) (sym r.4) (
          r.0,
          r.1,
          r.2,
          refl,
          λ other e.
              let within = slice_get_within q.rules other (moved_rule p q (are.same other r.0 e).rule) (are.same other r.0 e).is in
              let torn : false ≡ true =
              sym r.3 ∙ ap (λ (n : ℕ). list_any (is_place n) stay) (front r.0) ∙ of_place from r.0 q.rules 0 other within (ap from (front other) ∙ e) in cc,
        ))
  ]

  among : (told : ToldRule) → In told (new ++ gone) → In told (rules_told p q from)
  unfolding rules_told
  among told i = elim (each_of [] (new ++ gone) told i) [
    | inl was ↦ absurd (let torn : false ≡ true = was in cc)
    | inr j ↦ j
  ]

  none_stays : (old : ℕ) → ((other : ℕ) → from other ≡ Some old → ⊥) → (b : Bool) → list_any (is_place old) stay ≡ b → b ≡ false
  none_stays old none true e = absurd (let r = place_of from old q.rules 0 e in none r.0 r.1)
  none_stays old none false e = refl

  of_told : (name : List ℕ) (status : RuleStatus) → IsTold p q from name status → In (name, status) (rules_told p q from)
  of_told name Stays h =
      among (name, Stays) (in_left (name, Stays) new gone
      (subst (λ (t : ToldRule). In t new) (ap₂ (λ (n : List ℕ) (o : Option ℕ). (n, status_of o)) h.3 (ap from (front h.0) ∙ h.5)) (of_new from q.rules 0 h.0 h.1 h.2)))
  of_told name New h =
      among (name, New) (in_left (name, New) new gone
      (subst (λ (t : ToldRule). In t new) (ap₂ (λ (n : List ℕ) (o : Option ℕ). (n, status_of o)) h.3 (ap from (front h.0) ∙ h.4)) (of_new from q.rules 0 h.0 h.1 h.2)))
  of_told name Gone h =
      among (name, Gone) (in_right (name, Gone) new gone
      (subst (λ (n : List ℕ). In (n, Gone) gone) h.3 (of_gone stay p.rules 0 h.0 h.1 h.2
      (ap (λ (n : ℕ). list_any (is_place n) stay) (front h.0) ∙ none_stays h.0 h.4 (list_any (is_place h.0) stay) refl))))

pub told_exact : ToldIsExact
told_exact p q from are told = (is_told p q from are told, of_told p q from are told.0 told.1)
