-- The places of the old rules that stay, found one after the other.
use Rattle.change_rules.proofs.Common.{IsFirstFree, IsThere, List, None, Option, Program, Rule, Some, [], ap, arith, cases_lt, get_or, inl, inr, is_place}
use Rattle.change_rules.proofs.Common.{length, length-append, list_any, place_in, refl, slice_get_within, subst, sym, true, ℕ, ◌++◌, ◌+◌, ◌<◌, ◌∙◌, ◌∷◌, ◌≡◌}
use Rattle.{change_resolve.proofs.Places.{some_is}, rule_change.specs.Changed.{AreFrom, IsSameRule, moved_rule}, rule_model.proofs.Firsts.{or_split}}
use Rattle.std.proofs.{Common.{Bool, false, suc, zero, ◌||◌, ◌⊎◌}, Math.Nat.{eq-or-lt_of_le}, lemmas.{Bool.{eq-eqb, eqb-true}, Option.{get_or_from_slice_get}}}
use Rattle.std.specs.Prelude.{slice_get}

-- ---- lists of places

split : (places : List (Option ℕ)) (found : Option ℕ) (new old : ℕ) → place_in (places ++ found ∷ []) new ≡ Some old
    → (place_in places new ≡ Some old) ⊎ ((new ≡ length places) × (found ≡ Some old))
split [] found zero old e = inr (refl, e)
split [] found (suc new) old e = absurd (let torn : None ≡ Some old = e in cc)
split (x ∷ places) found zero old e = inl e
split (x ∷ places) found (suc new) old e = elim (split places found new old e) [
  | inl h ↦ inl h
  | inr h ↦ inr (ap suc h.0, h.1)
]

keep : (places : List (Option ℕ)) (found : Option ℕ) (new old : ℕ) → place_in places new ≡ Some old → place_in (places ++ found ∷ []) new ≡ Some old
keep [] found new old e = absurd (let torn : None ≡ Some old = e in cc)
keep (x ∷ places) found zero old e = e
keep (x ∷ places) found (suc new) old e = keep places found new old e

last : (places : List (Option ℕ)) (found : Option ℕ) → place_in (places ++ found ∷ []) (length places) ≡ found
last [] found = refl
last (x ∷ places) found = last places found

-- what is among the places is that of a new rule
place_of : (old : ℕ) (places : List (Option ℕ)) → list_any (is_place old) places ≡ true → (new : ℕ) × (new < length places) × (place_in places new ≡ Some old)
place_of old [] e = absurd (let torn : false ≡ true = e in cc)
place_of old (x ∷ places) e = elim (or_split (is_place old x) (list_any (is_place old) places) e) [
  | inl h ↦ (0, omega arith, of x h)
  | inr h ↦ (let r = place_of old places h in let less = r.1 in (suc r.0, omega (arith, less), r.2))
]
  where
    of : (x : Option ℕ) → is_place old x ≡ true → x ≡ Some old
    of None h = absurd (let torn : false ≡ true = h in cc)
    of (Some place) h = ap Some (eqb-true place old h)

of_place : (old new : ℕ) (places : List (Option ℕ)) → place_in places new ≡ Some old → list_any (is_place old) places ≡ true
of_place old new [] e = absurd (let torn : None ≡ Some old = e in cc)
of_place old zero (x ∷ places) e = by (is_place old x) (ap (is_place old) e ∙ eq-eqb old old refl)
  where
    by : (b : Bool) → b ≡ true → (b || list_any (is_place old) places) ≡ true
    by true h = refl
    by false h = absurd (let torn : false ≡ true = h in cc)
of_place old (suc new) (x ∷ places) e = by (is_place old x) (of_place old new places e)
  where
    by : (b : Bool) → list_any (is_place old) places ≡ true → (b || list_any (is_place old) places) ≡ true
    by true h = refl
    by false h = h

-- ---- one place more

-- the first new rules have their places
pub record AreSoFar (p q : Program) (places : List (Option ℕ)) : Type 0 where
  pub same : (new old : ℕ) → place_in places new ≡ Some old → IsSameRule p q old new
  pub apart : (a b old : ℕ) → place_in places a ≡ Some old → place_in places b ≡ Some old → a ≡ b
  pub taken : (new old : ℕ) → new < length places → IsSameRule p q old new
      → (place_in places new ≡ Some old) ⊎ ((other : ℕ) × (other < old) × (place_in places new ≡ Some other)) ⊎ ((other : ℕ) × (other < new) × (place_in places other ≡ Some old))

pub none_yet : (p q : Program) → AreSoFar p q []
none_yet p q = record {
  same = λ new old e. absurd (let torn : None ≡ Some old = e in cc);
  apart = λ a b old e h. absurd (let torn : None ≡ Some old = e in cc);
  taken = λ new old less same. absurd (omega (arith, less));
}

module _ (p q : Program) (places : List (Option ℕ)) (rule : Rule) (stands : slice_get q.rules (length places) ≡ Some rule) (so : AreSoFar p q places) where
  abbrev new : ℕ
  new = length places

  there_same : (old : ℕ) → IsThere p q rule old → IsSameRule p q old new
  there_same old at = record { rule = at.0; was = at.1; is = stands ∙ ap Some at.2 }

  same_there : (old : ℕ) → IsSameRule p q old new → IsThere p q rule old
  same_there old same = (same.rule, same.was, some_is (sym stands ∙ same.is))

  found_old : (found : Option ℕ) → IsFirstFree p q rule places found → (old : ℕ) → found ≡ Some old → IsFirstFree p q rule places (Some old)
  found_old found first old e = subst (IsFirstFree p q rule places) e first

  module _ (found : Option ℕ) (first : IsFirstFree p q rule places found) where
    abbrev more : List (Option ℕ)
    more = places ++ found ∷ []

    free : (a old : ℕ) → place_in places a ≡ Some old → found ≡ Some old → ⊥
    free a old e h = let torn : false ≡ true = sym (found_old found first old h).1 ∙ of_place old a places e in absurd cc

    same_more : (a old : ℕ) → place_in more a ≡ Some old → IsSameRule p q old a
    same_more a old e = elim (split places found a old e) [
      | inl h ↦ so.same a old h
      | inr h ↦ subst (IsSameRule p q old) (sym h.0) (there_same old (found_old found first old h.1).0)
    ]

    apart_more : (a b old : ℕ) → place_in more a ≡ Some old → place_in more b ≡ Some old → a ≡ b
    apart_more a b old e h = by (split places found a old e) (split places found b old h)
      where
        by : (place_in places a ≡ Some old) ⊎ ((a ≡ length places) × (found ≡ Some old)) → (place_in places b ≡ Some old) ⊎ ((b ≡ length places) × (found ≡ Some old)) → a ≡ b
        by (inl x) (inl y) = so.apart a b old x y
        by (inl x) (inr y) = absurd (free a old x y.1)
        by (inr x) (inl y) = absurd (free b old y x.1)
        by (inr x) (inr y) = x.0 ∙ sym y.0

    abbrev Told : ℕ → ℕ → Type 0
    Told a old = (place_in more a ≡ Some old) ⊎ ((other : ℕ) × (other < old) × (place_in more a ≡ Some other)) ⊎ ((other : ℕ) × (other < a) × (place_in more other ≡ Some old))

    -- an old rule that was taken
    before : (old : ℕ) → list_any (is_place old) places ≡ true → Told new old
    before old e = let r = place_of old places e in inr (inr (r.0, r.1, keep places found r.0 old r.2))

  told_last : (found : Option ℕ) (first : IsFirstFree p q rule places found) (old : ℕ) → IsThere p q rule old → Told found first new old
  told_last None first old there = before None first old (first old there)
  told_last (Some other) first old there = elim (cases_lt old other) [
    | inl less ↦ before (Some other) first old (first.2 old less there)
    | inr most ↦ (elim (eq-or-lt_of_le most) [
      | inl same ↦ inl (last places (Some other) ∙ ap Some same)
      | inr less ↦ inr (inl (other, less, last places (Some other)))
    ])
  ]

  pub one_more : (found : Option ℕ) → IsFirstFree p q rule places found → AreSoFar p q (places ++ found ∷ [])
  one_more found first = record {
    same = same_more found first;
    apart = apart_more found first;
    taken = taken;
  }
    where
      taken : (a old : ℕ) → a < length (places ++ found ∷ []) → IsSameRule p q old a → Told found first a old
      taken a old less same = elim (cases_lt a (length places)) [
        | inl low ↦ (elim (so.taken a old low same) [
          | inl e ↦ inl (keep places found a old e)
          | inr (inl e) ↦ inr (inl (e.0, e.1, keep places found a e.0 e.2))
          | inr (inr e) ↦ inr (inr (e.0, e.1, keep places found e.0 old e.2))
        ])
        | inr high ↦
            (let long = length-append places (found ∷ []) in
            let at : length places ≡ a = omega (arith, less, high, long) in
            subst (λ (b : ℕ). Told found first b old) at (told_last found first old (same_there old (subst (IsSameRule p q old) (sym at) same))))
      ]

-- the places of all new rules
pub all_found : (p q : Program) (places : List (Option ℕ)) → length places ≡ length q.rules → AreSoFar p q places → AreFrom p q (place_in places)
all_found p q places many so = record {
  same = so.same;
  apart = so.apart;
  taken = λ new old same.
      let less = slice_get_within q.rules new (moved_rule p q same.rule) same.is in
      so.taken new old (omega (arith, less, many)) same;
}

-- an old rule more is another one, or taken
pub one_passed : (p q : Program) (rule : Rule) (places : List (Option ℕ)) (place : ℕ) (x : Rule) → x ≡ get_or p.rules place x
    → (rule ≡ moved_rule p q x → list_any (is_place place) places ≡ true)
    → ((k : ℕ) → k < place → IsThere p q rule k → list_any (is_place k) places ≡ true)
    → (k : ℕ) → k < place + 1 → IsThere p q rule k → list_any (is_place k) places ≡ true
one_passed p q rule places place x is passed so k less there = elim (cases_lt k place) [
  | inl low ↦ so k low there
  | inr high ↦
      (let at : place ≡ k = omega (arith, less, high) in
      let same : x ≡ there.0 = is ∙ get_or_from_slice_get p.rules place there.0 x (ap (slice_get p.rules) at ∙ there.1) in
      subst (λ (n : ℕ). list_any (is_place n) places ≡ true) at (passed (there.2 ∙ ap (moved_rule p q) (sym same))))
]
