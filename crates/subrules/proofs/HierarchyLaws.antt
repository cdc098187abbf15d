-- The way upward from a type goes in a circle exactly where a type above it is above itself.
use Rattle.subrules.proofs.Common.{◌≡◌, ◌+◌, ◌≤◌, ◌||◌, ◌⊎◌, inl, inr, ℕ, zero, suc, true, false, List, [], ◌∷◌, length, Option, Some, None, slice_get}
use Rattle.subrules.proofs.Common.{option_and_then, refl, sym, ap, subst, ◌∙◌, arith, Bool, list_any, cases_Bool, eqb-true, false_from_ne_true, false≢true}
use Rattle.subrules.proofs.Common.{or_right, eq-eqb, or_parts, option_and_then_some, same_Some, slice_get_within, bytes_eq-Decides, place_of_name, WrittenType}
use Rattle.subrules.proofs.Common.{written_type_names, written_type_named, is_type_of_name, parent_of, above, goes_round, is_below, IsAbove, ◌↔◌, Contains}
use Rattle.subrules.{proofs.Common.{Any-from_list_any, list_any-from_Any}, specs.Hierarchy.{ancestors, goes_on, IsAbove.{parent, further}}}
use Rattle.std.{specs.{List.{IsDistinct}, Bool.{Decides}}, proofs.{Math.Dec.{eqb}, lemmas.List.Elements.{Contains-append_left, Contains-append_right}}}
use Rattle.{std.proofs.lemmas.{List.Elements.{Contains-append_cases}, Map.Steps.{length-le_from_distinct_below}}, fx_base.proofs.Sequences.{none_equal}}

-- ---- the first step upward

record First (types : List WrittenType) (u t : WrittenType) : Type 0 where
  next : WrittenType
  parent_is : parent_of types t ≡ Some next
  then_up : (u ≡ next) ⊎ IsAbove types u next

then_further : (types : List WrittenType) (u v next : WrittenType) → parent_of types u ≡ Some v → (u ≡ next) ⊎ IsAbove types u next → (v ≡ next) ⊎ IsAbove types v next
then_further types u v next e (inl same) = inr (parent (subst (λ (x : WrittenType). parent_of types x ≡ Some v) same e))
then_further types u v next e (inr up) = inr (further up e)

first_step : {types : List WrittenType} {u t : WrittenType} → IsAbove types u t → First types u t
first_step (parent {u} {t} e) = record { next = u; parent_is = e; then_up = inl refl }
first_step {types} (further {u} {v} {t} up e) =
    let f = first_step up in
    record { next = f.next; parent_is = f.parent_is; then_up = then_further types u v f.next e f.then_up }

-- ---- below a type that is above itself the way never ends

endless : (types : List WrittenType) (n : ℕ) (t u : WrittenType) → IsAbove types u t → IsAbove types u u → goes_on types n (parent_of types t) ≡ true
unfolding goes_on
endless types zero t u up round = ap (goes_on types zero) (first_step up).parent_is
endless types (suc n) t u up round =
    let f = first_step up in
    let still : IsAbove types u f.next = elim f.then_up [ inl same ↦ subst (IsAbove types u) same round | inr a ↦ a ] in
    ap (goes_on types (suc n)) f.parent_is ∙ endless types n f.next u still round

-- ---- a way of more types than there are meets one of them twice

abbrev pub Circle : List WrittenType → WrittenType → Type 0
Circle types t = (u : WrittenType) × IsAbove types u t × IsAbove types u u

placed : (types : List WrittenType) (t x : WrittenType) → parent_of types t ≡ Some x → (k : ℕ) × (slice_get types k ≡ Some x)
placed types t x e =
    option_and_then_some (written_type_named types) t.parent x e (λ name given named.
    option_and_then_some (λ k. slice_get types k) (place_of_name (written_type_names types) name) x named (λ k at here. (k, here)))

-- the types that the way upward from t has met, up to c: their places, each once
record Met (types : List WrittenType) (t c : WrittenType) (places : List ℕ) : Type 0 where
  each_once : IsDistinct eqb places
  below : (q : ℕ) → list_any (eqb q) places ≡ true → (v : WrittenType) × (slice_get types q ≡ Some v) × ((x : WrittenType) → parent_of types c ≡ Some x → IsAbove types x v)
  from : (x : WrittenType) → parent_of types c ≡ Some x → IsAbove types x t

few : (types : List WrittenType) (t c : WrittenType) (places : List ℕ) → Met types t c places → length places ≤ length types
few types t c places m = length-le_from_distinct_below places (length types) m.each_once (λ q among. let v = m.below q among in slice_get_within types q v.0 v.1)

one_more : (types : List WrittenType) (t c x : WrittenType) (k : ℕ) (places : List ℕ) → Met types t c places → parent_of types c ≡ Some x → slice_get types k ≡ Some x
    → list_any (eqb k) places ≡ false → Met types t x (k ∷ places)
unfolding IsDistinct
one_more types t c x k places m e at new = record {
  each_once = (none_equal k places new, m.each_once);
  below = λ q among. elim (cases_Bool (eqb q k)) [
    | inl same ↦ (x, ap (slice_get types) (eqb-true q k same) ∙ at, λ y up. parent up)
    | inr other ↦
        let v = m.below q (subst (λ b. b || list_any (eqb q) places ≡ true) other among) in
        (v.0, v.1, λ y up. further (v.2 x e) up)
  ];
  from = λ y up. further (m.from x e) up;
}

met_twice : (types : List WrittenType) (t c x : WrittenType) (k : ℕ) (places : List ℕ) → Met types t c places → parent_of types c ≡ Some x → slice_get types k ≡ Some x
    → list_any (eqb k) places ≡ true → Circle types t
met_twice types t c x k places m e at among =
    let v = m.below k among in
    (x, m.from x e, subst (IsAbove types x) (same_Some v.0 x (sym v.1 ∙ at)) (v.2 x e))

goes_to : (types : List WrittenType) (n : ℕ) (o : Option WrittenType) → goes_on types n o ≡ true → (x : WrittenType) × (o ≡ Some x)
unfolding goes_on
goes_to types n None e = absurd cc
goes_to types n (Some x) e = (x, refl)

circle : (types : List WrittenType) (n : ℕ) (t c : WrittenType) (places : List ℕ) → Met types t c places → goes_on types n (parent_of types c) ≡ true
    → length places + n ≡ length types → Circle types t
unfolding goes_on
circle types zero t c places m on count =
    let x = goes_to types zero (parent_of types c) on in
    let k = placed types c x.0 x.1 in
    elim (cases_Bool (list_any (eqb k.0) places)) [
      | inl among ↦ met_twice types t c x.0 k.0 places m x.1 k.1 among
      | inr new ↦ let most = few types t x.0 (k.0 ∷ places) (one_more types t c x.0 k.0 places m x.1 k.1 new) in absurd (omega arith)
    ]
circle types (suc n) t c places m on count =
    let x = goes_to types (suc n) (parent_of types c) on in
    let k = placed types c x.0 x.1 in
    elim (cases_Bool (list_any (eqb k.0) places)) [
      | inl among ↦ met_twice types t c x.0 k.0 places m x.1 k.1 among
      | inr new ↦
          circle types n t x.0 (k.0 ∷ places) (one_more types t c x.0 k.0 places m x.1 k.1 new) (sym (ap (goes_on types (suc n)) x.1) ∙ on) (omega arith)
    ]

pub round_decided : (types : List WrittenType) (t : WrittenType) → Decides (goes_round types t) (Circle types t)
unfolding IsDistinct
round_decided types t = (
  λ on. circle types (length types) t t [] (record { each_once = tt; below = λ q among. absurd cc; from = λ x up. parent up }) on (omega arith),
  λ h. endless types (length types) t h.0 h.1 h.2,
)

-- ---- the types above a type that does not go round

listed_above : (types : List WrittenType) (n : ℕ) (o : Option WrittenType) (t u : WrittenType) → ((x : WrittenType) → o ≡ Some x → IsAbove types x t)
    → Contains (ancestors types n o) u → IsAbove types u t
unfolding ancestors
listed_above types zero None t u up c = absurd (omega (arith, c.1))
listed_above types (suc n) None t u up c = absurd (omega (arith, c.1))
listed_above types zero (Some x) t u up c = absurd (omega (arith, c.1))
listed_above types (suc n) (Some x) t u up c =
    elim (Contains-append_cases (x ∷ []) (ancestors types n (parent_of types x)) u c) [
      | inl first ↦ subst (λ (v : WrittenType). IsAbove types v t) (only x u first) (up x refl)
      | inr later ↦ listed_above types n (parent_of types x) t u (λ y e. further (up x refl) e) later
    ]
  where
    only : (x u : WrittenType) → Contains (x ∷ []) u → x ≡ u
    only x u (zero, inside, at) = at
    only x u (suc k, inside, at) = absurd (omega arith)

above_listed : (types : List WrittenType) (n : ℕ) (t u : WrittenType) → goes_on types n (parent_of types t) ≡ false → IsAbove types u t
    → Contains (ancestors types n (parent_of types t)) u
unfolding ancestors goes_on
above_listed types zero t u ends up = let f = first_step up in let e = sym (ap (goes_on types zero) f.parent_is) ∙ ends in absurd cc
above_listed types (suc n) t u ends up =
    let f = first_step up in
    subst (λ o. Contains (ancestors types (suc n) o) u) (sym f.parent_is) (elim f.then_up [
      | inl same ↦ Contains-append_left (f.next ∷ []) (ancestors types n (parent_of types f.next)) u (zero, omega arith, sym same)
      | inr a ↦
          Contains-append_right (f.next ∷ []) (ancestors types n (parent_of types f.next)) u
          (above_listed types n f.next u (sym (ap (goes_on types (suc n)) f.parent_is) ∙ ends) a)
    ])

pub listed : (types : List WrittenType) (t u : WrittenType) → goes_round types t ≡ false → Contains (above types t) u ↔ IsAbove types u t
listed types t u ends = (listed_above types (length types) (parent_of types t) t u (λ x e. parent e), above_listed types (length types) t u ends)

pub below_decided : (types : List WrittenType) (over name : List ℕ) (t : WrittenType) → written_type_named types name ≡ Some t → goes_round types t ≡ false
    → Decides (is_below types over name) ((u : WrittenType) × IsAbove types u t × (u.name ≡ over))
below_decided types over name t e ends =
    let same = ap (λ o. list_any (is_type_of_name over) (ancestors types (length types) (option_and_then (parent_of types) o))) e in (
      λ is.
          let a = Any-from_list_any (is_type_of_name over) (above types t) (sym same ∙ is) in
          (a.1, (listed types t a.1 ends).0 (a.0, a.2, a.3), (bytes_eq-Decides a.1.name over).0 a.4),
      λ h.
          let c = (listed types t h.0 ends).1 h.1 in
          same ∙ list_any-from_Any (is_type_of_name over) (above types t) (c.0, h.0, c.1, c.2, (bytes_eq-Decides h.0.name over).1 h.2),
    )

-- ---- a type has what the type that it extends has

pub above_none : (types : List WrittenType) (n : ℕ) → ancestors types n None ≡ []
unfolding ancestors
above_none types zero = refl
above_none types (suc n) = refl

pub ends_none : (types : List WrittenType) (n : ℕ) → goes_on types n None ≡ false
unfolding goes_on
ends_none types zero = refl
ends_none types (suc n) = refl

pub ends_behind : (types : List WrittenType) (t p : WrittenType) → parent_of types t ≡ Some p → goes_round types p ≡ false → goes_round types t ≡ false
ends_behind types t p up ends = false_from_ne_true (goes_round types t) (λ is.
    let h = (round_decided types t).0 is in
    let f = first_step h.1 in
    let u : WrittenType = h.0 in
    let same : f.next ≡ p = same_Some f.next p (sym f.parent_is ∙ up) in
    let round : Circle types p = elim f.then_up [
      | inl here ↦ let r = subst (λ (x : WrittenType). IsAbove types x x) (here ∙ same) h.2 in (p, r, r)
      | inr above ↦ (u, subst (IsAbove types u) same above, h.2)
    ] in
    false≢true (sym ends ∙ (round_decided types p).1 round))

ended : (types : List WrittenType) (n : ℕ) (o : Option WrittenType) → goes_on types n o ≡ false → ancestors types n o ≡ ancestors types (suc n) o
unfolding ancestors goes_on
ended types zero None e = refl
ended types (suc n) None e = refl
ended types zero (Some x) e = absurd cc
ended types (suc n) (Some x) e = ap (λ xs. x ∷ xs) (ended types n (parent_of types x) e)

pub above_behind : (types : List WrittenType) (t p : WrittenType) → parent_of types t ≡ Some p → goes_round types t ≡ false → above types t ≡ p ∷ above types p
unfolding ancestors
above_behind types t p up ends =
    ap (ancestors types (length types)) up ∙ ended types (length types) (Some p) (sym (ap (goes_on types (length types)) up) ∙ ends)

-- ---- further types above a type have been met: there are no more than the types of the file

abbrev Among : List WrittenType → List ℕ → WrittenType → Type 0
Among types places x = (k : ℕ) × (list_any (eqb k) places ≡ true) × (slice_get types k ≡ Some x)

-- the types at these places do not pass a test, and what they extend is among them or comes next
record Apart (types : List WrittenType) (p : WrittenType → Bool) (next : Option WrittenType) (places : List ℕ) : Type 0 where
  each_once : IsDistinct eqb places
  fails : (k : ℕ) → list_any (eqb k) places ≡ true → (v : WrittenType) × (slice_get types k ≡ Some v) × (p v ≡ false)
      × ((y : WrittenType) → parent_of types v ≡ Some y → (next ≡ Some y) ⊎ Among types places y)
  found : (x : WrittenType) → next ≡ Some x → (k : ℕ) × (slice_get types k ≡ Some x)

-- where what comes next is among them, no type further above passes
closed_apart : (types : List WrittenType) (p : WrittenType → Bool) (x : WrittenType) (places : List ℕ) → Apart types p (Some x) places → Among types places x
    → (n : ℕ) (o : Option WrittenType) → ((y : WrittenType) → o ≡ Some y → Among types places y) → list_any p (ancestors types n o) ≡ false
unfolding ancestors
closed_apart types p x places a back zero None all = refl
closed_apart types p x places a back (suc n) None all = refl
closed_apart types p x places a back zero (Some y) all = refl
closed_apart types p x places a back (suc n) (Some y) all =
    let m = all y refl in
    let v = a.fails m.0 m.1 in
    let same : v.0 ≡ y = same_Some v.0 y (sym v.1 ∙ m.2) in
    let rest = closed_apart types p x places a back n (parent_of types y) (λ z up. elim (v.3 z (ap (parent_of types) same ∙ up)) [
      | inl next ↦ subst (Among types places) (same_Some x z next) back
      | inr among ↦ among
    ]) in
    ap (λ b. b || list_any p (ancestors types n (parent_of types y))) (ap p (sym same) ∙ v.2) ∙ rest

further_apart : (types : List WrittenType) (p : WrittenType → Bool) (x : WrittenType) (k : ℕ) (places : List ℕ) → Apart types p (Some x) places → slice_get types k ≡ Some x
    → list_any (eqb k) places ≡ false → p x ≡ false → Apart types p (parent_of types x) (k ∷ places)
unfolding IsDistinct
further_apart types p x k places a at new fails = record {
  each_once = (none_equal k places new, a.each_once);
  fails = λ j among. elim (cases_Bool (eqb j k)) [
    | inl same ↦ (x, ap (slice_get types) (eqb-true j k same) ∙ at, fails, λ y up. inl up)
    | inr other ↦
        let v = a.fails j (subst (λ b. b || list_any (eqb j) places ≡ true) other among) in (
          v.0,
          v.1,
          v.2,
          λ y up. elim (v.3 y up) [
            | inl next ↦ inr (k, first_among k places, at ∙ next)
            | inr m ↦ inr (m.0, or_right (eqb m.0 k) (list_any (eqb m.0) places) m.1, m.2)
          ],
        )
  ];
  found = λ y up. placed types x y up;
}
  where
    first_among : (k : ℕ) (places : List ℕ) → list_any (eqb k) (k ∷ places) ≡ true
    first_among k places = ap (λ b. b || list_any (eqb k) places) (eq-eqb k k refl)

crowded : (types : List WrittenType) (p : WrittenType → Bool) (x : WrittenType) (k : ℕ) (places : List ℕ) → Apart types p (Some x) places → slice_get types k ≡ Some x
    → list_any (eqb k) places ≡ false → length places + 1 ≤ length types
unfolding IsDistinct
crowded types p x k places a at new =
    let most = length-le_from_distinct_below (k ∷ places) (length types) (none_equal k places new, a.each_once) (λ j among. elim (cases_Bool (eqb j k)) [
      | inl same ↦ slice_get_within types j x (ap (slice_get types) (eqb-true j k same) ∙ at)
      | inr other ↦ let v = a.fails j (subst (λ b. b || list_any (eqb j) places ≡ true) other among) in slice_get_within types j v.0 v.1
    ]) in
    omega arith

still_apart : (types : List WrittenType) (p : WrittenType → Bool) (n : ℕ) (o : Option WrittenType) (places : List ℕ) → Apart types p o places
    → list_any p (ancestors types n o) ≡ false → length places + n ≡ length types → list_any p (ancestors types (suc n) o) ≡ false
unfolding ancestors
still_apart types p zero None places a e count = refl
still_apart types p (suc n) None places a e count = refl
still_apart types p zero (Some x) places a e count =
    let k = a.found x refl in
    elim (cases_Bool (list_any (eqb k.0) places)) [
      | inl among ↦ closed_apart types p x places a (k.0, among, k.1) 1 (Some x) (λ y s. subst (Among types places) (same_Some x y s) (k.0, among, k.1))
      | inr new ↦ let most = crowded types p x k.0 places a k.1 new in absurd (omega arith)
    ]
still_apart types p (suc n) (Some x) places a e count =
    let k = a.found x refl in
    let parts = or_parts (p x) (list_any p (ancestors types n (parent_of types x))) e in
    elim (cases_Bool (list_any (eqb k.0) places)) [
      | inl among ↦ closed_apart types p x places a (k.0, among, k.1) (suc (suc n)) (Some x) (λ y s. subst (Among types places) (same_Some x y s) (k.0, among, k.1))
      | inr new ↦
          ap (λ b. b || list_any p (ancestors types (suc n) (parent_of types x))) parts.0
          ∙ still_apart types p n (parent_of types x) (k.0 ∷ places) (further_apart types p x k.0 places a k.1 new parts.0) parts.1 (omega arith)
    ]

more_above : (types : List WrittenType) (p : WrittenType → Bool) (n : ℕ) (o : Option WrittenType) → list_any p (ancestors types n o) ≡ true → list_any p (ancestors types (suc n) o) ≡ true
unfolding ancestors
more_above types p zero None e = absurd cc
more_above types p (suc n) None e = absurd cc
more_above types p zero (Some x) e = absurd cc
more_above types p (suc n) (Some x) e = by_first (p x) refl e (λ later. more_above types p n (parent_of types x) later)
  where
    by_first : (b : Bool) → p x ≡ b → (b || list_any p (ancestors types n (parent_of types x))) ≡ true
        → (list_any p (ancestors types n (parent_of types x)) ≡ true → list_any p (ancestors types (suc n) (parent_of types x)) ≡ true)
        → (p x || list_any p (ancestors types (suc n) (parent_of types x))) ≡ true
    by_first true is h later = ap (λ b. b || list_any p (ancestors types (suc n) (parent_of types x))) is
    by_first false is h later = ap (λ b. b || list_any p (ancestors types (suc n) (parent_of types x))) is ∙ later h

-- some type above one passes a test where the type that it extends, or one above that, does
pub any_above : (types : List WrittenType) (p : WrittenType → Bool) (t u : WrittenType) → parent_of types t ≡ Some u → list_any p (above types t) ≡ list_any p (u ∷ above types u)
unfolding ancestors IsDistinct
any_above types p t u up = ap (λ o. list_any p (ancestors types (length types) o)) up ∙ by_any (list_any p (ancestors types (length types) (Some u))) refl
  where
    by_any : (b : Bool) → list_any p (ancestors types (length types) (Some u)) ≡ b
        → list_any p (ancestors types (length types) (Some u)) ≡ list_any p (ancestors types (suc (length types)) (Some u))
    by_any true is = is ∙ sym (more_above types p (length types) (Some u) is)
    by_any false is =
        is ∙ sym (still_apart types p (length types) (Some u) [] (record { each_once = tt; fails = λ k among. absurd cc; found = λ x s. placed types t x (up ∙ s) }) is (omega arith))
