-- Lemmas on lists and options that the standard library lacks.
use Rattle.std.proofs.Common.{◌≡◌, ◌⊎◌, inl, inr, ℕ, zero, suc, ◌+◌, ◌<◌, ◌≤◌, Bool, true, false, cond, eqb, List, [], ◌∷◌, ◌++◌, length, get_or, take, drop}
use Rattle.std.proofs.{Common.{set, All, Option, Some, None, is_some, slice_get, refl, sym, ap, ◌∙◌, add-one, drop-cons, arith}, lemmas.Bool.{and_parts}}
use Rattle.std.proofs.lemmas.{Bool.{and_from, or_cases, or_from, or_left, or_parts, or_right}, Grind.{common_steps}, List.Elements.{All-nil, All-cons}}
use Rattle.std.{proofs.lemmas.Option.{slice_get-get_or}, specs.{List.{AllByRecursion, filter, list_all, list_any}, Option.{option_map, unwrap_or}}}
use Rattle.fx_base.specs.Lists.{In}

pub one_value : {X : Type 0} (o : Option X) (x y : X) → o ≡ Some x → o ≡ Some y → x ≡ y
one_value o x y e f = ap (λ p. unwrap_or p x) (sym e ∙ f)

pub is_some-value : {X : Type 0} (o : Option X) → is_some o ≡ true → (x : X) × (o ≡ Some x)
is_some-value None e = let f : false ≡ true = e in cc
is_some-value (Some x) e = (x, refl)

pub is_some-false : {X : Type 0} (o : Option X) → is_some o ≡ false → o ≡ None
is_some-false None e = refl
is_some-false (Some x) e = let f : true ≡ false = e in cc

pub is_some-map : {A B : Type 0} (f : A → B) (o : Option A) → is_some o ≡ is_some (option_map f o)
is_some-map f None = refl
is_some-map f (Some x) = refl

pub is_some-cond : {S : Type 0} (b : Bool) (w : S) (old : Option S) → is_some old ≡ true → is_some (cond b (Some w) old) ≡ true
is_some-cond true w old e = refl
is_some-cond false w old e = e

pub map-some : {B C : Type 0} (o : Option B) (view : B → C) (read : Option C) (found : B) → option_map view o ≡ read → o ≡ Some found → read ≡ Some (view found)
map-some o view read found e is = sym e ∙ ap (option_map view) is

pub map-none : {B C : Type 0} (o : Option B) (view : B → C) (read : Option C) → option_map view o ≡ read → o ≡ None → read ≡ None
map-none o view read e is = sym e ∙ ap (option_map view) is

pub get-last : {A : Type 0} (xs : List A) (x : A) → slice_get (xs ++ x ∷ []) (length xs) ≡ Some x
get-last [] x = refl
get-last (y ∷ xs) x = get-last xs x

pub get-append_left : {A : Type 0} (xs ys : List A) (k : ℕ) (x : A) → slice_get xs k ≡ Some x → slice_get (xs ++ ys) k ≡ Some x
get-append_left [] ys k x e = cc
get-append_left (y ∷ xs) ys zero x e = e
get-append_left (y ∷ xs) ys (suc k) x e = get-append_left xs ys k x e

pub get-none : {A : Type 0} (xs : List A) (k : ℕ) (x : A) → xs ≡ [] → slice_get xs k ≡ Some x → ⊥
get-none xs k x none e = let no : None ≡ Some x = sym (ap (λ ys. slice_get ys k) none) ∙ e in cc

pub get-below : {A : Type 0} (xs : List A) (k : ℕ) → k < length xs → (x : A) × (slice_get xs k ≡ Some x)
get-below [] k h = absurd (omega arith)
get-below (x ∷ xs) k h = (get_or (x ∷ xs) k x, slice_get-get_or (x ∷ xs) k x h)

pub get-set_other : {A : Type 0} (xs : List A) (i k : ℕ) (v : A) → (k ≡ i → ⊥) → slice_get (set xs i v) k ≡ slice_get xs k
get-set_other [] i k v h = refl
get-set_other (x ∷ xs) zero zero v h = absurd (h refl)
get-set_other (x ∷ xs) zero (suc k) v h = refl
get-set_other (x ∷ xs) (suc i) zero v h = refl
get-set_other (x ∷ xs) (suc i) (suc k) v h = get-set_other xs i k v (λ e. h (ap suc e))

pub get-set_same : {A : Type 0} (xs : List A) (i : ℕ) (v x : A) → slice_get xs i ≡ Some x → slice_get (set xs i v) i ≡ Some v
get-set_same [] i v x e = cc
get-set_same (y ∷ xs) zero v x e = refl
get-set_same (y ∷ xs) (suc i) v x e = get-set_same xs i v x e

pub empty_from_length : {A : Type 0} (xs : List A) (n : ℕ) → n ≡ length xs → n ≡ 0 → xs ≡ []
empty_from_length [] n e z = refl
empty_from_length (x ∷ xs) n e z = absurd (omega arith)

pub drop_past : {A : Type 0} (xs : List A) (k : ℕ) → length xs ≤ k → drop k xs ≡ []
drop_past xs k h = grind (arith, common_steps)

pub drop_at : {A : Type 0} (xs : List A) (k : ℕ) (x : A) → k < length xs → x ≡ get_or xs k x → drop k xs ≡ x ∷ drop (k + 1) xs
drop_at xs k x lt is = rw (add-one, drop-cons xs k x) (ap (λ z. z ∷ drop (suc k) xs) (sym is))

pub take_one_more : {X : Type 0} (x : X) (xs : List X) (n : ℕ) → take (1 + n) (x ∷ xs) ≡ x ∷ take n xs
take_one_more x xs n = let e : 1 + n ≡ suc n = omega arith in ap (λ k. take k (x ∷ xs)) e

pub In-append : {A : Type 0} (x : A) (xs ys : List A) → In x (xs ++ ys) → In x xs ⊎ In x ys
In-append x [] ys i = inr i
In-append x (y ∷ xs) ys (inl e) = inl (inl e)
In-append x (y ∷ xs) ys (inr i) = elim (In-append x xs ys i) [ inl l ↦ inl (inr l) | inr r ↦ inr r ]

pub In-place : {A : Type 0} (x : A) (xs : List A) → In x xs → (k : ℕ) × (slice_get xs k ≡ Some x)
In-place x [] i = absurd i
In-place x (y ∷ ys) (inl e) = (0, ap Some (sym e))
In-place x (y ∷ ys) (inr i) = let r = In-place x ys i in (suc r.0, r.1)

pub list_all-In : {A : Type 0} (f : A → Bool) (xs : List A) → list_all f xs ≡ true → (x : A) → In x xs → f x ≡ true
list_all-In f [] h x m = absurd m
list_all-In f (y ∷ ys) h x (inl e) = ap f e ∙ (and_parts (f y) (list_all f ys) h).0
list_all-In f (y ∷ ys) h x (inr m) = list_all-In f ys (and_parts (f y) (list_all f ys) h).1 x m

pub list_all-from : {A : Type 0} (f : A → Bool) (xs : List A) → ((x : A) → In x xs → f x ≡ true) → list_all f xs ≡ true
list_all-from f [] h = refl
list_all-from f (y ∷ ys) h = and_from (f y) (list_all f ys) (h y (inl refl)) (list_all-from f ys (λ x m. h x (inr m)))

pub All-from_In : {A : Type 0} (P : A → Type 0) (xs : List A) → ((x : A) → In x xs → P x) → All P xs
All-from_In P [] h = All-nil P
All-from_In P (x ∷ xs) h = All-cons P x xs (h x (inl refl)) (All-from_In P xs (λ y i. h y (inr i)))

pub filter-all : {A : Type 0} (test : A → Bool) (xs : List A) → ((x : A) → In x xs → test x ≡ true) → filter test xs ≡ xs
filter-all test [] h = refl
filter-all test (x ∷ xs) h =
    ap (λ b. cond b (x ∷ filter test xs) (filter test xs)) (h x (inl refl)) ∙ ap (λ zs. x ∷ zs) (filter-all test xs (λ y i. h y (inr i)))

pub none_equal : (k : ℕ) (xs : List ℕ) → list_any (eqb k) xs ≡ false → AllByRecursion (λ q. eqb k q ≡ false) xs
none_equal k [] e = tt
none_equal k (q ∷ xs) e = let h = or_parts (eqb k q) (list_any (eqb k) xs) e in (h.0, none_equal k xs h.1)

module _ {A : Type 0} (test : A → Bool) where
  pub list_any-from : (x : A) (xs : List A) → In x xs → test x ≡ true → list_any test xs ≡ true
  list_any-from x [] i e = absurd i
  list_any-from x (y ∷ xs) (inl h) e = or_left (test y) (list_any test xs) (ap test (sym h) ∙ e)
  list_any-from x (y ∷ xs) (inr i) e = or_right (test y) (list_any test xs) (list_any-from x xs i e)

  pub list_any-In : (xs : List A) → list_any test xs ≡ true → (x : A) × In x xs × (test x ≡ true)
  list_any-In [] e = absurd (let n : false ≡ true = e in cc)
  list_any-In (x ∷ xs) e = elim (or_cases (test x) (list_any test xs) e) [
    | inl h ↦ (x, inl refl, h)
    | inr h ↦ (let r = list_any-In xs h in (r.0, inr r.1, r.2))
  ]

  pub list_any-none : (xs : List A) → ((x : A) → In x xs → test x ≡ false) → list_any test xs ≡ false
  list_any-none [] h = refl
  list_any-none (x ∷ xs) h = or_from (test x) (list_any test xs) (h x (inl refl)) (list_any-none xs (λ y i. h y (inr i)))
