-- The list of what is asked has exactly what is to be asked.
use Rattle.life_proof.proofs.Common.{◌≡◌, ◌⊎◌, inl, inr, ◌++◌, ◌+◌, ◌<◌, ◌≤◌, ℕ, zero, suc, ℤ, Bool, true, false, List, [], ◌∷◌, Option, Some, None}
use Rattle.life_proof.proofs.Common.{if◌then◌else◌, refl, sym, ap, subst, ◌∙◌, arith, slice_get, In, Condition, WindowTag, Whole, Time, Length, Life, LifeTable}
use Rattle.life_proof.proofs.Common.{Program, pattern_of, in_place, IsRunnable, scope, HaveNetwork, placed, rules_have_networks, scope_network, Asked}
use Rattle.life_proof.proofs.Common.{HasPlaces, IsReachAsked, each_from, asked_at, asked_to, asked_from, asked_in, asked, scope_of, All, is_reference}
use Rattle.{life_proof.proofs.Common.{life_under, asked_within, scope_in, scope_with}, std.proofs.lemmas.Option.{slice_get_within}}
use Rattle.fx_base.proofs.{Orders.{zero_add}, Sequences.{All-from_In}}
use Rattle.rule_model.specs.declared.life.Life.TheVariants as life

-- ---- lists

either_list : {A : Type 0} (xs ys : List A) (a : A) → In a (xs ++ ys) → In a xs ⊎ In a ys
either_list [] ys a h = inr h
either_list (x ∷ xs) ys a (inl e) = inl (inl e)
either_list (x ∷ xs) ys a (inr h) = by (either_list xs ys a h)
  where
    by : In a xs ⊎ In a ys → In a (x ∷ xs) ⊎ In a ys
    by (inl k) = inl (inr k)
    by (inr k) = inr k

in_first : {A : Type 0} (xs ys : List A) (a : A) → In a xs → In a (xs ++ ys)
in_first [] ys a h = absurd h
in_first (x ∷ xs) ys a (inl e) = inl e
in_first (x ∷ xs) ys a (inr h) = inr (in_first xs ys a h)

in_second : {A : Type 0} (xs ys : List A) (a : A) → In a ys → In a (xs ++ ys)
in_second [] ys a h = h
in_second (x ∷ xs) ys a h = inr (in_second xs ys a h)

-- a list of what each element gives has this of one of them
record Given {A B : Type 0} (f : ℕ → A → List B) (n : ℕ) (xs : List A) (b : B) : Type 0 where
  place : ℕ
  x : A
  stands : slice_get xs place ≡ Some x
  gives : In b (f (n + place) x)

given : {A B : Type 0} (f : ℕ → A → List B) (n : ℕ) (xs : List A) (b : B) → In b (each_from f n xs) → Given f n xs b
given f n [] b h = absurd h
given f n (x ∷ xs) b h = by (either_list (f n x) (each_from f (suc n) xs) b h) (given f (suc n) xs b)
  where
    by : In b (f n x) ⊎ In b (each_from f (suc n) xs) → (In b (each_from f (suc n) xs) → Given f (suc n) xs b) → Given f n (x ∷ xs) b
    by (inl k) more = let here : n ≡ n + 0 = omega arith in record { place = 0; x = x; stands = refl; gives = subst (λ (m : ℕ). In b (f m x)) here k }
    by (inr k) more =
        let g = more k in
        let next : suc n + g.place ≡ n + suc g.place = omega arith in
        record { place = suc g.place; x = g.x; stands = g.stands; gives = subst (λ (m : ℕ). In b (f m g.x)) next g.gives }

gives : {A B : Type 0} (f : ℕ → A → List B) (n : ℕ) (xs : List A) (b : B) (place : ℕ) (x : A) → slice_get xs place ≡ Some x → In b (f (n + place) x)
    → In b (each_from f n xs)
gives f n [] b place x at h = absurd cc
gives f n (y ∷ ys) b zero x at h =
    let here : n + 0 ≡ n = omega arith in
    in_first (f n y) (each_from f (suc n) ys) b (subst (λ z. In b (f n z)) (the_same (sym at)) (subst (λ (m : ℕ). In b (f m x)) here h))
  where
    the_same : {A : Type 0} {x y : A} → Some x ≡ Some y → x ≡ y
    the_same e = cc
gives f n (y ∷ ys) b (suc place) x at h =
    let next : n + suc place ≡ suc n + place = omega arith in
    in_second (f n y) (each_from f (suc n) ys) b (gives f (suc n) ys b place x at (subst (λ (m : ℕ). In b (f m x)) next h))

given_here : {A B : Type 0} (f : ℕ → A → List B) (xs : List A) (b : B) (g : Given f 0 xs b) → In b (f g.place g.x)
given_here f xs b g = subst (λ (m : ℕ). In b (f m g.x)) (zero_add g.place) g.gives

gives_here : {A B : Type 0} (f : ℕ → A → List B) (xs : List A) (b : B) (place : ℕ) (x : A) → slice_get xs place ≡ Some x → In b (f place x) → In b (each_from f 0 xs)
gives_here f xs b place x at h = gives f 0 xs b place x at (subst (λ (m : ℕ). In b (f m x)) (sym (zero_add place)) h)

-- ---- what is asked of two conditions

to_from : (p : Program) (rule from : ℕ) (n : ℤ) (to : ℕ) (c : Condition) (a : Asked) → In a (asked_to p rule from n to c)
    → (is_reference p (pattern_of c).ty.0 ≡ false) × (a ≡ asked_at rule from to n)
to_from p rule from n to c a h = by (is_reference p (pattern_of c).ty.0) refl h
  where
    by : (b : Bool) → is_reference p (pattern_of c).ty.0 ≡ b → In a (if b then [] else (asked_at rule from to n ∷ [])) → (is_reference p (pattern_of c).ty.0 ≡ false) × (a ≡ asked_at rule from to n)
    by true e k = absurd k
    by false e (inl k) = (e, k)
    by false e (inr k) = absurd k

to_for : (p : Program) (rule from : ℕ) (n : ℤ) (to : ℕ) (c : Condition) → is_reference p (pattern_of c).ty.0 ≡ false → In (asked_at rule from to n) (asked_to p rule from n to c)
to_for p rule from n to c e = rw e (inl refl)

-- ---- lives

record IsUnder (window : WindowTag) (l : Option Life) (n : ℤ) : Type 0 where
  whole : window ≡ Whole
  life_is : l ≡ Some (life.Finite n)

under_from : (window : WindowTag) (l : Option Life) (n : ℤ) → life_under window l ≡ Some n → IsUnder window l n
under_from Whole (Some (life.Finite m)) n h = record { whole = refl; life_is = ap (λ (z : ℤ). Some (life.Finite z)) (the_same h) }
  where
    the_same : {A : Type 0} {x y : A} → Some x ≡ Some y → x ≡ y
    the_same e = cc
under_from Whole (Some life.Plain) n h = absurd cc
under_from Whole (Some (life.Explicit m)) n h = absurd cc
under_from Whole (Some life.Infinite) n h = absurd cc
under_from Whole None n h = absurd cc
under_from (Time span) l n h = absurd cc
under_from (Length count) l n h = absurd cc

under_for : (window : WindowTag) (l : Option Life) (n : ℤ) → window ≡ Whole → l ≡ Some (life.Finite n) → life_under window l ≡ Some n
under_for window l n w e = rw (w, e) refl

-- ---- what is asked of all

record Within (p : Program) (a : Asked) (all : List Condition) (rule from : ℕ) (c : Condition) (l : Option ℤ) : Type 0 where
  n : ℤ
  life_is : l ≡ Some n
  given : Given (asked_to p rule from n) 0 (scope all (placed from c)) a

within : (p : Program) (a : Asked) (all : List Condition) (rule from : ℕ) (c : Condition) (l : Option ℤ) → In a (asked_within p rule (scope all (placed from c)) from l)
    → Within p a all rule from c l
within p a all rule from c (Some n) k = record { n = n; life_is = refl; given = given (asked_to p rule from n) 0 (scope all (placed from c)) a k }
within p a all rule from c None k = absurd k

pub asked_is : (p : Program) (table : LifeTable) (a : Asked) → In a (asked p table) → IsReachAsked p table a
asked_is p table a h = of_rule (given (asked_in p table) 0 p.rules a h)
  where
    of_rule : Given (asked_in p table) 0 p.rules a → IsReachAsked p table a
    of_rule g =
        let rule = g.x in
        let i = given (asked_from p table g.place rule.conditions) 0 rule.conditions a (given_here (asked_in p table) p.rules a g) in
        let pattern = pattern_of i.x in
        let w = within p a rule.conditions g.place i.place i.x (life_under pattern.window (slice_get table.lives pattern.ty.0))
        (given_here (asked_from p table g.place rule.conditions) rule.conditions a i) in
        let j = w.given in
        let under = under_from pattern.window (slice_get table.lives pattern.ty.0) w.n w.life_is in
        let last = to_from p g.place i.place w.n j.place j.x a (given_here (asked_to p g.place i.place w.n) (scope rule.conditions (placed i.place i.x)) a j) in
        subst (IsReachAsked p table) (sym last.1) (record {
          places = record { rule = rule; stands = g.stands; i = i.x; i_stands = i.stands; j = j.x; j_stands = j.stands };
          whole = under.whole;
          life_is = under.life_is;
          changes = last.0;
        })

pub is_asked : (p : Program) (table : LifeTable) (a : Asked) → IsReachAsked p table a → In a (asked p table)
is_asked p table a h =
    let s = h.places in
    let rule = s.rule in
    let pattern = pattern_of s.i in
    gives_here (asked_in p table) p.rules a a.rule rule s.stands
    (gives_here (asked_from p table a.rule rule.conditions) rule.conditions a a.from s.i s.i_stands
    (subst (λ l. In a (asked_within p a.rule (scope rule.conditions (placed a.from s.i)) a.from l)) (sym (under_for pattern.window (slice_get table.lives pattern.ty.0) a.life h.whole h.life_is))
    (gives_here (asked_to p a.rule a.from a.life) (scope rule.conditions (placed a.from s.i)) a a.to s.j s.j_stands (to_for p a.rule a.from a.life a.to s.j h.changes))))

-- ---- places

pub record Fits (p : Program) (a : Asked) : Type 0 where
  pub network : HaveNetwork (scope_of p a)
  pub rule : a.rule < 256
  pub from : a.from < 8
  pub to : a.to < 8

pub scope_is : (p : Program) (a : Asked) (h : HasPlaces p a) → scope_of p a ≡ scope h.rule.conditions (placed a.from h.i)
scope_is p a h = ap (λ r. scope_in r a.from) h.stands ∙ ap (scope_with h.rule.conditions a.from) h.i_stands

pub fits : (p : Program) (a : Asked) → IsRunnable p → HasPlaces p a → Fits p a
fits p a runnable h =
    let whole = rules_have_networks p runnable h.rule (in_place p.rules a.rule h.rule h.stands) in
    let network = scope_network h.rule.conditions (placed a.from h.i) whole in
    let is = scope_is p a h in record {
      network = subst HaveNetwork (sym is) network;
      rule = few (slice_get_within p.rules a.rule h.rule h.stands) runnable.few_rules;
      from = below (slice_get_within h.rule.conditions a.from h.i h.i_stands) whole.few;
      to = below (slice_get_within (scope h.rule.conditions (placed a.from h.i)) a.to h.j h.j_stands) network.few;
    }
  where
    below : {a n : ℕ} → a < n → n ≤ 8 → a < 8
    below h k = omega arith

    few : {a n : ℕ} → a < n → n ≤ 256 → a < 256
    few h k = omega arith

-- each that is asked for has its places
pub all_placed : (p : Program) (table : LifeTable) → All (HasPlaces p) (asked p table)
all_placed p table = All-from_In (HasPlaces p) (asked p table) (λ a h. (asked_is p table a h).places)

-- each that is asked for is
pub all_asked : (p : Program) (table : LifeTable) → All (IsReachAsked p table) (asked p table)
all_asked p table = All-from_In (IsReachAsked p table) (asked p table) (asked_is p table)
