-- The solutions of the edges of a network and those of the occurrences, each made of the other.
use Rattle.life_edges.proofs.Common.{◌≡◌, ◌⊎◌, inl, inr, ◌||◌, ◌==◌, ◌+◌, ◌*◌, ◌/◌, ◌%◌, ℕ, zero, suc, ℤ, Bool, true, false, cond, List, [], ◌∷◌, Option, Some}
use Rattle.life_edges.proofs.Common.{None, if◌then◌else◌, refl, sym, ◌∙◌, ap, subst, arith, slice_get, All, All-nil, All-append, In, Times, NetEdge, Condition}
use Rattle.life_edges.proofs.Common.{Plain, Negated, Existing, Folded, Program, pattern_of, Occurrence, bound, occurrence, MeetsTests, SolvesConditions}
use Rattle.life_edges.proofs.Common.{NameEarlier, start_point_of, end_of, place_of, pattern_edges, stands_in_network, edges_of_conditions, list_any, aside}
use Rattle.life_edges.proofs.{Common.{IsMember, condition_edges}, Places.{the_same, false_is, own_place, named_here}, Solutions.{Holds, Agree, times_at}}
use Rattle.{life_edges.proofs.Solutions.{all_first, all_second, pattern_from, pattern_to}, std.proofs.lemmas.Bool.{eq-eqb, eqb-true, or_left, or_right}}
use Rattle.fx_base.proofs.Orders.{zero_add}

-- ---- members

either : (a b : Bool) {P Q : Type 0} → (a ≡ true → P) → (b ≡ true → Q) → (a || b) ≡ true → P ⊎ Q
either true b f g h = inl (f refl)
either false b f g h = inr (g h)

one_from : (places : List ℕ) (place : ℕ) → list_any (λ (other : ℕ). other == place) places ≡ true → In place places
one_from [] place h = absurd (false_is h)
one_from (other ∷ places) place h = either (other == place) (list_any (λ (n : ℕ). n == place) places) (λ e. sym (eqb-true other place e)) (one_from places place) h

one_to : (places : List ℕ) (place : ℕ) → In place places → list_any (λ (other : ℕ). other == place) places ≡ true
one_to [] place h = absurd h
one_to (other ∷ places) place (inl e) = or_left (other == place) (list_any (λ (n : ℕ). n == place) places) (eq-eqb other place (sym e))
one_to (other ∷ places) place (inr h) = or_right (other == place) (list_any (λ (n : ℕ). n == place) places) (one_to places place h)

stands : (p : Program) (places : List ℕ) (place : ℕ) (c : Condition) → IsMember p places place c → stands_in_network p places place c ≡ true
stands p places place (Plain pattern) h = h
stands p places place (Negated pattern) h = one_to places place h
stands p places place (Existing pattern) h = one_to places place h
stands p places place (Folded a) h = one_to places place h

member : (p : Program) (places : List ℕ) (place : ℕ) (c : Condition) → stands_in_network p places place c ≡ true → IsMember p places place c
member p places place (Plain pattern) h = h
member p places place (Negated pattern) h = one_from places place h
member p places place (Existing pattern) h = one_from places place h
member p places place (Folded a) h = one_from places place h

-- ---- the edges of each condition

pub held : (P : NetEdge → Type 0) (b : Bool) (xs : List NetEdge) → (b ≡ true → All P xs) → All P (if b then xs else [])
held P true xs h = h refl
held P false xs h = All-nil P

taken : (P : NetEdge → Type 0) (b : Bool) (xs : List NetEdge) → b ≡ true → All P (if b then xs else []) → All P xs
taken P true xs e h = h
taken P false xs e h = absurd (false_is e)

condition_from : (p : Program) (conditions : List Condition) (places : List ℕ) (v : ℕ → ℤ) (times : Occurrence → Times) → NameEarlier conditions → Agree conditions v times
    → (place : ℕ) (c : Condition) → slice_get conditions place ≡ Some c
    → (IsMember p places place c → MeetsTests p (pattern_of c) times (times (occurrence conditions place c))) → All (Holds v) (condition_edges p conditions places place c)
condition_from p conditions places v times named agree place c at h =
    held (Holds v) (stands_in_network p places place c) (pattern_edges p conditions place (pattern_of c)) (λ e.
    pattern_from p conditions v times place (pattern_of c) agree (named_here conditions place c named at)
    (subst (λ (y : Times). MeetsTests p (pattern_of c) times y) (agree place c at) (h (member p places place c e))))

condition_to : (p : Program) (conditions : List Condition) (places : List ℕ) (v : ℕ → ℤ) (times : Occurrence → Times) → NameEarlier conditions → Agree conditions v times
    → (place : ℕ) (c : Condition) → slice_get conditions place ≡ Some c
    → All (Holds v) (condition_edges p conditions places place c) → IsMember p places place c → MeetsTests p (pattern_of c) times (times (occurrence conditions place c))
condition_to p conditions places v times named agree place c at h m =
    subst (λ (y : Times). MeetsTests p (pattern_of c) times y) (sym (agree place c at))
    (pattern_to p conditions v times place (pattern_of c) agree (named_here conditions place c named at)
    (taken (Holds v) (stands_in_network p places place c) (pattern_edges p conditions place (pattern_of c)) (stands p places place c m) h))

-- ---- the edges of all

pub each_from : (P : NetEdge → Type 0) (p : Program) (all : List Condition) (places : List ℕ) (place : ℕ) (conditions : List Condition)
    → ((k : ℕ) (c : Condition) → slice_get conditions k ≡ Some c → All P (condition_edges p all places (place + k) c)) → All P (edges_of_conditions p all places place conditions)
each_from P p all places place [] h = All-nil P
each_from P p all places place (c ∷ conditions) h =
    let here : place + 0 ≡ place = omega arith in
    All-append P (condition_edges p all places place c) (edges_of_conditions p all places (suc place) conditions)
    (subst (λ (n : ℕ). All P (condition_edges p all places n c)) here (h 0 c refl))
    (each_from P p all places (suc place) conditions (λ k d at.
    let next : place + suc k ≡ suc place + k = omega arith in subst (λ (n : ℕ). All P (condition_edges p all places n d)) next (h (suc k) d at)))

each_to : (P : NetEdge → Type 0) (p : Program) (all : List Condition) (places : List ℕ) (place : ℕ) (conditions : List Condition)
    → All P (edges_of_conditions p all places place conditions) → (k : ℕ) (c : Condition) → slice_get conditions k ≡ Some c → All P (condition_edges p all places (place + k) c)
each_to P p all places place [] h k c at = absurd cc
each_to P p all places place (d ∷ conditions) h zero c at =
    let here : place ≡ place + 0 = omega arith in
    subst (λ (n : ℕ). All P (condition_edges p all places n c)) here
    (subst (λ (x : Condition). All P (condition_edges p all places place x)) (the_same at)
    (all_first P (condition_edges p all places place d) (edges_of_conditions p all places (suc place) conditions) h))
each_to P p all places place (d ∷ conditions) h (suc k) c at =
    let next : suc place + k ≡ place + suc k = omega arith in
    subst (λ (n : ℕ). All P (condition_edges p all places n c)) next
    (each_to P p all places (suc place) conditions (all_second P (condition_edges p all places place d) (edges_of_conditions p all places (suc place) conditions) h) k c at)

-- where numbers and times agree, they solve the same
pub points_solve : (p : Program) (conditions : List Condition) (places : List ℕ) (v : ℕ → ℤ) (times : Occurrence → Times) → NameEarlier conditions → Agree conditions v times
    → SolvesConditions p conditions places times → All (Holds v) (edges_of_conditions p conditions places 0 conditions)
points_solve p conditions places v times named agree h =
    each_from (Holds v) p conditions places 0 conditions (λ k c at.
    subst (λ (n : ℕ). All (Holds v) (condition_edges p conditions places n c)) (sym (zero_add k)) (condition_from p conditions places v times named agree k c at (h k c at)))

pub times_solve : (p : Program) (conditions : List Condition) (places : List ℕ) (v : ℕ → ℤ) (times : Occurrence → Times) → NameEarlier conditions → Agree conditions v times
    → All (Holds v) (edges_of_conditions p conditions places 0 conditions) → SolvesConditions p conditions places times
times_solve p conditions places v times named agree h place c at =
    condition_to p conditions places v times named agree place c at
    (subst (λ (n : ℕ). All (Holds v) (condition_edges p conditions places n c)) (zero_add place) (each_to (Holds v) p conditions places 0 conditions h place c at))

-- ---- times of numbers

abbrev pub times_of : List Condition → (ℕ → ℤ) → Occurrence → Times
times_of conditions v (bound number) = times_at v (place_of conditions number)
times_of conditions v (aside place) = times_at v place

pub times_agree : (conditions : List Condition) (v : ℕ → ℤ) → Agree conditions v (times_of conditions v)
times_agree conditions v place (Plain pattern) at = ap (times_at v) (own_place conditions place pattern at)
times_agree conditions v place (Negated pattern) at = refl
times_agree conditions v place (Existing pattern) at = refl
times_agree conditions v place (Folded a) at = refl

-- ---- numbers of times

abbrev times_here : List Condition → (Occurrence → Times) → ℕ → Option Condition → Times
times_here conditions times place (Some c) = times (occurrence conditions place c)
times_here conditions times place None = times (bound 0)

abbrev event_at : List Condition → (Occurrence → Times) → ℕ → Times
event_at conditions times place = times_here conditions times place (slice_get conditions place)

abbrev pub points_of : List Condition → (Occurrence → Times) → ℕ → ℤ
points_of conditions times point = cond (point % 2 == 0) (event_at conditions times (point / 2)).start (event_at conditions times (point / 2)).end

first_of_two : {A : Type 0} (b : Bool) (x y : A) → b ≡ true → cond b x y ≡ x
first_of_two true x y e = refl
first_of_two false x y e = absurd (false_is e)

second_of_two : {A : Type 0} (b : Bool) (x y : A) → b ≡ false → cond b x y ≡ y
second_of_two false x y e = refl
second_of_two true x y e = absurd (false_is (sym e))

even : (n : ℕ) → (n * 2 % 2 == 0) ≡ true
even n = let is : n * 2 % 2 ≡ 0 = omega arith in rw is refl

odd : (n : ℕ) → ((n * 2 + 1) % 2 == 0) ≡ false
odd n = let is : (n * 2 + 1) % 2 ≡ 1 = omega arith in rw is refl

abbrev pair : ℤ → ℤ → Times
pair s e = record { start = s; end = e }

pub points_agree : (conditions : List Condition) (times : Occurrence → Times) → Agree conditions (points_of conditions times) times
points_agree conditions times place c at =
    let here : event_at conditions times place ≡ times (occurrence conditions place c) = ap (times_here conditions times place) at in
    let half : place * 2 / 2 ≡ place = omega arith in
    let half_of_odd : (place * 2 + 1) / 2 ≡ place = omega arith in
    let start : points_of conditions times (start_point_of place) ≡ (times (occurrence conditions place c)).start =
    first_of_two (place * 2 % 2 == 0) (event_at conditions times (place * 2 / 2)).start (event_at conditions times (place * 2 / 2)).end (even place)
    ∙ ap (λ (n : ℕ). (event_at conditions times n).start) half ∙ ap (λ (y : Times). y.start) here in
    let end : points_of conditions times (end_of place) ≡ (times (occurrence conditions place c)).end =
    second_of_two ((place * 2 + 1) % 2 == 0) (event_at conditions times ((place * 2 + 1) / 2)).start (event_at conditions times ((place * 2 + 1) / 2)).end (odd place)
    ∙ ap (λ (n : ℕ). (event_at conditions times n).end) half_of_odd ∙ ap (λ (y : Times). y.end) here in
    equal_times start end
  where
    equal_times : {y : Times} {a b : ℤ} → a ≡ y.start → b ≡ y.end → y ≡ record { start = a; end = b }
    equal_times {y = y} {a = a} h k = sym (ap (λ (e : ℤ). pair a e) k ∙ ap (λ (s : ℤ). pair s y.end) h)
