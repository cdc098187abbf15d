-- Two lists of facts that differ by loose facts alone: what passes for an old pattern is the same.
use Rattle.life_laws.proofs.Common.{◌≡◌, ◌⊎◌, ℕ, ℤ, ◌+ℤ◌, ◌≤ℤ◌, true, false, cond, List, [], ◌∷◌, refl, sym, ◌∙◌, subst, ap, arith, inl, inr, filter, ints, In}
use Rattle.life_laws.proofs.Common.{Fact, Times, IsEvent, Pattern, Program, is_candidate, passes, passing, IsPossible, Snapshot, Tuple, bound_by, is_event}
use Rattle.life_laws.proofs.{Common.{is_point, is_reference, is_observed, lateness_of, passed, candidates, in_filter}, Basics.{two_filters}, Flagged.{Steady}}
use Rattle.{life_laws.proofs.Still.{Settled, Still, old, steady, counts, Counts, counts_parts, counts_join, stays, tail_of}, std.proofs.lemmas.Bool.{and_from}}
use Rattle.{std.proofs.lemmas.Bool.{false_from_ne_true}, rule_model.proofs.Named.{of_filter}, fx_base.proofs.Tests.{same_test}}

-- ---- members

pub of_counted : (p : Program) (q : Pattern) (s : Snapshot) (t : Tuple) (x : Fact) → In x (passing p q s t) → In x s.facts × Counts p q s t x
of_counted p q s t x h =
    let i = of_filter (passes q t) x (candidates p q s) h in (
      of_filter (is_candidate p q s) x s.facts i,
      counts_parts p q s t x (and_from _ _ (passed (is_candidate p q s) x s.facts i) (passed (passes q t) x (candidates p q s) h)),
    )

counted_in : (p : Program) (q : Pattern) (s : Snapshot) (t : Tuple) (x : Fact) → In x s.facts → Counts p q s t x → In x (passing p q s t)
counted_in p q s t x i k =
    subst (λ (fs : List Fact). In x fs) (sym (two_filters (passes q t) (is_candidate p q s) s.facts)) (in_filter (counts p q s t) x s.facts (counts_join p q s t x k) i)

-- ---- loose facts

-- What may stand in the list of one world and not of the other: a plain fact that is of no reference type, an event of a type that is not
-- observed and none of the tuple's, an event that is inserted at c.
pub data Loose (p : Program) (c : ℤ) (tuple : Tuple) (f : Fact) : Type 0 where
  a_fact : is_event p f.ty.0 ≡ false → is_reference p f.ty.0 ≡ false → Loose p c tuple f
  gone : is_event p f.ty.0 ≡ true → is_observed p f.ty.0 ≡ false → (In f tuple.facts → ⊥) → Loose p c tuple f
  fresh : is_event p f.ty.0 ≡ true → c ≤ℤ (f.times.start +ℤ lateness_of p f.entry.0) → Loose p c tuple f

abbrev pub Timed : Program → Fact → Type 0
Timed p f = is_event p f.ty.0 ≡ true → IsEvent (is_point p f.ty.0) f.times

pub data Shift (p : Program) (c : ℤ) (tuple : Tuple) : List Fact → List Fact → Type 0 where
  at_end : Shift p c tuple [] []
  same : {f : Fact} {xs ys : List Fact} → Timed p f → Shift p c tuple xs ys → Shift p c tuple (f ∷ xs) (f ∷ ys)
  less : {f : Fact} {xs ys : List Fact} → Timed p f → Loose p c tuple f → Shift p c tuple xs ys → Shift p c tuple (f ∷ xs) ys
  more : {f : Fact} {xs ys : List Fact} → Timed p f → Loose p c tuple f → Shift p c tuple xs ys → Shift p c tuple xs (f ∷ ys)

pub back : {p : Program} {c : ℤ} {tuple : Tuple} {xs ys : List Fact} → Shift p c tuple xs ys → Shift p c tuple ys xs
back at_end = at_end
back (same g s) = same g (back s)
back (less g l s) = more g l (back s)
back (more g l s) = less g l (back s)

pub shift_in : {p : Program} {c : ℤ} {tuple : Tuple} {xs ys : List Fact} (x : Fact) → Shift p c tuple xs ys → In x xs → Loose p c tuple x ⊎ In x ys
shift_in x at_end h = absurd h
shift_in x (same g s) (inl e) = inr (inl e)
shift_in x (same g s) (inr h) = elim (shift_in x s h) [ inl l ↦ inl l | inr q ↦ inr (inr q) ]
shift_in {p} {c} {tuple} x (less g l s) (inl e) = inl (subst (λ (y : Fact). Loose p c tuple y) (sym e) l)
shift_in x (less g l s) (inr h) = shift_in x s h
shift_in x (more g l s) h = elim (shift_in x s h) [ inl q ↦ inl q | inr q ↦ inr (inr q) ]

pub timed_in : {p : Program} {c : ℤ} {tuple : Tuple} {xs ys : List Fact} (x : Fact) → Shift p c tuple xs ys → In x xs → Timed p x
timed_in x at_end h = absurd h
timed_in {p} x (same g s) (inl e) = subst (λ (y : Fact). Timed p y) (sym e) g
timed_in x (same g s) (inr h) = timed_in x s h
timed_in {p} x (less g l s) (inl e) = subst (λ (y : Fact). Timed p y) (sym e) g
timed_in x (less g l s) (inr h) = timed_in x s h
timed_in x (more g l s) h = timed_in x s h

-- an event is no fact of a reference type
no_event : (p : Program) (q : Pattern) (f : Fact) → f.ty.0 ≡ q.ty.0 → Steady p q → is_event p f.ty.0 ≡ true → ⊥
no_event p q f ty is event = let e : true ≡ false = sym event ∙ ap (is_event p) ty ∙ is.plain in absurd cc

-- a loose fact that counts for a settled pattern is a retracted event
loose_not : (p : Program) (c : ℤ) (tuple : Tuple) (q : Pattern) (f : Fact) → f.ty.0 ≡ q.ty.0 → f.entry.0 ≡ q.entry.0 → Still p c q f.times
    → Loose p c tuple f → (is_event p f.ty.0 ≡ true → is_observed p f.ty.0 ≡ false → (In f tuple.facts → ⊥) → ⊥) → ⊥
loose_not p c tuple q f ty entry (steady is) (a_fact plain changes) k =
    let e : true ≡ false = sym is.reference ∙ ap (is_reference p) (sym ty) ∙ changes in absurd cc
loose_not p c tuple q f ty entry (old event s) (a_fact plain changes) k =
    let e : true ≡ false = sym event ∙ ap (is_event p) (sym ty) ∙ plain in absurd cc
loose_not p c tuple q f ty entry still (gone event a b) k = k event a b
loose_not p c tuple q f ty entry (steady is) (fresh event late) k = no_event p q f ty is event
loose_not p c tuple q f ty entry (old is_event s) (fresh event late) k =
    let l : c ≤ℤ (f.times.start +ℤ lateness_of p q.entry.0) = subst (λ (x : ℕ). c ≤ℤ (f.times.start +ℤ lateness_of p x)) entry late in
    let m = (tail_of p c q f.times s).late in
    let o = s.2 in
    absurd (omega (arith, ints))

-- ---- what passes for a not, an exists or an accumulate

-- all possible events of the pattern for the tuple are older than its tail
pub record Aged (p : Program) (c : ℤ) (q : Pattern) (t : Tuple) : Type 0 where
  pub event : is_event p q.ty.0 ≡ true
  pub observed : is_observed p q.ty.0 ≡ true
  pub old : (y : Times) → IsPossible p q (bound_by t) y → Settled p c q y

-- what is asked of the pattern of a condition that binds no fact
pub data Calm (p : Program) (c : ℤ) (q : Pattern) (t : Tuple) : Type 0 where
  aged : Aged p c q t → Calm p c q t
  fixed : Steady p q → Calm p c q t

still_of : (p : Program) (c : ℤ) (q : Pattern) (s : Snapshot) (t : Tuple) (f : Fact) → Calm p c q t → Timed p f → Counts p q s t f → Still p c q f.times
still_of p c q s t f (fixed is) g h = steady is
still_of p c q s t f (aged a) g h =
    old a.event (a.old f.times (record { event = subst (λ (x : ℕ). IsEvent (is_point p x) f.times) h.ty (g (ap (is_event p) h.ty ∙ a.event)); tests = h.times }))

-- a retracted event counts for no calm pattern
not_gone : (p : Program) (c : ℤ) (q : Pattern) (t : Tuple) (f : Fact) → Calm p c q t → f.ty.0 ≡ q.ty.0 → is_event p f.ty.0 ≡ true → is_observed p f.ty.0 ≡ false → ⊥
not_gone p c q t f (fixed is) ty event unseen = no_event p q f ty is event
not_gone p c q t f (aged a) ty event unseen = let e : true ≡ false = sym a.observed ∙ ap (is_observed p) (sym ty) ∙ unseen in absurd cc

counts_too : (p : Program) (c : ℤ) (q : Pattern) (s o : Snapshot) (t : Tuple) (f : Fact) → Calm p c q t → Timed p f → c ≤ℤ s.clock → counts p q s t f ≡ true → counts p q o t f ≡ true
counts_too p c q s o t f a g from h =
    let k = counts_parts p q s t f h in
    counts_join p q o t f (stays p q s o c t f from (still_of p c q s t f a g k) k)

loose_out : (p : Program) (c : ℤ) (tuple : Tuple) (q : Pattern) (s : Snapshot) (t : Tuple) (f : Fact) → Calm p c q t → Timed p f → Loose p c tuple f → counts p q s t f ≡ false
loose_out p c tuple q s t f a g l = false_from_ne_true (counts p q s t f) (λ h.
    let k = counts_parts p q s t f h in
    loose_not p c tuple q f k.ty k.entry (still_of p c q s t f a g k) l (λ event unseen own. not_gone p c q t f a k.ty event unseen))

counted_same : (p : Program) (c : ℤ) (tuple : Tuple) (q : Pattern) (s o : Snapshot) (t : Tuple) → Calm p c q t → c ≤ℤ s.clock → c ≤ℤ o.clock → {xs ys : List Fact} → Shift p c tuple xs ys
    → filter (counts p q s t) xs ≡ filter (counts p q o t) ys
counted_same p c tuple q s o t a from to at_end = refl
counted_same p c tuple q s o t a from to (same {f} {xs} {ys} g r) =
    ap (λ b. cond b (f ∷ filter (counts p q s t) xs) (filter (counts p q s t) xs))
    (same_test (counts p q s t f) (counts p q o t f) (counts_too p c q s o t f a g from) (counts_too p c q o s t f a g to))
    ∙ ap (λ (fs : List Fact). cond (counts p q o t f) (f ∷ fs) fs) (counted_same p c tuple q s o t a from to r)
counted_same p c tuple q s o t a from to (less {f} {xs} {ys} g l r) =
    ap (λ b. cond b (f ∷ filter (counts p q s t) xs) (filter (counts p q s t) xs)) (loose_out p c tuple q s t f a g l) ∙ counted_same p c tuple q s o t a from to r
counted_same p c tuple q s o t a from to (more {f} {xs} {ys} g l r) =
    counted_same p c tuple q s o t a from to r ∙ sym (ap (λ b. cond b (f ∷ filter (counts p q o t) ys) (filter (counts p q o t) ys)) (loose_out p c tuple q o t f a g l))

-- the same facts pass
pub passing_same : (p : Program) (c : ℤ) (tuple : Tuple) (q : Pattern) (s o : Snapshot) (t : Tuple) → Calm p c q t → c ≤ℤ s.clock → c ≤ℤ o.clock → Shift p c tuple s.facts o.facts
    → passing p q s t ≡ passing p q o t
passing_same p c tuple q s o t a from to r =
    two_filters (passes q t) (is_candidate p q s) s.facts ∙ counted_same p c tuple q s o t a from to r ∙ sym (two_filters (passes q t) (is_candidate p q o) o.facts)

-- ---- a fact of the tuple

pub own_stays : (p : Program) (c : ℤ) (tuple : Tuple) (q : Pattern) (s o : Snapshot) (t : Tuple) (x : Fact) → c ≤ℤ s.clock → Shift p c tuple s.facts o.facts
    → In x tuple.facts → Still p c q x.times → In x (passing p q s t) → In x (passing p q o t)
own_stays p c tuple q s o t x from r own still h =
    let k = of_counted p q s t x h in
    let there : In x o.facts = elim (shift_in x r k.0) [
      | inl l ↦ absurd (loose_not p c tuple q x k.1.ty k.1.entry still l (λ event unseen other. other own))
      | inr there ↦ there
    ] in
    counted_in p q o t x there (stays p q s o c t x from still k.1)
