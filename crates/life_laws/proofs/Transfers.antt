-- A tuple of which every condition is settled is made over both snapshots or over none.
use Rattle.life_laws.proofs.Common.{◌≡◌, ℕ, suc, ℤ, ◌-ℤ◌, ◌≤ℤ◌, List, [], ◌∷◌, ◌++◌, length, Some, sym, ◌∙◌, ap, subst, arith, slice_get, ints, In, Fact}
use Rattle.life_laws.proofs.Common.{Condition, Plain, Negated, Existing, Folded, Pattern, Program, Times, passing, IsPossible, Makes, Snapshot, Tuple, bound_by}
use Rattle.life_laws.proofs.Common.{lateness_of, in_place, length-append, IsMature, of_plain, of_none, of_unbounded, of_past, result_of, floor}
use Rattle.life_laws.proofs.{Basics.{Front, times_grow}, Still.{Still, tail_of}, Shifts.{Calm, aged, fixed, Shift, back, passing_same, own_stays}}
use Rattle.{rule_model.proofs.{Grown.{makes_grow, begins}, Floors.{clock_below_floor}}, fx_base.proofs.Sequences.{get-append_left, get-last}}

pub front_of : (p : Program) (s : Snapshot) (cs : List Condition) (t made : Tuple) → Makes p s cs t made → Front t made
front_of p s cs t made h = begins p s cs t made (makes_grow p s cs t made h)

possible_grows : (p : Program) (q : Pattern) (t made : Tuple) (y : Times) → Front t made → IsPossible p q (bound_by t) y → IsPossible p q (bound_by made) y
possible_grows p q t made y f h = record { event = h.event; tests = times_grow q.times y t made f h.tests }

calm_front : (p : Program) (c : ℤ) (q : Pattern) (t made : Tuple) → Front t made → Calm p c q made → Calm p c q t
calm_front p c q t made f (fixed is) = fixed is
calm_front p c q t made f (aged a) = aged (record { event = a.event; observed = a.observed; old = λ y h. a.old y (possible_grows p q t made y f h) })

-- ---- maturity

-- what is settled for a negative pattern is mature at both moments or at none
mature_too : (p : Program) (c now later : ℤ) (q : Pattern) (t : Tuple) → Calm p c q t → (c -ℤ lateness_of p q.entry.0) ≤ℤ later → IsMature p q (bound_by t) now → IsMature p q (bound_by t) later
mature_too p c now later q t a from (of_plain e) = of_plain e
mature_too p c now later q t a from (of_none h) = of_none h
mature_too p c now later q t a from (of_unbounded h) = of_unbounded h
mature_too p c now later q t (fixed is) from (of_past u last before) = of_plain is.plain
mature_too p c now later q t (aged a) from (of_past u last before) =
    let s = a.old last.event last.possible in
    let l = (tail_of p c q last.event s).late in
    let o = s.2 in
    let starts = last.starts in
    of_past u last (omega (arith, ints))

floor_from : (p : Program) (s : Snapshot) (c : ℤ) (entry : ℕ) → c ≤ℤ s.clock → (c -ℤ lateness_of p entry) ≤ℤ floor p s entry
floor_from p s c entry from = omega (arith, ints, clock_below_floor p s entry)

-- ---- conditions

-- every condition is settled: one that binds a fact at the tuple's own fact, another at each possible event
abbrev pub AllAged : Program → ℤ → Tuple → ℕ → List Condition → Type 0
AllAged p c tuple m [] = Unit {0}
AllAged p c tuple m (Plain q ∷ cs) = ((f : Fact) → slice_get tuple.facts m ≡ Some f → Still p c q f.times) × AllAged p c tuple (suc m) cs
AllAged p c tuple m (Negated q ∷ cs) = Calm p c q tuple × AllAged p c tuple m cs
AllAged p c tuple m (Existing q ∷ cs) = Calm p c q tuple × AllAged p c tuple m cs
AllAged p c tuple m (Folded a ∷ cs) = Calm p c a.pattern tuple × AllAged p c tuple m cs

all_at : (p : Program) (c : ℤ) (tuple : Tuple) (m k : ℕ) (cs : List Condition) → m ≡ k → AllAged p c tuple m cs → AllAged p c tuple k cs
all_at p c tuple m k cs e h = subst (λ (v : ℕ). AllAged p c tuple v cs) e h

-- the two snapshots
pub record Turns (p : Program) (c : ℤ) (tuple : Tuple) (s o : Snapshot) : Type 0 where
  pub shift : Shift p c tuple s.facts o.facts
  pub from : c ≤ℤ s.clock
  pub to : c ≤ℤ o.clock

pub turned : (p : Program) (c : ℤ) (tuple : Tuple) (s o : Snapshot) → Turns p c tuple s o → Turns p c tuple o s
turned p c tuple s o t = record { shift = back t.shift; from = t.to; to = t.from }

pub longer : (t next : Tuple) (f : Fact) → next.facts ≡ t.facts ++ f ∷ [] → suc (length t.facts) ≡ length next.facts
longer t next f e =
    let k : length next.facts ≡ length (t.facts ++ f ∷ []) = ap (λ (fs : List Fact). length fs) e in
    omega (arith, k, length-append t.facts (f ∷ []))

pub next_place : (t next made : Tuple) (f : Fact) → next.facts ≡ t.facts ++ f ∷ [] → Front next made → slice_get made.facts (length t.facts) ≡ Some f
next_place t next made f e front =
    ap (λ (fs : List Fact). slice_get fs (length t.facts)) (front.1 ∙ ap (λ (fs : List Fact). fs ++ front.0) e)
    ∙ get-append_left (t.facts ++ f ∷ []) front.0 (length t.facts) f (get-last t.facts f)

module _ (p : Program) (c : ℤ) (tuple : Tuple) (s o : Snapshot) (r : Turns p c tuple s o) where
  same_passing : (q : Pattern) (t : Tuple) → Front t tuple → Calm p c q tuple → passing p q s t ≡ passing p q o t
  same_passing q t front a = passing_same p c tuple q s o t (calm_front p c q t tuple front a) r.from r.to r.shift

  same_length : (t next : Tuple) (cs : List Condition) → next.facts ≡ t.facts → AllAged p c tuple (length t.facts) cs → AllAged p c tuple (length next.facts) cs
  same_length t next cs e a = all_at p c tuple (length t.facts) (length next.facts) cs (ap (λ (fs : List Fact). length fs) (sym e)) a

  pub transfer : (cs : List Condition) (t : Tuple) → AllAged p c tuple (length t.facts) cs → Makes p s cs t tuple → Makes p o cs t tuple
  transfer [] t a h = h
  transfer (Plain q ∷ cs) t a h =
      let e = ap (λ (u : Tuple). u.facts) h.1.2 in
      let place = next_place t h.0 tuple h.1.0 e (front_of p s cs h.0 tuple h.2) in
      let own : In h.1.0 tuple.facts = in_place tuple.facts (length t.facts) h.1.0 place in
      let next = all_at p c tuple (suc (length t.facts)) (length h.0.facts) cs (longer t h.0 h.1.0 e) a.1 in
      (h.0, (h.1.0, own_stays p c tuple q s o t h.1.0 r.from r.shift own (a.0 h.1.0 place) h.1.1, h.1.2), transfer cs h.0 next h.2)
  transfer (Negated q ∷ cs) t a h =
      let front = front_of p s (Negated q ∷ cs) t tuple h in
      let e = ap (λ (u : Tuple). u.facts) h.1.2 in
      let mature = mature_too p c (floor p s q.entry.0) (floor p o q.entry.0) q t (calm_front p c q t tuple front a.0) (floor_from p o c q.entry.0 r.to) h.1.1 in
      (h.0, (sym (same_passing q t front a.0) ∙ h.1.0, mature, h.1.2), transfer cs h.0 (same_length t h.0 cs e a.1) h.2)
  transfer (Existing q ∷ cs) t a h =
      let front = front_of p s (Existing q ∷ cs) t tuple h in
      let e = ap (λ (u : Tuple). u.facts) h.1.2 in
      (h.0, (h.1.0, subst (λ (fs : List Fact). In h.1.0 fs) (same_passing q t front a.0) h.1.1, h.1.2), transfer cs h.0 (same_length t h.0 cs e a.1) h.2)
  transfer (Folded a' ∷ cs) t a h =
      let front = front_of p s (Folded a' ∷ cs) t tuple h in
      let e = ap (λ (u : Tuple). u.facts) h.1.3 in
      (h.0, (h.1.0, ap (result_of a') (sym (same_passing a'.pattern t front a.0)) ∙ h.1.1, h.1.2, h.1.3), transfer cs h.0 (same_length t h.0 cs e a.1) h.2)
