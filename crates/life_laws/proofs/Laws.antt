-- The law of changes.
use Rattle.life_laws.proofs.Common.{◌≡◌, ◌⊎◌, ◌||◌, ℕ, zero, suc, ◌+◌, ◌<◌, ℤ, ◌+ℤ◌, ◌-ℤ◌, ◌≤ℤ◌, ◌<ℤ◌, Bool, true, false, List, [], ◌∷◌, Option, Some, None}
use Rattle.life_laws.proofs.Common.{refl, sym, ◌∙◌, ap, subst, arith, inl, inr, slice_get, take, ints, by_lt_z, In, Fact, Times, IsEvent, Condition, Plain}
use Rattle.life_laws.proofs.Common.{Negated, Existing, Folded, Pattern, WindowTag, Whole, Time, Length, Program, Rule, is_inside, passing, IsPossible}
use Rattle.life_laws.proofs.Common.{pattern_of, Snapshot, Tuple, empty_tuple, bound_by, is_event, is_point, is_observed, in_place, snapshot, moved, bindings}
use Rattle.life_laws.proofs.Common.{binds, finite, infinite, Placed, scope, IsLife, Made, IsFlagged, list_any, observes, observes_type, occurrence, OfRule}
use Rattle.life_laws.proofs.{Common.{OfPrefix}, Shifts.{of_counted, Timed, timed_in}, Transfers.{Turns, turned, transfer}, Anchors.{Anchor, aged_at, all_aged}}
use Rattle.{life_laws.proofs.{Places.{Stands, stands_at, standing}, Flagged.{steady_of, quiet_of}, Moves.{turns_of}}, std.proofs.lemmas.Bool.{and_from, eq-eqb}}
use Rattle.{life_meaning.proofs.Limits.{Limits, limits_of, lives_below, times_or, times_of, HasBound}, fx_base.proofs.Orders.{int_lt-true}}

-- ---- observed types

any_here : {A : Type 0} (test : A → Bool) (x : A) (xs : List A) → In x xs → test x ≡ true → list_any test xs ≡ true
any_here test x [] i e = absurd i
any_here test x (y ∷ xs) (inl h) e = left_or (test y) (list_any test xs) (ap test (sym h) ∙ e)
  where
    left_or : (a b : Bool) → a ≡ true → (a || b) ≡ true
    left_or true b k = refl
    left_or false b k = absurd cc
any_here test x (y ∷ xs) (inr i) e = right_or (test y) (list_any test xs) (any_here test x xs i e)
  where
    right_or : (a b : Bool) → b ≡ true → (a || b) ≡ true
    right_or true b k = refl
    right_or false b k = k

side_observes : (d : Condition) → binds d ≡ false → observes d ≡ true
side_observes (Plain q) e = absurd cc
side_observes (Negated q) e = refl
side_observes (Existing q) e = refl
side_observes (Folded a) e = refl

-- an event type that a condition of a rule observes is one that the program calls observed
pub observed_of : (p : Program) (rule : Rule) → IsFlagged p → In rule p.rules → (k : ℕ) (d : Condition) → slice_get rule.conditions k ≡ Some d → binds d ≡ false
    → is_event p (pattern_of d).ty.0 ≡ true → is_observed p (pattern_of d).ty.0 ≡ true
observed_of p rule flagged in_rules k d at_k side_k event =
    flagged.observed (pattern_of d).ty.0 ∙ and_from _ _ event
    (any_here (λ (r : Rule). list_any (observes_type (pattern_of d).ty.0) r.conditions) rule p.rules in_rules
    (any_here (observes_type (pattern_of d).ty.0) d rule.conditions (in_place rule.conditions k d at_k)
    (and_from _ _ (side_observes d side_k) (eq-eqb (pattern_of d).ty.0 (pattern_of d).ty.0 refl))))

-- ---- a pattern with a window

-- an event past its life is in no window of its pattern
outside : (p : Program) (ty : ℕ) (n c : ℤ) (rule : Rule) (i : Placed) (s : Snapshot) (f : Fact) (window : WindowTag) → IsLife p ty (finite n) → In rule p.rules
    → slice_get rule.conditions i.place ≡ Some i.condition → (pattern_of i.condition).ty.0 ≡ ty → (pattern_of i.condition).window ≡ window
    → is_inside p (pattern_of i.condition) window s.clock s.facts f ≡ true → f.times.start ≤ℤ f.times.end → c ≤ℤ s.clock → (f.times.end +ℤ n) <ℤ c → window ≡ Whole
outside p ty n c rule i s f Whole life in_rules at_i of_type is_w h order from old = refl
outside p ty n c rule i s f (Time span) life in_rules at_i of_type is_w h order from old =
    let k : span ≤ℤ n = lives_below p ty n rule i life in_rules at_i of_type (Time span) (finite span) is_w refl in
    let l = int_lt-true (s.clock -ℤ f.times.start) span h in
    absurd (omega (arith, ints))
outside p ty n c rule i s f (Length count) life in_rules at_i of_type is_w h order from old =
    absurd (lives_below p ty n rule i life in_rules at_i of_type (Length count) infinite is_w refl)

-- ---- tuples of all conditions

possible_of : (p : Program) (c : ℤ) (s o : Snapshot) (tuple : Tuple) (q : Pattern) (x : Fact) → Turns p c tuple s o → is_event p q.ty.0 ≡ true → Stands p s tuple q x
    → IsPossible p q (bound_by tuple) x.times
possible_of p c s o tuple q x t event h =
    record { event = subst (λ (v : ℕ). IsEvent (is_point p v) x.times) h.ty (timed_in x t.shift h.there (ap (is_event p) h.ty ∙ event)); tests = h.times }

bound_of : (p : Program) (c : ℤ) (s o : Snapshot) (cs : List Condition) (tuple : Tuple) → Turns p c tuple s o → Made p s cs tuple → (k : ℕ) (q : Pattern)
    → slice_get cs k ≡ Some (Plain q) → is_event p q.ty.0 ≡ true → HasBound p cs tuple k q
bound_of p c s o cs tuple t h k q at_k event =
    let r = stands_at p s tuple cs empty_tuple h k q at_k in
    let m : 0 + bindings (take k cs) ≡ bindings (take k cs) = omega arith in
    (r.0, ap (slice_get tuple.facts) (sym m) ∙ r.1, possible_of p c s o tuple q r.0 t event r.2)

not_side : (cs : List Condition) (k i : ℕ) (d : Condition) (q : Pattern) → slice_get cs k ≡ Some d → slice_get cs i ≡ Some (Plain q) → binds d ≡ false → k ≡ i → ⊥
not_side cs k i d q at_k at_i side_k e =
    let a : Some d ≡ Some (Plain q) = sym at_k ∙ ap (slice_get cs) e ∙ at_i in
    let b : d ≡ Plain q = cc in
    let f : true ≡ false = ap binds (sym b) ∙ side_k in
    absurd cc

whole_rule : (p : Program) (c n : ℤ) (s o : Snapshot) (rule : Rule) (tuple : Tuple) (x : Fact) (i : ℕ) (q : Pattern) → IsFlagged p → Turns p c tuple s o → In rule p.rules
    → Made p s rule.conditions tuple → slice_get rule.conditions i ≡ Some (Plain q) → slice_get tuple.facts (bindings (take i rule.conditions)) ≡ Some x
    → x.ty.0 ≡ q.ty.0 → q.window ≡ Whole → IsLife p x.ty.0 (finite n) → (x.times.end +ℤ n) <ℤ c → Made p o rule.conditions tuple
whole_rule p c n s o rule tuple x i q flagged t in_rules h at_i at_x ty is_whole life old =
    let here : Placed = record { place = i; condition = Plain q } in
    let anchor : Anchor p c n rule.conditions here tuple x.times = record {
      limits = limits_of p x.ty.0 n rule here life in_rules at_i (sym ty) is_whole;
      on_bound = bound_of p c s o rule.conditions tuple t h;
      own = λ k d at_k side_k e. absurd (not_side rule.conditions k i d q at_k at_i side_k e);
      there = λ sides e. ap times_or at_x;
      observed = observed_of p rule flagged in_rules;
      past_life = old;
      steadies = λ j at_j e. steady_of p rule flagged in_rules j.place j.condition at_j e;
    } in
    transfer p c tuple s o t rule.conditions empty_tuple
    (all_aged p c tuple rule.conditions 0 (λ k d at_k.
    let m : 0 + bindings (take k rule.conditions) ≡ bindings (take k rule.conditions) = omega arith in
    rw m (aged_at p c n rule.conditions here tuple x.times anchor k d at_k (λ side_k. not_side rule.conditions k i d q at_k at_i side_k)))) h

-- a tuple with an event past its life stays
rule_stays : (p : Program) (c n : ℤ) (s o : Snapshot) (rule : Rule) (tuple : Tuple) (x : Fact) → IsFlagged p → Turns p c tuple s o → In rule p.rules
    → Made p s rule.conditions tuple → In x tuple.facts → IsLife p x.ty.0 (finite n) → (x.times.end +ℤ n) <ℤ c → Made p o rule.conditions tuple
rule_stays p c n s o rule tuple x flagged t in_rules h own life old =
    let r = standing p s tuple rule.conditions x h own in
    let timed = timed_in x t.shift r.stands.there life.event in
    let is_whole = outside p x.ty.0 n c rule (record { place = r.place; condition = Plain r.pattern }) s x r.pattern.window life in_rules r.placed (sym r.stands.ty) refl r.stands.inside timed.ordered t.from old in
    whole_rule p c n s o rule tuple x r.place r.pattern flagged t in_rules h r.placed r.at_place r.stands.ty is_whole life old

rule_within : (p : Program) (c n : ℤ) (s o : Snapshot) (rule : Rule) (tuple : Tuple) (x : Fact) → IsFlagged p → Turns p c tuple s o → In rule p.rules
    → Made p s rule.conditions tuple → (Made p o rule.conditions tuple → ⊥) → In x tuple.facts → IsLife p x.ty.0 (finite n) → c ≤ℤ (x.times.end +ℤ n)
rule_within p c n s o rule tuple x flagged t in_rules h not_made own life =
    by_lt_z (x.times.end +ℤ n) c (λ old. absurd (not_made (rule_stays p c n s o rule tuple x flagged t in_rules h own life old))) (λ le. le)

pub of_rule : OfRule
of_rule p w step flagged law none rule in_rules tuple keeps (inl d) x own n life =
    let next = snapshot (moved p w step) in
    let quiet = quiet_of p w x flagged law life.event step none (inl (standing p (snapshot w) tuple rule.conditions x d.0 own).stands.there) in
    rule_within p w.clock n (snapshot w) next rule tuple x flagged (turns_of p w step tuple law none keeps quiet) in_rules d.0 d.1 own life
of_rule p w step flagged law none rule in_rules tuple keeps (inr d) x own n life =
    let next = snapshot (moved p w step) in
    let quiet = quiet_of p w x flagged law life.event step none (inr (standing p next tuple rule.conditions x d.0 own).stands.there) in
    rule_within p w.clock n next (snapshot w) rule tuple x flagged
    (turned p w.clock tuple (snapshot w) next (turns_of p w step tuple law none keeps quiet)) in_rules d.0 d.1 own life

-- ---- tuples of the conditions before one that binds no fact

none_at : (d : Condition) → ◌≡◌ {A = Option Condition} None (Some d) → ⊥
none_at d e = absurd cc

one_more : (c : Condition) (xs ys : List Condition) → bindings xs ≡ bindings ys → bindings (c ∷ xs) ≡ bindings (c ∷ ys)
one_more (Plain q) xs ys e = ap suc e
one_more (Negated q) xs ys e = e
one_more (Existing q) xs ys e = e
one_more (Folded a) xs ys e = e

-- a place before q is the same in the first q and in the first q + 1 conditions
abbrev Earlier : List Condition → ℕ → ℕ → Condition → Type 0
Earlier cs q k d = (slice_get (take q cs) k ≡ Some d) × (bindings (take k (take (suc q) cs)) ≡ bindings (take k (take q cs)))

earlier : (cs : List Condition) (q k : ℕ) (d : Condition) → slice_get (take (suc q) cs) k ≡ Some d → (k ≡ q) ⊎ Earlier cs q k d
earlier [] q k d e = absurd (none_at d e)
earlier (c ∷ cs) zero zero d e = inl refl
earlier (c ∷ cs) zero (suc k) d e = absurd (none_at d e)
earlier (c ∷ cs) (suc q) zero d e = inr (e, refl)
earlier (c ∷ cs) (suc q) (suc k) d e = elim (earlier cs q k d e) [
  | inl a ↦ inl (ap suc a)
  | inr b ↦ inr (b.0, one_more c (take k (take (suc q) cs)) (take k (take q cs)) b.1)
]

of_first : (cs : List Condition) (q k : ℕ) (d : Condition) → slice_get (take q cs) k ≡ Some d → slice_get cs k ≡ Some d
of_first cs zero k d e = absurd (none_at d e)
of_first [] (suc q) k d e = absurd (none_at d e)
of_first (c ∷ cs) (suc q) zero d e = e
of_first (c ∷ cs) (suc q) (suc k) d e = of_first cs q k d e

-- what is before q is in the first q + 1 conditions, at the same place
onward : (cs : List Condition) (q k : ℕ) (d : Condition) → slice_get (take q cs) k ≡ Some d
    → (slice_get (take (suc q) cs) k ≡ Some d) × (k < q) × (bindings (take k (take (suc q) cs)) ≡ bindings (take k (take q cs)))
onward cs zero k d e = absurd (none_at d e)
onward [] (suc q) k d e = absurd (none_at d e)
onward (c ∷ cs) (suc q) zero d e = (e, omega arith, refl)
onward (c ∷ cs) (suc q) (suc k) d e = let o = onward cs q k d e in (o.0, omega (arith, o.1), one_more c (take k (take (suc q) cs)) (take k (take q cs)) o.2)

side_scope : (cs : List Condition) (i : ℕ) (c : Condition) → binds c ≡ false → scope cs (record { place = i; condition = c }) ≡ take (suc i) cs
side_scope cs i (Plain q) e = absurd cc
side_scope cs i (Negated q) e = refl
side_scope cs i (Existing q) e = refl
side_scope cs i (Folded a) e = refl

side_there : (cs : List Condition) (i : ℕ) (c : Condition) (facts : List Fact) (z : Times) → binds c ≡ false → (sides : ℕ → Times) → sides i ≡ z → times_of facts sides (occurrence cs i c) ≡ z
side_there cs i (Plain q) facts z e sides h = absurd cc
side_there cs i (Negated q) facts z e sides h = h
side_there cs i (Existing q) facts z e sides h = h
side_there cs i (Folded a) facts z e sides h = h

whole_prefix : (p : Program) (c n : ℤ) (s o : Snapshot) (rule : Rule) (tuple : Tuple) (x : Fact) (q : ℕ) (d : Condition) → IsFlagged p → Turns p c tuple s o → In rule p.rules
    → Made p s (take q rule.conditions) tuple → slice_get rule.conditions q ≡ Some d → binds d ≡ false → IsPossible p (pattern_of d) (bound_by tuple) x.times
    → x.ty.0 ≡ (pattern_of d).ty.0 → (pattern_of d).window ≡ Whole → IsLife p x.ty.0 (finite n) → (x.times.end +ℤ n) <ℤ c → Made p o (take q rule.conditions) tuple
whole_prefix p c n s o rule tuple x q d flagged t in_rules h at_q side_q possible ty is_whole life old =
    let cs = rule.conditions in
    let here : Placed = record { place = q; condition = d } in
    let anchor : Anchor p c n (take (suc q) cs) here tuple x.times = record {
      limits = subst (λ (ds : List Condition). Limits p ds here n) (side_scope cs q d side_q) (limits_of p x.ty.0 n rule here life in_rules at_q (sym ty) is_whole);
      on_bound = λ k r at_k event. elim (earlier cs q k (Plain r) at_k) [
        | inl e ↦ absurd (not_side cs q k d r at_q (of_first cs (suc q) k (Plain r) at_k) side_q (sym e))
        | inr b ↦ let u = bound_of p c s o (take q cs) tuple t h k r b.0 event in (u.0, ap (slice_get tuple.facts) b.1 ∙ u.1, u.2)
      ];
      own = λ k g at_k side_k e.
          let both_there : Some d ≡ Some g = sym at_q ∙ ap (slice_get cs) (sym e) ∙ of_first cs (suc q) k g at_k in
          let one : d ≡ g = cc in
          subst (λ (v : Condition). IsPossible p (pattern_of v) (bound_by tuple) x.times) one possible;
      there = side_there (take (suc q) cs) q d tuple.facts x.times side_q;
      observed = λ k g at_k side_k event. observed_of p rule flagged in_rules k g (of_first cs (suc q) k g at_k) side_k event;
      past_life = old;
      steadies = λ j at_j e. steady_of p rule flagged in_rules j.place j.condition (of_first cs (suc q) j.place j.condition at_j) e;
    } in
    transfer p c tuple s o t (take q cs) empty_tuple
    (all_aged p c tuple (take q cs) 0 (λ k g at_k.
    let v = onward cs q k g at_k in
    let m : 0 + bindings (take k (take q cs)) ≡ bindings (take k (take (suc q) cs)) = omega (arith, v.2) in
    rw m (aged_at p c n (take (suc q) cs) here tuple x.times anchor k g v.0 (λ side_k e. omega (arith, v.1))))) h

prefix_within : (p : Program) (c n : ℤ) (s o v : Snapshot) (rule : Rule) (tuple : Tuple) (x : Fact) (q : ℕ) (d : Condition) → IsFlagged p → Turns p c tuple s o → c ≤ℤ v.clock
    → (In x v.facts → Timed p x) → In rule p.rules → Made p s (take q rule.conditions) tuple → (Made p o (take q rule.conditions) tuple → ⊥)
    → slice_get rule.conditions q ≡ Some d → binds d ≡ false → In x (passing p (pattern_of d) v tuple) → IsLife p x.ty.0 (finite n) → c ≤ℤ (x.times.end +ℤ n)
prefix_within p c n s o v rule tuple x q d flagged t from timed in_rules h not_made at_q side_q passes life =
    by_lt_z (x.times.end +ℤ n) c (λ old.
    let k = of_counted p (pattern_of d) v tuple x passes in
    let g = timed k.0 life.event in
    let is_whole = outside p x.ty.0 n c rule (record { place = q; condition = d }) v x (pattern_of d).window life in_rules at_q (sym k.1.ty) refl k.1.inside g.ordered from old in
    let possible : IsPossible p (pattern_of d) (bound_by tuple) x.times = record { event = subst (λ (m : ℕ). IsEvent (is_point p m) x.times) k.1.ty g; tests = k.1.times } in
    absurd (not_made (whole_prefix p c n s o rule tuple x q d flagged t in_rules h at_q side_q possible k.1.ty is_whole life old)))
    (λ le. le)

pub of_prefix : OfPrefix
of_prefix p w step flagged law none rule in_rules tuple keeps q d at_q side_q (inl e) x passes n life =
    let next = snapshot (moved p w step) in
    let quiet = quiet_of p w x flagged law life.event step none (inr (of_counted p (pattern_of d) next tuple x passes).0) in
    let t = turns_of p w step tuple law none keeps quiet in
    let b = turned p w.clock tuple (snapshot w) next t in
    prefix_within p w.clock n (snapshot w) next next rule tuple x q d flagged t t.to (timed_in x b.shift) in_rules e.0 e.1 at_q side_q passes life
of_prefix p w step flagged law none rule in_rules tuple keeps q d at_q side_q (inr e) x passes n life =
    let next = snapshot (moved p w step) in
    let quiet = quiet_of p w x flagged law life.event step none (inr (of_counted p (pattern_of d) next tuple x passes).0) in
    let t = turns_of p w step tuple law none keeps quiet in
    let b = turned p w.clock tuple (snapshot w) next t in
    prefix_within p w.clock n next (snapshot w) next rule tuple x q d flagged b t.to (timed_in x b.shift) in_rules e.0 e.1 at_q side_q passes life
