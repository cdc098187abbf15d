-- The function says of what was bound that it is mature exactly where it is.
use Rattle.rule_model.proofs.Common.{◌≡◌, ◌↔◌, ◌&&◌, ◌||◌, not, ℤ, ◌+ℤ◌, ◌≤ℤ◌, pos, Bool, true, false, List, [], ◌∷◌, Option, Some, None, option_map, refl, sym}
use Rattle.rule_model.proofs.Common.{◌∙◌, ap, subst, arith, ints, Fact, Pattern, Program, AreOperators, IsPossible, IsMature, of_plain, of_none, of_unbounded}
use Rattle.rule_model.proofs.Common.{of_past, bounds_of, window_by_lists, start_window_at, is_past, times_hold, time_holds_with, Bindings, All, is_event}
use Rattle.rule_model.{proofs.Common.{is_point, int_lt-true, lt-int_lt}, specs.{Maturity.{is_mature}, declared.test.TimeTest.{TimeTest}}}
use Rattle.std.{proofs.{Math.Bool.{and-false}, lemmas.List.Elements.{All-nil, All-cons, All-head, All-tail}}, specs.Option.{option_and_then}}
use Rattle.{fx_base.specs.declared.times.Times.{Times}, temporal_ops.specs.declared.{edge.OpEdge.{OpEdge}, window.Window.{Window, TheVariants.{Never, UpTo}}}}
use Rattle.temporal_ops.specs.{declared.window.Window.TheVariants.{Unbounded}, Edges.{edges_hold, IsOpEdge, Joins}, Possible.{IsNone, AreStarts, all_hold}}
use Rattle.temporal_ops.{specs.Starts.{starts_window}, proofs.WindowOfEdges.{window_is_of_edges}}
use Rattle.temporal_ops.specs.Possible as possible

abbrev pub Bounds : Type 0
Bounds = List (List OpEdge × Times)

-- what the tests say of times, by the bounds that they give
abbrev TimesAs : Option Bounds → Times → Bool → Type 0
TimesAs None y b = b ≡ false
TimesAs (Some bounds) y b = b ≡ all_hold bounds y

one_more : (test : TimeTest) (y : Times) (o : Option Fact) (rest : Option Bounds) (more : Bool) → TimesAs rest y more
    → TimesAs (option_and_then (λ b. option_map (λ bs. b ∷ bs) rest) (option_map (λ (f : Fact). (test.op, f.times)) o)) y (time_holds_with test.op y o && more)
one_more test y None rest more h = refl
one_more test y (Some f) None more h = ap (λ b. edges_hold test.op y f.times && b) h ∙ and-false (edges_hold test.op y f.times)
one_more test y (Some f) (Some bounds) more h = ap (λ b. edges_hold test.op y f.times && b) h

times_as : (bound : Bindings) (tests : List TimeTest) (y : Times) → TimesAs (bounds_of bound tests) y (times_hold bound y tests)
times_as bound [] y = refl
times_as bound (test ∷ tests) y = one_more test y (bound.fact test.fact) (bounds_of bound tests) (times_hold bound y tests) (times_as bound tests y)

-- ---- possible events

same_possible : (p : Program) (q : Pattern) (bound : Bindings) (bounds : Bounds) → bounds_of bound q.times ≡ Some bounds
    → (y : Times) → possible.ArePossibleTimes bounds (is_point p q.ty.0) y ↔ IsPossible p q bound y
same_possible p q bound bounds e y =
    let t : times_hold bound y q.times ≡ all_hold bounds y = subst (λ o. TimesAs o y (times_hold bound y q.times)) e (times_as bound q.times y) in (
      λ h. record { event = h.event; tests = t ∙ h.holds },
      λ h. record { event = h.event; holds = sym t ∙ h.tests },
    )

none_possible : (p : Program) (q : Pattern) (bound : Bindings) → bounds_of bound q.times ≡ None → IsNone (IsPossible p q bound)
none_possible p q bound e y h =
    let t : times_hold bound y q.times ≡ false = subst (λ o. TimesAs o y (times_hold bound y q.times)) e (times_as bound q.times y) in
    let n : false ≡ true = sym t ∙ h.tests in cc

starts_same : (P Q : Times → Type 0) → ((y : Times) → P y ↔ Q y) → (w : Window) → AreStarts P w → AreStarts Q w
starts_same P Q h Never none = λ y q. none y ((h y).1 q)
starts_same P Q h (UpTo u) l = record {
  event = l.event;
  possible = (h l.event).0 l.possible;
  starts = l.starts;
  latest = λ y q. l.latest y ((h y).1 q);
}
starts_same P Q h Unbounded many = λ n. let m = many n in (m.0, (h m.0).0 m.1, m.2)

-- ---- operators join the two events

joins_all : (edges : List OpEdge) → All IsOpEdge edges → All Joins edges
joins_all [] h = All-nil Joins
joins_all (e ∷ edges) h = All-cons Joins e edges (All-head IsOpEdge e edges h).joins (joins_all edges (All-tail IsOpEdge e edges h))

abbrev pub AllJoin : Bounds → Type 0
AllJoin bounds = All (λ (b : List OpEdge × Times). All Joins b.0) bounds

one_join : (test : TimeTest) (o : Option Fact) (rest : Option Bounds) (bounds : Bounds) → All Joins test.op → ((bs : Bounds) → rest ≡ Some bs → AllJoin bs)
    → option_and_then (λ b. option_map (λ bs. b ∷ bs) rest) (option_map (λ (f : Fact). (test.op, f.times)) o) ≡ Some bounds → AllJoin bounds
one_join test None rest bounds op h e = absurd (let n : None ≡ Some bounds = e in cc)
one_join test (Some f) None bounds op h e = absurd (let n : None ≡ Some bounds = e in cc)
one_join test (Some f) (Some bs) bounds op h e =
    let same : (test.op, f.times) ∷ bs ≡ bounds = cc in
    subst AllJoin same (All-cons (λ (b : List OpEdge × Times). All Joins b.0) (test.op, f.times) bs op (h bs refl))

pub bounds_join : (bound : Bindings) (tests : List TimeTest) (bounds : Bounds) → AreOperators tests → bounds_of bound tests ≡ Some bounds → AllJoin bounds
bounds_join bound [] bounds ops e =
    let same : [] ≡ bounds = cc in
    subst AllJoin same (All-nil (λ (b : List OpEdge × Times). All Joins b.0))
bounds_join bound (test ∷ tests) bounds ops e =
    one_join test (bound.fact test.fact) (bounds_of bound tests) bounds (joins_all test.op ops.0.each) (λ bs e. bounds_join bound tests bs ops.1 e) e

-- what a loop over the tests tells of the bounds that it gathers
pub none_told : {V W : Type 0} (f : V → W) {o : Option V} {r : Option W} → option_map f o ≡ r → o ≡ None → r ≡ None
none_told {V} {W} f {o} {r} h e = sym h ∙ ap (option_map f) e

pub some_told : {V W : Type 0} (f : V → W) {o : Option V} {r : Option W} {v : V} → option_map f o ≡ r → o ≡ Some v → r ≡ Some (f v)
some_told {V} {W} f {o} {r} {v} h e = sym h ∙ ap (option_map f) e

window_is : (p : Program) (q : Pattern) (bound : Bindings) → AreOperators q.times → AreStarts (IsPossible p q bound) (start_window_at p q bound)
window_is p q bound ops = by_bounds (bounds_of bound q.times) refl
  where
    by_bounds : (o : Option Bounds) → bounds_of bound q.times ≡ o → AreStarts (IsPossible p q bound) (window_by_lists (is_point p q.ty.0) o)
    by_bounds None e = none_possible p q bound e
    by_bounds (Some bounds) e =
        starts_same (possible.ArePossibleTimes bounds (is_point p q.ty.0)) (IsPossible p q bound) (same_possible p q bound bounds e) (starts_window bounds (is_point p q.ty.0))
        (window_is_of_edges bounds (is_point p q.ty.0) (bounds_join bound q.times bounds ops e))

-- ---- mature

past_mature : (p : Program) (q : Pattern) (bound : Bindings) (moment : ℤ) (w : Window) → AreStarts (IsPossible p q bound) w → is_past w moment ≡ true → IsMature p q bound moment
past_mature p q bound moment Never starts e = of_none starts
past_mature p q bound moment (UpTo u) starts e = of_past u starts (int_lt-true u moment e)
past_mature p q bound moment Unbounded starts e = of_unbounded starts

mature_past : (p : Program) (q : Pattern) (bound : Bindings) (moment : ℤ) (w : Window) → is_event p q.ty.0 ≡ true → AreStarts (IsPossible p q bound) w
    → IsMature p q bound moment → is_past w moment ≡ true
mature_past p q bound moment Never event starts m = refl
mature_past p q bound moment Unbounded event starts m = refl
mature_past p q bound moment (UpTo u) event starts (of_plain plain) = let n : false ≡ true = sym plain ∙ event in cc
mature_past p q bound moment (UpTo u) event starts (of_none none) = absurd (none starts.event starts.possible)
mature_past p q bound moment (UpTo u) event starts (of_unbounded many) =
    let later = many (u +ℤ pos 1) in
    let l : later.0.start ≤ℤ u = starts.latest later.0 later.1 in
    absurd (omega (arith, ints, l, later.2))
mature_past p q bound moment (UpTo u) event starts (of_past v latest before) =
    let l : starts.event.start ≤ℤ v = latest.latest starts.event starts.possible in
    let e : starts.event.start ≡ u = starts.starts in
    lt-int_lt u moment (omega (arith, ints, l, e, before))

pub mature_is : (p : Program) (q : Pattern) (bound : Bindings) (moment : ℤ) → AreOperators q.times → is_mature p q bound moment ≡ true ↔ IsMature p q bound moment
unfolding is_mature
mature_is p q bound moment ops = by_event (is_event p q.ty.0) refl
  where
    by_event : (b : Bool) → is_event p q.ty.0 ≡ b → (not b || is_past (start_window_at p q bound) moment) ≡ true ↔ IsMature p q bound moment
    by_event false e = (λ _. of_plain e, λ _. refl)
    by_event true e = (
      past_mature p q bound moment (start_window_at p q bound) (window_is p q bound ops),
      mature_past p q bound moment (start_window_at p q bound) e (window_is p q bound ops),
    )
