-- What leads from one snapshot to the next is a step that the window takes.
use Rattle.pattern_gate.proofs.Common.{◌≡◌, ◌∙◌, sym, ap, refl, subst, inl, ℤ, pos, ◌≤ℤ◌, ◌<ℤ◌, List, [], ◌∷◌, ◌++◌, map, Bool, true, false, not, ◌&&◌, ◌||◌}
use Rattle.pattern_gate.proofs.Common.{◌==◌, Option, Some, None, IfSome, int_le, int_lt, arith, option_to_list, Decides-eqb, In, Fact, has, Delta, Named, Row}
use Rattle.pattern_gate.proofs.Common.{fits, candidates, HaveDistinctTags, Snapshot, Pattern, WindowTag, Program, in_right, of_map, row_naming}
use Rattle.pattern_gate.proofs.Common.{IsNameDifference, no_rows, no_names, candidates_of, StandsForArrivals, MayPass, MayStart, window_of, LeavesAt, most}
use Rattle.pattern_gate.proofs.Common.{Arrival, inside, rows_inside, WindowKind, PatternGate, arrival_of, arrivals, window_kind_of, has_good_window, GateStands}
use Rattle.pattern_gate.proofs.Common.{LeavesBy, at_clock, IsOrderly, MovesSnapshot, is_meant, is_one_meant, less_facts, more_fact, more_facts, LetsAllGo}
use Rattle.pattern_gate.proofs.{Common.{LetsCome, LetsAllCome, TakesStep, ints, IsDifference, unbound, and_parts, Whole, Time, Length}, Arriving.{filter_among}}
use Rattle.pattern_gate.proofs.Arriving.{rising, left, meant, less_all, lets_all, more_one, more_all, lets_come, lets_all_come, none_meant}
use Rattle.{pattern_gate.proofs.Inside.{inside_are, rows_named}, rule_model.specs.{Simple.{is_whole}, Tests.{tests_hold}, Types.{is_event}}}
use Rattle.{rule_world.specs.{Events.{most_millis}, Programs.{is_window}}, fx_base.proofs.Orders.{int_le-true}}

-- ---- windows

at_most : (span : ℤ) → int_le span most_millis ≡ true → span ≤ℤ most
unfolding most_millis
at_most span e = int_le-true span most e

starts_at_most : (start : ℤ) → start ≤ℤ most_millis → start ≤ℤ most
unfolding most_millis
starts_at_most start h = h

-- a window that a program may have lets the clock pass
pub may_pass : (p : Program) (q : Pattern) → has_good_window p q ≡ true → (a b : ℤ) → a ≤ℤ b → MayPass (window_kind_of q.window) a b
may_pass p q good a b h = by q.window good
  where
    by : (w : WindowTag) → (is_whole w || (is_event p q.ty.0 && is_window w)) ≡ true → MayPass (window_kind_of w) a b
    by Whole e = tt
    by (Time span) e = (h, at_most span (and_parts (int_le (pos 1) span) (int_le span most_millis) (and_parts (is_event p q.ty.0) (is_window (Time span)) e).1).1)
    by (Length count) e = tt

same_type : (p : Program) (f : Fact) (q : Pattern) → is_meant q f ≡ true → is_event p q.ty.0 ≡ true → is_event p f.ty.0 ≡ true
same_type p f q e is =
    ap (is_event p) ((Decides-eqb f.ty.0 q.ty.0).0 (and_parts (f.ty.0 == q.ty.0) (f.entry.0 == q.entry.0 && tests_hold unbound f q.alone) e).0) ∙ is

-- and the events of a snapshot start where it lets them
pub may_start : (p : Program) (q : Pattern) → has_good_window p q ≡ true → (s : Snapshot) → IsOrderly p s → (f : Fact) → In f s.facts → is_meant q f ≡ true → MayStart (window_kind_of q.window) f.times.start
may_start p q good s is f i e = by q.window good
  where
    by : (w : WindowTag) → (is_whole w || (is_event p q.ty.0 && is_window w)) ≡ true → MayStart (window_kind_of w) f.times.start
    by Whole h = tt
    by (Time span) h =
        let event = same_type p f q e (and_parts (is_event p q.ty.0) (is_window (Time span)) h).0 in
        (is.low f i event, starts_at_most f.times.start (is.high f i event))
    by (Length count) h = tt

-- ---- one snapshot

-- its arrivals are the facts that are meant
arrivals_meant : (p : Program) (q : Pattern) (s : Snapshot) → IsOrderly p s → arrivals p q s ≡ meant q s.facts
arrivals_meant p q s is = ap (map arrival_of) (filter_among (fits p q s.clock) (is_meant q) s.facts (λ f i. ap (λ b. b && is_meant q f) (is.present f i)))

-- a difference of the rows inside is one of the candidates
pub names_differ : (p : Program) (q : Pattern) (s next : Snapshot) → IsOrderly p s → IsOrderly p next → (delta : Delta)
    → IsDifference (has (rows_inside (window_kind_of q.window) s.clock (arrivals p q s))) (has (rows_inside (window_kind_of q.window) next.clock (arrivals p q next))) delta
    → IsNameDifference (candidates_of p q s) (candidates_of p q next) delta
names_differ p q s next is also delta differs =
    let was = rows_named p q s is.in_order in
    let now = rows_named p q next also.in_order in
    record {
      goes = λ who. differs.leads.goes (row_naming who)
          ∙ ap (λ b. b && not (has (rows_inside (window_kind_of q.window) next.clock (arrivals p q next)) (row_naming who))) (was who) ∙ ap (λ b. candidates_of p q s who && not b) (now who);
      comes = λ who. differs.leads.comes (row_naming who)
          ∙ ap (λ b. b && not (has (rows_inside (window_kind_of q.window) s.clock (arrivals p q s)) (row_naming who))) (now who) ∙ ap (λ b. candidates_of p q next who && not b) (was who);
    }

-- ---- all facts of a snapshot come

module _ (p : Program) (q : Pattern) (s : Snapshot) (is : IsOrderly p s) (good : has_good_window p q ≡ true) (facts : List Fact) (of : s.facts ≡ facts) (clock : ℤ) (at : s.clock ≡ clock) where
  pub all_may_come : LetsAllCome (window_kind_of q.window) q clock [] facts
  all_may_come = subst (λ now. LetsAllCome (window_kind_of q.window) q now [] facts) at (subst (λ (all : List Fact). LetsAllCome (window_kind_of q.window) q s.clock [] all) of
      (lets_all_come q (window_kind_of q.window) s.clock (may_pass p q good s.clock s.clock (omega (arith, ints))) [] s.facts (rising s.facts is.in_order) (may_start p q good s is)))

  all_arrive : more_facts q [] facts ≡ arrivals p q s
  all_arrive = ap (more_facts q []) (sym of) ∙ more_all q [] s.facts ∙ sym (arrivals_meant p q s is)

  -- a gate to which they came stands for the snapshot
  pub stands_for_all : (gate : PatternGate) → window_of gate.gate ≡ window_kind_of q.window → StandsForArrivals gate.gate (more_facts q [] facts) clock → GateStands p q gate s
  stands_for_all gate same stands = record {
    window = same;
    stands = subst (λ now. StandsForArrivals gate.gate (arrivals p q s) now) (sym at) (subst (λ list. StandsForArrivals gate.gate list clock) all_arrive stands);
  }

  -- and what has come inside are the candidates
  pub candidates_come : (delta : Delta) → IsDifference no_rows (has (rows_inside (window_kind_of q.window) clock (more_facts q [] facts))) delta → IsNameDifference no_names (candidates_of p q s) delta
  candidates_come delta differs =
      let is_theirs : IsDifference no_rows (has (rows_inside (window_kind_of q.window) s.clock (arrivals p q s))) delta =
      subst (λ now. IsDifference no_rows (has (rows_inside (window_kind_of q.window) now (arrivals p q s))) delta) (sym at)
      (subst (λ list. IsDifference no_rows (has (rows_inside (window_kind_of q.window) clock list)) delta) all_arrive differs) in
      record {
        goes = λ who. is_theirs.leads.goes (row_naming who);
        comes = λ who. is_theirs.leads.comes (row_naming who) ∙ ap (λ b. b && true) (rows_named p q s is.in_order who);
      }

-- ---- one after the other

module _ (p : Program) (q : Pattern) (s next : Snapshot) (gone : List Fact) (come : Option Fact) (moves : MovesSnapshot p s next gone come) where
  went : less_facts q (arrivals p q s) gone ≡ meant q (left s.facts gone)
  went = ap (λ list. less_facts q list gone) (arrivals_meant p q s moves.before) ∙ less_all q gone s.facts (rising s.facts moves.before.in_order) moves.once moves.held

  pub arrived : more_fact q (less_facts q (arrivals p q s) gone) come ≡ arrivals p q next
  arrived = ap (λ list. more_fact q list come) went ∙ more_one q (left s.facts gone) come ∙ ap (meant q) (sym moves.facts) ∙ sym (arrivals_meant p q next moves.after)

  module _ (good : has_good_window p q ≡ true) where
    comes_by : (o : Option Fact) → next.facts ≡ left s.facts gone ++ option_to_list o → LetsCome (window_kind_of q.window) q next.clock (meant q (left s.facts gone)) o
    comes_by None e = tt
    comes_by (Some f) e =
        lets_come q (window_kind_of q.window) next.clock (may_pass p q good next.clock next.clock (omega (arith, ints))) (left s.facts gone) f
        (subst (λ (facts : List Fact). HaveDistinctTags facts) e (rising next.facts moves.after.in_order))
        (may_start p q good next moves.after f (subst (λ (facts : List Fact). In f facts) (sym e) (in_right f (left s.facts gone) (f ∷ []) (inl refl))))

    takes : TakesStep (window_kind_of q.window) q (arrivals p q s) s.clock gone come next.clock
    takes = record {
      moves = record { passes = may_pass p q good s.clock next.clock moves.clock; changes = tt };
      goes = subst (λ list. LetsAllGo (window_kind_of q.window) q next.clock list gone) (sym (arrivals_meant p q s moves.before))
          (lets_all q (window_kind_of q.window) next.clock (may_pass p q good next.clock next.clock (omega (arith, ints))) gone s.facts (rising s.facts moves.before.in_order) moves.once moves.held);
      comes = subst (λ list. LetsCome (window_kind_of q.window) q next.clock list come) (sym went) (comes_by come moves.facts);
    }

    module _ (gate : PatternGate) (clock : ℤ) (is : next.clock ≡ clock) (stands : GateStands p q gate s) where
      step_taken : TakesStep (window_of gate.gate) q (arrivals p q s) s.clock gone come clock
      step_taken = subst (λ (k : WindowKind). TakesStep k q (arrivals p q s) s.clock gone come clock) (sym stands.window)
          (subst (λ now. TakesStep (window_kind_of q.window) q (arrivals p q s) s.clock gone come now) is takes)

      -- a gate that takes the step stands for the next snapshot
      pub gate_stands : (gate_now : PatternGate) → window_of gate_now.gate ≡ window_of gate.gate
          → ((list : List Arrival) (was : ℤ) → StandsForArrivals gate.gate list was → TakesStep (window_of gate.gate) q list was gone come clock → StandsForArrivals gate_now.gate (more_fact q (less_facts q list gone) come) clock)
          → GateStands p q gate_now next
      gate_stands gate_now same steps = record {
        window = same ∙ stands.window;
        stands = subst (λ now. StandsForArrivals gate_now.gate (arrivals p q next) now) (sym is)
            (subst (λ list. StandsForArrivals gate_now.gate list clock) arrived (steps (arrivals p q s) s.clock stands.stands step_taken));
      }

      -- and tells what has changed in the candidates
      pub candidates_differ : (delta : Delta)
          → ((list : List Arrival) (was : ℤ) → StandsForArrivals gate.gate list was → TakesStep (window_of gate.gate) q list was gone come clock
          → IsDifference (has (rows_inside (window_of gate.gate) was list)) (has (rows_inside (window_of gate.gate) clock (more_fact q (less_facts q list gone) come))) delta)
          → IsNameDifference (candidates_of p q s) (candidates_of p q next) delta
      candidates_differ delta steps =
          names_differ p q s next moves.before moves.after delta
          (subst (λ now. IsDifference (has (rows_inside (window_kind_of q.window) s.clock (arrivals p q s))) (has (rows_inside (window_kind_of q.window) now (arrivals p q next))) delta) (sym is)
          (subst (λ list. IsDifference (has (rows_inside (window_kind_of q.window) s.clock (arrivals p q s))) (has (rows_inside (window_kind_of q.window) clock list)) delta) arrived
          (subst (λ (k : WindowKind). IsDifference (has (rows_inside k s.clock (arrivals p q s))) (has (rows_inside k clock (more_fact q (less_facts q (arrivals p q s) gone) come))) delta) stands.window
          (steps (arrivals p q s) s.clock stands.stands step_taken))))

  -- where no fact is meant
  pub same_arrivals : is_one_meant q gone come ≡ false → arrivals p q s ≡ arrivals p q next
  same_arrivals none = sym (none_meant q gone come (arrivals p q s) none) ∙ arrived

-- where the candidates are the same, nothing goes and nothing comes
pub nothing_differs : (names names_now : Named → Bool) → ((who : Named) → names_now who ≡ names who) → (delta : Delta) → ((rows : Row → Bool) → IsDifference rows rows delta) → IsNameDifference names names_now delta
nothing_differs names names_now same delta nothing = record {
  goes = λ who. let is = nothing (λ row. names who) in is.leads.goes (row_naming who) ∙ ap (λ b. names who && not b) (sym (same who));
  comes = λ who. let is = nothing (λ row. names who) in is.leads.comes (row_naming who) ∙ ap (λ b. b && not (names who)) (sym (same who));
}

-- ---- the same arrivals

-- where the clock alone moves
pub arrivals_still : (p : Program) (q : Pattern) (s : Snapshot) (clock : ℤ) → IsOrderly p s → IsOrderly p (at_clock s clock) → arrivals p q s ≡ arrivals p q (at_clock s clock)
arrivals_still p q s clock was is = arrivals_meant p q s was ∙ sym (arrivals_meant p q (at_clock s clock) is)

module _ (p : Program) (q : Pattern) (s next : Snapshot) (was : IsOrderly p s) (is : IsOrderly p next) (same : arrivals p q s ≡ arrivals p q next) (gate : PatternGate) (stands : GateStands p q gate s) where
  pub stands_still : StandsForArrivals gate.gate (arrivals p q s) next.clock → GateStands p q gate next
  stands_still now = record { window = stands.window; stands = subst (λ list. StandsForArrivals gate.gate list next.clock) same now }

  pub same_candidates : ((row : Row) → has (rows_inside (window_of gate.gate) next.clock (arrivals p q s)) row ≡ has (rows_inside (window_of gate.gate) s.clock (arrivals p q s)) row)
      → (who : Named) → candidates_of p q next who ≡ candidates_of p q s who
  same_candidates inside who =
      sym (rows_named p q next is.in_order who)
      ∙ ap (λ list. has (rows_inside (window_kind_of q.window) next.clock list) (row_naming who)) (sym same)
      ∙ ap (λ (k : WindowKind). has (rows_inside k next.clock (arrivals p q s)) (row_naming who)) (sym stands.window)
      ∙ inside (row_naming who)
      ∙ ap (λ (k : WindowKind). has (rows_inside k s.clock (arrivals p q s)) (row_naming who)) stands.window
      ∙ rows_named p q s was.in_order who

-- ---- what leaves

-- an arrival that leaves is that of a candidate
pub candidate_leaves : (p : Program) (q : Pattern) (s : Snapshot) → IsOrderly p s → (gate : PatternGate) → GateStands p q gate s → (first : Option ℤ)
    → IfSome first (λ at. (arrival : Arrival) × In arrival (inside (window_of gate.gate) s.clock (arrivals p q s)) × LeavesAt (window_of gate.gate) arrival at)
    → IfSome first (λ at. (f : Fact) × In f (candidates p q s) × LeavesAt (window_kind_of q.window) (arrival_of f) at)
candidate_leaves p q s is gate stands None leaves = tt
candidate_leaves p q s is gate stands (Some at) leaves =
    let r = subst (λ (k : WindowKind). (arrival : Arrival) × In arrival (inside k s.clock (arrivals p q s)) × LeavesAt k arrival at) stands.window leaves in
    let f = of_map arrival_of r.0 (candidates p q s) (subst (λ (list : List Arrival). In r.0 list) (inside_are p q s is.in_order q.window) r.1) in
    (f.0, f.1, subst (λ (a : Arrival). LeavesAt (window_kind_of q.window) a at) (sym f.2) r.2)

-- a clock that is not before the moment is behind it
not_before : (first : Option ℤ) (clock : ℤ) → (IfSome first (λ at. clock <ℤ at) → ⊥) → (at : ℤ) × (first ≡ Some at) × (at ≤ℤ clock)
not_before None clock late = absurd (late tt)
not_before (Some at) clock late = (at, refl, by (int_lt clock at) refl)
  where
    by : (b : Bool) → int_lt clock at ≡ b → at ≤ℤ clock
    by true e = absurd (late (grind (arith, ints)))
    by false e = grind (arith, ints)

-- then a candidate has left
pub leaves_by : (p : Program) (q : Pattern) (s : Snapshot) → IsOrderly p s → (gate : PatternGate) → GateStands p q gate s → (first : Option ℤ) (clock : ℤ) → (IfSome first (λ at. clock <ℤ at) → ⊥)
    → IfSome first (λ at. (arrival : Arrival) × In arrival (inside (window_of gate.gate) s.clock (arrivals p q s)) × LeavesAt (window_of gate.gate) arrival at)
    → LeavesBy p q s clock
leaves_by p q s is gate stands first clock late leaves =
    let moment = not_before first clock late in
    let left = subst (λ (o : Option ℤ). IfSome o (λ at. (f : Fact) × In f (candidates p q s) × LeavesAt (window_kind_of q.window) (arrival_of f) at)) moment.1 (candidate_leaves p q s is gate stands first leaves) in
    record { moment = moment.0; candidate = left.0; among = left.1; leaves = left.2; due = moment.2 }
