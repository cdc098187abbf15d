use Rattle.window_gate.proofs.Common.{sym, subst, ℤ, List, map, to_z-of_z, IsBetween, Time, Length, Kept, Arrival, named_of, after, rows_inside, TagsDiffer}
use Rattle.window_gate.proofs.Common.{KeepsWindow, KeepsTime, KeepsLength, MayChange, StandsForArrivals, TakesChange, MayPass, window_kept, window_of}
use Rattle.window_gate.proofs.{Common.{between_disjoint}, Insides.{differ_after}}
use Rattle.window_gate.proofs.gate.Gate.step.Goals as goal

pub returns-in_ok-delta-in-Whole-clause-stands : goal.returns-in_ok-delta-in-Whole-clause-stands
returns-in_ok-delta-in-Whole-clause-stands c arrivals was stands takes = record {
  tags = differ_after (window_of c.args.self) arrivals c.args.change.now stands.tags takes.changes;
  keeps = tt;
}

whole_between : (c : goal.In_ok-delta-in-Whole) (arrivals : List Arrival) (was : ℤ) → StandsForArrivals c.args.self arrivals was → TakesChange (window_of c.args.self) arrivals was c.args.change.now c.args.now
    → IsBetween (rows_inside (window_of c.args.self) was arrivals) (rows_inside (window_of c.args.self) c.args.now (after arrivals c.args.change.now)) c.in_ok-delta-in-Whole.delta
whole_between c arrivals was stands takes =
    let P : Kept → Type 0 = λ kept. MayChange (window_kept kept) (map named_of arrivals) c.args.change.now
    → IsBetween (rows_inside (window_kept kept) was arrivals) (rows_inside (window_kept kept) c.args.now (after arrivals c.args.change.now)) c.in_ok-delta-in-Whole.delta in
    subst P (sym c.in-Whole.is) (λ may. c.in_ok-delta-in-Whole.ensures arrivals was c.args.now stands.tags may) takes.changes

pub returns-in_ok-delta-in-Whole-clause-between : goal.returns-in_ok-delta-in-Whole-clause-between
returns-in_ok-delta-in-Whole-clause-between c arrivals was stands takes = whole_between c arrivals was stands takes

pub returns-in_ok-delta-in-Whole-clause-disjoint : goal.returns-in_ok-delta-in-Whole-clause-disjoint
returns-in_ok-delta-in-Whole-clause-disjoint c arrivals was stands takes = between_disjoint (whole_between c arrivals was stands takes)

-- what the time window says, of the window that was matched
time_keeps : (c : goal.In_ok-window-in-Time) (arrivals : List Arrival) (was : ℤ) → KeepsTime c.in-Time.window arrivals was → TagsDiffer (map named_of arrivals) → MayPass (Time c.in-Time.window.millis) was c.args.now
    → MayChange (Time c.in-Time.window.millis) (map named_of arrivals) c.args.change.now → KeepsTime c.in_ok-window-in-Time.window (after arrivals c.args.change.now) c.args.now
time_keeps c arrivals was = let fits = c.ranges.now in simp (c.in-Time.window-is, to_z-of_z) at (c.in_ok-window-in-Time.ensures.keeps arrivals was)

time_between : (c : goal.In_ok-window-in-Time) (arrivals : List Arrival) (was : ℤ) → KeepsTime c.in-Time.window arrivals was → TagsDiffer (map named_of arrivals) → MayPass (Time c.in-Time.window.millis) was c.args.now
    → MayChange (Time c.in-Time.window.millis) (map named_of arrivals) c.args.change.now
    → IsBetween (rows_inside (Time c.in-Time.window.millis) was arrivals) (rows_inside (Time c.in-Time.window.millis) c.args.now (after arrivals c.args.change.now)) c.in_ok-window-in-Time.delta
time_between c arrivals was = let fits = c.ranges.now in simp (c.in-Time.window-is, to_z-of_z) at (c.in_ok-window-in-Time.ensures.difference arrivals was)

pub returns-in_ok-window-in-Time-clause-stands : goal.returns-in_ok-window-in-Time-clause-stands
returns-in_ok-window-in-Time-clause-stands c arrivals was stands takes = record {
  tags = differ_after (window_of c.args.self) arrivals c.args.change.now stands.tags takes.changes;
  keeps =
      let P : Kept → Type 0 = λ kept. KeepsWindow kept arrivals was → MayPass (window_kept kept) was c.args.now → MayChange (window_kept kept) (map named_of arrivals) c.args.change.now
      → KeepsTime c.in_ok-window-in-Time.window (after arrivals c.args.change.now) c.args.now in
      subst P (sym c.in-Time.is) (λ keeps pass may. time_keeps c arrivals was keeps stands.tags pass may) stands.keeps takes.passes takes.changes;
}

all_time : (c : goal.In_ok-window-in-Time) (arrivals : List Arrival) (was : ℤ) → StandsForArrivals c.args.self arrivals was → TakesChange (window_of c.args.self) arrivals was c.args.change.now c.args.now
    → IsBetween (rows_inside (window_of c.args.self) was arrivals) (rows_inside (window_of c.args.self) c.args.now (after arrivals c.args.change.now)) c.in_ok-window-in-Time.delta
all_time c arrivals was stands takes =
    let P : Kept → Type 0 = λ kept. KeepsWindow kept arrivals was → MayPass (window_kept kept) was c.args.now → MayChange (window_kept kept) (map named_of arrivals) c.args.change.now
    → IsBetween (rows_inside (window_kept kept) was arrivals) (rows_inside (window_kept kept) c.args.now (after arrivals c.args.change.now)) c.in_ok-window-in-Time.delta in
    subst P (sym c.in-Time.is) (λ keeps pass may. time_between c arrivals was keeps stands.tags pass may) stands.keeps takes.passes takes.changes

pub returns-in_ok-window-in-Time-clause-between : goal.returns-in_ok-window-in-Time-clause-between
returns-in_ok-window-in-Time-clause-between c arrivals was stands takes = all_time c arrivals was stands takes

pub returns-in_ok-window-in-Time-clause-disjoint : goal.returns-in_ok-window-in-Time-clause-disjoint
returns-in_ok-window-in-Time-clause-disjoint c arrivals was stands takes = between_disjoint (all_time c arrivals was stands takes)

-- what the length window says
length_keeps : (c : goal.In_ok-window-in-Length) (arrivals : List Arrival) (was : ℤ) → KeepsLength c.in-Length.window arrivals was → TagsDiffer (map named_of arrivals)
    → MayChange (Length c.in-Length.window.size) (map named_of arrivals) c.args.change.now → KeepsLength c.in_ok-window-in-Length.window (after arrivals c.args.change.now) c.args.now
length_keeps c arrivals was = simp c.in-Length.window-is at (c.in_ok-window-in-Length.ensures.keeps arrivals was c.args.now)

length_between : (c : goal.In_ok-window-in-Length) (arrivals : List Arrival) (was : ℤ) → KeepsLength c.in-Length.window arrivals was → TagsDiffer (map named_of arrivals)
    → MayChange (Length c.in-Length.window.size) (map named_of arrivals) c.args.change.now
    → IsBetween (rows_inside (Length c.in-Length.window.size) was arrivals) (rows_inside (Length c.in-Length.window.size) c.args.now (after arrivals c.args.change.now)) c.in_ok-window-in-Length.delta
length_between c arrivals was = simp c.in-Length.window-is at (c.in_ok-window-in-Length.ensures.difference arrivals was c.args.now)

pub returns-in_ok-window-in-Length-clause-stands : goal.returns-in_ok-window-in-Length-clause-stands
returns-in_ok-window-in-Length-clause-stands c arrivals was stands takes = record {
  tags = differ_after (window_of c.args.self) arrivals c.args.change.now stands.tags takes.changes;
  keeps =
      let P : Kept → Type 0 = λ kept. KeepsWindow kept arrivals was → MayChange (window_kept kept) (map named_of arrivals) c.args.change.now
      → KeepsLength c.in_ok-window-in-Length.window (after arrivals c.args.change.now) c.args.now in
      subst P (sym c.in-Length.is) (λ keeps may. length_keeps c arrivals was keeps stands.tags may) stands.keeps takes.changes;
}

all_length : (c : goal.In_ok-window-in-Length) (arrivals : List Arrival) (was : ℤ) → StandsForArrivals c.args.self arrivals was → TakesChange (window_of c.args.self) arrivals was c.args.change.now c.args.now
    → IsBetween (rows_inside (window_of c.args.self) was arrivals) (rows_inside (window_of c.args.self) c.args.now (after arrivals c.args.change.now)) c.in_ok-window-in-Length.delta
all_length c arrivals was stands takes =
    let P : Kept → Type 0 = λ kept. KeepsWindow kept arrivals was → MayChange (window_kept kept) (map named_of arrivals) c.args.change.now
    → IsBetween (rows_inside (window_kept kept) was arrivals) (rows_inside (window_kept kept) c.args.now (after arrivals c.args.change.now)) c.in_ok-window-in-Length.delta in
    subst P (sym c.in-Length.is) (λ keeps may. length_between c arrivals was keeps stands.tags may) stands.keeps takes.changes

pub returns-in_ok-window-in-Length-clause-between : goal.returns-in_ok-window-in-Length-clause-between
returns-in_ok-window-in-Length-clause-between c arrivals was stands takes = all_length c arrivals was stands takes

pub returns-in_ok-window-in-Length-clause-disjoint : goal.returns-in_ok-window-in-Length-clause-disjoint
returns-in_ok-window-in-Length-clause-disjoint c arrivals was stands takes = between_disjoint (all_length c arrivals was stands takes)
