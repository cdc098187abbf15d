-- Which of the facts that came are inside a window, and what a change makes of them.
use Rattle.std.specs.Prelude.{ℕ, ℤ, ◌-ℤ◌, ◌==◌, Bool, true, cond, not, List, [], ◌∷◌, ◌++◌, map, filter, length, nat_lt, int_lt}
use Rattle.row_delta.specs.declared.row.{Named.{Named}, Row.{Row}}
use Rattle.window_gate.specs.declared.change.{WindowKind.{WindowKind, TheVariants.{Whole, Time, Length}}, GateChange.{GateChange, TheVariants.{Come, Gone}}}
use Rattle.window_gate.specs.declared.change.GateChange.TheVariants.{Clock}

-- a version that came, with its start
pub record Arrival : Type 0 where
  pub named : Named
  pub start : ℤ

-- the version of an arrival
abbrev pub named_of : Arrival → Named
named_of arrival = arrival.named

-- whether a version has this tag
abbrev pub has_tag : ℕ → Named → Bool
has_tag tag named = tag == named.tag.0

-- whether an arrival is in the window at this moment, where these came later
abbrev pub in_window : WindowKind → ℤ → Arrival → List Arrival → Bool
in_window Whole now arrival later = true
in_window (Time millis) now arrival later = int_lt (now -ℤ arrival.start) millis
in_window (Length size) now arrival later = nat_lt (length later) size

-- the arrivals in the window, in their order
abbrev pub inside : WindowKind → ℤ → List Arrival → List Arrival
inside window now [] = []
inside window now (arrival ∷ later) = cond (in_window window now arrival later) (arrival ∷ inside window now later) (inside window now later)

-- the row of one version and no values
abbrev pub single : Named → Row
single named = record { facts = named ∷ []; values = [] }

-- the rows of the arrivals in the window
abbrev pub rows_inside : WindowKind → ℤ → List Arrival → List Row
rows_inside window now arrivals = map single (map named_of (inside window now arrivals))

-- the arrivals after a change: what comes is the latest, and what goes is taken out by its tag
abbrev pub after : List Arrival → GateChange → List Arrival
after arrivals (Come named start) = arrivals ++ (record { named = named; start = start }) ∷ []
after arrivals (Gone named) = filter (λ arrival. not (has_tag named.tag.0 arrival.named)) arrivals
after arrivals Clock = arrivals
