-- What the conditions of rules look at.
use Rattle.std.specs.{Prelude.{ℕ, ℤ, pos, ◌-ℤ◌, List}, Int.{int_max}}
use Rattle.fx_base.specs.declared.fact.Fact.{Fact}
use Rattle.rule_model.specs.{declared.program.Program.{Program}, Types.{lateness_of}}

-- what is known of the entry points, by their places
pub record Reached : Type 0 where
  -- the start of the event that was inserted there last, or 0
  pub last_start : ℕ → ℤ
  -- the moment before which no event of it starts any more, or 0
  pub promise : ℕ → ℤ

abbrev pub nothing_reached : Reached
nothing_reached = record { last_start = λ entry. pos 0; promise = λ entry. pos 0 }

pub record Snapshot : Type 0 where
  -- what was inserted and not retracted, in the order of insertion
  pub facts : List Fact
  -- in milliseconds
  pub clock : ℤ
  pub reached : Reached

-- by a lateness: the last start, the promise, or the clock less the lateness, whichever is latest
abbrev pub floor_by : ℤ → ℤ → ℤ → ℤ → ℤ
floor_by lateness last_start promise clock = int_max (int_max last_start promise) (clock -ℤ lateness)

-- The floor of an entry point, its watermark: no event that comes from now on starts before it. An event that would is late, and a `not`
-- waits by it.
unfoldable pub floor : Program → Snapshot → ℕ → ℤ
floor p s entry = floor_by (lateness_of p entry) (s.reached.last_start entry) (s.reached.promise entry) s.clock
