-- Numbers for the types of events.
use Rattle.std.specs.Prelude.{◌≡◌, ℕ, List, length}
use Rattle.rule_model.specs.{declared.program.Program.{Program}, Types.{event_types}}

-- a number for each event type of a program
abbrev pub HasEach : Program → List ℕ → Type 0
HasEach p numbers = length numbers ≡ length (event_types p.types 0)
