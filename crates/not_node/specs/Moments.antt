-- The moment for which a row waits.
use Rattle.std.specs.Prelude.{ℤ, cond, Option, Some, None}
use Rattle.temporal_ops.specs.declared.window.Window.{Window, TheVariants.{Never, UpTo, Unbounded}}
use Rattle.row_delta.specs.declared.row.Row.{Row}
use Rattle.rule_model.specs.{declared.{condition.Pattern.{Pattern}, program.Program.{Program}}, Lent.{bound_in}, Maturity.{start_window_at}, Tuples.{Bindings}}
use Rattle.rule_model.specs.Types.{is_event}
use Rattle.join_tests.specs.Joins.{Look}

-- the latest start of a window, where it has one
abbrev pub latest_of : Window → Option ℤ
latest_of Never = None
latest_of Unbounded = None
latest_of (UpTo latest) = Some latest

-- the latest start of the possible events of a negative pattern; nothing where it is one of plain facts, where no event is possible, and
-- where there is no latest one
abbrev pub latest_start : Program → Pattern → Bindings → Option ℤ
latest_start p pattern bound = cond (is_event p pattern.ty.0) (latest_of (start_window_at p pattern bound)) None

-- that for what a row bound, as a store has it
unfoldable pub moment_at : Program → Pattern → Look → Row → Option ℤ
moment_at p pattern look row = latest_start p pattern (bound_in look row)
