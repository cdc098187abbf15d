-- The first code that an item fails, given the program of the types of the file alone, these types, the names of those that its conditions watch, and what earlier
-- items declare.
use Rattle.std.specs.Prelude.{ℕ, List, length, Option, Some, None, if◌then◌else◌}
use Rattle.drl_grammar.specs.declared.file.{Body.{Body}, TypeTree.{TypeTree}}
use Rattle.rule_model.specs.declared.program.Program.{Program}
use Rattle.drl_scope.specs.Observed.{is_event_among}
use Rattle.drl_check.specs.declared.fault.CheckCode.{CheckCode, TheVariants.{TwiceDeclared, LimitPassed, UnknownType, UnknownField, UnknownVariable, WrongKind}}
use Rattle.drl_check.specs.declared.fault.CheckCode.TheVariants.{NotAnEvent, BadTimestamp, BadReference, EventFixed, EventObserved, ReferenceFixed, BadParams}
use Rattle.drl_check.specs.{declared.fault.CheckCode.TheVariants.{NeverMatches}, Twice.{is_repeated}, Checks.{lacks_type, lacks_field, lacks_variable}}
use Rattle.drl_check.specs.Checks.{is_wrong_kind, needs_event, needs_whole_times, has_bad_reference, fixes_event, drops_observed, changes_reference}
use Rattle.drl_check.specs.{Checks.{has_bad_params}, Solvable.{never_matches_alone}}
use Rattle.drl_limits.specs.Limits.{exceeds_limit_behind}

abbrev pub first_failing_event : Program → List TypeTree → List (List ℕ) → Body → Option CheckCode
first_failing_event alone all watched b =
    if needs_event all b then Some NotAnEvent
    else if needs_whole_times b then Some BadTimestamp
    else if has_bad_reference b then Some BadReference
    else if fixes_event all b then Some EventFixed
    else if drops_observed (is_event_among watched) all b then Some EventObserved
    else if changes_reference all b then Some ReferenceFixed
    else if has_bad_params b then Some BadParams
    else if never_matches_alone alone all b then Some NeverMatches
    else None

abbrev pub first_failing_use : Program → List TypeTree → List (List ℕ) → Body → Option CheckCode
first_failing_use alone all watched b =
    if lacks_type all b then Some UnknownType
    else if lacks_field all b then Some UnknownField
    else if lacks_variable all b then Some UnknownVariable
    else if is_wrong_kind all b then Some WrongKind
    else first_failing_event alone all watched b

-- given the names of the types, of the entry points and of the rules that earlier items declare, and the names of the entry
-- points that are known
abbrev pub first_failing : Program → List TypeTree → List (List ℕ) → List (List ℕ) → List (List ℕ) → List (List ℕ) → List (List ℕ) → Body → Option CheckCode
first_failing alone all watched types entries rules known b =
    if is_repeated types entries rules b then Some TwiceDeclared
    else if exceeds_limit_behind (length types) (length rules) known b then Some LimitPassed
    else first_failing_use alone all watched b
