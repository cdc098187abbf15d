-- The candidates of a pattern, and those of them that pass for what earlier conditions bound.
use Rattle.std.specs.{Prelude.{ℕ, ◌==◌, ◌&&◌, ◌||◌, not, Bool, true, ℤ, ◌-ℤ◌, int_lt, nat_lt, List, length, Option, Some, None}, List.{filter}}
use Rattle.fx_base.specs.declared.fact.Fact.{Fact}
use Rattle.rule_model.specs.declared.{condition.{Pattern.{Pattern}, WindowTag.{WindowTag, TheVariants.{Whole, Time, Length}}}, program.Program.{Program}}
use Rattle.rule_model.specs.{Snapshots.{Snapshot}, Tests.{tests_hold, times_hold}, Tuples.{Tuple, unbound, bound_by}, Types.{is_event, expiry_of}}

-- an age that an expiry lets be present; without an expiry every age is
abbrev pub is_within : Option ℤ → ℤ → Bool
is_within None age = true
is_within (Some expiry) age = int_lt age expiry

-- A fact is present until it is retracted, and an event of a type with an explicit expiry only while it is younger than that,
-- measured from its start. (Drools Fusion 5 User Guide, explicit expiration offset; the strict bound is this project's.)
unfoldable pub is_present : Program → ℤ → Fact → Bool
is_present p clock f = not (is_event p f.ty.0) || is_within (expiry_of p f.ty.0) (clock -ℤ f.times.start)

-- the fact is present, of the pattern's type and entry point, and passes the constant tests
abbrev pub fits : Program → Pattern → ℤ → Fact → Bool
fits p pattern clock f = is_present p clock f && (f.ty.0 == pattern.ty.0 && (f.entry.0 == pattern.entry.0 && tests_hold unbound f pattern.alone))

-- ---- windows

-- a fact that fits, and was inserted later: an event is never modified, so of two events the later one has the greater tag
abbrev pub is_behind : Program → Pattern → ℤ → Fact → Fact → Bool
is_behind p pattern clock f later = nat_lt f.tag.0 later.tag.0 && fits p pattern clock later

-- how many of these facts fit and were inserted later
abbrev pub count_behind : Program → Pattern → ℤ → Fact → List Fact → ℕ
count_behind p pattern clock f facts = length (filter (is_behind p pattern clock f) facts)

-- A window of time holds what started less than its span before the clock. A window of length holds the latest so many of the facts
-- that fit. (Drools Fusion 5 User Guide, sliding windows; the strict bound is this project's.)
abbrev pub is_inside : Program → Pattern → WindowTag → ℤ → List Fact → Fact → Bool
is_inside p pattern Whole clock facts f = true
is_inside p pattern (Time span) clock facts f = int_lt (clock -ℤ f.times.start) span
is_inside p pattern (Length count) clock facts f = nat_lt (count_behind p pattern clock f facts) count

-- ---- candidates

-- the fact fits, and is inside the window
abbrev pub is_candidate : Program → Pattern → Snapshot → Fact → Bool
is_candidate p pattern s f = fits p pattern s.clock f && is_inside p pattern pattern.window s.clock s.facts f

abbrev pub candidates : Program → Pattern → Snapshot → List Fact
candidates p pattern s = filter (is_candidate p pattern s) s.facts

-- the tests that name what earlier conditions bound, and the temporal tests
abbrev pub passes : Pattern → Tuple → Fact → Bool
passes pattern tuple f = tests_hold (bound_by tuple) f pattern.joined && times_hold (bound_by tuple) f.times pattern.times

-- the candidates that pass for a tuple
abbrev pub passing : Program → Pattern → Snapshot → Tuple → List Fact
passing p pattern s tuple = filter (passes pattern tuple) (candidates p pattern s)
