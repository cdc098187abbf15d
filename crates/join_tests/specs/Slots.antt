-- Slots of time as long as a range: what lies in the range of a moment lies in one of two neighbouring slots.
use Rattle.std.specs.{Prelude.{ℕ, suc, ◌^◌, ℤ, pos, negsuc, ◌+ℤ◌, ◌-ℤ◌, nat_lt, cond, Option, Some, None}, Int.{int_div_euclid}}
use Rattle.fx_base.specs.declared.{value.Value.{Value}, times.Times.{Times}, fact.Fact.{Fact}}
use Rattle.row_delta.specs.declared.row.{Named.{Named}, Row.{Row}}
use Rattle.rule_model.specs.{Lent.{bound_in}, Tests.{number_given}}
use Rattle.join_tests.specs.{declared.time_key.{Point.{Point, TheVariants.{Start, End}}, TimeKey.{TimeKey}}, Joins.{Look}, Keys.{given_or_true}}

-- ---- slots

-- the number of the slot of a moment, rounded down
abbrev pub slot_of : ℕ → ℤ → ℤ
slot_of span moment = int_div_euclid moment (pos (suc span))

-- a number that fits 64 bits with sign, and else nothing
abbrev pub in_64_bits : ℤ → Option ℤ
in_64_bits (pos n) = cond (nat_lt n (2 ^ 63)) (Some (pos n)) None
in_64_bits (negsuc n) = cond (nat_lt n (2 ^ 63)) (Some (negsuc n)) None

-- the slot of a moment as a value; beyond 64 bits nothing is kept, so any value may stand for such a slot
abbrev pub slot_value : ℕ → ℤ → Value
slot_value span moment = given_or_true (number_given (in_64_bits (slot_of span moment)))

-- ---- moments

abbrev pub point_of_times : Point → Times → ℤ
point_of_times Start times = times.start
point_of_times End times = times.end

-- the point of a fact that may be missing; what is missing joins nothing, so any moment may stand for it
abbrev pub moment_at_point : Point → Option Fact → ℤ
moment_at_point point None = pos 0
moment_at_point point (Some f) = point_of_times point f.times

-- the moment of a row: that of the event that it names
abbrev pub row_moment : TimeKey → Look → Row → ℤ
row_moment key look row = moment_at_point key.event ((bound_in look row).fact key.fact)

abbrev pub candidate_moment : TimeKey → Look → Named → ℤ
candidate_moment key look who = moment_at_point key.own (look who.tag)

-- ---- ranges

-- the first and the last moment of an event to which a candidate of this moment fits
abbrev pub first_event : TimeKey → ℤ → ℤ
first_event key moment = (moment +ℤ key.back) -ℤ pos key.span

abbrev pub last_event : TimeKey → ℤ → ℤ
last_event key moment = moment +ℤ key.back

-- the first and the last moment of a candidate that fits to an event of this moment
abbrev pub first_candidate : TimeKey → ℤ → ℤ
first_candidate key moment = moment -ℤ key.back

abbrev pub last_candidate : TimeKey → ℤ → ℤ
last_candidate key moment = (moment -ℤ key.back) +ℤ pos key.span
