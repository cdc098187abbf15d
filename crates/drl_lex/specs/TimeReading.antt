-- Reading a length of time from the left, part by part.
use Rattle.std.specs.Prelude.{ℕ, ◌+◌, ◌-◌, ◌*◌, ◌^◌, min, ◌&&◌, ◌||◌, List, [], ◌∷◌, length, Bool, true, false, not, Option, Some, None, option_map, nat_lt}
use Rattle.std.specs.{Prelude.{codes, if◌then◌else◌}, Char.{is_ascii_digit}, Str.{bytes_eq, Parse.{digits_value}}}
use Rattle.drl_lex.specs.{Bytes.{is_unit_byte}, Fronts.{longest}}

abbrev pub is_empty_text : List ℕ → Bool
is_empty_text [] = true
is_empty_text (b ∷ bytes) = false

abbrev pub part_step : List ℕ → List ℕ → List ℕ → List ℕ × List ℕ → ℕ × List ℕ
part_step unit bytes digits letters = if not (is_empty_text digits) && bytes_eq letters.0 unit then (digits_value 10 digits, letters.1) else (0, bytes)

-- how many of the unit stand at the front, and the bytes behind them
unfoldable pub unit_part_at : List ℕ → List ℕ → ℕ × List ℕ
unit_part_at unit bytes = part_step unit bytes (longest is_ascii_digit bytes).0 (longest is_unit_byte (longest is_ascii_digit bytes).1)

abbrev pub last_step : Bool → List ℕ × List ℕ → Option ℕ
last_step others front = if (not (is_empty_text front.0) && bytes_eq front.1 (codes "ms")) || (is_empty_text front.1 && others) then Some (digits_value 10 front.0) else None

-- the milliseconds that the last bytes of a run write
unfoldable pub last_at : Bool → List ℕ → Option ℕ
last_at others bytes = last_step others (longest is_ascii_digit bytes)

abbrev pub total_of : ℕ → ℕ → ℕ → ℕ → ℕ → ℕ
total_of days hours minutes seconds rest = days * 86400000 + hours * 3600000 + minutes * 60000 + seconds * 1000 + rest

-- the length of time that a run writes
unfoldable pub time_of : List ℕ → Option ℕ
time_of run =
    let days = unit_part_at (codes "d") run in
    let hours = unit_part_at (codes "h") days.1 in
    let minutes = unit_part_at (codes "m") hours.1 in
    let seconds = unit_part_at (codes "s") minutes.1 in
    option_map (total_of days.0 hours.0 minutes.0 seconds.0) (last_at (nat_lt (length seconds.1) (length run)) seconds.1)

-- the number itself, or the greatest one of 64 bits where it is greater
unfoldable pub capped : ℕ → ℕ
capped n = min n (2 ^ 64 - 1)
