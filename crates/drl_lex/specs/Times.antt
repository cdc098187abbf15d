-- Numbers and lengths of time as they are written.
use Rattle.std.specs.{Prelude.{◌≡◌, ℕ, ◌<◌, ◌+◌, ◌*◌, ◌++◌, List, [], length, true, codes}, List.{list_all}, Char.{is_ascii_digit}, Str.Parse.{digits_value}}

-- decimal digits, at least one, and the number that they write
pub record IsNumeral (n : ℕ) (text : List ℕ) : Type 0 where
  pub some : 0 < length text
  pub digits : list_all is_ascii_digit text ≡ true
  pub value : digits_value 10 text ≡ n

-- so many of a unit: digits and the unit, or nothing for none
pub data IsTimePart (unit : List ℕ) : ℕ → List ℕ → Type 0 where
  no_part : IsTimePart unit 0 []
  some_part : {count : ℕ} {digits text : List ℕ} → IsNumeral count digits → text ≡ digits ++ unit → IsTimePart unit count text

-- the milliseconds behind the other parts: their unit may be left out where another part is written
pub data IsLastPart (others : List ℕ) : ℕ → List ℕ → Type 0 where
  no_last : 0 < length others → IsLastPart others 0 []
  some_last : {count : ℕ} {digits text : List ℕ} → IsNumeral count digits → text ≡ digits ++ codes "ms" → IsLastPart others count text
  no_unit : {count : ℕ} {digits : List ℕ} → 0 < length others → IsNumeral count digits → IsLastPart others count digits

-- a length of time: days, hours, minutes, seconds and milliseconds, in this order
pub record IsTime (ms : ℕ) (text : List ℕ) : Type 0 where
  pub days : ℕ
  pub hours : ℕ
  pub minutes : ℕ
  pub seconds : ℕ
  pub rest : ℕ
  pub day_part : List ℕ
  pub hour_part : List ℕ
  pub minute_part : List ℕ
  pub second_part : List ℕ
  pub last_part : List ℕ
  pub parts : text ≡ day_part ++ (hour_part ++ (minute_part ++ (second_part ++ last_part)))
  pub in_days : IsTimePart (codes "d") days day_part
  pub in_hours : IsTimePart (codes "h") hours hour_part
  pub in_minutes : IsTimePart (codes "m") minutes minute_part
  pub in_seconds : IsTimePart (codes "s") seconds second_part
  pub in_millis : IsLastPart (day_part ++ (hour_part ++ (minute_part ++ second_part))) rest last_part
  pub total : ms ≡ days * 86400000 + hours * 3600000 + minutes * 60000 + seconds * 1000 + rest
