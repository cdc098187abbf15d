-- What of a pattern decides under which value a candidate is kept, and under which values rows are sought for it.
use Rattle.std.specs.{Prelude.{◌≡◌, ℕ, map}, Option.{option_map}}
use Rattle.row_delta.specs.declared.row.Named.{Named}
use Rattle.rule_model.specs.declared.condition.Pattern.{Pattern}
use Rattle.join_tests.specs.{declared.{key.JoinKey.{JoinKey}, name_key.{NameKey.{NameKey}, NameTime.{NameTime}}, time_key.TimeKey.{TimeKey}}, Joins.{Look}}
use Rattle.join_tests.specs.{Keys.{join_keys}, TimeKeys.{time_key}, Kept.{candidate_value, rows_sought}}

-- the candidate's side of an equality
abbrev pub name_field : JoinKey → ℕ
name_field key = key.field

-- the candidate's side of a range of time
abbrev pub name_time : TimeKey → NameTime
name_time key = record { own = key.own; back = key.back; span = key.span }

-- the candidate's side of the equalities of a pattern and of its range of time
abbrev pub name_key : Pattern → NameKey
name_key p = record { fields = map name_field (join_keys p); time = option_map name_time (time_key p) }

-- patterns with the same one keep each candidate under the same value
abbrev pub KeptAlikeLaw : Type 0
KeptAlikeLaw = (p q : Pattern) (look : Look) (who : Named) → name_key p ≡ name_key q → candidate_value p look who ≡ candidate_value q look who

-- and seek rows for it under the same values
abbrev pub SoughtAlikeLaw : Type 0
SoughtAlikeLaw = (p q : Pattern) (look : Look) (who : Named) → name_key p ≡ name_key q → rows_sought p look who ≡ rows_sought q look who
