-- The value under which a row or a candidate is kept, and the values under which the other side is sought.
use Rattle.std.specs.{Prelude.{◌≡◌, ℤ, Bool, cond, List, [], ◌∷◌, ◌++◌, map, Option, Some, None}, List.{list_any}}
use Rattle.fx_base.specs.{declared.value.Value.{Value}, Values.{same_value}}
use Rattle.row_delta.specs.declared.row.{Named.{Named}, Row.{Row}}
use Rattle.rule_model.specs.declared.condition.Pattern.{Pattern}
use Rattle.join_tests.specs.declared.{time_key.TimeKey.{TimeKey}, sought.{Sought.{Sought, TheVariants.{One, Two}}, Sight.{Sight, TheVariants.{Alike, Apart}}}}
use Rattle.join_tests.specs.{Joins.{Look}, JoinValues.{shown}, Keys.{join_keys, row_part, candidate_part, as_one}, TimeKeys.{time_key}, Slots.{slot_value}}
use Rattle.join_tests.specs.Slots.{row_moment, candidate_moment, first_event, last_event, first_candidate, last_candidate}

-- the values of equalities, and a slot behind them, as one value
abbrev pub with_slot : List Value → Value → Value
with_slot values slot = as_one (values ++ slot ∷ [])

-- the values of equalities as one value, with the slot of a moment where time bounds the join
abbrev pub kept_under : List Value → Option TimeKey → (TimeKey → ℤ) → Value
kept_under values None moment = as_one values
kept_under values (Some key) moment = with_slot values (slot_value key.span (moment key))

-- one value once
abbrev pub once : Value → Value → List Value
once a b = cond (same_value a b) (a ∷ []) (a ∷ b ∷ [])

-- the values of equalities as one value, or as two, with the slots of the first and the last moment of a range
abbrev pub sought_under : List Value → Option TimeKey → (TimeKey → ℤ) → (TimeKey → ℤ) → List Value
sought_under values None first last = as_one values ∷ []
sought_under values (Some key) first last = once (with_slot values (slot_value key.span (first key))) (with_slot values (slot_value key.span (last key)))

-- the join value of a row, under which it is kept
unfoldable pub row_value : Pattern → Look → Row → Value
row_value p look row = kept_under (map (row_part look row) (join_keys p)) (time_key p) (λ key. row_moment key look row)

-- the join value of a candidate
unfoldable pub candidate_value : Pattern → Look → Named → Value
candidate_value p look who = kept_under (map (candidate_part look who) (join_keys p)) (time_key p) (λ key. candidate_moment key look who)

-- the join values of the rows that a candidate may join
unfoldable pub rows_sought : Pattern → Look → Named → List Value
rows_sought p look who =
    sought_under (map (candidate_part look who) (join_keys p)) (time_key p)
    (λ key. first_event key (candidate_moment key look who)) (λ key. last_event key (candidate_moment key look who))

-- the join values of the candidates that may join a row
unfoldable pub candidates_sought : Pattern → Look → Row → List Value
candidates_sought p look row =
    sought_under (map (row_part look row) (join_keys p)) (time_key p)
    (λ key. first_candidate key (row_moment key look row)) (λ key. last_candidate key (row_moment key look row))

-- whether the value is one of these
abbrev pub is_value_among : List Value → Value → Bool
is_value_among values v = list_any (same_value v) values

-- the values behind what is sought
abbrev pub all_sought : Sought → List Value
all_sought (One v) = shown v ∷ []
all_sought (Two a b) = a ∷ b ∷ []

-- the value under which a candidate is kept that has this sight
abbrev pub own_value : Sight → Value
own_value (Alike v) = shown v
own_value (Apart v sought) = v

-- the values under which rows are sought for it
abbrev pub values_seen : Sight → List Value
values_seen (Alike v) = shown v ∷ []
values_seen (Apart v sought) = all_sought sought

-- they are those of the rows that a candidate may join
abbrev pub SeesRows : Pattern → Look → Named → Sight → Type 0
SeesRows p look who sight = values_seen sight ≡ rows_sought p look who

-- a value, if there is one
abbrev pub one_or_none : Option Value → List Value
one_or_none None = []
one_or_none (Some v) = v ∷ []
