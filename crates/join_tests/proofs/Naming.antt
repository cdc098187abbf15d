-- The value under which a candidate is kept, and those under which rows are sought for it, by its side of the equalities and of the range of time.
use Rattle.join_tests.proofs.Common.{◌≡◌, ◌∙◌, sym, ap, refl, ℕ, pos, ◌+ℤ◌, ◌-ℤ◌, List, [], ◌∷◌, map, Option, Some, None, option_map, Value, Named, Pattern}
use Rattle.join_tests.proofs.Common.{JoinKey, TimeKey, Look, join_keys, candidate_part, given_or_true, field_of, as_one, time_key, candidate_moment}
use Rattle.join_tests.proofs.Common.{first_event, last_event, moment_at_point, slot_value, with_slot, once, kept_under, sought_under}
use Rattle.join_tests.specs.{declared.name_key.{NameKey.{NameKey}, NameTime.{NameTime}}, Kept.{candidate_value, rows_sought}, NameKeys.{name_field, name_time}}
use Rattle.join_tests.specs.NameKeys.{name_key, KeptAlikeLaw, SoughtAlikeLaw}

module _ (look : Look) (who : Named) where
  abbrev field_part : ℕ → Value
  field_part field = given_or_true (field_of (look who.tag) field)

  abbrev kept_with : List Value → Option NameTime → Value
  kept_with values None = as_one values
  kept_with values (Some time) = with_slot values (slot_value time.span (moment_at_point time.own (look who.tag)))

  abbrev sought_with : List Value → Option NameTime → List Value
  sought_with values None = as_one values ∷ []
  sought_with values (Some time) =
      let moment = moment_at_point time.own (look who.tag) in
      once (with_slot values (slot_value time.span ((moment +ℤ time.back) -ℤ pos time.span))) (with_slot values (slot_value time.span (moment +ℤ time.back)))

  parts_with : (keys : List JoinKey) → map (candidate_part look who) keys ≡ map field_part (map name_field keys)
  parts_with [] = refl
  parts_with (key ∷ keys) = ap (λ values. candidate_part look who key ∷ values) (parts_with keys)

  time_kept : (values : List Value) (key : Option TimeKey) → kept_under values key (λ key. candidate_moment key look who) ≡ kept_with values (option_map name_time key)
  time_kept values None = refl
  time_kept values (Some key) = refl

  time_sought : (values : List Value) (key : Option TimeKey)
      → sought_under values key (λ key. first_event key (candidate_moment key look who)) (λ key. last_event key (candidate_moment key look who)) ≡ sought_with values (option_map name_time key)
  time_sought values None = refl
  time_sought values (Some key) = refl

  kept_by_name : (p : Pattern) → candidate_value p look who ≡ kept_with (map field_part (name_key p).fields) (name_key p).time
  unfolding candidate_value
  kept_by_name p = ap (λ values. kept_under values (time_key p) (λ key. candidate_moment key look who)) (parts_with (join_keys p)) ∙ time_kept (map field_part (map name_field (join_keys p))) (time_key p)

  sought_by_name : (p : Pattern) → rows_sought p look who ≡ sought_with (map field_part (name_key p).fields) (name_key p).time
  unfolding rows_sought
  sought_by_name p =
      ap (λ values. sought_under values (time_key p) (λ key. first_event key (candidate_moment key look who)) (λ key. last_event key (candidate_moment key look who))) (parts_with (join_keys p))
      ∙ time_sought (map field_part (map name_field (join_keys p))) (time_key p)

pub kept_alike : KeptAlikeLaw
kept_alike p q look who same =
    kept_by_name look who p ∙ ap (λ (key : NameKey). kept_with look who (map (field_part look who) key.fields) key.time) same ∙ sym (kept_by_name look who q)

pub sought_alike : SoughtAlikeLaw
sought_alike p q look who same =
    sought_by_name look who p ∙ ap (λ (key : NameKey). sought_with look who (map (field_part look who) key.fields) key.time) same ∙ sym (sought_by_name look who q)
