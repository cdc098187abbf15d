-- The value under which a row is kept, by its side of the equalities and of the range of time.
use Rattle.join_tests.proofs.Common.{◌≡◌, ◌∙◌, ap, refl, arith, ◌≤◌, length, List, [], ◌∷◌, map, Option, Some, None, option_map, cast_signed, FoldHasher, Value}
use Rattle.join_tests.proofs.Common.{Int, Row, Pattern, JoinKey, TimeKey, Look, join_keys, row_part, fed_with, as_one, time_key, row_moment, with_slot}
use Rattle.{join_tests.proofs.Common.{kept_under, row_side_of, side_part, row_time, row_key, kept_by_time, value_by}, std.specs.Int.{w64}}
use Rattle.std.specs.Hash.FoldHasher as hasher
use Rattle.join_tests.{specs.{declared.key.JoinSide.{JoinSide}, Keys.{number_for}, Kept.{row_value}}, proofs.Counting.{number_behind}}

-- several of them are fed to a hash, with a slot or without
pub sides_several : (f : JoinSide → Value) (sides : List JoinSide) (fed : FoldHasher) → fed ≡ fed_with hasher.initial (map f sides) → 2 ≤ length sides
    → Int (cast_signed w64 (hasher.finish fed)) ≡ as_one (map f sides)
unfolding number_for
sides_several f [] fed is many = absurd (omega arith)
sides_several f (side ∷ []) fed is many = absurd (omega arith)
sides_several f (side ∷ (other ∷ sides)) fed is many = ap (λ state. Int (cast_signed w64 (hasher.finish state))) is

pub sides_with_slot : (f : JoinSide → Value) (sides : List JoinSide) (fed : FoldHasher) (slot : Value) → fed ≡ fed_with hasher.initial (map f sides) → 1 ≤ length sides
    → Int (cast_signed w64 (hasher.finish (fed_with fed (slot ∷ [])))) ≡ with_slot (map f sides) slot
sides_with_slot f [] fed slot is many = absurd (omega arith)
sides_with_slot f (side ∷ sides) fed slot is many =
    ap (λ state. Int (cast_signed w64 (hasher.finish (fed_with state (slot ∷ []))))) is ∙ number_behind (f side) (map f sides) slot

module _ (look : Look) (row : Row) where
  parts_by : (keys : List JoinKey) → map (row_part look row) keys ≡ map (side_part look row) (map row_side_of keys)
  parts_by [] = refl
  parts_by (key ∷ keys) = ap (λ values. row_part look row key ∷ values) (parts_by keys)

  time_by : (values : List Value) (key : Option TimeKey) → kept_under values key (λ key. row_moment key look row) ≡ kept_by_time values (option_map row_time key) look row
  time_by values None = refl
  time_by values (Some key) = refl

  pub kept_by : (p : Pattern) → row_value p look row ≡ value_by (row_key p) look row
  unfolding row_value
  kept_by p =
      ap (λ values. kept_under values (time_key p) (λ key. row_moment key look row)) (parts_by (join_keys p))
      ∙ time_by (map (side_part look row) (map row_side_of (join_keys p))) (time_key p)
