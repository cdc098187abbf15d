-- How the memory of candidates keeps them: each under its tag with a number that rises, and under its join value by that number.
use Rattle.std.specs.{Prelude.{◌≡◌, ◌<◌, ℕ, List, map as list_map, Option, Some, None, cond, nat_eq}, Ordering.{nat_cmp}}
use Rattle.std.specs.FinMap as map
use Rattle.std.specs.{List.{IsDistinct}, Map.{keys_of, lookup}}
use Rattle.fx_base.specs.{declared.value.Value.{Value}, Values.{same_value}}
use Rattle.row_delta.specs.declared.row.Named.{Named}
use Rattle.alpha_memory.specs.{Candidates.{Candidate}, JoinIndex.{at}, declared.{join_index.JoinIndex.{JoinIndex}, memory.Place.{Place}}}

-- the candidate with this tag and this place
abbrev pub candidate : ℕ → Place → Candidate
candidate tag place = (record { id = place.id; tag = record { 0 = tag } }, place.join)

-- it, under its number
abbrev pub numbered_entry : ℕ × Place → ℕ × Candidate
numbered_entry e = (e.1.number, candidate e.0 e.1)

-- the candidates by their numbers
unfoldable pub numbered : List (ℕ × Place) → map.FinMap nat_cmp Candidate
numbered places = map.from_entries (list_map numbered_entry places)

-- the candidate, if there is one and it has this join value
abbrev pub under : Value → Option Candidate → Option Named
under join None = None
under join (Some c) = cond (same_value join c.1) (Some c.0) None

-- tags stand once, numbers are those of one tag and below the next one, and the index has the candidates by their join values and numbers
pub record AgreePlaces (places : List (ℕ × Place)) (next : ℕ) (index : JoinIndex Value ℕ Named) : Type 0 where
  pub once : IsDistinct nat_eq (keys_of places)
  pub apart : (s t : ℕ) (p q : Place) → lookup (nat_eq s) places ≡ Some p → lookup (nat_eq t) places ≡ Some q → p.number ≡ q.number → s ≡ t
  pub below : (tag : ℕ) (place : Place) → lookup (nat_eq tag) places ≡ Some place → place.number < next
  pub by_join : (join : Value) (number : ℕ) → at same_value nat_cmp index join number ≡ under join (map.get (numbered places) number)

-- the name of a candidate, under its number
abbrev pub name_entry : ℕ × Place → ℕ × Named
name_entry e = (e.1.number, (candidate e.0 e.1).0)
