-- What the members of a fan are, and what a change of their rows and one of their candidates are for each of them.
use Rattle.std.specs.{Prelude.{◌≡◌, ◌<◌, ◌&&◌, ◌||◌, not, true, false, ℕ, List, [], length, Option, Some, None, slice_get}, BTreeMap.{BTreeMap, get}}
use Rattle.std.specs.{Option.{is_some}, Ordering.{nat_cmp}}
use Rattle.fx_base.specs.{declared.value.Value.{Value}, Values.{same_value}}
use Rattle.row_delta.specs.{declared.{delta.Delta.{Delta}, row.{Named.{Named}, Row.{Row}}}, NameOrder.{name_cmp}, Rows.{has, row_cmp}}
use Rattle.row_change.specs.Changes.{IsDifference}
use Rattle.alpha_memory.specs.JoinIndex.{at}
use Rattle.join_tests.specs.Joins.{Look}
use Rattle.join_memory.specs.{declared.candidates.Candidates.{Candidates}, Memories.{has_left, has_right, made, KeepsMemories}, Apart.{beside, LooksWhereKept}}
use Rattle.join_memory.specs.Doors.{keeps_time}
use Rattle.fan_join.specs.{declared.fan.FanJoin.{FanJoin}, Turns.{AreNamesTurned}}

-- the candidates of the member in a place
abbrev pub IsMemberAt : FanJoin → ℕ → Candidates → Type 0
IsMemberAt fan k c = slice_get fan.members.items k ≡ Some c

-- each member looks for rows where they are kept
abbrev pub AreBeside : FanJoin → Type 0
AreBeside fan = (k : ℕ) (c : Candidates) → IsMemberAt fan k c → LooksWhereKept fan.left c

-- where the key has no range of time, members are found under the values under which they keep candidates
abbrev pub IsReached : FanJoin → Type 0
IsReached fan = keeps_time fan.left ≡ false → (k : ℕ) (c : Candidates) (value : Value) (who : Named) → IsMemberAt fan k c
    → is_some (at same_value name_cmp c.names value who) ≡ true → is_some (at same_value nat_cmp fan.reached value k) ≡ true

-- nothing goes and nothing comes
abbrev pub nothing : Delta
nothing = record { gone = []; come = [] }

-- a difference, or an empty one
abbrev pub given_delta : Option Delta → Delta
given_delta None = nothing
given_delta (Some delta) = delta

-- what has changed for the member in a place
abbrev pub member_delta : BTreeMap ℕ Delta → ℕ → Delta
member_delta deltas k = given_delta (get nat_cmp deltas k)

-- it keeps no rows and no candidates
pub record IsEmpty (fan : FanJoin) : Type 0 where
  pub rows : (value : Value) (row : Row) → at same_value row_cmp fan.left.rows value row ≡ None
  pub names : (k : ℕ) (c : Candidates) → IsMemberAt fan k c → (value : Value) (who : Named) → at same_value name_cmp c.names value who ≡ None

-- Rows before the members leave and then come, once for all of them: each member keeps the same candidates, and of those whose rows
-- change the differences are answered, by their places.
pub record AreRowsTurned (old new : FanJoin) (look : Look) (gone come : List Row) (deltas : BTreeMap ℕ Delta) : Type 0 where
  pub within : (k : ℕ) (delta : Delta) → get nat_cmp deltas k ≡ Some delta → k < length old.members.items
  pub kept : (k : ℕ) (c : Candidates) → IsMemberAt old k c
      → KeepsMemories (beside old.left c) (beside new.left c) look (λ r. (has_left (beside old.left c) look r && not (has gone r)) || has come r) (has_right (beside old.left c) look)
  pub difference : (k : ℕ) (c : Candidates) → IsMemberAt old k c → IsDifference (made (beside old.left c) look) (made (beside new.left c) look) (member_delta deltas k)
  pub reached : IsReached old → IsReached new

-- Candidates of the member in a place leave and then come; the others and the left rows stay.
pub record IsMemberTurned (old new : FanJoin) (look : Look) (place : ℕ) (gone come : List Named) (so_far delta : Delta) : Type 0 where
  pub left : new.left ≡ old.left
  pub many : length new.members.items ≡ length old.members.items
  pub others : (k : ℕ) → (k ≡ place → ⊥) → slice_get new.members.items k ≡ slice_get old.members.items k
  pub member : (c d : Candidates) → IsMemberAt old place c → IsMemberAt new place d → AreNamesTurned old.left look gone come so_far c d delta
  pub reached : IsReached old → IsReached new
