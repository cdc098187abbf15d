-- A step of the nodes of a network, each behind the one that it names, which stands before it.
use Rattle.std.specs.Prelude.{◌≡◌, ◌<◌, ◌+◌, ◌^◌, Bool, true, ℕ, cond, List, [], ◌∷◌, ◌++◌, Option, Some, None, slice_get, slice_index_or, length, take}
use Rattle.fx_base.specs.declared.fact.Fact.{Fact}
use Rattle.row_delta.specs.declared.{delta.Delta.{Delta}, row.{Named.{Named}, Row.{Row}}}
use Rattle.row_change.specs.Changes.{LeadsRows, IsDifference, changes_nothing}
use Rattle.rule_model.specs.{declared.{condition.Condition.{Condition}, program.Program.{Program}}, Rows.{pattern_of}, Snapshots.{Snapshot}, Moments.{IsAt}}
use Rattle.rule_model.specs.declared.moment.Moment.{Moment}
use Rattle.join_tests.specs.Joins.{Look}
use Rattle.join_memory.specs.Standing.{cleaned, no_names}
use Rattle.condition_rows.specs.{Lines.{line, empty_row}, Looks.{HasAllOf, NameHeld}, Sets.{candidates_of}}
use Rattle.pattern_gate.specs.{Gates.{has_good_window}, Moves.{MovesSnapshot}}
use Rattle.beta_node.specs.{Nodes.{condition_of}, Turns.{CountedStay}}
use Rattle.rete_net.specs.{declared.{changes.RuleChange.{RuleChange}, node.NetNode.{NetNode}}, Standing.{NetNodeStands, StandsIn}}
use Rattle.candidate_source.specs.declared.source.Source.{Source}

abbrev pub no_change : Delta
no_change = record { gone = []; come = [] }

abbrev pub empty_row_comes : Delta
empty_row_comes = record { gone = []; come = empty_row ∷ [] }

-- the difference in a place, or this one past the end
abbrev pub delta_at : Delta → List Delta → ℕ → Delta
delta_at none deltas place = slice_index_or deltas place none

-- what comes to a node: what the node before it answered, or what comes to the first nodes
abbrev pub left_delta : Delta → List Delta → Option ℕ → Delta
left_delta first deltas None = first
left_delta first deltas (Some parent) = delta_at first deltas parent

-- What is given for a step of a node and its gate: what leads from one snapshot to the next, a store that has at hand what is remembered of
-- both, and the true difference of the rows of the conditions before the node, of those that name no forgotten fact. Nothing changes of
-- the forgotten facts; `world` has all versions of both snapshots.
pub record IsNodeTurn (p : Program) (look : Look) (s next : Snapshot) (gone : List Fact) (come : Option Fact) (condition : Condition) (rows rows_now : Row → Bool) (forgotten : Named → Bool) (left : Delta) : Type 0 where
  pub window : has_good_window p (pattern_of condition) ≡ true
  pub moves : MovesSnapshot p s next gone come
  pub at_hand : HasAllOf look s forgotten
  pub at_hand_now : HasAllOf look next forgotten
  pub world : Look
  pub known : HasAllOf world s no_names
  pub known_now : HasAllOf world next no_names
  pub named : NameHeld s rows
  pub named_now : NameHeld next rows_now
  pub leads : LeadsRows (cleaned rows forgotten) (cleaned rows_now forgotten) left.gone left.come
  pub same : (who : Named) → forgotten who ≡ true → candidates_of p (pattern_of condition) s who ≡ candidates_of p (pattern_of condition) next who
  pub stay : CountedStay condition p world s next rows rows_now forgotten left

-- what a step of a node and its gate answers: where it stood it stands, and the answer is the true difference of the rows of its condition
pub record NodeStep (p : Program) (look : Look) (gone : List Fact) (come : Option Fact) (moment : Moment) (old new : NetNode) (left delta : Delta) : Type 0 where
  pub parent : new.parent ≡ old.parent
  pub condition : condition_of new.node ≡ condition_of old.node
  pub stands : (s next : Snapshot) (rows rows_now : Row → Bool) (forgotten : Named → Bool) → NetNodeStands p old s rows forgotten → IsAt next moment
      → IsNodeTurn p look s next gone come (condition_of old.node) rows rows_now forgotten left → NetNodeStands p new next rows_now forgotten
  pub difference : (s next : Snapshot) (rows rows_now : Row → Bool) (forgotten : Named → Bool) → NetNodeStands p old s rows forgotten → IsAt next moment
      → IsNodeTurn p look s next gone come (condition_of old.node) rows rows_now forgotten left
      → IsDifference (cleaned (line p s (condition_of old.node) rows) forgotten) (cleaned (line p next (condition_of old.node) rows_now) forgotten) delta

-- A step of the node in a place, whose source was this and is that: where it stood it stands, and the answer is the true difference of the
-- rows of its condition.
pub record TurnStep (p : Program) (look : Look) (gone : List Fact) (come : Option Fact) (moment : Moment) (was is : Option Source) (k : ℕ) (old new : NetNode) (left delta : Delta) : Type 0 where
  pub parent : new.parent ≡ old.parent
  pub condition : condition_of new.node ≡ condition_of old.node
  pub stands : (s next : Snapshot) (rows rows_now : Row → Bool) (forgotten : Named → Bool) → StandsIn p was k old s rows forgotten → IsAt next moment
      → IsNodeTurn p look s next gone come (condition_of old.node) rows rows_now forgotten left → StandsIn p is k new next rows_now forgotten
  pub difference : (s next : Snapshot) (rows rows_now : Row → Bool) (forgotten : Named → Bool) → StandsIn p was k old s rows forgotten → IsAt next moment
      → IsNodeTurn p look s next gone come (condition_of old.node) rows rows_now forgotten left
      → IsDifference (cleaned (line p s (condition_of old.node) rows) forgotten) (cleaned (line p next (condition_of old.node) rows_now) forgotten) delta

-- The nodes before this place took their step, each after those before it, and each by its source before the step and behind it; what comes
-- to the first nodes is `first`.
abbrev pub SteppedBelow : Program → Look → List Fact → Option Fact → Moment → Delta → (ℕ → Option Source) → (ℕ → Option Source) → List NetNode → List NetNode → List Delta → ℕ → Type 0
SteppedBelow p look gone come moment first was is before after deltas n =
    (k : ℕ) → k < n → (old new : NetNode) → slice_get before k ≡ Some old → slice_get after k ≡ Some new
    → TurnStep p look gone come moment (was k) (is k) k old new (left_delta first (take k deltas) old.parent) (delta_at first deltas k)

-- the change of the rule in a place, if the difference has a row
abbrev pub change_at : ℕ → Delta → List RuleChange
change_at place delta = cond (changes_nothing delta) [] (record { rule = record { 0 = place }; delta = delta } ∷ [])

-- the changes of the rules from a place on, whose last nodes are these
abbrev pub changes_from : Delta → List Delta → ℕ → List ℕ → List RuleChange
changes_from none deltas place [] = []
changes_from none deltas place (end ∷ ends) = change_at place (delta_at none deltas end) ++ changes_from none deltas (place + 1) ends

-- what a step of a network answers: its nodes took their step, and the changes are what the last nodes of the rules answered
pub record NetStep (p : Program) (look : Look) (gone : List Fact) (come : Option Fact) (moment : Moment) (first : Delta) (was is : ℕ → Option Source) (before after : List NetNode) (ends : List ℕ) (given : List RuleChange) : Type 0 where
  pub deltas : List Delta
  pub nodes : length after ≡ length before
  pub stepped : SteppedBelow p look gone come moment first was is before after deltas (length before)
  pub answers : length ends < 2 ^ 16 → given ≡ changes_from first deltas 0 ends
