-- What is given for a step of a node.
use Rattle.std.specs.Prelude.{ℕ, Bool, ◌≤ℤ◌}
use Rattle.row_delta.specs.declared.{delta.Delta.{Delta}, row.{Named.{Named}, Row.{Row}}}
use Rattle.row_change.specs.Changes.{LeadsRows}
use Rattle.rule_model.specs.{declared.{condition.Condition.{Condition, TheVariants.{Plain}}, program.Program.{Program}}, Distinct.{HaveDistinctTags}}
use Rattle.rule_model.specs.{Rows.{pattern_of}, Snapshots.{Snapshot, floor}}
use Rattle.join_tests.specs.Joins.{Look, joins}
use Rattle.join_memory.specs.{Inputs.{IsNameDifference}, Standing.{cleaned, remembered, no_names}}
use Rattle.counting_node.specs.Laws.{ForgottenStay}
use Rattle.condition_rows.specs.{Sets.{candidates_of}, Looks.{HasAllOf, NameHeld}}

-- What a condition counts or gathers of forgotten facts stays as it is, and for rows that come there is none of it. A condition that binds
-- a fact counts nothing: its rows name what they are made of.
abbrev pub CountedStay : Condition → Program → Look → Snapshot → Snapshot → (Row → Bool) → (Row → Bool) → (Named → Bool) → Delta → Type 0
CountedStay (Plain q) p world s next rows rows_now forgotten left = Unit {0}
CountedStay c p world s next rows rows_now forgotten left =
    ForgottenStay (joins (pattern_of c) world) rows rows_now (candidates_of p (pattern_of c) s) (candidates_of p (pattern_of c) next) forgotten left

-- The true differences of the rows of the conditions before a node and of its candidates, from one snapshot to the next, of what names no
-- forgotten fact. The store has at hand what is remembered of both snapshots; `world` has all of both.
pub record IsConditionTurn (p : Program) (condition : Condition) (look world : Look) (s next : Snapshot) (rows rows_now : Row → Bool) (forgotten : Named → Bool) (left right : Delta) : Type 0 where
  pub tags : HaveDistinctTags s.facts
  pub tags_now : HaveDistinctTags next.facts
  pub clock : s.clock ≤ℤ next.clock
  pub floors : (entry : ℕ) → floor p s entry ≤ℤ floor p next entry
  pub at_hand : HasAllOf look s forgotten
  pub at_hand_now : HasAllOf look next forgotten
  pub known : HasAllOf world s no_names
  pub known_now : HasAllOf world next no_names
  pub named : NameHeld s rows
  pub named_now : NameHeld next rows_now
  pub stay : CountedStay condition p world s next rows rows_now forgotten left
  pub leads : LeadsRows (cleaned rows forgotten) (cleaned rows_now forgotten) left.gone left.come
  pub candidates : IsNameDifference (remembered (candidates_of p (pattern_of condition) s) forgotten) (remembered (candidates_of p (pattern_of condition) next) forgotten) right
