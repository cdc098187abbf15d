-- What a node stands for once it is loaded with what is kept, and with extras of what is forgotten; and what it counts of what is forgotten.
use Rattle.std.specs.Prelude.{◌≡◌, ◌≤ℤ◌, ◌<◌, ◌↔◌, ℕ, Bool, true, List, [], length, Option, Some, None}
use Rattle.fx_base.specs.{Lists.{In}, declared.{fact.Fact.{Fact}, ids.RuleId.{RuleId}}}
use Rattle.row_delta.specs.{declared.{extra.Extra.{Extra}, row.{Named.{Named}, Row.{Row}}}, Rows.{has, InOrder}}
use Rattle.rule_model.specs.{declared.{condition.Condition.{Condition, TheVariants.{Plain}}, program.Program.{Program}}, Distinct.{HaveDistinctTags}}
use Rattle.rule_model.specs.{Rows.{pattern_of}, Snapshots.{Snapshot, floor}}
use Rattle.join_tests.specs.Joins.{Look, joins}
use Rattle.join_memory.specs.{declared.memories.Memories.{Memories}, Joined.{has_name}, Memories.{made}, Standing.{cleaned, remembered, no_names, StandsFor}}
use Rattle.join_memory.specs.Valued.{without_value, shows_value}
use Rattle.counting_node.specs.{Counts.{counts_blockers, counts_witnesses, where_witnessed}, Extras.{blockers_laden, witnesses_laden, gathered_laden}}
use Rattle.counting_node.specs.{Extras.{rows_of_extras}, Gathers.{gathers, result_for}, Laws.{StandsLaden}, Origins.{itself, shows_any}, Tallies.{shown}}
use Rattle.counting_node.specs.Doors.{tallied_pattern}
use Rattle.not_node.specs.{declared.node.NotNode.{NotNode}, Rows.{IsInStep, not_rows}, Waiting.{NoneDue}, Doors.{awaited_entry, blocker_tallies, reached_floor}}
use Rattle.not_node.specs.Doors.{waiting_rows}
use Rattle.condition_rows.specs.{Looks.{empty_snapshot, HasAllOf, NameHeld}, Sets.{held, candidates_of}}
use Rattle.beta_node.specs.declared.node.{FoldNode.{FoldNode}, Node.{Node}}
use Rattle.beta_node.specs.declared.node.Node.TheVariants as node
use Rattle.beta_node.specs.Nodes.{condition_of, NodeStands}
use Rattle.laden_rows.specs.Extras.{lost_partners, values_gathered}
use Rattle.beta_join.specs.Doors.{joined_pattern}

-- ---- a loaded node

-- the tallies are those of the candidates that pass for each row, and of its extra
abbrev pub CountsLaden : {T : Type 0} → (T → Look → (Named → Bool) → Type 0) → (T → Look → (Named → Bool) → Extra → Type 0) → Program → Memories T → Look → Look → Snapshot → (Row → Bool) → (Row → Option Extra) → Type 0
CountsLaden holds laden p m look world s rows extra =
    StandsLaden holds laden m look world (joins m.pattern (held s)) rows (candidates_of p m.pattern s) extra

-- the node of a `not` waits as one that stands for a snapshot does
pub record WaitsLaden (p : Program) (waiting : NotNode) (look world : Look) (s : Snapshot) (rows : Row → Bool) (extra : Row → Option Extra) : Type 0 where
  pub counts : CountsLaden counts_blockers blockers_laden p (blocker_tallies waiting) look world s rows extra
  pub in_step : IsInStep p look waiting
  pub none_due : NoneDue (waiting_rows waiting) (floor p s (awaited_entry waiting))
  pub floor : reached_floor waiting ≤ℤ floor p s (awaited_entry waiting)

pub record FoldsLaden (p : Program) (fold : FoldNode) (look world : Look) (s : Snapshot) (rows : Row → Bool) (extra : Row → Option Extra) : Type 0 where
  pub counts : CountsLaden (gathers fold.accumulate) (gathered_laden fold.accumulate) p fold.tally.memories look world s rows extra
  pub pattern : tallied_pattern fold.tally ≡ fold.accumulate.pattern

-- The node keeps these rows and the candidates of the snapshot, nothing of which is forgotten; and what it counts or gathers beside each row
-- is of the candidates, as a world knows them, and of the row's extra.
abbrev pub Laden : Program → Node → Look → Look → Snapshot → (Row → Bool) → (Row → Option Extra) → Type 0
Laden p (node.Join join) look world s rows extra = StandsFor join.memories look rows (candidates_of p (joined_pattern join) s) no_names
Laden p (node.Not waiting) look world s rows extra = WaitsLaden p waiting look world s rows extra
Laden p (node.Exists tally) look world s rows extra = CountsLaden counts_witnesses witnesses_laden p tally.memories look world s rows extra
Laden p (node.Fold fold) look world s rows extra = FoldsLaden p fold look world s rows extra

-- What is loaded: the rows before the condition, the candidates of the snapshot, which the store has, and extras in the order of their
-- rows. `world` has what the store has.
pub record IsLoad (p : Program) (condition : Condition) (look world : Look) (s : Snapshot) (before : Row → Bool) (left : List Row) (right : List Named) (extras : List Extra) : Type 0 where
  pub tags : HaveDistinctTags s.facts
  pub floors : (entry : ℕ) → floor p empty_snapshot entry ≤ℤ floor p s entry
  pub at_hand : HasAllOf look s no_names
  pub known : HasAllOf world s no_names
  pub named : NameHeld s before
  pub rows : (row : Row) → has left row ≡ before row
  pub candidates : (who : Named) → has_name right who ≡ candidates_of p (pattern_of condition) s who
  pub in_order : InOrder (rows_of_extras extras)

-- the rows of a node, by what it keeps
abbrev pub node_rows : Program → Look → Node → Row → Bool
node_rows p look (node.Join join) = made join.memories look
node_rows p look (node.Not waiting) = not_rows p look waiting
node_rows p look (node.Exists tally) = shown itself shows_any where_witnessed tally.memories look
node_rows p look (node.Fold fold) = shown without_value shows_value (result_for fold.accumulate) fold.tally.memories look

-- ---- what is counted of forgotten facts

-- a condition that binds no fact, and so may count forgotten ones
abbrev pub IsAside : Condition → Type 0
IsAside (Plain pattern) = ⊥
IsAside c = Unit {0}

-- In a snapshot a condition counts forgotten facts beside a row before it that names none: their number, and what it gathers of them.
pub record IsExtraBeside (p : Program) (of : Condition) (s : Snapshot) (rows : Row → Bool) (forgotten : Named → Bool) (under : RuleId) (place : ℕ) (e : Extra) : Type 0 where
  pub rule : e.rule ≡ under
  pub condition : e.condition ≡ place
  pub aside : IsAside of
  pub there : cleaned rows forgotten e.row ≡ true
  pub some : 0 < e.count
  pub counted : e.count ≡ length (lost_partners p s forgotten (pattern_of of) e.row)
  pub gathered : e.values ≡ values_gathered of (lost_partners p s forgotten (pattern_of of) e.row)

-- these are all of them, in the order of their rows
pub record AreExtrasBeside (p : Program) (condition : Condition) (s : Snapshot) (rows : Row → Bool) (forgotten : Named → Bool) (under : RuleId) (place : ℕ) (extras : List Extra) : Type 0 where
  pub in_order : InOrder (rows_of_extras extras)
  pub exact : (e : Extra) → In e extras ↔ IsExtraBeside p condition s rows forgotten under place e

-- ---- what is kept, and all of it

-- an extra tells of lost facts how many they are, and what a condition gathers of them; where there is none, none is lost
abbrev pub IsLost : Condition → List Fact → Option Extra → Type 0
IsLost c lost None = lost ≡ []
IsLost c lost (Some e) = (e.count ≡ length lost) × (e.values ≡ values_gathered c lost)

-- One snapshot has what is not forgotten of another, at its floors; of the rows before the condition those are kept that name no forgotten
-- fact, and the extras of a condition that binds no fact tell of the forgotten candidates that join them.
pub record IsResumed (p : Program) (c : Condition) (s t : Snapshot) (before kept : Row → Bool) (forgotten : Named → Bool) (extra : Row → Option Extra) : Type 0 where
  pub tags : HaveDistinctTags s.facts
  pub named : NameHeld s before
  pub at_hand : HasAllOf (held t) s forgotten
  pub rows : (row : Row) → kept row ≡ cleaned before forgotten row
  pub candidates : (who : Named) → candidates_of p (pattern_of c) t who ≡ remembered (candidates_of p (pattern_of c) s) forgotten who
  pub floors : (entry : ℕ) → floor p t entry ≡ floor p s entry
  pub extras : IsAside c → (row : Row) → cleaned before forgotten row ≡ true → IsLost c (lost_partners p s forgotten (pattern_of c) row) (extra row)

-- A node that is loaded with what is kept, and with these extras, stands for all of it.
abbrev pub ResumesLaw : Type 0
ResumesLaw = (p : Program) (n : Node) (look : Look) (s t : Snapshot) (before kept : Row → Bool) (forgotten : Named → Bool) (extra : Row → Option Extra)
    → IsResumed p (condition_of n) s t before kept forgotten extra → Laden p n look (held s) t kept extra → NodeStands p n look s before forgotten
