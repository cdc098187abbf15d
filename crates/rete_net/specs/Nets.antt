-- For which snapshot a network stands, where some facts have been forgotten, and what it answers.
use Rattle.std.specs.Prelude.{◌≡◌, ◌==◌, ◌≤ℤ◌, ◌<ℤ◌, ◌^◌, pos, ℕ, ℤ, Bool, false, cond, List, [], ◌∷◌, map, length, Option, Some, None, slice_get}
use Rattle.std.specs.{List.{filter, Sorted.{IsStrictlySortedBy}}, Ordering.{nat_cmp}}
use Rattle.row_delta.specs.{declared.{delta.Delta.{Delta}, row.{Named.{Named}, Row.{Row}}}, Differences.{IsBetween}, Rows.{has}}
use Rattle.row_change.specs.Changes.{changes_nothing}
use Rattle.rule_model.specs.{declared.{condition.Condition.{Condition}, program.{Program.{Program}, Rule.{Rule}}}, Rows.{pattern_of, rows}}
use Rattle.rule_model.specs.Snapshots.{Snapshot}
use Rattle.join_memory.specs.Standing.{clean, cleaned}
use Rattle.condition_rows.specs.Sets.{candidates_of, rows_of}
use Rattle.pattern_gate.specs.Moves.{IsOrderly, at_clock}
use Rattle.candidate_source.specs.Sources.{source_at}
use Rattle.beta_node.specs.{Nodes.{condition_of}, Quiet.{IsBefore}}
use Rattle.rete_net.specs.{declared.{changes.RuleChange.{RuleChange}, node.NetNode.{NetNode}, net.Rete.{Rete}}, Fans.{AreFans, shown_nodes}}
use Rattle.rete_net.specs.{Indexes.{IsIndexOf}, Owners.{AreNodeOwners}, Schedules.{AreScheduled}, Sources.{AreSources}, Standing.{StandsIn}, Shapes.{before}}
use Rattle.rete_net.specs.Shapes.{IsNetOf}

-- The nodes of a program's network, which its index and its schedule find, stand for a snapshot: each, with what it keeps of its own, in a
-- fan or in a source, for the rows of the conditions before it.
pub record NodesStand (p : Program) (net : Rete) (s : Snapshot) (forgotten : Named → Bool) : Type 0 where
  pub shape : IsNetOf p (shown_nodes net) net.ends.items
  pub indexed : IsIndexOf net.sources (shown_nodes net) net.ends.items net.index
  pub scheduled : AreScheduled p net.sources net.nodes.items net.schedule
  pub fans : AreFans net.nodes.items net.fans
  pub sources : AreSources net.nodes.items net.fans net.sources
  pub owned : AreNodeOwners p shape.conditions (length (shown_nodes net)) net.owners.items
  pub nodes : (k : ℕ) (n : NetNode) → slice_get (shown_nodes net) k ≡ Some n → StandsIn p (source_at net.sources k) k n s (rows_of p s (before shape.conditions n.parent)) forgotten

-- The nodes have the same before them in both snapshots: the conditions of each have the same rows that name no forgotten fact, and its
-- pattern has the same candidates.
pub record HaveSameFronts (p : Program) (nodes : List NetNode) (conditions : ℕ → List Condition) (forgotten : Named → Bool) (s other : Snapshot) : Type 0 where
  pub same_rows : (k : ℕ) (n : NetNode) → slice_get nodes k ≡ Some n → cleaned (rows_of p s (conditions k)) forgotten ≡ cleaned (rows_of p other (conditions k)) forgotten
  pub same_candidates : (k : ℕ) (n : NetNode) → slice_get nodes k ≡ Some n → (who : Named)
      → candidates_of p (pattern_of (condition_of n.node)) s who ≡ candidates_of p (pattern_of (condition_of n.node)) other who

-- The network of a program stands for a snapshot, of which some facts have been forgotten: its nodes stand for it at a clock that they
-- have seen, since which nothing has changed before them, nor does it until something is due.
pub record NetStands (p : Program) (net : Rete) (s : Snapshot) (forgotten : Named → Bool) : Type 0 where
  pub seen : ℤ
  pub begun : pos 0 ≤ℤ seen
  pub later : seen ≤ℤ s.clock
  pub kept : IsOrderly p (at_clock s seen)
  pub nodes : NodesStand p net (at_clock s seen) forgotten
  pub unchanged : HaveSameFronts p (shown_nodes net) nodes.shape.conditions forgotten s (at_clock s seen)
  pub quiet : (clock : ℤ) → s.clock ≤ℤ clock → clock <ℤ pos (2 ^ 63) → IsBefore net.quiet_until clock → IsOrderly p (at_clock s clock)
      → HaveSameFronts p (shown_nodes net) nodes.shape.conditions forgotten (at_clock s clock) (at_clock s seen)

-- the rows of a rule in a snapshot that name no forgotten fact
abbrev pub clean_rows : Program → Snapshot → (Named → Bool) → Rule → List Row
clean_rows p s forgotten rule = filter (clean forgotten) (rows p s rule.conditions)

-- what has changed in the rows of the rule in a place, if it is one of these changes
abbrev pub change_of : List RuleChange → ℕ → Option Delta
change_of [] place = None
change_of (c ∷ changes) place = cond (c.rule.0 == place) (Some c.delta) (change_of changes place)

-- the rows have changed by this difference, which has a row; without one they are the same
abbrev pub IsChange : Option Delta → List Row → List Row → Type 0
IsChange None old new = (row : Row) → has old row ≡ has new row
IsChange (Some delta) old new = IsBetween old new delta × (changes_nothing delta ≡ false)

-- these are, in the order of the rules, the changes of those whose rows have changed, each once
pub record AreBetween (p : Program) (old new : Rule → List Row) (changes : List RuleChange) : Type 0 where
  pub in_order : IsStrictlySortedBy nat_cmp (map (λ (c : RuleChange). c.rule.0) changes)
  pub placed : (place : ℕ) (delta : Delta) → change_of changes place ≡ Some delta → (rule : Rule) × (slice_get p.rules place ≡ Some rule)
  pub each : (place : ℕ) (rule : Rule) → slice_get p.rules place ≡ Some rule → IsChange (change_of changes place) (old rule) (new rule)
