-- A step of a network by way of the nodes that it reaches.
use Rattle.std.specs.Prelude.{◌≡◌, ◌<◌, ℕ, List, Option, Some, slice_get, length}
use Rattle.fx_base.specs.declared.fact.Fact.{Fact}
use Rattle.row_delta.specs.declared.delta.Delta.{Delta}
use Rattle.rule_model.specs.declared.{program.Program.{Program}, moment.Moment.{Moment}}
use Rattle.join_tests.specs.Joins.{Look}
use Rattle.candidate_source.specs.declared.{sources.Sources.{Sources}, source.Source.{Source}}
use Rattle.rete_net.specs.{declared.{index.Index.{Index}, node.NetNode.{NetNode}, answered.Answered.{Answered}}, Answers.{given, some_answer, AreRuled}}
use Rattle.rete_net.specs.{Indexes.{IsIndexOf}, Steps.{no_change, delta_at, SteppedBelow}}
use Rattle.beta_node.specs.Nodes.{condition_of}

-- nodes in the places of others: as many, each with the parent and the condition of the one that was there
pub record IsReplaced (old new : List NetNode) : Type 0 where
  pub many : length new ≡ length old
  pub parent : (k : ℕ) (a b : NetNode) → slice_get old k ≡ Some a → slice_get new k ≡ Some b → b.parent ≡ a.parent
  pub condition : (k : ℕ) (a b : NetNode) → slice_get old k ≡ Some a → slice_get new k ≡ Some b → condition_of b.node ≡ condition_of a.node

-- the index is that of the nodes and of the rules with these last nodes, each node stands behind its parent, and each last node is there
pub record IsWired (sources : Sources) (nodes : List NetNode) (ends : List ℕ) (index : Index) : Type 0 where
  pub indexed : IsIndexOf sources nodes ends index
  pub parents : (k parent : ℕ) (n : NetNode) → slice_get nodes k ≡ Some n → n.parent ≡ Some parent → parent < k
  pub lasts : (rule end : ℕ) → slice_get ends rule ≡ Some end → end < length nodes

-- all nodes took their step, and these are the answers that have a row
pub record HasAnswered (p : Program) (look : Look) (gone : List Fact) (come : Option Fact) (moment : Moment) (first : Delta) (was is : ℕ → Option Source) (before after : List NetNode) (ends : List ℕ) (a : Answered Delta) : Type 0 where
  pub none : a.none ≡ no_change
  pub deltas : List Delta
  pub stepped : SteppedBelow p look gone come moment first was is before after deltas (length before)
  pub known : (k : ℕ) → k < length before → delta_at first deltas k ≡ given no_change (some_answer a k)
  pub ruled : AreRuled a ends
