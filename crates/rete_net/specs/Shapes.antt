-- Of which conditions the nodes of a network are.
use Rattle.std.specs.Prelude.{◌≡◌, ◌<◌, ◌∷◌, ◌++◌, ℕ, true, List, [], length, take, Option, Some, None, slice_get}
use Rattle.fx_base.specs.Lists.{In}
use Rattle.rule_model.specs.{declared.{condition.Condition.{Condition}, program.{Program.{Program}, Rule.{Rule}}}, Rows.{pattern_of}}
use Rattle.pattern_gate.specs.Gates.{has_good_window}
use Rattle.beta_node.specs.Nodes.{condition_of}
use Rattle.rete_net.specs.declared.node.NetNode.{NetNode}

-- the conditions before a node: those of its parent, where it has one
abbrev pub before : (ℕ → List Condition) → Option ℕ → List Condition
before conditions None = []
before conditions (Some parent) = conditions parent

-- A node's parent stands before it, and `conditions` gives for each node those of its parent with its own behind them.
pub record IsShaped (nodes : List NetNode) (conditions : ℕ → List Condition) : Type 0 where
  pub parents : (k parent : ℕ) (n : NetNode) → slice_get nodes k ≡ Some n → n.parent ≡ Some parent → parent < k
  pub own : (k : ℕ) (n : NetNode) → slice_get nodes k ≡ Some n → conditions k ≡ before conditions n.parent ++ condition_of n.node ∷ []

-- the last node of the rule with this place is there, and has the conditions of the rule
pub record EndsRule (nodes : List NetNode) (conditions : ℕ → List Condition) (ends : List ℕ) (place : ℕ) (rule : Rule) : Type 0 where
  pub last : ℕ
  pub node : NetNode
  pub found : slice_get ends place ≡ Some last
  pub there : slice_get nodes last ≡ Some node
  pub all : conditions last ≡ rule.conditions

-- these are the first conditions of a rule, so many
abbrev pub IsRuleFront : Program → List Condition → Type 0
IsRuleFront p conditions = (rule : Rule) × In rule p.rules × (q : ℕ) × (conditions ≡ take q rule.conditions)

-- no two nodes have the same conditions
abbrev pub StandOnce : List NetNode → (ℕ → List Condition) → Type 0
StandOnce nodes conditions = (j k : ℕ) (a b : NetNode) → slice_get nodes j ≡ Some a → slice_get nodes k ≡ Some b → conditions j ≡ conditions k → j ≡ k

-- These nodes and these last nodes of rules are those of a program's network, whatever they stand for: the nodes have windows of accepted
-- files and the first conditions of rules, there is one for each distinct front, and each rule has a last node.
pub record IsNetOf (p : Program) (nodes : List NetNode) (ends : List ℕ) : Type 0 where
  pub conditions : ℕ → List Condition
  pub shaped : IsShaped nodes conditions
  pub once : StandOnce nodes conditions
  pub lasts : (place : ℕ) (rule : Rule) → slice_get p.rules place ≡ Some rule → EndsRule nodes conditions ends place rule
  pub count : length ends ≡ length p.rules
  pub fronts : (k : ℕ) (n : NetNode) → slice_get nodes k ≡ Some n → IsRuleFront p (conditions k)
  pub windows : (k : ℕ) (n : NetNode) → slice_get nodes k ≡ Some n → has_good_window p (pattern_of (condition_of n.node)) ≡ true

-- So many distinct lists are the first conditions, one or more, of some rule of the program: `each` lists them.
pub record CountsFronts (p : Program) (many : ℕ) : Type 0 where
  pub each : List (List Condition)
  pub number : length each ≡ many
  pub distinct : (j k : ℕ) (conditions : List Condition) → slice_get each j ≡ Some conditions → slice_get each k ≡ Some conditions → j ≡ k
  pub are_fronts : (conditions : List Condition) → In conditions each → IsRuleFront p conditions × (conditions ≡ [] → ⊥)
  pub all : (conditions : List Condition) → IsRuleFront p conditions → (conditions ≡ [] → ⊥) → In conditions each
