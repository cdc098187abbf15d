-- Networks that are being built: which conditions their nodes have, and which node is the last one of each rule.
use Rattle.std.specs.Prelude.{◌≡◌, ◌<◌, ◌∷◌, ◌++◌, true, ℕ, List, [], length, take, Option, Some, None, slice_get}
use Rattle.rule_model.specs.{declared.{condition.Condition.{Condition}, program.{Program.{Program}, Rule.{Rule}}}, Rows.{pattern_of}}
use Rattle.pattern_gate.specs.Gates.{has_good_window}
use Rattle.beta_node.specs.Nodes.{condition_of}
use Rattle.rete_net.specs.{declared.{node.NetNode.{NetNode}, build.Origin.{Origin}}, Standing.{IsFresh}, Shapes.{IsRuleFront}}

-- a parent, of nodes with these conditions, is the node of those conditions; without one there is no condition
abbrev pub IsParentNode : List (List Condition) → Option ℕ → List Condition → Type 0
IsParentNode all None conditions = conditions ≡ []
IsParentNode all (Some parent) conditions = slice_get all parent ≡ Some conditions

-- the node in a place is behind one that stands before it, and has one condition more
pub record IsBehindParent (all : List (List Condition)) (k : ℕ) (node : NetNode) : Type 0 where
  pub before : List Condition
  pub parent : IsParentNode (take k all) node.parent before
  pub own : slice_get all k ≡ Some (before ++ condition_of node.node ∷ [])

-- the nodes have these lists of conditions, each is behind its parent, and keeps nothing
pub record AreBuilt (p : Program) (nodes : List NetNode) (all : List (List Condition)) : Type 0 where
  pub length : length nodes ≡ length all
  pub behind : (k : ℕ) (node : NetNode) → slice_get nodes k ≡ Some node → IsBehindParent all k node
  pub windows : (k : ℕ) (node : NetNode) → slice_get nodes k ≡ Some node → has_good_window p (pattern_of (condition_of node.node)) ≡ true
  pub fresh : (k : ℕ) (node : NetNode) → slice_get nodes k ≡ Some node → IsFresh p node

-- each of these lists is the front of a rule
abbrev pub AreFronts : Program → List (List Condition) → Type 0
AreFronts p all = (k : ℕ) (conditions : List Condition) → slice_get all k ≡ Some conditions → IsRuleFront p conditions

-- each stands once
abbrev pub AreDistinctFronts : List (List Condition) → Type 0
AreDistinctFronts all = (j k : ℕ) (conditions : List Condition) → slice_get all j ≡ Some conditions → slice_get all k ≡ Some conditions → j ≡ k

-- the origin names the parent and the condition of the node
pub record IsOfOrigin (node : NetNode) (origin : Origin) : Type 0 where
  pub parent : node.parent ≡ origin.parent
  pub condition : condition_of node.node ≡ origin.condition.now

-- nodes that were built for distinct fronts, with their origins
pub record AreGrown (p : Program) (nodes : List NetNode) (origins : List Origin) (all : List (List Condition)) : Type 0 where
  pub built : AreBuilt p nodes all
  pub fronts : AreFronts p all
  pub distinct : AreDistinctFronts all
  pub count : length origins ≡ length nodes
  pub from : (k : ℕ) (node : NetNode) (origin : Origin) → slice_get nodes k ≡ Some node → slice_get origins k ≡ Some origin → IsOfOrigin node origin

-- the first rules, so many, each have a last node with all their conditions
abbrev pub HaveEnds : List (List Condition) → List ℕ → List Rule → ℕ → Type 0
HaveEnds all ends rules n =
    (place : ℕ) (rule : Rule) → place < n → slice_get rules place ≡ Some rule → (last : ℕ) × (slice_get ends place ≡ Some last) × (slice_get all last ≡ Some rule.conditions)
