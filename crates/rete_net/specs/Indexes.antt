-- By what the nodes and the rules of a network are found.
use Rattle.std.specs.{Prelude.{◌≡◌, ◌⊎◌, ◌||◌, not, ℕ, ℤ, Bool, true, false, List, [], Option, Some, None, nat_eq, slice_get, FitsSigned}, Int.{w64}}
use Rattle.std.specs.{List.{list_any}, Global.{Vec}}
use Rattle.fx_base.specs.declared.{fact.Fact.{Fact}, value.Value.{Value, TheVariants.{Int}}}
use Rattle.range_index.specs.Ranges.{is_found}
use Rattle.row_delta.specs.declared.delta.Delta.{Delta}
use Rattle.row_change.specs.Changes.{changes_nothing}
use Rattle.rule_model.specs.{declared.condition.Pattern.{Pattern}, Rows.{pattern_of}, Simple.{is_whole}}
use Rattle.pattern_gate.specs.Turns.{is_meant, is_one_meant}
use Rattle.beta_node.specs.Nodes.{condition_of, is_negated}
use Rattle.rete_net.specs.declared.{alpha_index.AlphaIndex.{AlphaIndex}, index.Index.{Index}, lists.Lists.{Lists}, node.NetNode.{NetNode}}
use Rattle.rete_net.specs.{declared.ranges.{FieldRanges.{FieldRanges}, Ranges.{Ranges}}, Selectors.{list_slot_of}}
use Rattle.candidate_source.specs.{declared.sources.Sources.{Sources}, Sources.{is_follower}}

-- ---- lists of places

-- whether a place is in a list
abbrev pub is_in : List ℕ → ℕ → Bool
is_in places place = list_any (nat_eq place) places

-- the places of a list, where it is there
abbrev pub items_of : Option (Vec ℕ) → List ℕ
items_of None = []
items_of (Some list) = list.items

-- whether the list of a number has a place
abbrev pub is_listed : Lists → ℕ → ℕ → Bool
is_listed lists number place = is_in (items_of (slice_get lists.lists.items number)) place

-- ---- nodes

-- the type of a node's candidates
abbrev pub type_of : NetNode → ℕ
type_of n = (pattern_of (condition_of n.node)).ty.0

-- a node that the clock alone may change: of a `not`, or with a window
abbrev pub is_changed_by_clock : NetNode → Bool
is_changed_by_clock n = is_negated (condition_of n.node) || not (is_whole (pattern_of (condition_of n.node)).window)

-- ranges of a field of the fact's type, in which it has a number, find the place
abbrev pub IsInRange : Ranges → Fact → ℕ → Type 0
IsInRange ranges f k =
    (at : ℕ) × (of : FieldRanges) × (number : ℤ) × (slice_get ranges.fields.items at ≡ Some of) × (is_listed ranges.by_type f.ty.0 at ≡ true)
    × (slice_get f.fields of.field ≡ Some (Int number)) × (FitsSigned w64 number → is_found number of.ranges k ≡ true)

-- The place stands where the fact is looked up: among the nodes of its type that no constant tells apart, in the list of what it has in a
-- field by which some are, or under a range of a field in which it has a number.
abbrev pub IsLookedUp : AlphaIndex → Fact → ℕ → Type 0
IsLookedUp alpha f k =
    (is_listed alpha.others f.ty.0 k ≡ true)
    ⊎ ((field : ℕ) × (value : Value) × (slice_get f.fields field ≡ Some value) × (is_listed alpha.fields f.ty.0 field ≡ true)
    × (is_listed alpha.constants (list_slot_of alpha.mask f.ty.0 field value) k ≡ true))
    ⊎ IsInRange alpha.ranges f k

-- so it does for each fact that the pattern means
abbrev pub IsAskedWhereMeant : AlphaIndex → Pattern → ℕ → Type 0
IsAskedWhereMeant alpha pattern k = (f : Fact) → is_meant pattern f ≡ true → IsLookedUp alpha f k

-- the node in a place is found by its type, and by what its pattern means
pub record IsNodeFound (index : Index) (k : ℕ) (n : NetNode) : Type 0 where
  pub typed : is_listed index.by_type (type_of n) k ≡ true
  pub asked : IsAskedWhereMeant index.alpha (pattern_of (condition_of n.node)) k

-- The nodes are found, but for those of a source that follow its first one; each that has no parent, by that; and each rule by its last node.
pub record IsIndexOf (sources : Sources) (nodes : List NetNode) (ends : List ℕ) (index : Index) : Type 0 where
  pub found : (k : ℕ) (n : NetNode) → slice_get nodes k ≡ Some n → is_follower sources k ≡ false → IsNodeFound index k n
  pub firsts : (k : ℕ) (n : NetNode) → slice_get nodes k ≡ Some n → n.parent ≡ None → is_in index.firsts.items k ≡ true
  pub ended : (rule end : ℕ) → slice_get ends rule ≡ Some end → is_listed index.rules end rule ≡ true
