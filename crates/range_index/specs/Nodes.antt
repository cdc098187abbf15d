-- A tree over ranges, as a list of nodes in which what is below a node stands behind it.
use Rattle.std.specs.Prelude.{◌≡◌, ◌≤◌, ◌<◌, ◌+◌, ◌*◌, ◌≤ℤ◌, ℤ, Bool, ◌&&◌, List, [], ◌∷◌, int_le, length, take}
use Rattle.range_index.specs.declared.{node.{Block.{Block}, Node.{Node, TheVariants.{Range, Block as BlockNode}}}, placed.PlacedRange.{PlacedRange}}

-- the ranges among nodes
abbrev pub leaves : List Node → List PlacedRange
leaves [] = []
leaves (Range range ∷ nodes) = range ∷ leaves nodes
leaves (BlockNode block ∷ nodes) = leaves nodes

-- a block says that a number may be in one of its ranges
abbrev pub block_has : Block → ℤ → Bool
block_has block number = int_le block.least number && int_le number block.most

-- the block has all numbers of a range
abbrev pub Bounds : Block → List PlacedRange → Type 0
Bounds block [] = Unit {0}
Bounds block (range ∷ ranges) = (block.least ≤ℤ range.least) × (range.most ≤ℤ block.most) × Bounds block ranges

-- what is said to be below a block stands behind it, and its ranges are within the bounds
abbrev pub AreBlocks : List Node → Type 0
AreBlocks [] = Unit {0}
AreBlocks (Range range ∷ nodes) = AreBlocks nodes
AreBlocks (BlockNode block ∷ nodes) = (block.below ≤ length nodes) × Bounds block (leaves (take block.below nodes)) × AreBlocks nodes

-- the nodes of ranges that are put into a tree: one less than twice as many
pub record IsTreeOf (given : List PlacedRange) (tree : List Node) : Type 0 where
  pub ranges : leaves tree ≡ given
  pub blocks : AreBlocks tree
  pub count : 0 < length given → length tree + 1 ≡ 2 * length given
