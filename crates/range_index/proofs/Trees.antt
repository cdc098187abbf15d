-- Lists of nodes: what stands in them, what a search passes over, and trees of two halves.
use Rattle.std.proofs.Common.{◌≡◌, ◌∙◌, sym, ap, refl, subst, ◌<◌, ◌+◌, ◌*◌, ◌≤ℤ◌, ℕ, zero, suc, ℤ, cond, Bool, true, false, List, [], ◌∷◌, ◌++◌, length, take}
use Rattle.std.proofs.{Common.{drop, arith, length-append, append_assoc, get_or}, lemmas.{Int.{ints}, List.{take-append-drop, take-append-le, take_all}}}
use Rattle.{std.proofs.lemmas.List.{take_more}, range_index.specs.{Nodes.{block_has, leaves, AreBlocks, Bounds, IsTreeOf}, Ranges.{has_number, places_with}}}
use Rattle.range_index.specs.declared.{node.{Block.{Block}, Node.{Node, TheVariants.{Range, Block as BlockNode}}}, placed.PlacedRange.{PlacedRange}}

pub leaves_append : (xs ys : List Node) → leaves (xs ++ ys) ≡ leaves xs ++ leaves ys
leaves_append [] ys = refl
leaves_append (Range range ∷ xs) ys = ap (λ rest. range ∷ rest) (leaves_append xs ys)
leaves_append (BlockNode block ∷ xs) ys = leaves_append xs ys

-- ---- what a search passes over

none_within : (block : Block) (number : ℤ) (ranges : List PlacedRange) → block_has block number ≡ false → Bounds block ranges → places_with number ranges ≡ []
none_within block number [] out within = refl
none_within block number (range ∷ ranges) out (least, most, within) =
    let misses : has_number range number ≡ false = grind (arith, ints) in
    ap (λ b. cond b (range.place ∷ places_with number ranges) (places_with number ranges)) misses ∙ none_within block number ranges out within

places_append : (number : ℤ) (xs ys : List PlacedRange) → places_with number (xs ++ ys) ≡ places_with number xs ++ places_with number ys
places_append number [] ys = refl
places_append number (range ∷ xs) ys = by (has_number range number) (places_append number xs ys)
  where
    by : (b : Bool) → places_with number (xs ++ ys) ≡ places_with number xs ++ places_with number ys
        → cond b (range.place ∷ places_with number (xs ++ ys)) (places_with number (xs ++ ys)) ≡ cond b (range.place ∷ places_with number xs) (places_with number xs) ++ places_with number ys
    by true rest = ap (λ places. range.place ∷ places) rest
    by false rest = rest

pub blocks_behind : (n : ℕ) (nodes : List Node) → AreBlocks nodes → AreBlocks (drop n nodes)
blocks_behind zero nodes are = are
blocks_behind (suc n) [] are = are
blocks_behind (suc n) (Range range ∷ nodes) are = blocks_behind n nodes are
blocks_behind (suc n) (BlockNode block ∷ nodes) (fits, within, are) = blocks_behind n nodes are

-- where a block does not have the number, no range below it has
pub passed_over : (block : Block) (number : ℤ) (nodes : List Node) → AreBlocks (BlockNode block ∷ nodes) → block_has block number ≡ false
    → places_with number (leaves (drop block.below nodes)) ≡ places_with number (leaves nodes)
passed_over block number nodes (fits, within, are) out =
    let front = take block.below nodes in let past = drop block.below nodes in
    ap (λ places. places ++ places_with number (leaves past)) (sym (none_within block number (leaves front) out within))
    ∙ sym (places_append number (leaves front) (leaves past)) ∙ ap (places_with number) (sym (leaves_append front past))
    ∙ ap (λ all. places_with number (leaves all)) (take-append-drop block.below nodes)

-- ---- trees

pub blocks_append : (xs ys : List Node) → AreBlocks xs → AreBlocks ys → AreBlocks (xs ++ ys)
blocks_append [] ys are also = also
blocks_append (Range range ∷ xs) ys are also = blocks_append xs ys are also
blocks_append (BlockNode block ∷ xs) ys (fits, within, are) also =
    let longer : length (xs ++ ys) ≡ length xs + length ys = length-append xs ys in
    (omega (arith, fits, longer), subst (λ below. Bounds block (leaves below)) (sym (take-append-le block.below xs ys fits)) within, blocks_append xs ys are also)

-- wider bounds
pub bounds_wider : (block wider : Block) (ranges : List PlacedRange) → wider.least ≤ℤ block.least → block.most ≤ℤ wider.most → Bounds block ranges → Bounds wider ranges
bounds_wider block wider [] low high within = tt
bounds_wider block wider (range ∷ ranges) low high (least, most, within) = (omega (arith, ints), omega (arith, ints), bounds_wider block wider ranges low high within)

pub bounds_append : (block : Block) (xs ys : List PlacedRange) → Bounds block xs → Bounds block ys → Bounds block (xs ++ ys)
bounds_append block [] ys within also = also
bounds_append block (range ∷ xs) ys (least, most, within) also = (least, most, bounds_append block xs ys within also)

-- a block in front of the trees over two halves
pub tree_of_halves : (block : Block) (xs ys all : List PlacedRange) (front behind : List Node) → xs ++ ys ≡ all → 0 < length xs → 0 < length ys
    → Bounds block all → block.below + 2 ≡ 2 * length all → IsTreeOf xs front → IsTreeOf ys behind → IsTreeOf all (BlockNode block ∷ (front ++ behind))
tree_of_halves block xs ys all front behind halves some also within below left right =
    let ranges : leaves (front ++ behind) ≡ all = leaves_append front behind ∙ ap (λ zs. zs ++ leaves behind) left.ranges ∙ ap (λ zs. xs ++ zs) right.ranges ∙ halves in
    let both : length (front ++ behind) ≡ length front + length behind = length-append front behind in
    let count : length all ≡ length xs + length ys = ap length (sym halves) ∙ length-append xs ys in
    let lefts = left.count some in let rights = right.count also in
    let fits : length (front ++ behind) ≡ block.below = omega (arith, both, count, lefts, rights, below) in
    record {
      ranges = ranges;
      blocks = (omega (arith, fits), subst (Bounds block) (sym (ap leaves (take_all block.below (front ++ behind) (omega (arith, fits))) ∙ ranges)) within, blocks_append front behind left.blocks right.blocks);
      count = λ any. omega (arith, fits, below);
    }

-- the trees over two halves behind a block, as they are put behind other nodes
pub halves_put : (block : Block) (xs ys all : List PlacedRange) (before pushed front_put put : List Node) → xs ++ ys ≡ all → 0 < length xs → 0 < length ys
    → Bounds block all → block.below + 2 ≡ 2 * length all → pushed ≡ before ++ BlockNode block ∷ []
    → (front : List Node) × (front_put ≡ pushed ++ front) × IsTreeOf xs front → (behind : List Node) × (put ≡ front_put ++ behind) × IsTreeOf ys behind
    → (tree : List Node) × (put ≡ before ++ tree) × IsTreeOf all tree
halves_put block xs ys all before pushed front_put put halves some also within below push (front, left_put, left) (behind, right_put, right) = (
  BlockNode block ∷ (front ++ behind),
  right_put ∙ ap (λ zs. zs ++ behind) (left_put ∙ ap (λ zs. zs ++ front) push)
      ∙ append_assoc (before ++ BlockNode block ∷ []) front behind ∙ append_assoc before (BlockNode block ∷ []) (front ++ behind),
  tree_of_halves block xs ys all front behind halves some also within below left right,
)

-- ---- loops over nodes and ranges

pub leaves_more : (nodes : List Node) (i : ℕ) (d : Node) (before now : List PlacedRange) → i < length nodes → before ≡ leaves (take i nodes) → now ≡ before ++ leaves (get_or nodes i d ∷ [])
    → now ≡ leaves (take (i + 1) nodes)
leaves_more nodes i d before now lt so_far more =
    more ∙ ap (λ ranges. ranges ++ leaves (get_or nodes i d ∷ [])) so_far ∙ sym (leaves_append (take i nodes) (get_or nodes i d ∷ [])) ∙ ap leaves (sym (take_more nodes i d lt))

pub bounds_more : (block wider : Block) (ranges : List PlacedRange) (i : ℕ) (d : PlacedRange) → i < length ranges → Bounds block (take i ranges)
    → (wider.least ≤ℤ block.least) × (wider.least ≤ℤ (get_or ranges i d).least) → (block.most ≤ℤ wider.most) × ((get_or ranges i d).most ≤ℤ wider.most) → Bounds wider (take (i + 1) ranges)
bounds_more block wider ranges i d lt within (least, low) (most, high) =
    subst (Bounds wider) (sym (take_more ranges i d lt)) (bounds_append wider (take i ranges) (get_or ranges i d ∷ []) (bounds_wider block wider (take i ranges) least most within) (low, high, tt))
