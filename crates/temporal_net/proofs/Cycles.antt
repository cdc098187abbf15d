-- A way to a point and back that loses is a negative cycle, and where none loses the next phase goes on.
use Rattle.temporal_net.proofs.Common.{◌≡◌, ℕ, ◌+◌, ◌<◌, ◌≤◌, pos, ◌+ℤ◌, ◌≤ℤ◌, ◌<ℤ◌, List, [], ◌∷◌, ◌++◌, map, length, true, false, Option, Some, None, refl}
use Rattle.temporal_net.proofs.Common.{sym, subst, arith, ints, All-from_recursion, All-cons, All-nil, NetEdge, Distance, LeadsWay, total, edge_at}
use Rattle.temporal_net.proofs.Common.{IsNegativeCycle, Table, cell, lowered, loses_over, AllShort, AreTable, HasWays, FollowsWay, map-append, All-append}
use Rattle.temporal_net.proofs.{Common.{loses}, Phases.{next_table}, Sums.{leads_on, total-append}, Ways.{follows_known, follows_leads, measured, short}}
use Rattle.temporal_net.proofs.Ways.{widened}

-- an edge from a point to itself that allows less than 0
pub self_cycle : (edges : List NetEdge) (n : ℕ) → n < length edges → (edge_at edges n).x ≡ (edge_at edges n).y → (edge_at edges n).most <ℤ pos 0 → IsNegativeCycle edges (n ∷ [])
self_cycle edges n np loop below = record {
  numbers = All-cons (λ m. m < length edges) n [] np (All-nil (λ m. m < length edges));
  some = λ e. cc;
  closes = ((edge_at edges n).y, (loop, refl));
  negative = omega (arith, ints);
}

-- two ways that lose
record Lost (out back : Option Distance) : Type 0 where
  there : Distance
  home : Distance
  there_is : out ≡ Some there
  home_is : back ≡ Some home
  negative : (there.sum +ℤ home.sum) <ℤ pos 0

lost : (out back : Option Distance) → loses out back ≡ true → Lost out back
lost None back h = absurd cc
lost (Some a) None h = absurd cc
lost (Some a) (Some b) h = record { there = a; home = b; there_is = refl; home_is = refl; negative = grind (arith, ints) }

pub round_cycle : (points : ℕ) (edges : List NetEdge) (t : Table) → HasWays points points edges t → (x via : ℕ) → x < points → via < points → loses (t x via) (t via x) ≡ true
    → (a b : List ℕ) → FollowsWay points edges t x via a → FollowsWay points edges t via x b → IsNegativeCycle edges (a ++ b)
round_cycle points edges t w x via xp vp h a b fa fb =
    let l = lost (t x via) (t via x) h in
    let there = (measured points edges t w x via vp a fa l.there l.there_is).sum in
    let home = (measured points edges t w via x xp b fb l.home l.home_is).sum in
    let below = l.negative in
    let whole = total-append (map (edge_at edges) a) (map (edge_at edges) b) in
    let sum : total (map (edge_at edges) a ++ map (edge_at edges) b) <ℤ pos 0 = omega (arith, ints) in
    let negative : total (map (edge_at edges) (a ++ b)) <ℤ pos 0 = subst (λ es. total es <ℤ pos 0) (sym (map-append (edge_at edges) a b)) sum in
    record {
      numbers = All-append (λ n. n < length edges) a b
          (All-from_recursion (λ n. n < length edges) a (follows_known points edges t w x via a fa))
          (All-from_recursion (λ n. n < length edges) b (follows_known points edges t w via x b fb));
      some = λ none.
          let at_none : total (map (edge_at edges) []) <ℤ pos 0 = subst (λ ns. total (map (edge_at edges) ns) <ℤ pos 0) none negative in
          omega (arith, ints);
      closes = (
        x,
        subst (λ es. LeadsWay x es x) (sym (map-append (edge_at edges) a b))
            (leads_on x (map (edge_at edges) a) via (map (edge_at edges) b) x (follows_leads points edges t w x via a fa) (follows_leads points edges t w via x b fb)),
      );
      negative = negative;
    }

-- ---- phases over rows

pub all_short : (k : ℕ) (edges : List NetEdge) (rows : List (List (Option Distance))) → k ≤ length rows → AreTable k edges rows → AllShort rows
all_short k edges rows le table x y xp yp d is =
    short (length rows) edges (cell rows) (widened (length rows) k (length rows) edges (cell rows) le table.ways) x y d xp yp is

gains : (out back : Option Distance) → loses out back ≡ false → (a b : Distance) → out ≡ Some a → back ≡ Some b → pos 0 ≤ℤ (a.sum +ℤ b.sum)
gains None back h a b p q = absurd cc
gains (Some c) None h a b p q = absurd cc
gains (Some c) (Some d) h a b p q =
    let m : c.sum ≡ a.sum = cc in
    let n : d.sum ≡ b.sum = cc in
    grind (arith, ints)

pub next_rows : (k : ℕ) (edges : List NetEdge) (rows next : List (List (Option Distance))) → k < length rows → AreTable k edges rows → length next ≡ length rows
    → ((x y : ℕ) → x < length rows → y < length rows → cell next x y ≡ lowered (cell rows x y) (cell rows x k) (cell rows k y))
    → ((x : ℕ) → x < length rows → loses_over rows k x ≡ false) → AreTable (k + 1) edges next
next_rows k edges rows next inside table tall low keeps =
    let new = next_table (length rows) k edges (cell rows) (cell next) inside table low (λ x xp. gains (cell rows x k) (cell rows k x) (keeps x xp)) in
    rw tall new
