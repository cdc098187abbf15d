-- Sums of edges, added up one after the other.
use Rattle.life_proof.proofs.Common.{◌≡◌, ℕ, zero, suc, ◌+◌, ◌<◌, ◌*◌, ◌^◌, ℤ, pos, neg_ℤ, ◌+ℤ◌, ◌-ℤ◌, ◌≤ℤ◌, List, [], ◌∷◌, length, get_or, drop, refl, arith}
use Rattle.life_proof.proofs.Common.{ints, NetEdge, total}

total_at : (edges : List NetEdge) (k : ℕ) (d : NetEdge) → k < length edges → total (drop k edges) ≡ ((get_or edges k d).most +ℤ total (drop (suc k) edges))
total_at [] k d h = absurd (omega arith)
total_at (e ∷ edges) zero d h = refl
total_at (e ∷ edges) (suc k) d h = total_at edges k d (omega arith)

-- what is added up so far, and its size
pub record AreAdded (edges : List NetEdge) (k : ℕ) (so_far : ℤ) : Type 0 where
  pub sum : (so_far +ℤ total (drop k edges)) ≡ total edges
  pub low : neg_ℤ (pos (k * 2 ^ 63)) ≤ℤ so_far
  pub high : so_far ≤ℤ pos (k * 2 ^ 63)

pub added : (edges : List NetEdge) (k : ℕ) (d : NetEdge) (sum next : ℤ) → k < length edges → AreAdded edges k sum → next ≡ (sum +ℤ (get_or edges k d).most)
    → (sum -ℤ pos (2 ^ 63)) ≤ℤ next → next ≤ℤ (sum +ℤ pos (2 ^ 63)) → AreAdded edges (k + 1) next
added edges k d sum next h so is low high =
    let one : k + 1 ≡ suc k = omega arith in
    let step = total_at edges k d h in
    let before = so.sum in
    let least = so.low in
    let most = so.high in
    rw one (record { sum = omega (arith, ints); low = omega (arith, ints); high = omega (arith, ints) })
