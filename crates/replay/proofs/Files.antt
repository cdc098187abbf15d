-- The bytes of a file, piece by piece.
use Rattle.replay.proofs.Common.{◌≡◌, ◌≤◌, ◌+◌, ◌++◌, ℕ, List, length, take, drop, Option, Some, None, sym, ap, ◌∙◌, arith, IfSome, take-append-le}
use Rattle.std.proofs.Math.Seq.{take-add}

pub take_front : (n : ℕ) (piece rest : List ℕ) → n ≤ length piece → take n (piece ++ rest) ≡ take n piece
take_front n piece rest le = take-append-le n piece rest le

-- a further piece
pub piece_more : (o : Option (List ℕ)) (so_far piece : List ℕ) (at n : ℕ) → IfSome o (λ file. so_far ≡ take at file) → IfSome o (λ file. piece ≡ take n (drop at file)) → IfSome o (λ file. so_far ++ piece ≡ take (at + n) file)
piece_more None so_far piece at n h k = tt
piece_more (Some file) so_far piece at n h k = rw (h, k) (sym (take-add at n file))

pub so_far_of : (o : Option (List ℕ)) (new bytes : List ℕ) (at : ℕ) → new ≡ bytes → length new ≡ at → IfSome o (λ file. bytes ≡ take at file) → IfSome o (λ file. new ≡ take (length new) file)
so_far_of None new bytes at e len h = tt
so_far_of (Some file) new bytes at e len h = e ∙ h ∙ ap (λ (k : ℕ). take k file) (sym len)

pub le_trans : {a b c : ℕ} → a ≤ b → b ≤ c → a ≤ c
le_trans h k = omega arith
