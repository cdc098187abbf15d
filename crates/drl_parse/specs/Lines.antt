-- Newlines and offsets.
use Rattle.std.specs.{Prelude.{ℕ, ◌≤◌, ◌==◌, List, [], ◌∷◌, length}, List.{filter}}

-- how many newlines there are
abbrev pub newlines : List ℕ → ℕ
newlines bytes = length (filter (λ b. b == 10) bytes)

-- the offsets never fall, from the first number on, and none is greater than the second one
abbrev pub Rises : ℕ → List ℕ → ℕ → Type 0
Rises low [] high = low ≤ high
Rises low (at ∷ offsets) high = (low ≤ at) × Rises at offsets high
