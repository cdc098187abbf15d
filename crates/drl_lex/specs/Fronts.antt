-- Fronts of lists of bytes, read from the left.
use Rattle.std.specs.Prelude.{ℕ, ◌==◌, ◌&&◌, List, [], ◌∷◌, Bool, true, false, Option, Some, None, drop}
use Rattle.drl_lex.specs.Bytes.{begins}

abbrev pub longest_step : Bool → ℕ → List ℕ → List ℕ × List ℕ → List ℕ × List ℕ
longest_step true b bytes more = (b ∷ more.0, more.1)
longest_step false b bytes more = ([], b ∷ bytes)

-- the longest front whose bytes pass the test, and the bytes behind it
unfoldable pub longest : (ℕ → Bool) → List ℕ → List ℕ × List ℕ
longest test [] = ([], [])
longest test (b ∷ bytes) = longest_step (test b) b bytes (longest test bytes)

abbrev pub close_step : Bool → List ℕ → Option (List ℕ) → Option (List ℕ)
close_step true rest more = Some rest
close_step false rest more = more

-- the bytes behind the first `*/`
unfoldable pub behind_close : List ℕ → Option (List ℕ)
behind_close [] = None
behind_close (b ∷ bytes) = close_step (b == 42 && begins (λ c. c == 47) bytes) (drop 1 bytes) (behind_close bytes)
