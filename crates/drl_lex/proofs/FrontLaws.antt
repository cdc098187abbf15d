-- The longest front of bytes that pass a test, and the first end of a comment.
use Rattle.drl_lex.proofs.Common.{◌≡◌, ℕ, zero, suc, ◌<◌, ◌≤◌, ◌++◌, Bool, true, false, List, [], ◌∷◌, length, take, drop, get_or, refl, ap, ◌∙◌, arith}
use Rattle.{drl_lex.{proofs.Common.{list_all, begins, at_drop_more, longest_step}, specs.Fronts.{longest}}, std.proofs.lemmas.Bool.{and_parts}}

longest_at : (test : ℕ → Bool) (bytes : List ℕ) (i : ℕ) → list_all test (take i bytes) ≡ true → begins test (drop i bytes) ≡ false → longest test bytes ≡ (take i bytes, drop i bytes)
unfolding longest
longest_at test [] zero all stop = refl
longest_at test [] (suc i) all stop = refl
longest_at test (b ∷ bytes) zero all stop = rw stop refl
longest_at test (b ∷ bytes) (suc i) all stop =
    let parts = and_parts (test b) (list_all test (take i bytes)) all in
    rw (parts.0, longest_at test bytes i parts.1 stop) refl

-- the byte behind the front does not pass
pub longest_stop : (test : ℕ → Bool) (bytes : List ℕ) (i : ℕ) → list_all test (take i bytes) ≡ true → i < length bytes → test (get_or bytes i 0) ≡ false → longest test bytes ≡ (take i bytes, drop i bytes)
longest_stop test bytes i all lt stop = longest_at test bytes i all (at_drop_more (begins test) bytes i 0 lt ∙ stop)

no_bytes : (test : ℕ → Bool) (bytes : List ℕ) (i : ℕ) → length bytes ≤ i → begins test (drop i bytes) ≡ false
no_bytes test [] zero le = refl
no_bytes test [] (suc i) le = refl
no_bytes test (b ∷ bytes) zero le = absurd (omega arith)
no_bytes test (b ∷ bytes) (suc i) le = no_bytes test bytes i (omega arith)

-- all bytes pass
pub longest_end : (test : ℕ → Bool) (bytes : List ℕ) (i n : ℕ) → length bytes ≤ i → n ≡ i → list_all test (take i bytes) ≡ true → longest test bytes ≡ (take n bytes, drop n bytes)
longest_end test bytes i n le same all = rw same (longest_at test bytes i all (no_bytes test bytes i le))

-- the front and the rest are all, the front passes, and the rest does not begin with a byte that does
pub record IsLongest (test : ℕ → Bool) (bytes front rest : List ℕ) : Type 0 where
  pub parts : bytes ≡ front ++ rest
  pub passes : list_all test front ≡ true
  pub stop : begins test rest ≡ false

step_is : (t : Bool) (test : ℕ → Bool) (b : ℕ) (bytes : List ℕ) (more : List ℕ × List ℕ) → test b ≡ t → IsLongest test bytes more.0 more.1
    → IsLongest test (b ∷ bytes) (longest_step t b bytes more).0 (longest_step t b bytes more).1
step_is true test b bytes more e h = record { parts = ap (λ (bs : List ℕ). b ∷ bs) h.parts; passes = rw e h.passes; stop = h.stop }
step_is false test b bytes more e h = record { parts = refl; passes = refl; stop = e }

pub longest_is : (test : ℕ → Bool) (bytes : List ℕ) → IsLongest test bytes (longest test bytes).0 (longest test bytes).1
unfolding longest
longest_is test [] = record { parts = refl; passes = refl; stop = refl }
longest_is test (b ∷ bytes) = step_is (test b) test b bytes (longest test bytes) refl (longest_is test bytes)

pub longest_again : (test : ℕ → Bool) (front rest : List ℕ) → list_all test front ≡ true → begins test rest ≡ false → longest test (front ++ rest) ≡ (front, rest)
unfolding longest
longest_again test [] [] all stop = refl
longest_again test [] (b ∷ rest) all stop = rw stop refl
longest_again test (b ∷ front) rest all stop =
    let parts = and_parts (test b) (list_all test front) all in
    rw (parts.0, longest_again test front rest parts.1 stop) refl

pub passes_at : (test : ℕ → Bool) (bytes : List ℕ) (i : ℕ) → list_all test bytes ≡ true → i < length bytes → test (get_or bytes i 0) ≡ true
passes_at test [] i all lt = absurd (omega arith)
passes_at test (b ∷ bytes) zero all lt = (and_parts (test b) (list_all test bytes) all).0
passes_at test (b ∷ bytes) (suc i) all lt = passes_at test bytes i (and_parts (test b) (list_all test bytes) all).1 (omega arith)

pub all_pass : (test : ℕ → Bool) (bytes : List ℕ) (i : ℕ) → length bytes ≤ i → list_all test (take i bytes) ≡ true → list_all test bytes ≡ true
all_pass test [] i le all = refl
all_pass test (b ∷ bytes) zero le all = absurd (omega arith)
all_pass test (b ∷ bytes) (suc i) le all = let parts = and_parts (test b) (list_all test (take i bytes)) all in rw (parts.0) (all_pass test bytes i (omega arith) parts.1)
