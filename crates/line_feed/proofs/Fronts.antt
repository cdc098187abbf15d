-- What is kept of the front of a line.
use Rattle.line_feed.proofs.Common.{◌≡◌, ◌<◌, ◌≤◌, ◌-◌, ◌++◌, ℕ, zero, suc, List, [], ◌∷◌, length, take, refl, ap, subst, ◌∙◌, arith, min, take_min, take_all}
use Rattle.{line_feed.specs.Fed.{front_most, front_kept}, std.proofs.Math.Nat.{min_comm}}

-- the first of two lists, and what of the second there is room for
pub take_both : (most : ℕ) (line bytes : List ℕ) → take most line ++ take (most - length (take most line)) bytes ≡ take most (line ++ bytes)
take_both zero line bytes = refl
take_both (suc most) [] bytes = let e : suc most - 0 ≡ suc most = omega arith in ap (λ (n : ℕ). take n bytes) e
take_both (suc most) (b ∷ line) bytes =
    let e : suc most - suc (length (take most line)) ≡ most - length (take most line) = omega arith in
    ap (λ (n : ℕ). b ∷ (take most line ++ take n bytes)) e ∙ ap (λ (more : List ℕ). b ∷ more) (take_both most line bytes)

pub front_grows : (most : ℕ) (line front bytes : List ℕ) → front ≡ take most line → front ++ take (min (length bytes) (most - length front)) bytes ≡ take most (line ++ bytes)
front_grows most line front bytes e =
    ap (λ (z : List ℕ). front ++ z) (min_take (most - length front) bytes) ∙ ap (λ (z : List ℕ). z ++ take (most - length z) bytes) e ∙ take_both most line bytes
  where
    min_take : (n : ℕ) (xs : List ℕ) → take (min (length xs) n) xs ≡ take n xs
    min_take n xs = ap (λ (k : ℕ). take k xs) (min_comm (length xs) n) ∙ take_min n xs

-- what was added is what there was room for
pub front_added : (most : ℕ) (line front bytes new : List ℕ) (room count : ℕ) → front ≡ take most line → room ≡ most - length front → count ≡ min (length bytes) room → new ≡ front ++ take count bytes
    → new ≡ take most (line ++ bytes)
front_added most line front bytes new room count e is some added =
    added ∙ ap (λ (n : ℕ). front ++ take n bytes) (some ∙ ap (min (length bytes)) is) ∙ front_grows most line front bytes e

pub most_is : front_most ≡ 65537
unfolding front_most
most_is = refl

-- a front that is not too long is the whole line
front_short : (n : ℕ) (line : List ℕ) → length (take (suc n) line) ≤ n → length line ≤ n
front_short n [] h = omega arith
front_short zero (b ∷ line) h = omega (arith, h)
front_short (suc n) (b ∷ line) h = let k = front_short n line (omega (arith, h)) in omega (arith, k)

at_most : (k : ℕ) (xs : List ℕ) → length (take k xs) ≤ length xs
at_most zero xs = omega arith
at_most (suc k) [] = omega arith
at_most (suc k) (x ∷ xs) = let r = at_most k xs in omega (arith, r)

pub whole_front : (line front : List ℕ) → front ≡ front_kept line → length front ≤ 65536 → (front ≡ line) × (length line ≤ 65536)
unfolding front_most
whole_front line front e h =
    let short = front_short 65536 line (subst (λ (z : List ℕ). length z ≤ 65536) e h) in (e ∙ take_all 65537 line (omega (arith, short)), short)

pub long_front : (line front : List ℕ) → front ≡ front_kept line → 65536 < length front → 65536 < length line
long_front line front e h =
    let more = at_most front_most line in let there = subst (λ (z : List ℕ). 65536 < length z) e h in omega (arith, more, there)
