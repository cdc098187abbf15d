-- Sums and products that stop at the greatest number of 64 bits.
use Rattle.drl_lex.proofs.Common.{◌≡◌, ℕ, ◌+◌, ◌*◌, ◌-◌, ◌^◌, ◌<◌, min, List, length, take, get_or, true, refl, arith, Option, Some, None, option_map, codes}
use Rattle.drl_lex.proofs.Common.{nat_lt, list_all, is_ascii_digit, digits_value, leb-true, unit_part_at, last_at, time_of, total_of, digit_value}
use Rattle.drl_lex.{proofs.{Common.{digit_value_digit}, FrontLaws.{passes_at}, TimeLaws.{Parts, parts_again}}, specs.TimeReading.{capped}}
use Rattle.std.proofs.lemmas.{Bool.{and_parts}, Int.Digits.{digits_value_more}}

digit_is : (c : ℕ) → is_ascii_digit c ≡ true → digit_value c + 48 ≡ c
digit_is c h = let parts = and_parts _ _ h in digit_value_digit c (leb-true 48 c parts.0, leb-true c 57 parts.1)

-- a further digit
pub digit_more : (digits : List ℕ) (i number product result : ℕ) → list_all is_ascii_digit digits ≡ true → i < length digits → number ≡ capped (digits_value 10 (take i digits))
    → product ≡ min (number * 10) (2 ^ 64 - 1) → result ≡ min (product + (get_or digits i 0 - 48)) (2 ^ 64 - 1) → result ≡ capped (digits_value 10 (take (i + 1) digits))
unfolding capped
digit_more digits i number product result all lt e e1 e2 =
    let more = digits_value_more 10 digits i lt in
    let digit = digit_is (get_or digits i 0) (passes_at is_ascii_digit digits i all lt) in
    omega (arith, more, digit, e, e1, e2)

pub capped_add : (a b sum : ℕ) → sum ≡ min (capped a + capped b) (2 ^ 64 - 1) → sum ≡ capped (a + b)
unfolding capped
capped_add a b sum e = omega arith

pub capped_days : (a b : ℕ) → b ≡ min (capped a * 86400000) (2 ^ 64 - 1) → b ≡ capped (a * 86400000)
unfolding capped
capped_days a b e = omega arith

pub capped_hours : (a b : ℕ) → b ≡ min (capped a * 3600000) (2 ^ 64 - 1) → b ≡ capped (a * 3600000)
unfolding capped
capped_hours a b e = omega arith

pub capped_minutes : (a b : ℕ) → b ≡ min (capped a * 60000) (2 ^ 64 - 1) → b ≡ capped (a * 60000)
unfolding capped
capped_minutes a b e = omega arith

pub capped_seconds : (a b : ℕ) → b ≡ min (capped a * 1000) (2 ^ 64 - 1) → b ≡ capped (a * 1000)
unfolding capped
capped_seconds a b e = omega arith

pub total_is : (d h m s l a b e f k1 k2 k3 k4 : ℕ) → a ≡ min (capped d * 86400000) (2 ^ 64 - 1) → b ≡ min (capped h * 3600000) (2 ^ 64 - 1) → k1 ≡ min (a + b) (2 ^ 64 - 1)
    → e ≡ min (capped m * 60000) (2 ^ 64 - 1) → k2 ≡ min (k1 + e) (2 ^ 64 - 1) → f ≡ min (capped s * 1000) (2 ^ 64 - 1) → k3 ≡ min (k2 + f) (2 ^ 64 - 1)
    → k4 ≡ min (k3 + capped l) (2 ^ 64 - 1) → k4 ≡ capped (total_of d h m s l)
total_is d h m s l a b e f k1 k2 k3 k4 ea eb e1 ee e2 ef e3 e4 =
    let s1 : k1 ≡ capped (d * 86400000 + h * 3600000) = capped_add (d * 86400000) (h * 3600000) k1 (rw (capped_days d a ea, capped_hours h b eb) at e1) in
    let s2 : k2 ≡ capped (d * 86400000 + h * 3600000 + m * 60000) = capped_add (d * 86400000 + h * 3600000) (m * 60000) k2 (rw (s1, capped_minutes m e ee) at e2) in
    let s3 : k3 ≡ capped (d * 86400000 + h * 3600000 + m * 60000 + s * 1000) = capped_add (d * 86400000 + h * 3600000 + m * 60000) (s * 1000) k3 (rw (s2, capped_seconds s f ef) at e3) in
    capped_add (d * 86400000 + h * 3600000 + m * 60000 + s * 1000) l k4 (rw s3 at e4)

-- the number of a capped one
pub under_cap : (o : Option ℕ) (n : ℕ) → Some n ≡ option_map capped o → (l : ℕ) × (o ≡ Some l) × (n ≡ capped l)
under_cap None n e = absurd cc
under_cap (Some l) n e = (l, refl, cc)

pair_is : (p : ℕ × List ℕ) (rest : List ℕ) → rest ≡ p.1 → p ≡ (p.0, rest)
pair_is p rest e = rw e refl

-- the parts of a run one after the other
pub time_is : (run r1 r2 r3 r4 : List ℕ) (n : ℕ) → r1 ≡ (unit_part_at (codes "d") run).1 → r2 ≡ (unit_part_at (codes "h") r1).1 → r3 ≡ (unit_part_at (codes "m") r2).1 → r4 ≡ (unit_part_at (codes "s") r3).1
    → last_at (nat_lt (length r4) (length run)) r4 ≡ Some n
    → time_of run ≡ Some (total_of (unit_part_at (codes "d") run).0 (unit_part_at (codes "h") r1).0 (unit_part_at (codes "m") r2).0 (unit_part_at (codes "s") r3).0 n)
time_is run r1 r2 r3 r4 n e1 e2 e3 e4 last =
    let parts : Parts run (unit_part_at (codes "d") run).0 (unit_part_at (codes "h") r1).0 (unit_part_at (codes "m") r2).0 (unit_part_at (codes "s") r3).0 r1 r2 r3 r4 = record {
      in_days = pair_is (unit_part_at (codes "d") run) r1 e1;
      in_hours = pair_is (unit_part_at (codes "h") r1) r2 e2;
      in_minutes = pair_is (unit_part_at (codes "m") r2) r3 e3;
      in_seconds = pair_is (unit_part_at (codes "s") r3) r4 e4;
    } in
    parts_again run _ _ _ _ r1 r2 r3 r4 (Some n) parts last
