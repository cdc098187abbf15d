-- Reading the bytes of a text one after the other, as a loop does.
use Rattle.drl_lex.proofs.Common.{◌≡◌, ℕ, ◌-◌, ◌+◌, ◌≤◌, List, [], ◌∷◌, ◌++◌, length, take, drop, get_or, Some, Ok, Err, refl, ap, ◌∙◌, arith, take_all}
use Rattle.drl_lex.{proofs.Common.{Backslash, Plain, ReadToken, with_byte, escaped_byte, text_byte_of}, specs.Reading.{content_at}}

-- what was read before, and what is still read
abbrev pub behind : List ℕ → ReadToken (List ℕ) → ReadToken (List ℕ)
behind front (Ok read) = Ok (front ++ read.0, read.1)
behind front (Err fault) = Err fault

-- ---- one turn: a byte that stands for itself, and an escape

pub plain_read : (at quote place : ℕ) (bytes : List ℕ) → 1 ≤ length bytes → Plain ≡ text_byte_of quote (get_or bytes 0 0)
    → content_at at quote place bytes ≡ with_byte (get_or bytes 0 0) (content_at at quote (place + 1) (take (length bytes - 1) (drop 1 bytes)))
unfolding content_at
plain_read at quote place [] some e = absurd (omega arith)
plain_read at quote place (b ∷ []) some e = rw (← e) refl
plain_read at quote place (b ∷ c ∷ bytes) some e =
    let all : take (length (b ∷ c ∷ bytes) - 1) (c ∷ bytes) ≡ c ∷ bytes = take_all (length (b ∷ c ∷ bytes) - 1) (c ∷ bytes) (omega arith) in
    rw (← e, all) refl

pub escape_read : (at quote place meant : ℕ) (bytes rest : List ℕ) → 1 ≤ length bytes → 1 ≤ length rest → Backslash ≡ text_byte_of quote (get_or bytes 0 0)
    → rest ≡ take (length bytes - 1) (drop 1 bytes) → Some meant ≡ escaped_byte (get_or rest 0 0)
    → content_at at quote place bytes ≡ with_byte meant (content_at at quote (place + 2) (take (length rest - 1) (drop 1 rest)))
unfolding content_at
escape_read at quote place meant [] rest some more e rest-is e1 = absurd (omega arith)
escape_read at quote place meant (b ∷ []) rest some more e rest-is e1 = let none : length rest ≡ 0 = ap length rest-is in absurd (omega arith)
escape_read at quote place meant (b ∷ c ∷ bytes) rest some more e rest-is e1 =
    let all : take (length (b ∷ c ∷ bytes) - 1) (c ∷ bytes) ≡ c ∷ bytes = take_all (length (b ∷ c ∷ bytes) - 1) (c ∷ bytes) (omega arith) in
    let same : rest ≡ c ∷ bytes = rest-is ∙ all in
    let behind : take (length (c ∷ bytes) - 1) bytes ≡ bytes = take_all (length (c ∷ bytes) - 1) bytes (omega arith) in
    let meant-is = rw same at e1 in
    rw (same, ← e, ← meant-is, behind) refl
