-- Lines counted by one walk over the bytes.
use Rattle.drl_parse.proofs.Common.{◌≡◌, ℕ, ◌+◌, ◌-◌, ◌<◌, ◌≤◌, ◌==◌, List, [], ◌∷◌, ◌++◌, length, get_or, map, min, ◌^◌, take, drop, refl, arith}
use Rattle.drl_parse.proofs.Common.{length-append, Token, AreTokens, take_more, drop_more, map_push, length-filter, count_by-le-length, starts, ReadsTokens}
use Rattle.{drl_parse.proofs.Common.{line_at}, std.proofs.{lemmas.List.{length-take, Elements.{filter-append}}, Math.Seq.{take-add}}}
use Rattle.drl_lex.specs.Tokens as p
use Rattle.drl_parse.specs.Lines.{newlines, Rises}

-- ---- the offsets of tokens rise

pub rise : (low at : ℕ) (tokens : List Token) (all : List ℕ) (end : ℕ) (rest : List ℕ) → low ≤ at → ReadsTokens at tokens all end rest → Rises low (starts tokens) end
rise low at [] all end rest le p.done = le
rise low at tokens all end rest le (p.skip {text} {bytes} e is h) = rise low (at + length text) tokens bytes end rest (omega arith) h
rise low at tokens all end rest le (p.next {tokens = others} {text} {bytes} e is h) = (le, rise at (at + length text) others bytes end rest (omega arith) h)

pub offsets_rise : (tokens : List Token) (bytes : List ℕ) → AreTokens tokens bytes → Rises 0 (starts tokens) (length bytes)
offsets_rise tokens bytes h = rise 0 0 tokens bytes (length bytes) [] (omega arith) h

within : (low : ℕ) (offsets : List ℕ) (high : ℕ) → Rises low offsets high → low ≤ high
within low [] high h = h
within low (at ∷ offsets) high h = let behind = within at offsets high h.1 in let first = h.0 in omega arith

-- ---- the walk

-- what the loop keeps: the lines so far, and the newlines before the offset up to which the bytes are counted
pub record SoFar (bytes offsets lines : List ℕ) (index before walked : ℕ) : Type 0 where
  pub said : lines ≡ map (line_at bytes) (take index offsets)
  pub counted : before ≡ newlines (take walked bytes)
  pub rises : Rises walked (drop index offsets) (length bytes)

pub next_offset : (bytes offsets lines : List ℕ) (index before walked : ℕ) → SoFar bytes offsets lines index before walked → index < length offsets
    → (walked ≤ get_or offsets index 0) × ((get_or offsets index 0 ≤ length bytes) × Rises (get_or offsets index 0) (drop (index + 1) offsets) (length bytes))
next_offset bytes offsets lines index before walked so_far lt =
    let rises : Rises walked (get_or offsets index 0 ∷ drop (index + 1) offsets) (length bytes) = rw (drop_more offsets index 0 lt) at so_far.rises in
    (rises.0, (within (get_or offsets index 0) (drop (index + 1) offsets) (length bytes) rises.1, rises.1))

few_newlines : (bytes : List ℕ) → newlines bytes ≤ length bytes
few_newlines bytes = omega (arith, length-filter (λ b. b == 10) bytes, count_by-le-length (λ b. b == 10) bytes)

pub counted_on : (bytes : List ℕ) (from to : ℕ) → from ≤ to → newlines (take from bytes) + newlines (take (to - from) (drop from bytes)) ≡ newlines (take to bytes)
counted_on bytes from to le =
    let sum : from + (to - from) ≡ to = omega arith in
    let parts : take to bytes ≡ take from bytes ++ take (to - from) (drop from bytes) = rw sum at (take-add from (to - from) bytes) in
    rw (parts, filter-append, length-append) refl

-- one more line
pub kept : (bytes offsets lines : List ℕ) (index before walked : ℕ) → SoFar bytes offsets lines index before walked → index < length offsets
    → let offset = get_or offsets index 0 in
    let counted = before + newlines (take (offset - walked) (drop walked bytes)) in
    SoFar bytes offsets (lines ++ min (counted + 1) (2 ^ 32 - 1) ∷ []) (index + 1) counted offset
kept bytes offsets lines index before walked so_far lt =
    let next = next_offset bytes offsets lines index before walked so_far lt in
    let sum : before + newlines (take (get_or offsets index 0 - walked) (drop walked bytes)) ≡ newlines (take (get_or offsets index 0) bytes) =
    rw so_far.counted (counted_on bytes walked (get_or offsets index 0) next.0) in
    record {
      said = rw (sum, take_more offsets index 0 lt, map_push, so_far.said) refl;
      counted = sum;
      rises = next.1.1;
    }

pub fits : (bytes offsets lines : List ℕ) (index before walked : ℕ) → SoFar bytes offsets lines index before walked → index < length offsets
    → before + newlines (take (get_or offsets index 0 - walked) (drop walked bytes)) ≤ length bytes
fits bytes offsets lines index before walked so_far lt =
    let next = next_offset bytes offsets lines index before walked so_far lt in
    let sum : before + newlines (take (get_or offsets index 0 - walked) (drop walked bytes)) ≡ newlines (take (get_or offsets index 0) bytes) =
    rw so_far.counted (counted_on bytes walked (get_or offsets index 0) next.0) in
    omega (arith, sum, few_newlines (take (get_or offsets index 0) bytes), length-take (get_or offsets index 0) bytes)
