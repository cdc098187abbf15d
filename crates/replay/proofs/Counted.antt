-- The lines of a text, one after the other, and how many of them begin with some bytes.
use Rattle.replay.proofs.Common.{◌≡◌, ◌≢◌, inl, inr, ◌<◌, ◌≤◌, ◌+◌, ◌++◌, ◌==◌, ℕ, List, [], ◌∷◌, length, take, drop, true, cond, Some, None, refl, sym, ap}
use Rattle.replay.proofs.Common.{◌∙◌, arith, fold, starts_with, append-nil, take-append-drop, IsExhausted, IsFirstEnd, lines_with}
use Rattle.{std.proofs.lemmas.{Option.{same_Some}, Bool.{eqb-true}}, memchr.specs.Find.{IsFirstByte, is_byte}, fx_io.specs.Lines.{lines_of}}
use Rattle.fx_io.{specs.{Answers.{ReadsBytes, TakesLine, Answers}, declared.line.Line.TheVariants.{Whole}}, proofs.Ahead.{answers_ahead}}
use Rattle.fx_io.proofs.Ends.{first_end_found}

-- nothing of a source that is empty was read
nothing_read : ReadsBytes [] 0 0 0 0 (Some []) (Some [])
nothing_read = record { taken = refl; given = refl; left = refl }

-- what a reader of lines takes of bytes is their first line
first_taken : (line bytes kept : List ℕ) → TakesLine line bytes kept ((0 ≤ 0) × IsExhausted (Some [])) → lines_of bytes ≡ line ∷ lines_of kept
first_taken line bytes kept takes =
    let whole : TakesLine line (bytes ++ []) kept ((0 ≤ 0) × IsExhausted (Some [])) = rw (append-nil bytes) takes in
    let answers : Answers (length line) (Whole line) (Some (lines_of (bytes ++ []))) (Some (lines_of (kept ++ []))) =
    answers_ahead [] bytes kept 0 0 0 0 (Some []) (Some []) nothing_read (length line) 0 (Whole line) (omega arith, whole) in
    let first : lines_of (bytes ++ []) ≡ line ∷ lines_of (kept ++ []) = same_Some _ _ answers.1 in
    ap lines_of (sym (append-nil bytes)) ∙ first ∙ ap (λ (more : List ℕ). line ∷ lines_of more) (append-nil kept)

not_nothing : (text : List ℕ) → 0 < length text → text ≢ []
not_nothing [] some e = absurd (omega (arith, some))
not_nothing (b ∷ text) some e = absurd cc

-- the first line of a text ends at the first line end, and the others stand behind it
pub line_at : (text : List ℕ) (end : ℕ) → IsFirstByte (is_byte 10) text (Some end) → lines_of text ≡ take end text ∷ lines_of (drop (end + 1) text)
line_at text end found =
    let first : IsFirstEnd text (Some end) = first_end_found text (Some end) found in
    let parts : text ≡ take end text ++ 10 ∷ drop (end + 1) text = sym (take-append-drop end text) ∙ ap (λ (back : List ℕ). take end text ++ back) first.2 in
    first_taken (take end text) text (drop (end + 1) text) (first.1, inl parts)

-- a text without a line end is one line
pub one_line : (text : List ℕ) → 0 < length text → IsFirstByte (is_byte 10) text None → lines_of text ≡ text ∷ lines_of []
one_line text some found = first_taken text text [] (first_end_found text None found, inr (refl, not_nothing text some, refl, (omega arith, refl)))

-- how many lines begin with these bytes, and so many more
abbrev pub counted : List ℕ → ℕ → List (List ℕ) → ℕ
counted front count lines = fold (λ (n : ℕ) (line : List ℕ). n + cond (starts_with (λ a b. a == b) line front) 1 0) count lines

-- no line is left
pub last_line : (front rest : List ℕ) (count all : ℕ) → true ≡ (length rest == 0) → counted front count (lines_of rest) ≡ all → count ≡ all
unfolding lines_of
last_line front [] count all empty so_far = so_far
last_line front (b ∷ rest) count all empty so_far = absurd (omega (arith, eqb-true (length (b ∷ rest)) 0 (sym empty)))

every_line : (count : ℕ) (lines : List (List ℕ)) → counted [] count lines ≡ count + length lines
every_line count [] = omega arith
every_line count (line ∷ lines) = every_line (count + 1) lines ∙ omega arith

-- each line begins with nothing
pub all_lines : (text : List ℕ) → lines_with [] text ≡ length (lines_of text)
all_lines text = every_line 0 (lines_of text) ∙ omega arith
