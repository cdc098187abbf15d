-- The lines of bytes that came in pieces, and what stands behind the last line end.
use Rattle.line_feed.proofs.Common.{◌≡◌, ◌++◌, ◌==◌, ◌||◌, ℕ, Bool, true, false, List, [], ◌∷◌, refl, sym, ap, ◌∙◌, list_any-append, if◌then◌else◌}
use Rattle.{line_feed.specs.Fed.{last_piece}, std.proofs.lemmas.Bool.{or_parts}, fx_io.specs.Lines.{has_end, HasNoEnd}, line_run.specs.Prompt.{onto_whole}}
use Rattle.line_run.specs.Prompt.{whole_lines}

-- a line that has its end
pub first_whole : (line rest : List ℕ) → HasNoEnd line → whole_lines (line ++ 10 ∷ rest) ≡ line ∷ whole_lines rest
unfolding whole_lines
first_whole [] rest h = refl
first_whole (b ∷ line) rest h = let parts = or_parts (b == 10) (has_end line) h in rw (parts.0, first_whole line rest parts.1) refl

pub none_whole : (bytes : List ℕ) → HasNoEnd bytes → whole_lines bytes ≡ []
unfolding whole_lines
none_whole [] h = refl
none_whole (b ∷ bytes) h = let parts = or_parts (b == 10) (has_end bytes) h in rw (parts.0, none_whole bytes parts.1) refl

-- what a byte in front makes of the lines
abbrev in_front : Bool → ℕ → List (List ℕ) → List (List ℕ)
in_front ends b lines = if ends then [] ∷ lines else onto_whole b lines

-- and of what stands behind the last line end
abbrev piece_in_front : Bool → ℕ → List ℕ → List ℕ
piece_in_front ends b bytes = if ends then last_piece bytes else b ∷ bytes

abbrev HasFirst : List (List ℕ) → Type 0
HasFirst lines = (line : List ℕ) × (more : List (List ℕ)) × (lines ≡ line ∷ more)

first_in_front : (ends some : Bool) (b : ℕ) (lines : List (List ℕ)) → (ends || some) ≡ true → (some ≡ true → HasFirst lines) → HasFirst (in_front ends b lines)
first_in_front true some b lines h more = ([], lines, refl)
first_in_front false some b lines h more = let it = more h in (b ∷ it.0, it.1, ap (onto_whole b) it.2)

-- where a line ends, there is a first one
some_whole : (bytes : List ℕ) → has_end bytes ≡ true → HasFirst (whole_lines bytes)
unfolding whole_lines
some_whole [] h = absurd (let e : false ≡ true = h in cc)
some_whole (b ∷ bytes) h = first_in_front (b == 10) (has_end bytes) b (whole_lines bytes) h (some_whole bytes)

-- what stands behind the last line end has none
none_in_front : (ends : Bool) (b : ℕ) (bytes : List ℕ) → has_end (b ∷ bytes) ≡ ends → HasNoEnd (last_piece bytes) → HasNoEnd (piece_in_front ends b bytes)
none_in_front true b bytes e h = h
none_in_front false b bytes e h = e

pub last_has_none : (bytes : List ℕ) → HasNoEnd (last_piece bytes)
unfolding last_piece
last_has_none [] = refl
last_has_none (b ∷ bytes) = none_in_front (has_end (b ∷ bytes)) b bytes refl (last_has_none bytes)

pub last_of_none : (bytes : List ℕ) → HasNoEnd bytes → last_piece bytes ≡ bytes
unfolding last_piece
last_of_none [] h = refl
last_of_none (b ∷ bytes) h = ap (λ (z : Bool). piece_in_front z b bytes) h

-- a line ends in bytes and more
ends_more : (a b : List ℕ) → has_end a ≡ true → has_end (a ++ b) ≡ true
ends_more a b e = list_any-append (λ (c : ℕ). c == 10) a b ∙ ap (λ (z : Bool). z || has_end b) e

ends_last : (front : List ℕ) → has_end (front ++ 10 ∷ []) ≡ true
ends_last [] = refl
ends_last (c ∷ front) = either (c == 10) (has_end (front ++ 10 ∷ [])) (ends_last front)
  where
    either : (x y : Bool) → y ≡ true → (x || y) ≡ true
    either true y e = refl
    either false y e = e

pub last_behind_end : (line : List ℕ) → last_piece (line ++ 10 ∷ []) ≡ []
unfolding last_piece
last_behind_end [] = refl
last_behind_end (b ∷ line) = ap (λ (z : Bool). piece_in_front z b (line ++ 10 ∷ [])) (ends_last (b ∷ line)) ∙ last_behind_end line

-- the lines of two pieces
onto_both : (x : ℕ) (lines more : List (List ℕ)) → HasFirst lines → onto_whole x (lines ++ more) ≡ onto_whole x lines ++ more
onto_both x [] more first = absurd (let e : [] ≡ first.0 ∷ first.1 = first.2 in cc)
onto_both x (line ∷ lines) more first = refl

both_in_front : (ends some : Bool) (x : ℕ) (a b : List ℕ) → x == 10 ≡ ends → has_end a ≡ some → whole_lines (a ++ b) ≡ whole_lines a ++ whole_lines (last_piece a ++ b)
    → in_front ends x (whole_lines (a ++ b)) ≡ in_front ends x (whole_lines a) ++ whole_lines (piece_in_front (ends || some) x a ++ b)
unfolding whole_lines
both_in_front true some x a b e f more = ap (λ (lines : List (List ℕ)). [] ∷ lines) more
both_in_front false true x a b e f more = ap (onto_whole x) more ∙ onto_both x (whole_lines a) (whole_lines (last_piece a ++ b)) (some_whole a f)
both_in_front false false x a b e f more =
    let first : onto_whole x (whole_lines a) ++ whole_lines (x ∷ (a ++ b)) ≡ whole_lines (x ∷ (a ++ b)) =
    ap (λ (z : List (List ℕ)). onto_whole x z ++ whole_lines (x ∷ (a ++ b))) (none_whole a f) in
    let second : whole_lines (x ∷ (a ++ b)) ≡ onto_whole x (whole_lines (a ++ b)) = ap (λ (z : Bool). in_front z x (whole_lines (a ++ b))) e in
    sym (first ∙ second)

pub lines_of_both : (a b : List ℕ) → whole_lines (a ++ b) ≡ whole_lines a ++ whole_lines (last_piece a ++ b)
unfolding whole_lines last_piece
lines_of_both [] b = refl
lines_of_both (x ∷ a) b = both_in_front (x == 10) (has_end a) x a b refl refl (lines_of_both a b)

pieces_in_front : (ends : Bool) (x : ℕ) (a b : List ℕ) → has_end (x ∷ a) ≡ ends → last_piece (a ++ b) ≡ last_piece (last_piece a ++ b) → last_piece (x ∷ (a ++ b)) ≡ last_piece (piece_in_front ends x a ++ b)
unfolding last_piece
pieces_in_front true x a b e more = ap (λ (z : Bool). piece_in_front z x (a ++ b)) (ends_more (x ∷ a) b e) ∙ more
pieces_in_front false x a b e more = refl

pub last_of_both : (a b : List ℕ) → last_piece (a ++ b) ≡ last_piece (last_piece a ++ b)
unfolding last_piece
last_of_both [] b = refl
last_of_both (x ∷ a) b = pieces_in_front (has_end (x ∷ a)) x a b refl (last_of_both a b)
