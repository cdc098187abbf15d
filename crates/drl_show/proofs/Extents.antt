-- The tokens of an item are as many as its first token takes from the file.
use Rattle.drl_show.proofs.Common.{◌≡◌, ℕ, ◌+◌, ◌&&◌, ◌||◌, Bool, true, false, not, List, [], ◌∷◌, ◌++◌, length, refl, ap, ◌∙◌, length-append, arith, codes}
use Rattle.drl_show.proofs.Common.{list_all, bytes_eq, begins, begins_word, TokenKind, Word, Var, Number, Time, Text, Mark, IsIdent, prefix_len, is_word_byte}
use Rattle.drl_show.proofs.{Common.{is_among, condition_words, value_words, opens_block, count_before}, Fine.{fine, both}}
use Rattle.{std.proofs.lemmas.List.Folds.{length-prefix_len}, drl_expr.specs.Words.{is_ident}, drl_grammar.specs.Files.{begins_item, ends_block, extent}}

-- no token passes the test
abbrev pub Calm : (TokenKind → Bool) → List TokenKind → Type 0
Calm test [] = Unit {0}
Calm test (t ∷ ts) = (test t ≡ false) × Calm test ts

-- the first token passes the test, if there is one
abbrev pub StartsWith : (TokenKind → Bool) → List TokenKind → Type 0
StartsWith test [] = Unit {0}
StartsWith test (t ∷ ts) = test t ≡ true

prefix_calm : (test : TokenKind → Bool) (ts more : List TokenKind) → Calm test ts → StartsWith test more → prefix_len (λ t. not (test t)) (ts ++ more) ≡ length ts
prefix_calm test [] [] calm starts = refl
prefix_calm test [] (t ∷ more) calm starts = rw starts refl
prefix_calm test (t ∷ ts) more calm starts = let all = prefix_calm test ts more calm.1 starts in rw (calm.0, all) (omega arith)

pub count_calm : (test : TokenKind → Bool) (ts more : List TokenKind) → Calm test ts → StartsWith test more → count_before test (ts ++ more) ≡ length ts
count_calm test ts more calm starts = length-prefix_len (λ t. not (test t)) (ts ++ more) ∙ prefix_calm test ts more calm starts

-- ---- items that end where the next one begins

no_item : (a b c d e r s u : Bool) → not (((a || (b || (c || (d || (e || r))))) || s) || u) ≡ true → a || (b || (c || (d || (e || false)))) ≡ false
no_item true b c d e r s u h = absurd cc
no_item false true c d e r s u h = absurd cc
no_item false false true d e r s u h = absurd cc
no_item false false false true e r s u h = absurd cc
no_item false false false false true r s u h = absurd cc
no_item false false false false false r s u h = refl

pub ident_calm : (w : List ℕ) → IsIdent w → begins_item (Word w) ≡ false
unfolding is_ident begins_item
ident_calm w h = no_item (bytes_eq w (codes "package")) (bytes_eq w (codes "import")) (bytes_eq w (codes "dialect")) (bytes_eq w (codes "declare")) (bytes_eq w (codes "rule"))
    (is_among (codes "when" ∷ codes "then" ∷ codes "end" ∷ codes "salience" ∷ codes "extends" ∷ []) w) (is_among condition_words w) (is_among value_words w) h

pub calm_append : (test : TokenKind → Bool) (xs ys : List TokenKind) → Calm test xs → Calm test ys → Calm test (xs ++ ys)
calm_append test [] ys hx hy = hy
calm_append test (x ∷ xs) ys hx hy = (hx.0, calm_append test xs ys hx.1 hy)

-- an item that opens no block takes what stands before the next one
pub open_extent : (t : TokenKind) (ts more : List TokenKind) → opens_block t ≡ false → Calm begins_item ts → StartsWith begins_item more → extent t (ts ++ more) ≡ length ts
unfolding extent
open_extent t ts more opens calm starts = rw opens (count_calm begins_item ts more calm starts)

-- ---- items that end with a word

fine_calm_one : (t : TokenKind) → fine t ≡ true → ends_block t ≡ false
unfolding ends_block
fine_calm_one (Word w) h = go (bytes_eq w (codes "end")) refl (both (begins begins_word w && list_all is_word_byte w) (not (bytes_eq w (codes "end"))) h).1
  where
    go : (b : Bool) → bytes_eq w (codes "end") ≡ b → not (bytes_eq w (codes "end")) ≡ true → bytes_eq w (codes "end") ≡ false
    go true e h = absurd cc
    go false e h = e
fine_calm_one (Var v) h = refl
fine_calm_one (Number n) h = refl
fine_calm_one (Time n) h = refl
fine_calm_one (Text s) h = refl
fine_calm_one (Mark m) h = refl

fine_calm : (ts : List TokenKind) → list_all fine ts ≡ true → Calm ends_block ts
fine_calm [] h = tt
fine_calm (t ∷ ts) h = let parts = both (fine t) (list_all fine ts) h in (fine_calm_one t parts.0, fine_calm ts parts.1)

regrouped : (inner more : List TokenKind) (t : TokenKind) → (inner ++ (t ∷ [])) ++ more ≡ inner ++ (t ∷ more)
regrouped [] more t = refl
regrouped (x ∷ xs) more t = ap (λ (ts : List TokenKind). x ∷ ts) (regrouped xs more t)

end_ends : ends_block (Word (codes "end")) ≡ true
unfolding ends_block
end_ends = refl

-- an item that opens a block takes what stands there through the word `end`
pub block_extent : (t : TokenKind) (inner more : List TokenKind) → opens_block t ≡ true → list_all fine inner ≡ true
    → extent t ((inner ++ (Word (codes "end") ∷ [])) ++ more) ≡ length (inner ++ (Word (codes "end") ∷ []))
unfolding extent
block_extent t inner more opens is_fine =
    let count : count_before ends_block (inner ++ (Word (codes "end") ∷ more)) ≡ length inner = count_calm ends_block inner (Word (codes "end") ∷ more) (fine_calm inner is_fine) end_ends in
    let one : length (inner ++ (Word (codes "end") ∷ more)) ≡ length inner + length (Word (codes "end") ∷ more) = length-append inner (Word (codes "end") ∷ more) in
    let two : length (inner ++ (Word (codes "end") ∷ [])) ≡ length inner + 1 = length-append inner (Word (codes "end") ∷ []) in
    rw (opens, regrouped inner more (Word (codes "end")), count, one, two) (omega arith)
