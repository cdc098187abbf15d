-- The text of tokens that stand one behind the other.
use Rattle.drl_show.proofs.Common.{◌≡◌, ℕ, ℤ, suc, ◌+◌, ◌<◌, List, [], ◌∷◌, ◌++◌, length, drop, get_or, refl, sym, ap, ◌∙◌, append_assoc, add-one, drop-cons}
use Rattle.drl_show.proofs.Common.{arith, append-nil, TokenKind, Word, Mark, OpenParenthesis, OpenBracket, CloseBracket, Comma, codes, SourceTree, FoldWord}
use Rattle.drl_show.proofs.Common.{each, parted, number_tokens, param_tokens, source_tokens, spaced, added, function_tokens, joined}
use Rattle.{drl_show.specs.{Canonical.{accumulate_tokens}, Texts.{token_text}}, drl_lex.specs.declared.token.Mark.{Mark as MarkData}}

pub added_append : (bytes : List ℕ) (xs ys : List TokenKind) → added bytes (xs ++ ys) ≡ added (added bytes xs) ys
added_append bytes [] ys = refl
added_append bytes (t ∷ ts) ys = added_append (bytes ++ (32 ∷ token_text t)) ts ys

pub added_is : (bytes : List ℕ) (ts : List TokenKind) → added bytes ts ≡ bytes ++ spaced ts
added_is bytes [] = sym (append-nil bytes)
added_is bytes (t ∷ ts) = added_is (bytes ++ (32 ∷ token_text t)) ts ∙ append_assoc bytes (32 ∷ token_text t) (spaced ts)

module _ {A : Type 0} (tokens : A → List TokenKind) (items : List A) (x : A) where
  -- a turn of the loop over items
  pub each_turn : (i : ℕ) (bytes next all : List ℕ) → i < length items → x ≡ get_or items i x → next ≡ added bytes (tokens x) → added bytes (each tokens (drop i items)) ≡ all
      → added next (each tokens (drop (i + 1) items)) ≡ all
  each_turn i bytes next all lt is e so_far =
      let cut : drop i items ≡ x ∷ drop (i + 1) items = rw add-one (drop-cons items i x lt ∙ ap (λ (y : A). y ∷ drop (suc i) items) (sym is)) in
      let whole : added bytes (each tokens (drop i items)) ≡ added (added bytes (tokens x)) (each tokens (drop (i + 1) items)) = rw cut (added_append bytes (tokens x) (each tokens (drop (i + 1) items))) in
      ap (λ (b : List ℕ). added b (each tokens (drop (i + 1) items))) e ∙ sym whole ∙ so_far

  -- the first item, and the others with the mark before each
  pub parted_turn : (mark : MarkData) (rest : List A) (bytes next last : List ℕ) → 0 < length items → x ≡ get_or items 0 x → rest ≡ drop 1 items → next ≡ added bytes (tokens x)
      → last ≡ added next (each (λ y. Mark mark ∷ tokens y) rest) → last ≡ added bytes (parted mark tokens items)
  parted_turn mark rest bytes next last lt is behind e e_last =
      let cut : items ≡ x ∷ rest = drop-cons items 0 x lt ∙ ap (λ (y : A). y ∷ drop 1 items) (sym is) ∙ ap (λ (ys : List A). x ∷ ys) (sym behind) in
      let whole : added bytes (parted mark tokens items) ≡ added (added bytes (tokens x)) (each (λ y. Mark mark ∷ tokens y) rest) = rw cut (added_append bytes (tokens x) (each (λ y. Mark mark ∷ tokens y) rest)) in
      e_last ∙ ap (λ (b : List ℕ). added b (each (λ y. Mark mark ∷ tokens y) rest)) e ∙ sym whole

-- parameters and the bracket behind them
pub params_end : (bytes next last : List ℕ) (params : List ℤ) → 0 < length params → next ≡ added (added bytes (Mark OpenBracket ∷ [])) (parted Comma number_tokens params) → last ≡ added next (Mark CloseBracket ∷ [])
    → last ≡ added bytes (param_tokens params)
params_end bytes next last [] some e e_last = absurd (omega arith)
params_end bytes next last (p ∷ ps) some e e_last = e_last ∙ ap (λ (b : List ℕ). added b (Mark CloseBracket ∷ [])) e
    ∙ sym (added_append (added bytes (Mark OpenBracket ∷ [])) (parted Comma number_tokens (p ∷ ps)) (Mark CloseBracket ∷ []))

-- an item in a line of its own
pub line_is : (bytes next last word : List ℕ) (ts : List TokenKind) → next ≡ added (bytes ++ word) ts → last ≡ next ++ (10 ∷ []) → last ≡ bytes ++ (joined (Word word ∷ ts) ++ (10 ∷ []))
unfolding token_text
line_is bytes next last word ts e e_last = e_last ∙ ap (λ (b : List ℕ). b ++ (10 ∷ [])) (e ∙ added_is (bytes ++ word) ts ∙ append_assoc bytes word (spaced ts)) ∙ append_assoc bytes (word ++ spaced ts) (10 ∷ [])

-- an accumulate behind the tests of its result
pub accumulate_is : (bytes next last : List ℕ) (s : SourceTree) (word : FoldWord) (arg : List ℕ) → next ≡ added (added bytes (Word (codes "from") ∷ Word (codes "accumulate") ∷ Mark OpenParenthesis ∷ [])) (source_tokens s)
    → last ≡ added next (function_tokens word arg) → last ≡ added bytes (accumulate_tokens s word arg)
unfolding accumulate_tokens
accumulate_is bytes next last s word arg e e_last = e_last ∙ ap (λ (b : List ℕ). added b (function_tokens word arg)) e
    ∙ sym (added_append (added bytes (Word (codes "from") ∷ Word (codes "accumulate") ∷ Mark OpenParenthesis ∷ [])) (source_tokens s) (function_tokens word arg))
