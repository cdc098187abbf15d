-- The words with a meaning of their own, and the words that are names.
use Rattle.drl_condition.proofs.Common.{◌≡◌, ℕ, ◌≤◌, Bool, true, false, cond, List, ◌∷◌, Option, Some, refl, subst, arith, IfSome, codes, bytes_eq, OpWord}
use Rattle.drl_condition.proofs.Common.{TokenKind, Word, IsIdent, FoldWord, op_text, fold_text, result_text, phrase_binds, same_bytes, WindowWord, TimeWord}
use Rattle.{drl_condition.proofs.Common.{LengthWord}, temporal_ops.specs.declared.word.OpWord.TheVariants.{After, Before, Coincides, During, Includes}}
use Rattle.temporal_ops.specs.declared.word.OpWord.TheVariants.{Finishes, FinishedBy, Starts, StartedBy, Meets, MetBy, Overlaps, OverlappedBy}
use Rattle.{drl_expr.specs.Words.{is_ident}, drl_grammar.specs.declared.condition.FoldWord.TheVariants.{Count, Sum, Min, Max, Average}}
use Rattle.drl_grammar.specs.declared.condition.ResultWord.{ResultWord, TheVariants.{LongValue, IntValue}}
use Rattle.drl_condition.specs.declared.words.Form.TheVariants as form
use Rattle.drl_condition.specs.Words.{op_word, fold_word, result_word, window_word, word_form}

-- a word that is found among some is the text of what is found
pick : {A : Type 0} (text : A → List ℕ) (w : List ℕ) (k : A) (others : Option A) → IfSome others (λ j. w ≡ text j) → IfSome (cond (bytes_eq w (text k)) (Some k) others) (λ j. w ≡ text j)
pick {A} text w k others behind = go (bytes_eq w (text k)) refl
  where
    go : (b : Bool) → bytes_eq w (text k) ≡ b → IfSome (cond b (Some k) others) (λ j. w ≡ text j)
    go true e = same_bytes w (text k) e
    go false e = behind

pub op_sound : (w : List ℕ) → IfSome (op_word w) (λ op. w ≡ op_text op)
unfolding op_word
op_sound w = pick op_text w After _ (pick op_text w Before _ (pick op_text w Coincides _ (pick op_text w During _ (pick op_text w Includes _ (pick op_text w Finishes _
    (pick op_text w FinishedBy _ (pick op_text w Starts _ (pick op_text w StartedBy _ (pick op_text w Meets _ (pick op_text w MetBy _ (pick op_text w Overlaps _ (pick op_text w OverlappedBy _ tt))))))))))))

pub op_again : (op : OpWord) → op_word (op_text op) ≡ Some op
unfolding op_word
op_again After = refl
op_again Before = refl
op_again Coincides = refl
op_again During = refl
op_again Includes = refl
op_again Finishes = refl
op_again FinishedBy = refl
op_again Starts = refl
op_again StartedBy = refl
op_again Meets = refl
op_again MetBy = refl
op_again Overlaps = refl
op_again OverlappedBy = refl

pub fold_sound : (w : List ℕ) → IfSome (fold_word w) (λ k. w ≡ fold_text k)
unfolding fold_word
fold_sound w = pick fold_text w Count _ (pick fold_text w Sum _ (pick fold_text w Min _ (pick fold_text w Max _ (pick fold_text w Average _ tt))))

pub fold_again : (k : FoldWord) → fold_word (fold_text k) ≡ Some k
unfolding fold_word
fold_again Count = refl
fold_again Sum = refl
fold_again Min = refl
fold_again Max = refl
fold_again Average = refl

pub result_sound : (w : List ℕ) → IfSome (result_word w) (λ k. w ≡ result_text k)
unfolding result_word
result_sound w = pick result_text w LongValue _ (pick result_text w IntValue _ tt)

pub result_again : (k : ResultWord) → result_word (result_text k) ≡ Some k
unfolding result_word
result_again LongValue = refl
result_again IntValue = refl

abbrev pub window_text : WindowWord → List ℕ
window_text TimeWord = codes "time"
window_text LengthWord = codes "length"

pub window_sound : (w : List ℕ) → IfSome (window_word w) (λ k. w ≡ window_text k)
unfolding window_word
window_sound w = pick window_text w TimeWord _ (pick window_text w LengthWord _ tt)

pub window_again : (k : WindowWord) → window_word (window_text k) ≡ Some k
unfolding window_word
window_again TimeWord = refl
window_again LengthWord = refl

-- ---- names

-- a name is no reserved word
pub ident_differs : (f word : List ℕ) → IsIdent f → is_ident word ≡ false → bytes_eq f word ≡ false
ident_differs f word h reserved = go (bytes_eq f word) refl
  where
    go : (b : Bool) → bytes_eq f word ≡ b → b ≡ false
    go false e = refl
    go true e = let named = subst IsIdent (same_bytes f word e) h in absurd cc

-- a condition that begins with a name is a pattern
pub name_form : (f : List ℕ) → IsIdent f → word_form f ≡ form.Pattern
unfolding word_form is_ident
name_form f h = rw (ident_differs f (codes "not") h refl, ident_differs f (codes "exists") h refl, ident_differs f (codes "accumulate") h refl, ident_differs f (codes "Number") h refl) refl

abbrev word_level : Bool → Bool → ℕ
word_level o a = cond o 7 (cond a 8 9)

-- a word that goes on with no pattern is none of the two that do
pub word_differs : (w : List ℕ) (rest : List TokenKind) → 9 ≤ phrase_binds (Word w ∷ rest) → (bytes_eq w (codes "over") ≡ false) × (bytes_eq w (codes "from") ≡ false)
word_differs w rest low = go (bytes_eq w (codes "over")) (bytes_eq w (codes "from")) low
  where
    go : (o a : Bool) → 9 ≤ word_level o a → (o ≡ false) × (a ≡ false)
    go true a low = absurd (omega arith)
    go false true low = absurd (omega arith)
    go false false low = (refl, refl)
