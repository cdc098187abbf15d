-- Reading an action: the tree and what follows.
use Rattle.std.specs.{Prelude.{◌&&◌, ℕ, List, [], ◌∷◌, Option, Some, None, if◌then◌else◌, take, drop, codes}, Str.{bytes_eq}}
use Rattle.drl_lex.specs.{Bytes.{begins_word}, declared.token.{TokenKind.{TokenKind, TheVariants.{Word, Var, Mark}}, Mark.TheVariants.{OpenParenthesis}}}
use Rattle.drl_lex.specs.declared.token.Mark.TheVariants.{CloseParenthesis, OpenBrace, Assign}
use Rattle.drl_expr.specs.{Exact.{Read}, Reading.{expression_at}, Tree.{Tree}, Words.{is_ident}}
use Rattle.drl_grammar.specs.{Actions.{small}, declared.action.ActTree.{ActTree, TheVariants.{Insert, Modify, Retract}}}
use Rattle.drl_phrase.specs.declared.phrase.Punctuation.TheVariants as p
use Rattle.drl_phrase.specs.Reading.{◌>>=◌, ident, closed, separated_at, listed_at, optional_at}
use Rattle.drl_action.specs.declared.word.ActionWord.{ActionWord, TheVariants.{InsertWord, ModifyWord, RetractWord}}

-- ---- setters

-- the name of this first letter, where it may stand as one
abbrev pub named : ℕ → List ℕ → Option (List ℕ)
named b bytes = if begins_word b && is_ident (b ∷ bytes) then Some (b ∷ bytes) else None

-- the field of a name that stands behind `set`
abbrev pub set_field_named : List ℕ → Option (List ℕ)
set_field_named [] = None
set_field_named (b ∷ bytes) = named (small b) bytes

-- the field that a word names as a setter
unfoldable pub setter_at : List ℕ → Option (List ℕ)
setter_at word = if bytes_eq (take 3 word) (codes "set") then set_field_named (drop 3 word) else None

-- ---- assignments

unfoldable pub assign_at : List TokenKind → Read (List ℕ × Tree)
assign_at (Word f ∷ Mark Assign ∷ ts) = ident f (expression_at ts >>= λ e. Some ((f, e.0), e.1))
assign_at (Word w ∷ Mark OpenParenthesis ∷ ts) = ident w (setter_at w >>= λ f. expression_at ts >>= λ e. closed p.CloseParenthesis (f, e.0) e.1)
assign_at ts = None

-- ---- actions

-- the words that begin an action
abbrev pub word_of : ActionWord → List ℕ
word_of InsertWord = codes "insert"
word_of ModifyWord = codes "modify"
word_of RetractWord = codes "retract"

unfoldable pub action_word : List ℕ → Option ActionWord
action_word w = if bytes_eq w (codes "insert") then Some InsertWord else
    (if bytes_eq w (codes "modify") then Some ModifyWord else
    (if bytes_eq w (codes "retract") then Some RetractWord else None))

-- the values of an insertion, and what ends it
abbrev pub values_at : List ℕ → List TokenKind → Read ActTree
values_at ty ts = listed_at expression_at ts >>= λ es. closed p.CloseParenthesis (Insert ty es.0) es.1

-- the assignments of a modification, and what ends it
abbrev pub sets_at : List ℕ → List TokenKind → Read ActTree
sets_at v ts = separated_at assign_at p.Comma ts >>= λ sets. closed p.CloseBrace (Modify v sets.0) sets.1

-- an insertion behind its word
unfoldable pub insert_at : List TokenKind → Read ActTree
insert_at (Mark OpenParenthesis ∷ Word w ∷ Word ty ∷ Mark OpenParenthesis ∷ ts) = if bytes_eq w (codes "new") then ident ty (values_at ty ts) else None
insert_at ts = None

-- a modification behind its word
unfoldable pub modify_at : List TokenKind → Read ActTree
modify_at (Mark OpenParenthesis ∷ Var v ∷ Mark CloseParenthesis ∷ Mark OpenBrace ∷ ts) = sets_at v ts
modify_at ts = None

-- a retraction behind its word
unfoldable pub retract_at : List TokenKind → Read ActTree
retract_at (Mark OpenParenthesis ∷ Var v ∷ Mark CloseParenthesis ∷ rest) = Some (Retract v, rest)
retract_at ts = None

-- an action behind its word, without the semicolon
abbrev pub behind_word_at : ActionWord → List TokenKind → Read ActTree
behind_word_at InsertWord ts = insert_at ts
behind_word_at ModifyWord ts = modify_at ts
behind_word_at RetractWord ts = retract_at ts

unfoldable pub action_at : List TokenKind → Read ActTree
action_at (Word w ∷ ts) = action_word w >>= λ word. behind_word_at word ts >>= λ act. Some (act.0, optional_at p.Semicolon act.1)
action_at ts = None
