-- The grammar of conditions, by one case for each line and each alternative of it.
use Rattle.std.specs.Prelude.{ℕ, ℤ, suc, List, [], ◌∷◌, ◌++◌, pos, neg_ℤ, true, false, Option, Some, None, codes}
use Rattle.temporal_ops.specs.declared.word.OpWord.{OpWord, TheVariants.{After, Before, Coincides, During, Includes, Finishes, FinishedBy, Starts, StartedBy}}
use Rattle.temporal_ops.specs.declared.word.OpWord.TheVariants.{Meets, MetBy, Overlaps, OverlappedBy}
use Rattle.drl_lex.specs.declared.token.{Rel.{Rel}, TokenKind.{TokenKind, TheVariants.{Word, Var, Number, Time, Text, Mark}}}
use Rattle.drl_lex.specs.declared.token.Mark.TheVariants.{OpenParenthesis, CloseParenthesis, OpenBracket, CloseBracket, Comma, Semicolon, Colon, Dot, Minus}
use Rattle.drl_lex.specs.declared.token.Mark.TheVariants.{Comparison, Or, And}
use Rattle.drl_expr.specs.{Exact.{Phrase}, Words.{IsIdent}, declared.literal.LitTree.{LitTree}}
use Rattle.drl_expr.specs.declared.literal.LitTree.TheVariants as lit
use Rattle.drl_grammar.specs.declared.condition.Operand.{Operand}
use Rattle.drl_grammar.specs.declared.condition.Operand.TheVariants as operand
use Rattle.drl_grammar.specs.declared.condition.Cmp.{Cmp}
use Rattle.drl_grammar.specs.declared.condition.Cmp.TheVariants as cmp
use Rattle.drl_grammar.specs.declared.condition.Part.{Part}
use Rattle.drl_grammar.specs.declared.condition.Part.TheVariants as part
use Rattle.drl_grammar.specs.declared.condition.WindowTree.{WindowTree}
use Rattle.drl_grammar.specs.declared.condition.WindowTree.TheVariants as window
use Rattle.drl_grammar.specs.declared.condition.{SourceTree.{SourceTree}, FoldWord.{FoldWord, TheVariants.{Count, Sum, Min, Max, Average}}}
use Rattle.drl_grammar.specs.declared.condition.{ResultWord.{ResultWord, TheVariants.{LongValue, IntValue}}, CondTree.{CondTree}}
use Rattle.drl_grammar.specs.declared.condition.CondTree.TheVariants as condition
use Rattle.drl_grammar.specs.declared.written.Piece.{Piece}
use Rattle.drl_grammar.specs.declared.written.Piece.TheVariants as piece
use Rattle.drl_grammar.specs.Shapes.{Maybe, Separated, Listed}

-- ---- words with a meaning of their own in one place

abbrev pub op_text : OpWord → List ℕ
op_text After = codes "after"
op_text Before = codes "before"
op_text Coincides = codes "coincides"
op_text During = codes "during"
op_text Includes = codes "includes"
op_text Finishes = codes "finishes"
op_text FinishedBy = codes "finishedby"
op_text Starts = codes "starts"
op_text StartedBy = codes "startedby"
op_text Meets = codes "meets"
op_text MetBy = codes "metby"
op_text Overlaps = codes "overlaps"
op_text OverlappedBy = codes "overlappedby"

abbrev pub fold_text : FoldWord → List ℕ
fold_text Count = codes "count"
fold_text Sum = codes "sum"
fold_text Min = codes "min"
fold_text Max = codes "max"
fold_text Average = codes "average"

abbrev pub result_text : ResultWord → List ℕ
result_text LongValue = codes "longValue"
result_text IntValue = codes "intValue"

-- ---- values

-- literal := ['-'] Number | Text | 'true' | 'false'
pub data IsLiteral : LitTree → List TokenKind → List TokenKind → Type 0 where
  number : {n : ℕ} {rest : List TokenKind} → IsLiteral (lit.Int (pos n)) (Number n ∷ rest) rest
  negative : {n : ℕ} {rest : List TokenKind} → IsLiteral (lit.Int (neg_ℤ (pos n))) (Mark Minus ∷ Number n ∷ rest) rest
  text : {s : List ℕ} {rest : List TokenKind} → IsLiteral (lit.Text s) (Text s ∷ rest) rest
  yes_word : {rest : List TokenKind} → IsLiteral (lit.Bool true) (Word (codes "true") ∷ rest) rest
  no_word : {rest : List TokenKind} → IsLiteral (lit.Bool false) (Word (codes "false") ∷ rest) rest

-- operand := literal | Var | Var '.' Ident | Ident
pub data IsOperand : Operand → List TokenKind → List TokenKind → Type 0 where
  literal : {l : LitTree} {ts rest : List TokenKind} → IsLiteral l ts rest → IsOperand (operand.Lit l) ts rest
  variable : {v : List ℕ} {rest : List TokenKind} → IsOperand (operand.Var v) (Var v ∷ rest) rest
  field_of : {v f : List ℕ} {rest : List TokenKind} → IsIdent f → IsOperand (operand.VarField v f) (Var v ∷ Mark Dot ∷ Word f ∷ rest) rest
  own : {f : List ℕ} {rest : List TokenKind} → IsIdent f → IsOperand (operand.Own f) (Word f ∷ rest) rest

-- span := ['-'] (Number | Time), in milliseconds
pub data IsSpan : ℤ → List TokenKind → List TokenKind → Type 0 where
  number_span : {n : ℕ} {rest : List TokenKind} → IsSpan (pos n) (Number n ∷ rest) rest
  time_span : {n : ℕ} {rest : List TokenKind} → IsSpan (pos n) (Time n ∷ rest) rest
  negative_number : {n : ℕ} {rest : List TokenKind} → IsSpan (neg_ℤ (pos n)) (Mark Minus ∷ Number n ∷ rest) rest
  negative_time : {n : ℕ} {rest : List TokenKind} → IsSpan (neg_ℤ (pos n)) (Mark Minus ∷ Time n ∷ rest) rest

-- name := Text | Ident
pub data IsName : List ℕ → List TokenKind → List TokenKind → Type 0 where
  quoted : {s : List ℕ} {rest : List TokenKind} → IsName s (Text s ∷ rest) rest
  plain_word : {s : List ℕ} {rest : List TokenKind} → IsIdent s → IsName s (Word s ∷ rest) rest

-- ---- what stands in the parentheses of a pattern

-- cmp := Ident rel operand | Ident 'in' '(' operand (',' operand)* ')'
pub data IsCmp : Cmp → List TokenKind → List TokenKind → Type 0 where
  rel : {f : List ℕ} {r : Rel} {o : Operand} {ts rest : List TokenKind} → IsIdent f → IsOperand o ts rest → IsCmp (cmp.Rel f r o) (Word f ∷ Mark (Comparison r) ∷ ts) rest
  one_of : {f : List ℕ} {os : List Operand} {ts rest : List TokenKind} → IsIdent f → Separated (Mark Comma) IsOperand os ts (Mark CloseParenthesis ∷ rest)
      → IsCmp (cmp.OneOf f os) (Word f ∷ Word (codes "in") ∷ Mark OpenParenthesis ∷ ts) rest

-- conj := cmp ('&&' cmp)*
abbrev pub IsConj : Phrase (List Cmp)
IsConj = Separated (Mark And) IsCmp

-- disj := conj ('||' conj)*
abbrev pub IsDisj : Phrase (List (List Cmp))
IsDisj = Separated (Mark Or) IsConj

-- the parameters of a temporal test: ['[' span (',' span)* ']']
pub data AreParams : List ℤ → List TokenKind → List TokenKind → Type 0 where
  no_params : {rest : List TokenKind} → AreParams [] rest rest
  bracketed : {ps : List ℤ} {ts rest : List TokenKind} → Separated (Mark Comma) IsSpan ps ts (Mark CloseBracket ∷ rest) → AreParams ps (Mark OpenBracket ∷ ts) rest

-- part := Var ':' Ident | 'this' OpWord ['[' span (',' span)* ']'] Var | disj
pub data IsPart : Part → List TokenKind → List TokenKind → Type 0 where
  bind : {v f : List ℕ} {rest : List TokenKind} → IsIdent f → IsPart (part.Bind v f) (Var v ∷ Mark Colon ∷ Word f ∷ rest) rest
  temporal : {op : OpWord} {ps : List ℤ} {v : List ℕ} {ts rest : List TokenKind} → AreParams ps ts (Var v ∷ rest)
      → IsPart (part.Temporal op ps v) (Word (codes "this") ∷ Word (op_text op) ∷ ts) rest
  any_of : {d : List (List Cmp)} {ts rest : List TokenKind} → IsDisj d ts rest → IsPart (part.AnyOf d) ts rest

-- ---- patterns

-- window := 'over' 'window' ':' 'time' '(' span ')' | 'over' 'window' ':' 'length' '(' Number ')'
pub data IsWindow : WindowTree → List TokenKind → List TokenKind → Type 0 where
  time : {ms : ℤ} {ts rest : List TokenKind} → IsSpan ms ts (Mark CloseParenthesis ∷ rest)
      → IsWindow (window.Time ms) (Word (codes "over") ∷ Word (codes "window") ∷ Mark Colon ∷ Word (codes "time") ∷ Mark OpenParenthesis ∷ ts) rest
  length : {n : ℕ} {rest : List TokenKind}
      → IsWindow (window.Length (pos n)) (Word (codes "over") ∷ Word (codes "window") ∷ Mark Colon ∷ Word (codes "length") ∷ Mark OpenParenthesis ∷ Number n ∷ Mark CloseParenthesis ∷ rest) rest

-- place := 'from' 'entry' '-' 'point' name
pub data IsPlace : List ℕ → List TokenKind → List TokenKind → Type 0 where
  place : {s : List ℕ} {ts rest : List TokenKind} → IsName s ts rest → IsPlace s (Word (codes "from") ∷ Word (codes "entry") ∷ Mark Minus ∷ Word (codes "point") ∷ ts) rest

-- [Var ':'], the variable of a pattern or of a result
pub data IsBinding : Option (List ℕ) → List TokenKind → List TokenKind → Type 0 where
  unbound : {rest : List TokenKind} → IsBinding None rest rest
  bound : {v : List ℕ} {rest : List TokenKind} → IsBinding (Some v) (Var v ∷ Mark Colon ∷ rest) rest

-- source := [Var ':'] Ident '(' [part (',' part)*] ')' [window] [place]
pub data IsSource : SourceTree → List TokenKind → List TokenKind → Type 0 where
  source : {v : Option (List ℕ)} {ty : List ℕ} {ps : List Part} {w : Option WindowTree} {e : Option (List ℕ)} {ts inner behind middle rest : List TokenKind}
      → IsBinding v ts (Word ty ∷ Mark OpenParenthesis ∷ inner) → IsIdent ty → Listed IsPart ps inner behind → Maybe IsWindow w behind middle → Maybe IsPlace e middle rest
      → IsSource (record { var = v; ty = ty; parts = ps; window = w; entry = e }) ts rest

-- group := '(' source ')' | source
pub data IsGroup : SourceTree → List TokenKind → List TokenKind → Type 0 where
  in_parentheses : {s : SourceTree} {ts rest : List TokenKind} → IsSource s ts (Mark CloseParenthesis ∷ rest) → IsGroup s (Mark OpenParenthesis ∷ ts) rest
  open_group : {s : SourceTree} {ts rest : List TokenKind} → IsSource s ts rest → IsGroup s ts rest

-- ---- accumulates

-- vtest := ('longValue' | 'intValue') rel operand
pub data IsValueTest : Rel × Operand → List TokenKind → List TokenKind → Type 0 where
  value_test : (word : ResultWord) {r : Rel} {o : Operand} {ts rest : List TokenKind} → IsOperand o ts rest
      → IsValueTest (r, o) (Word (result_text word) ∷ Mark (Comparison r) ∷ ts) rest

-- rtest := Var rel operand, where the variable is the one bound to the result
pub data IsResultTest (v : List ℕ) : Rel × Operand → List TokenKind → List TokenKind → Type 0 where
  result_test : {r : Rel} {o : Operand} {ts rest : List TokenKind} → IsOperand o ts rest → IsResultTest v (r, o) (Var v ∷ Mark (Comparison r) ∷ ts) rest

-- [';' rtest (',' rtest)*] ')'
pub data AreResultTests (v : List ℕ) : List (Rel × Operand) → List TokenKind → List TokenKind → Type 0 where
  no_tests : {rest : List TokenKind} → AreResultTests v [] (Mark CloseParenthesis ∷ rest) rest
  tests : {rs : List (Rel × Operand)} {ts rest : List TokenKind} → Separated (Mark Comma) (IsResultTest v) rs ts (Mark CloseParenthesis ∷ rest) → AreResultTests v rs (Mark Semicolon ∷ ts) rest

-- folded := [Var ':'] 'Number' '(' [vtest (',' vtest)*] ')' 'from' 'accumulate' '(' source ',' function '(' Var ')' ')'
--         | 'accumulate' '(' source ';' Var ':' function '(' Var ')' [';' rtest (',' rtest)*] ')'
pub data IsFolded : CondTree → List TokenKind → List TokenKind → Type 0 where
  number_form : {result : Option (List ℕ)} {s : SourceTree} {word : FoldWord} {arg : List ℕ} {tests : List (Rel × Operand)} {ts inner source_tokens rest : List TokenKind}
      → IsBinding result ts (Word (codes "Number") ∷ Mark OpenParenthesis ∷ inner)
      → Listed IsValueTest tests inner (Word (codes "from") ∷ Word (codes "accumulate") ∷ Mark OpenParenthesis ∷ source_tokens)
      → IsSource s source_tokens (Mark Comma ∷ Word (fold_text word) ∷ Mark OpenParenthesis ∷ Var arg ∷ Mark CloseParenthesis ∷ Mark CloseParenthesis ∷ rest)
      → IsFolded (condition.Folded result s word arg tests) ts rest
  accumulate_form : {result : List ℕ} {s : SourceTree} {word : FoldWord} {arg : List ℕ} {tests : List (Rel × Operand)} {ts behind rest : List TokenKind}
      → IsSource s ts (Mark Semicolon ∷ Var result ∷ Mark Colon ∷ Word (fold_text word) ∷ Mark OpenParenthesis ∷ Var arg ∷ Mark CloseParenthesis ∷ behind)
      → AreResultTests result tests behind rest
      → IsFolded (condition.Folded (Some result) s word arg tests) (Word (codes "accumulate") ∷ Mark OpenParenthesis ∷ ts) rest

-- condition := source | ('not' | 'exists') group | folded
pub data IsCondition : CondTree → List TokenKind → List TokenKind → Type 0 where
  plain : {s : SourceTree} {ts rest : List TokenKind} → IsSource s ts rest → IsCondition (condition.Plain s) ts rest
  negated : {s : SourceTree} {ts rest : List TokenKind} → IsGroup s ts rest → IsCondition (condition.Negated s) (Word (codes "not") ∷ ts) rest
  existing : {s : SourceTree} {ts rest : List TokenKind} → IsGroup s ts rest → IsCondition (condition.Existing s) (Word (codes "exists") ∷ ts) rest
  folded : {c : CondTree} {ts rest : List TokenKind} → IsFolded c ts rest → IsCondition c ts rest

-- ---- alternatives

-- The number says how deep alternatives may still go.
mutual
  -- choice := condition | '(' choice+ ('or' choice+)+ ')'
  pub data IsChoice : ℕ → List Piece → List TokenKind → List TokenKind → Type 0 where
    one : {d : ℕ} {c : CondTree} {ts rest : List TokenKind} → IsCondition c ts rest → IsChoice d (piece.One c ∷ []) ts rest
    alternatives : {d : ℕ} {ps qs : List Piece} {ts middle rest : List TokenKind} → AreAll d ps ts (Word (codes "or") ∷ middle) → AreAny d qs middle (Mark CloseParenthesis ∷ rest)
        → IsChoice (suc d) (piece.Open ∷ ps ++ piece.Or ∷ qs ++ piece.Close ∷ []) (Mark OpenParenthesis ∷ ts) rest

  -- choice+, of which all are asked for
  pub data AreAll : ℕ → List Piece → List TokenKind → List TokenKind → Type 0 where
    last : {d : ℕ} {ps : List Piece} {ts rest : List TokenKind} → IsChoice d ps ts rest → AreAll d ps ts rest
    further : {d : ℕ} {ps qs : List Piece} {ts middle rest : List TokenKind} → IsChoice d ps ts middle → AreAll d qs middle rest → AreAll d (ps ++ qs) ts rest

  -- choice+ ('or' choice+)*, of which one is asked for
  pub data AreAny : ℕ → List Piece → List TokenKind → List TokenKind → Type 0 where
    only : {d : ℕ} {ps : List Piece} {ts rest : List TokenKind} → AreAll d ps ts rest → AreAny d ps ts rest
    or_else : {d : ℕ} {ps qs : List Piece} {ts middle rest : List TokenKind} → AreAll d ps ts (Word (codes "or") ∷ middle) → AreAny d qs middle rest → AreAny d (ps ++ piece.Or ∷ qs) ts rest

-- what a rule asks for: alternatives are at most 16 deep
abbrev pub IsAsked : List Piece → List TokenKind → List TokenKind → Type 0
IsAsked = AreAll 16
