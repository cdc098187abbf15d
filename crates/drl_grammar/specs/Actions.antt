-- The grammar of actions, by one case for each line and each alternative of it.
use Rattle.std.specs.Prelude.{◌≡◌, ◌&&◌, ◌+◌, ◌++◌, nat_le, ℕ, true, List, ◌∷◌, if◌then◌else◌, codes}
use Rattle.drl_lex.specs.{Bytes.{begins_word}, declared.token.{TokenKind.{TokenKind, TheVariants.{Word, Var, Mark}}, Mark.TheVariants.{OpenParenthesis}}}
use Rattle.drl_lex.specs.declared.token.Mark.TheVariants.{CloseParenthesis, OpenBrace, CloseBrace, Comma, Semicolon, Assign}
use Rattle.drl_expr.specs.{Grammar.{IsExpression}, Tree.{Tree}, Words.{IsIdent}}
use Rattle.drl_grammar.specs.{declared.action.ActTree.{ActTree, TheVariants.{Insert, Modify, Retract}}, Shapes.{Optional, Separated, Listed}}

-- an ASCII capital made small; any other byte as it is
abbrev pub small : ℕ → ℕ
small b = if nat_le 65 b && nat_le b 90 then b + 32 else b

-- The word `set` and a rest that is not empty: the field of the name that the rest becomes with its first letter made small.
-- It is a name only where it begins like a word.
pub data IsSetter : List ℕ → List ℕ → Type 0 where
  setter : {b : ℕ} {bytes : List ℕ} → begins_word (small b) ≡ true → IsIdent (small b ∷ bytes) → IsSetter (small b ∷ bytes) (codes "set" ++ (b ∷ bytes))

-- assign := Ident '=' expr | Ident '(' expr ')', where the second Ident is a setter
pub data IsAssign : List ℕ × Tree → List TokenKind → List TokenKind → Type 0 where
  by_name : {f : List ℕ} {e : Tree} {ts rest : List TokenKind} → IsIdent f → IsExpression e ts rest → IsAssign (f, e) (Word f ∷ Mark Assign ∷ ts) rest
  by_setter : {word f : List ℕ} {e : Tree} {ts rest : List TokenKind} → IsIdent word → IsSetter f word → IsExpression e ts (Mark CloseParenthesis ∷ rest)
      → IsAssign (f, e) (Word word ∷ Mark OpenParenthesis ∷ ts) rest

-- action := ( 'insert' '(' 'new' Ident '(' [expr (',' expr)*] ')' ')'
--           | 'modify' '(' Var ')' '{' assign (',' assign)* '}'
--           | 'retract' '(' Var ')' ) [';']
pub data IsAction : ActTree → List TokenKind → List TokenKind → Type 0 where
  insert : {ty : List ℕ} {es : List Tree} {ts behind rest : List TokenKind} → IsIdent ty → Listed IsExpression es ts (Mark CloseParenthesis ∷ behind) → Optional (Mark Semicolon) behind rest
      → IsAction (Insert ty es) (Word (codes "insert") ∷ Mark OpenParenthesis ∷ Word (codes "new") ∷ Word ty ∷ Mark OpenParenthesis ∷ ts) rest
  modify : {v : List ℕ} {sets : List (List ℕ × Tree)} {ts behind rest : List TokenKind} → Separated (Mark Comma) IsAssign sets ts (Mark CloseBrace ∷ behind) → Optional (Mark Semicolon) behind rest
      → IsAction (Modify v sets) (Word (codes "modify") ∷ Mark OpenParenthesis ∷ Var v ∷ Mark CloseParenthesis ∷ Mark OpenBrace ∷ ts) rest
  retract : {v : List ℕ} {behind rest : List TokenKind} → Optional (Mark Semicolon) behind rest
      → IsAction (Retract v) (Word (codes "retract") ∷ Mark OpenParenthesis ∷ Var v ∷ Mark CloseParenthesis ∷ behind) rest
