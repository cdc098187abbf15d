-- The shapes that recur in the grammar. A phrase relates a value, the tokens at whose front it stands, and the tokens behind it.
use Rattle.std.specs.Prelude.{List, [], ◌∷◌, Option, Some, None}
use Rattle.drl_lex.specs.declared.token.{TokenKind.{TokenKind, TheVariants.{Mark}}, Mark.TheVariants.{CloseParenthesis, Comma}}
use Rattle.drl_expr.specs.Exact.{Phrase}

-- [x]
pub data Maybe {A : Type 0} (Is : Phrase A) : Option A → List TokenKind → List TokenKind → Type 0 where
  left_out : {rest : List TokenKind} → Maybe Is None rest rest
  written : {x : A} {ts rest : List TokenKind} → Is x ts rest → Maybe Is (Some x) ts rest

-- [token]
pub data Optional (token : TokenKind) : List TokenKind → List TokenKind → Type 0 where
  absent : {rest : List TokenKind} → Optional token rest rest
  present : {rest : List TokenKind} → Optional token (token ∷ rest) rest

-- x*
pub data Many {A : Type 0} (Is : Phrase A) : List A → List TokenKind → List TokenKind → Type 0 where
  nothing : {rest : List TokenKind} → Many Is [] rest rest
  further : {x : A} {xs : List A} {ts middle rest : List TokenKind} → Is x ts middle → Many Is xs middle rest → Many Is (x ∷ xs) ts rest

-- x (separator x)*
pub data Separated {A : Type 0} (separator : TokenKind) (Is : Phrase A) : List A → List TokenKind → List TokenKind → Type 0 where
  single : {x : A} {ts rest : List TokenKind} → Is x ts rest → Separated separator Is (x ∷ []) ts rest
  more : {x : A} {xs : List A} {ts middle rest : List TokenKind} → Is x ts (separator ∷ middle) → Separated separator Is xs middle rest → Separated separator Is (x ∷ xs) ts rest

-- [x (',' x)*] ')'
pub data Listed {A : Type 0} (Is : Phrase A) : List A → List TokenKind → List TokenKind → Type 0 where
  empty : {rest : List TokenKind} → Listed Is [] (Mark CloseParenthesis ∷ rest) rest
  members : {xs : List A} {ts rest : List TokenKind} → Separated (Mark Comma) Is xs ts (Mark CloseParenthesis ∷ rest) → Listed Is xs ts rest
