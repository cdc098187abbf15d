-- What it means that a reading function reads exactly the phrases of a grammar.
use Rattle.std.specs.Prelude.{◌≡◌, ℕ, ◌<◌, ◌≤◌, List, ◌∷◌, length, Option, Some, None}
use Rattle.drl_lex.specs.declared.token.{TokenKind.{TokenKind, TheVariants.{Mark}}, Mark.TheVariants.{Dot, Star, Plus, Minus, And, Or, Comma, Semicolon}}

-- what is read at the front of some tokens, and the tokens behind it
abbrev pub Read : Type 0 → Type 0
Read A = Option (A × List TokenKind)

-- a phrase: a value, the tokens at whose front it stands, and the tokens behind it
abbrev pub Phrase : Type 0 → Type 1
Phrase A = A → List TokenKind → List TokenKind → Type 0

-- what is read at these tokens stands there
abbrev pub Found : {A : Type 0} → Phrase A → List TokenKind → Read A → Type 0
Found Is ts None = Unit {0}
Found Is ts (Some p) = Is p.0 ts p.1

-- how loosely the first token expression_binds to what stands before it
abbrev pub expression_binds : List TokenKind → ℕ
expression_binds (Mark Dot ∷ rest) = 0
expression_binds (Mark Star ∷ rest) = 1
expression_binds (Mark Plus ∷ rest) = 2
expression_binds (Mark Minus ∷ rest) = 2
expression_binds (Mark And ∷ rest) = 3
expression_binds (Mark Or ∷ rest) = 4
expression_binds (Mark Comma ∷ rest) = 5
expression_binds (Mark Semicolon ∷ rest) = 6
expression_binds ts = 9

-- What is read stands there; what stands there is read, if what follows expression_binds at least so loosely; and a phrase has a token.
pub record Exact {A : Type 0} (Is : Phrase A) (read : List TokenKind → Read A) (k : ℕ) : Type 0 where
  pub sound : (ts : List TokenKind) → Found Is ts (read ts)
  pub again : (x : A) (ts rest : List TokenKind) → Is x ts rest → k ≤ expression_binds rest → read ts ≡ Some (x, rest)
  pub shorter : (x : A) (ts rest : List TokenKind) → Is x ts rest → length rest < length ts
