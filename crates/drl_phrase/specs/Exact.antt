-- What it means that a reading function reads exactly the phrases of the grammar of rule files.
use Rattle.std.specs.{Prelude.{◌≡◌, ℕ, ◌<◌, ◌≤◌, List, ◌∷◌, length, Some, if◌then◌else◌, codes}, Str.{bytes_eq}}
use Rattle.drl_lex.specs.declared.token.{TokenKind.{TokenKind, TheVariants.{Word, Mark}}, Mark.TheVariants.{Dot, Star, Plus, Minus, And, Or, Comma, Semicolon}}
use Rattle.drl_expr.specs.Exact.{Read, Phrase, Found}

-- how loosely the first token phrase_binds to what stands before it
abbrev pub phrase_binds : List TokenKind → ℕ
phrase_binds (Mark Dot ∷ rest) = 0
phrase_binds (Mark Star ∷ rest) = 1
phrase_binds (Mark Plus ∷ rest) = 2
phrase_binds (Mark Minus ∷ rest) = 2
phrase_binds (Mark And ∷ rest) = 3
phrase_binds (Mark Or ∷ rest) = 4
phrase_binds (Mark Comma ∷ rest) = 5
phrase_binds (Mark Semicolon ∷ rest) = 6
phrase_binds (Word w ∷ rest) = if bytes_eq w (codes "over") then 7 else if bytes_eq w (codes "from") then 8 else 9
phrase_binds ts = 9

-- What is read stands there; what stands there is read, if what follows phrase_binds at least so loosely; and a phrase has a token.
pub record ExactPhrase {A : Type 0} (Is : Phrase A) (read : List TokenKind → Read A) (k : ℕ) : Type 0 where
  pub sound : (ts : List TokenKind) → Found Is ts (read ts)
  pub again : (x : A) (ts rest : List TokenKind) → Is x ts rest → k ≤ phrase_binds rest → read ts ≡ Some (x, rest)
  pub shorter : (x : A) (ts rest : List TokenKind) → Is x ts rest → length rest < length ts
