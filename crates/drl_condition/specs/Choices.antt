-- Reading what a rule asks for: conditions and alternatives, one after the other.
use Rattle.std.specs.{Prelude.{ℕ, zero, suc, ◌||◌, length, List, [], ◌∷◌, ◌++◌, Bool, true, false, Option, Some, None, if◌then◌else◌, codes}, Str.{bytes_eq}}
use Rattle.drl_lex.specs.declared.token.{TokenKind.{TokenKind, TheVariants.{Word, Mark}}, Mark.TheVariants.{OpenParenthesis, CloseParenthesis}}
use Rattle.drl_expr.specs.Exact.{Read}
use Rattle.drl_grammar.specs.declared.written.Piece.{Piece, TheVariants.{One, Open, Or, Close}}
use Rattle.drl_phrase.specs.declared.phrase.Punctuation.TheVariants as p
use Rattle.drl_phrase.specs.Reading.{◌>>=◌, after_word, closed, with_front}
use Rattle.drl_condition.specs.Reading.{condition_at}

-- how pieces are read
abbrev pub PieceReader : Type 0
PieceReader = List TokenKind → Read (List Piece)

-- whether what is asked for together ends before these tokens
unfoldable pub ends_all : List TokenKind → Bool
ends_all (Word w ∷ rest) = bytes_eq w (codes "or") || bytes_eq w (codes "then")
ends_all (Mark CloseParenthesis ∷ rest) = true
ends_all ts = false

-- choice+, given how a choice is read; the number bounds the turns, and the count of the tokens is enough
unfoldable pub all_turns : PieceReader → ℕ → PieceReader
all_turns choice zero ts = None
all_turns choice (suc n) ts = choice ts >>= λ ps. if ends_all ps.1 then Some ps else with_front ps.0 (all_turns choice n ps.1)

unfoldable pub all_at : PieceReader → PieceReader
all_at choice ts = all_turns choice (length ts) ts

abbrev pub any_step : List Piece × List TokenKind → Option (List TokenKind) → PieceReader → Read (List Piece)
any_step ps None others = Some ps
any_step ps (Some next) others = with_front ps.0 (with_front (Or ∷ []) (others next))

-- choice+ ('or' choice+)*, given how choice+ is read
unfoldable pub any_turns : PieceReader → ℕ → PieceReader
any_turns all zero ts = None
any_turns all (suc n) ts = all ts >>= λ ps. any_step ps (after_word (codes "or") ps.1) (any_turns all n)

unfoldable pub any_at : PieceReader → PieceReader
any_at all ts = any_turns all (length ts) ts

-- what stands behind the parenthesis before alternatives, given how a choice in them is read
unfoldable pub alternatives_at : PieceReader → PieceReader
alternatives_at choice ts = all_at choice ts >>= λ ps. after_word (codes "or") ps.1 >>= λ next. any_at (all_at choice) next >>= λ qs.
    closed p.CloseParenthesis (ps.0 ++ Or ∷ qs.0 ++ Close ∷ []) qs.1

-- what follows an opening parenthesis
unfoldable pub after_open : List TokenKind → Option (List TokenKind)
after_open (Mark OpenParenthesis ∷ rest) = Some rest
after_open ts = None

abbrev pub choice_step : Option (List TokenKind) → List TokenKind → PieceReader → Read (List Piece)
choice_step None ts inside = condition_at ts >>= λ c. Some (One c.0 ∷ [], c.1)
choice_step (Some rest) ts inside = with_front (Open ∷ []) (inside rest)

-- a condition, or alternatives that are at most so deep
unfoldable pub choice_at : ℕ → PieceReader
choice_at zero ts = choice_step (after_open ts) ts (λ rest. None)
choice_at (suc d) ts = choice_step (after_open ts) ts (alternatives_at (choice_at d))

-- what a rule asks for
unfoldable pub pieces_at : PieceReader
pieces_at = all_at (choice_at 16)
