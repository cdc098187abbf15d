-- How marks are written.
use Rattle.std.specs.Prelude.{ℕ, ◌==◌, List, Bool, false, codes}
use Rattle.drl_lex.specs.declared.token.{Rel.{Rel, TheVariants.{Equal, NotEqual, Less, LessOrEqual, Greater, GreaterOrEqual}}, Mark.{Mark}}
use Rattle.drl_lex.specs.declared.token.Mark.TheVariants.{OpenParenthesis, CloseParenthesis, OpenBrace, CloseBrace, OpenBracket, CloseBracket, Comma, Semicolon}
use Rattle.drl_lex.specs.declared.token.Mark.TheVariants.{Colon, Dot, At, Plus, Minus, Star, Assign, Comparison, Or, And}

abbrev pub rel_text : Rel → List ℕ
rel_text Equal = codes "=="
rel_text NotEqual = codes "!="
rel_text Less = codes "<"
rel_text LessOrEqual = codes "<="
rel_text Greater = codes ">"
rel_text GreaterOrEqual = codes ">="

abbrev pub mark_text : Mark → List ℕ
mark_text OpenParenthesis = codes "("
mark_text CloseParenthesis = codes ")"
mark_text OpenBrace = codes "{"
mark_text CloseBrace = codes "}"
mark_text OpenBracket = codes "["
mark_text CloseBracket = codes "]"
mark_text Comma = codes ","
mark_text Semicolon = codes ";"
mark_text Colon = codes ":"
mark_text Dot = codes "."
mark_text At = codes "@"
mark_text Plus = codes "+"
mark_text Minus = codes "-"
mark_text Star = codes "*"
mark_text Assign = codes "="
mark_text (Comparison rel) = rel_text rel
mark_text Or = codes "||"
mark_text And = codes "&&"

-- the byte with which the mark is another, longer one
abbrev pub lengthens : Mark → ℕ → Bool
lengthens Assign b = b == 61
lengthens (Comparison Less) b = b == 61
lengthens (Comparison Greater) b = b == 61
lengthens _ b = false
