-- The mark that begins with a byte.
use Rattle.std.specs.Prelude.{ℕ, ◌==◌, ◌&&◌, List, [], ◌∷◌, Option, Some, None, option_map, if◌then◌else◌}
use Rattle.drl_lex.specs.declared.token.{Rel.TheVariants.{Equal, NotEqual, Less, LessOrEqual, Greater, GreaterOrEqual}, Mark.{Mark}}
use Rattle.drl_lex.specs.declared.token.Mark.TheVariants.{OpenParenthesis, CloseParenthesis, OpenBrace, CloseBrace, OpenBracket, CloseBracket, Comma, Semicolon}
use Rattle.drl_lex.specs.declared.token.Mark.TheVariants.{Colon, Dot, At, Plus, Minus, Star, Assign, Comparison, Or, And}

unfoldable pub single_mark : ℕ → Option Mark
single_mark b = if b == 40 then Some OpenParenthesis else
    (if b == 41 then Some CloseParenthesis else
    (if b == 123 then Some OpenBrace else
    (if b == 125 then Some CloseBrace else
    (if b == 91 then Some OpenBracket else
    (if b == 93 then Some CloseBracket else
    (if b == 44 then Some Comma else
    (if b == 59 then Some Semicolon else
    (if b == 58 then Some Colon else
    (if b == 46 then Some Dot else
    (if b == 64 then Some At else
    (if b == 43 then Some Plus else
    (if b == 45 then Some Minus else
    (if b == 42 then Some Star else
    (if b == 61 then Some Assign else
    (if b == 60 then Some (Comparison Less) else
    (if b == 62 then Some (Comparison Greater) else None))))))))))))))))

unfoldable pub double_mark : ℕ → ℕ → Option Mark
double_mark b c = if b == 61 && c == 61 then Some (Comparison Equal) else
    (if b == 33 && c == 61 then Some (Comparison NotEqual) else
    (if b == 60 && c == 61 then Some (Comparison LessOrEqual) else
    (if b == 62 && c == 61 then Some (Comparison GreaterOrEqual) else
    (if b == 124 && c == 124 then Some Or else
    (if b == 38 && c == 38 then Some And else None)))))

abbrev pub behind_single : ℕ → List ℕ → Option (Mark × List ℕ)
behind_single b bytes = option_map (λ mark. (mark, bytes)) (single_mark b)

abbrev pub mark_step : Option Mark → ℕ → ℕ → List ℕ → Option (Mark × List ℕ)
mark_step (Some mark) b c bytes = Some (mark, bytes)
mark_step None b c bytes = behind_single b (c ∷ bytes)

-- the longest mark that begins with the byte, and the bytes behind it
unfoldable pub mark_at : ℕ → List ℕ → Option (Mark × List ℕ)
mark_at b [] = behind_single b []
mark_at b (c ∷ bytes) = mark_step (double_mark b c) b c bytes
