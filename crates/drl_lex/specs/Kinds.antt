-- What tokens say, and where they stand.
use Rattle.std.specs.Prelude.{ℕ, List, map}
use Rattle.drl_lex.specs.declared.token.{Token.{Token}, TokenKind.{TokenKind}}

-- what each token says
abbrev pub kinds : List Token → List TokenKind
kinds tokens = map (λ token. token.kind) tokens

-- the offset of each token's first byte
abbrev pub starts : List Token → List ℕ
starts tokens = map (λ token. token.at) tokens
