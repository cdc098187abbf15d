-- The text of a file, and what its reading gives.
use Rattle.std.specs.{Prelude.{◌≡◌, ℕ, List, [], ◌∷◌, ◌++◌, map, codes}, List.{All}}
use Rattle.drl_lex.specs.{declared.token.TokenKind.{TokenKind}, Tokens.{Spells}}
use Rattle.drl_grammar.specs.{declared.written.{Written.{Written}, WrittenItem.{WrittenItem}, WrittenBody.{WrittenBody}}, Items.{IsItem}, Files.{IsFile}}
use Rattle.drl_show.specs.{Canonical.{tokens_of_item}, Texts.{joined}}

-- each item in a line of its own
abbrev pub shown_items : List WrittenItem → List ℕ
shown_items [] = []
shown_items (item ∷ items) = joined (tokens_of_item item.body) ++ (codes "\n" ++ shown_items items)

unfoldable pub shown : Written → List ℕ
shown file = shown_items file.items

-- some bytes are the token
abbrev pub CanBeSpelled : TokenKind → Type 0
CanBeSpelled kind = (text : List ℕ) × Spells kind text

-- some tokens that can be spelled stand for the body
pub record StandsInGrammar (body : WrittenBody) : Type 0 where
  pub tokens : List TokenKind
  pub spelled : All CanBeSpelled tokens
  pub stands : IsItem body tokens []

-- each item stands in the grammar
pub record InGrammar (file : Written) : Type 0 where
  pub items : All (λ item. StandsInGrammar item.body) file.items

abbrev pub bodies : Written → List WrittenBody
bodies file = map (λ item. item.body) file.items

-- the bytes are a file that says the same, item by item
pub record IsReadAgain (file : Written) (bytes : List ℕ) : Type 0 where
  pub again : Written
  pub same : bodies again ≡ bodies file
  pub is_read : IsFile again bytes
