-- Reading the items of a file, or the first that is none.
use Rattle.std.specs.Prelude.{◌≡◌, ℕ, zero, suc, ◌+◌, List, [], ◌∷◌, take, drop, Option, Some, None, Result, Ok, Err}
use Rattle.drl_lex.specs.declared.token.TokenKind.{TokenKind}
use Rattle.drl_grammar.specs.{declared.written.{WrittenItem.{WrittenItem}, WrittenBody.{WrittenBody}}, Files.{extent}}
use Rattle.drl_parse.specs.declared.fault.ParseFault.{ParseFault, TheVariants.{Syntax, TooLong, Lexical, NoMemory}}

-- the tokens of the first item, and what follows it
unfoldable pub first_item : List TokenKind → Option (List TokenKind × List TokenKind)
first_item [] = None
first_item (t ∷ ts) = Some (t ∷ take (extent t ts) ts, drop (extent t ts) ts)

-- the items, or the number and the line of the first that is none
abbrev pub ItemsRead : Type 0
ItemsRead = Result (List WrittenItem) (ℕ × ℕ)

abbrev pub with_item : WrittenItem → ItemsRead → ItemsRead
with_item item (Ok items) = Ok (item ∷ items)
with_item item (Err refused) = Err (refused.0 + 1, refused.1)

abbrev pub item_step : ℕ → Option WrittenBody → ItemsRead → ItemsRead
item_step line None more = Err (1, line)
item_step line (Some body) more = with_item (record { line = line; body = body }) more

-- What is read at tokens and their lines, given how the tokens of one item are read. The number bounds the turns, and the
-- count of the tokens is enough.
unfoldable pub items_at : (List TokenKind → Option WrittenBody) → ℕ → List TokenKind → List ℕ → ItemsRead
items_at body_of n [] lines = Ok []
items_at body_of n (t ∷ ts) [] = Ok []
items_at body_of zero (t ∷ ts) (line ∷ lines) = Ok []
items_at body_of (suc n) (t ∷ ts) (line ∷ lines) = item_step line (body_of (t ∷ take (extent t ts) ts)) (items_at body_of n (drop (extent t ts) ts) (drop (extent t ts) lines))

-- what a loop over the items answers: what is read, unless memory was refused
abbrev pub GivesItems : Result (List WrittenItem) ParseFault → ItemsRead → Type 0
GivesItems (Ok items) read = read ≡ Ok items
GivesItems (Err (Syntax item line)) read = read ≡ Err (item, line)
GivesItems (Err TooLong) read = ⊥
GivesItems (Err (Lexical code line)) read = ⊥
GivesItems (Err NoMemory) read = Unit {0}
