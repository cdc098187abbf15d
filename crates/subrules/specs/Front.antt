-- What is written out behind the 257th rule. A plain file has at most 256, so an item before that one or that one itself fails a check; these checks ask of the items behind
-- for their types and for the types that their conditions watch alone.
use Rattle.std.specs.{Prelude.{ℕ, ◌+◌, ◌-◌, ◌++◌, nat_eq, Bool, true, List, [], ◌∷◌, map, if◌then◌else◌, option_to_list}, List.{flat_map}}
use Rattle.drl_grammar.specs.declared.condition.CondTree.{CondTree}
use Rattle.drl_grammar.specs.declared.condition.CondTree.TheVariants as condition
use Rattle.drl_grammar.specs.declared.file.Body.{Body}
use Rattle.drl_grammar.specs.declared.file.Body.TheVariants as plain
use Rattle.drl_grammar.specs.declared.{file.{Item.{Item}, RuleTree.{RuleTree}}, written.Piece.{Piece}}
use Rattle.drl_grammar.specs.declared.written.Piece.TheVariants as piece
use Rattle.drl_grammar.specs.declared.written.WrittenBody.{WrittenBody}
use Rattle.drl_grammar.specs.declared.written.WrittenBody.TheVariants as body
use Rattle.drl_grammar.specs.declared.written.{WrittenItem.{WrittenItem}, WrittenRule.{WrittenRule}, WrittenType.{WrittenType}}
use Rattle.drl_scope.specs.Observed.{is_of_length}
use Rattle.subrules.specs.{Ways.{Way, choices}, Expanded.{body_of, plain_rules, at_line}}

-- how many alternatives are open behind a piece, given how many are before it
abbrev pub open_behind : ℕ → Piece → ℕ
open_behind n (piece.One c) = n
open_behind n piece.Open = n + 1
open_behind n piece.Or = n
open_behind n piece.Close = n - 1

unfoldable pub open_at_end : ℕ → List Piece → ℕ
open_at_end n [] = n
open_at_end n (p ∷ pieces) = open_at_end (open_behind n p) pieces

-- alternatives that begin also end, as in each rule of the grammar
abbrev pub is_closed : List Piece → Bool
is_closed pieces = nat_eq (open_at_end 0 pieces) 0

-- whether what a condition is written out to watches types
abbrev pub watches : CondTree → Bool
watches (condition.Plain s) = is_of_length s.window
watches (condition.Negated s) = true
watches (condition.Existing s) = true
watches (condition.Folded result s kind arg tests) = true

-- what watches types, of all ways of a piece
abbrev pub watching : List WrittenType → Piece → List CondTree
watching types (piece.One c) = if watches c then flat_map (λ (way : Way). way) (choices types c) else []
watching types piece.Open = []
watching types piece.Or = []
watching types piece.Close = []

-- a rule that watches what all watch that a rule is written out to
abbrev pub watcher : List WrittenType → WrittenRule → RuleTree
watcher types r = record { name = r.name; attrs = []; conditions = flat_map (watching types) r.pieces; actions = [] }

abbrev pub shortened : List WrittenType → WrittenRule → List RuleTree
shortened types r = if is_closed r.pieces then watcher types r ∷ [] else plain_rules types r

abbrev pub shortened_in : List WrittenType → WrittenBody → List RuleTree
shortened_in types (body.Rule r) = shortened types r
shortened_in types (body.Package path) = []
shortened_in types (body.Import path star) = []
shortened_in types (body.Dialect text) = []
shortened_in types (body.Declare t) = []
shortened_in types (body.Entry name lateness) = []

abbrev pub short_bodies : List WrittenType → WrittenBody → List Body
short_bodies types b = option_to_list (body_of types b) ++ map plain.Rule (shortened_in types b)

-- what an item behind the 257th rule is written out to
abbrev pub short_items : List WrittenType → WrittenItem → List Item
short_items types item = map (at_line item.line) (short_bodies types item.body)
