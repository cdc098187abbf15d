-- The plain file that a written one is written out to.
use Rattle.std.specs.{Prelude.{ℕ, ◌+◌, not, Bool, List, [], ◌∷◌, ◌++◌, map, Option, Some, None, option_to_list, codes}, Fmt.{decimal}, List.{filter, flat_map}}
use Rattle.drl_expr.specs.Words.{is_among}
use Rattle.drl_grammar.specs.declared.file.Body.{Body}
use Rattle.drl_grammar.specs.declared.file.Body.TheVariants as plain
use Rattle.drl_grammar.specs.declared.file.{Item.{Item}, Meta.{Meta}}
use Rattle.drl_grammar.specs.declared.file.Meta.TheVariants as meta
use Rattle.drl_grammar.specs.declared.{file.{RuleTree.{RuleTree}, TypeTree.{TypeTree}}, written.WrittenBody.{WrittenBody}}
use Rattle.drl_grammar.specs.declared.written.WrittenBody.TheVariants as body
use Rattle.drl_grammar.specs.declared.written.{WrittenItem.{WrittenItem}, WrittenRule.{WrittenRule}, WrittenType.{WrittenType}}
use Rattle.subrules.specs.{Hierarchy.{written_types_of, above}, Ways.{Way, ways_of}}

-- ---- types

-- the word of an annotation
abbrev pub meta_word : Meta → List ℕ
meta_word (meta.Role event) = codes "role"
meta_word (meta.Timestamp field) = codes "timestamp"
meta_word (meta.Duration field) = codes "duration"
meta_word (meta.Expires span) = codes "expires"
meta_word meta.Reference = codes "reference"

abbrev pub has_word : List Meta → Meta → Bool
has_word metas m = is_among (map meta_word metas) (meta_word m)

-- annotations, and those of the types above whose word none below has, the nearest type first
unfoldable pub inherited_metas : List Meta → List WrittenType → List Meta
inherited_metas metas [] = metas
inherited_metas metas (u ∷ types) = inherited_metas (metas ++ filter (λ (m : Meta). not (has_word metas m)) u.metas) types

-- fields behind those of the types above, the nearest type given first
unfoldable pub inherited_fields : List (List ℕ × List ℕ) → List WrittenType → List (List ℕ × List ℕ)
inherited_fields fields [] = fields
inherited_fields fields (u ∷ types) = inherited_fields (u.fields ++ fields) types

-- a type with all that it inherits
abbrev pub plain_type : List WrittenType → WrittenType → TypeTree
plain_type types t = record { name = t.name; metas = inherited_metas t.metas (above types t); fields = inherited_fields t.fields (above types t) }

-- the same, of a type that extends one with all that this one inherits
abbrev pub type_behind : TypeTree → WrittenType → TypeTree
type_behind above t = record { name = t.name; metas = t.metas ++ filter (λ (m : Meta). not (has_word t.metas m)) above.metas; fields = above.fields ++ t.fields }

-- ---- rules

abbrev pub plain_rule : WrittenRule → List ℕ → Way → RuleTree
plain_rule r name way = record { name = name; attrs = r.attrs; conditions = way; actions = r.actions }

-- the rules of several ways, numbered from this one on
unfoldable pub numbered_rules : WrittenRule → ℕ → List Way → List RuleTree
numbered_rules r k [] = []
numbered_rules r k (way ∷ ways) = plain_rule r (r.name ++ codes " #" ++ decimal k) way ∷ numbered_rules r (k + 1) ways

-- the rule of one way keeps its name
abbrev pub rules_of_ways : WrittenRule → List Way → List RuleTree
rules_of_ways r [] = []
rules_of_ways r (way ∷ []) = plain_rule r r.name way ∷ []
rules_of_ways r (way ∷ (other ∷ ways)) = numbered_rules r 1 (way ∷ other ∷ ways)

abbrev pub plain_rules : List WrittenType → WrittenRule → List RuleTree
plain_rules types r = rules_of_ways r (ways_of types r.pieces)

-- ---- items

-- what an item other than a rule is written out to
abbrev pub body_of : List WrittenType → WrittenBody → Option Body
body_of types (body.Package path) = Some (plain.Package path)
body_of types (body.Import path star) = Some (plain.Import path star)
body_of types (body.Dialect text) = Some (plain.Dialect text)
body_of types (body.Declare t) = Some (plain.Declare (plain_type types t))
body_of types (body.Entry name lateness) = Some (plain.Entry name lateness)
body_of types (body.Rule r) = None

abbrev pub rules_in : List WrittenType → WrittenBody → List RuleTree
rules_in types (body.Rule r) = plain_rules types r
rules_in types (body.Package path) = []
rules_in types (body.Import path star) = []
rules_in types (body.Dialect text) = []
rules_in types (body.Declare t) = []
rules_in types (body.Entry name lateness) = []

abbrev pub plain_bodies : List WrittenType → WrittenBody → List Body
plain_bodies types b = option_to_list (body_of types b) ++ map plain.Rule (rules_in types b)

abbrev pub at_line : ℕ → Body → Item
at_line line b = record { line = line; body = b }

abbrev pub plain_items : List WrittenType → WrittenItem → List Item
plain_items types item = map (at_line item.line) (plain_bodies types item.body)

-- all items written out, each in its place
abbrev pub expanded : List WrittenItem → List Item
expanded items = flat_map (plain_items (written_types_of items)) items

-- the name of a rule, so often as the rule is written out
abbrev pub titles_in : List WrittenType → WrittenBody → List (List ℕ)
titles_in types (body.Rule r) = map (λ (made : RuleTree). r.name) (plain_rules types r)
titles_in types (body.Package path) = []
titles_in types (body.Import path star) = []
titles_in types (body.Dialect text) = []
titles_in types (body.Declare t) = []
titles_in types (body.Entry name lateness) = []

-- for each written-out rule the name of the rule that it comes from
abbrev pub titles : List WrittenItem → List (List ℕ)
titles items = flat_map (λ (item : WrittenItem). titles_in (written_types_of items) item.body) items

-- for each written-out item the number of the item that it comes from, this one standing first
unfoldable pub origins_from : List WrittenType → ℕ → List WrittenItem → List ℕ
origins_from types k [] = []
origins_from types k (item ∷ items) = map (λ (b : Body). k) (plain_bodies types item.body) ++ origins_from types (k + 1) items

-- counted from 1
abbrev pub origins : List WrittenItem → List ℕ
origins items = origins_from (written_types_of items) 1 items
