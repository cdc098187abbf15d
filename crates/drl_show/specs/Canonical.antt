-- The tokens by which each tree is written, in the order of the grammar: of several ways that the grammar allows, one.
use Rattle.std.specs.Prelude.{ℕ, suc, ℤ, pos, negsuc, List, [], ◌∷◌, ◌++◌, Bool, true, false, Option, Some, None, codes}
use Rattle.drl_lex.specs.declared.token.{Rel.{Rel}, TokenKind.{TokenKind, TheVariants.{Word, Var, Number, Text, Mark}}, Mark.{Mark as MarkData}}
use Rattle.drl_lex.specs.declared.token.Mark.TheVariants.{OpenParenthesis, CloseParenthesis, OpenBrace, CloseBrace, OpenBracket, CloseBracket, Comma, Colon}
use Rattle.drl_lex.specs.declared.token.Mark.TheVariants.{Dot, At, Plus, Minus, Star, Assign, Comparison, Or, And}
use Rattle.drl_expr.specs.declared.literal.LitTree.{LitTree}
use Rattle.drl_expr.specs.declared.literal.LitTree.TheVariants as lit
use Rattle.drl_expr.specs.Tree.{Tree, lit as leaf, var, var_field, neg, add, sub, mul}
use Rattle.drl_grammar.specs.declared.condition.Operand.{Operand}
use Rattle.drl_grammar.specs.declared.condition.Operand.TheVariants as operand
use Rattle.drl_grammar.specs.declared.condition.Cmp.{Cmp}
use Rattle.drl_grammar.specs.declared.condition.Cmp.TheVariants as cmp
use Rattle.drl_grammar.specs.declared.condition.Part.{Part}
use Rattle.drl_grammar.specs.declared.condition.Part.TheVariants as part
use Rattle.drl_grammar.specs.declared.condition.WindowTree.{WindowTree}
use Rattle.drl_grammar.specs.declared.condition.WindowTree.TheVariants as window
use Rattle.drl_grammar.specs.declared.condition.{SourceTree.{SourceTree}, CondTree.{CondTree}}
use Rattle.drl_grammar.specs.declared.condition.CondTree.TheVariants as condition
use Rattle.drl_grammar.specs.{declared.condition.{FoldWord.{FoldWord}, ResultWord.TheVariants.{LongValue}}, Conditions.{op_text, fold_text, result_text}}
use Rattle.drl_grammar.specs.declared.action.ActTree.{ActTree}
use Rattle.drl_grammar.specs.declared.action.ActTree.TheVariants as action
use Rattle.drl_grammar.specs.declared.file.Attr.{Attr}
use Rattle.drl_grammar.specs.declared.file.Attr.TheVariants as attr
use Rattle.drl_grammar.specs.declared.file.Meta.{Meta}
use Rattle.drl_grammar.specs.declared.file.Meta.TheVariants as meta
use Rattle.drl_grammar.specs.declared.written.Piece.{Piece}
use Rattle.drl_grammar.specs.declared.written.Piece.TheVariants as piece
use Rattle.drl_grammar.specs.declared.written.{WrittenType.{WrittenType}, WrittenRule.{WrittenRule}, WrittenBody.{WrittenBody}}
use Rattle.drl_grammar.specs.declared.written.WrittenBody.TheVariants as body

-- ---- shapes

-- the tokens of each, one behind the other
abbrev pub each : {A : Type 0} → (A → List TokenKind) → List A → List TokenKind
each tokens [] = []
each tokens (x ∷ xs) = tokens x ++ each tokens xs

-- the same with a mark between two
abbrev pub parted : {A : Type 0} → MarkData → (A → List TokenKind) → List A → List TokenKind
parted mark tokens [] = []
parted mark tokens (x ∷ xs) = tokens x ++ each (λ y. Mark mark ∷ tokens y) xs

abbrev pub maybe : {A : Type 0} → (A → List TokenKind) → Option A → List TokenKind
maybe tokens None = []
maybe tokens (Some x) = tokens x

-- what stands in parentheses, behind the opening one
abbrev pub listed : {A : Type 0} → (A → List TokenKind) → List A → List TokenKind
listed tokens xs = parted Comma tokens xs ++ (Mark CloseParenthesis ∷ [])

-- ---- values

abbrev pub number_tokens : ℤ → List TokenKind
number_tokens (pos n) = Number n ∷ []
number_tokens (negsuc n) = Mark Minus ∷ Number (suc n) ∷ []

abbrev pub truth_word : Bool → List ℕ
truth_word true = codes "true"
truth_word false = codes "false"

abbrev pub literal_tokens : LitTree → List TokenKind
literal_tokens (lit.Int z) = number_tokens z
literal_tokens (lit.Bool b) = Word (truth_word b) ∷ []
literal_tokens (lit.Text s) = Text s ∷ []

abbrev pub operand_tokens : Operand → List TokenKind
operand_tokens (operand.Lit l) = literal_tokens l
operand_tokens (operand.Var v) = Var v ∷ []
operand_tokens (operand.VarField v f) = Var v ∷ Mark Dot ∷ Word f ∷ []
operand_tokens (operand.Own f) = Word f ∷ []

-- ---- conditions

abbrev pub cmp_tokens : Cmp → List TokenKind
cmp_tokens (cmp.Rel f r o) = Word f ∷ Mark (Comparison r) ∷ operand_tokens o
cmp_tokens (cmp.OneOf f os) = Word f ∷ Word (codes "in") ∷ Mark OpenParenthesis ∷ listed operand_tokens os

abbrev pub conj_tokens : List Cmp → List TokenKind
conj_tokens = parted And cmp_tokens

abbrev pub disj_tokens : List (List Cmp) → List TokenKind
disj_tokens = parted Or conj_tokens

-- parameters in brackets, which are left out where there are none
abbrev pub param_tokens : List ℤ → List TokenKind
param_tokens [] = []
param_tokens (p ∷ ps) = Mark OpenBracket ∷ (parted Comma number_tokens (p ∷ ps) ++ (Mark CloseBracket ∷ []))

abbrev pub part_tokens : Part → List TokenKind
part_tokens (part.Bind v f) = Var v ∷ Mark Colon ∷ Word f ∷ []
part_tokens (part.Temporal op ps v) = Word (codes "this") ∷ Word (op_text op) ∷ (param_tokens ps ++ (Var v ∷ []))
part_tokens (part.AnyOf d) = disj_tokens d

-- a window, with the word for what it counts
abbrev pub counted_window : List ℕ → ℤ → List TokenKind
counted_window counted z = Word (codes "over") ∷ Word (codes "window") ∷ Mark Colon ∷ Word counted ∷ Mark OpenParenthesis ∷ (number_tokens z ++ (Mark CloseParenthesis ∷ []))

abbrev pub window_tokens : WindowTree → List TokenKind
window_tokens (window.Time ms) = counted_window (codes "time") ms
window_tokens (window.Length n) = counted_window (codes "length") n

abbrev pub place_tokens : List ℕ → List TokenKind
place_tokens s = Word (codes "from") ∷ Word (codes "entry") ∷ Mark Minus ∷ Word (codes "point") ∷ Text s ∷ []

abbrev pub binding_tokens : Option (List ℕ) → List TokenKind
binding_tokens = maybe (λ v. Var v ∷ Mark Colon ∷ [])

unfoldable pub source_tokens : SourceTree → List TokenKind
source_tokens s = binding_tokens s.var ++ (Word s.ty ∷ Mark OpenParenthesis ∷ (listed part_tokens s.parts ++ (maybe window_tokens s.window ++ maybe place_tokens s.entry)))

abbrev pub test_tokens : Rel × Operand → List TokenKind
test_tokens (r, o) = Word (result_text LongValue) ∷ Mark (Comparison r) ∷ operand_tokens o

-- a pattern in parentheses
abbrev pub group_tokens : SourceTree → List TokenKind
group_tokens s = Mark OpenParenthesis ∷ (source_tokens s ++ (Mark CloseParenthesis ∷ []))

-- the function of an accumulate, behind the pattern
unfoldable pub function_tokens : FoldWord → List ℕ → List TokenKind
function_tokens word arg = Mark Comma ∷ Word (fold_text word) ∷ Mark OpenParenthesis ∷ Var arg ∷ Mark CloseParenthesis ∷ Mark CloseParenthesis ∷ []

-- an accumulate behind the tests of its result
unfoldable pub accumulate_tokens : SourceTree → FoldWord → List ℕ → List TokenKind
accumulate_tokens s word arg = Word (codes "from") ∷ Word (codes "accumulate") ∷ Mark OpenParenthesis ∷ (source_tokens s ++ function_tokens word arg)

abbrev pub condition_tokens : CondTree → List TokenKind
condition_tokens (condition.Plain s) = source_tokens s
condition_tokens (condition.Negated s) = Word (codes "not") ∷ group_tokens s
condition_tokens (condition.Existing s) = Word (codes "exists") ∷ group_tokens s
condition_tokens (condition.Folded result s word arg tests) = binding_tokens result ++ (Word (codes "Number") ∷ Mark OpenParenthesis ∷ (listed test_tokens tests ++ accumulate_tokens s word arg))

-- ---- what a rule asks for

abbrev pub piece_tokens : Piece → List TokenKind
piece_tokens (piece.One c) = condition_tokens c
piece_tokens piece.Open = Mark OpenParenthesis ∷ []
piece_tokens piece.Or = Word (codes "or") ∷ []
piece_tokens piece.Close = Mark CloseParenthesis ∷ []

-- ---- expressions

-- whether two operands are joined
abbrev pub joins : Tree → Bool
joins (add a b) = true
joins (sub a b) = true
joins (mul a b) = true
joins a = false

abbrev pub enclosed : Bool → List TokenKind → List TokenKind
enclosed true ts = Mark OpenParenthesis ∷ (ts ++ (Mark CloseParenthesis ∷ []))
enclosed false ts = ts

-- what joins two operands stands in parentheses inside another operator
abbrev pub expr_tokens : Tree → List TokenKind
expr_tokens (leaf v) = literal_tokens v
expr_tokens (var v) = Var v ∷ []
expr_tokens (var_field v f) = Var v ∷ Mark Dot ∷ Word f ∷ []
expr_tokens (neg a) = Mark Minus ∷ enclosed (joins a) (expr_tokens a)
expr_tokens (add a b) = enclosed (joins a) (expr_tokens a) ++ (Mark Plus ∷ enclosed (joins b) (expr_tokens b))
expr_tokens (sub a b) = enclosed (joins a) (expr_tokens a) ++ (Mark Minus ∷ enclosed (joins b) (expr_tokens b))
expr_tokens (mul a b) = enclosed (joins a) (expr_tokens a) ++ (Mark Star ∷ enclosed (joins b) (expr_tokens b))

-- an operand
abbrev pub enclosed_tokens : Tree → List TokenKind
enclosed_tokens a = enclosed (joins a) (expr_tokens a)

-- ---- actions

abbrev pub assign_tokens : List ℕ × Tree → List TokenKind
assign_tokens (f, e) = Word f ∷ Mark Assign ∷ expr_tokens e

abbrev pub action_tokens : ActTree → List TokenKind
action_tokens (action.Insert ty es) = Word (codes "insert") ∷ Mark OpenParenthesis ∷ Word (codes "new") ∷ Word ty ∷ Mark OpenParenthesis ∷ (listed expr_tokens es ++ (Mark CloseParenthesis ∷ []))
action_tokens (action.Modify v sets) = Word (codes "modify") ∷ Mark OpenParenthesis ∷ Var v ∷ Mark CloseParenthesis ∷ Mark OpenBrace ∷ (parted Comma assign_tokens sets ++ (Mark CloseBrace ∷ []))
action_tokens (action.Retract v) = Word (codes "retract") ∷ Mark OpenParenthesis ∷ Var v ∷ Mark CloseParenthesis ∷ []

-- ---- types and entry points

abbrev pub name_tokens : List ℕ → List TokenKind
name_tokens f = Word f ∷ []

abbrev pub path_tokens : List (List ℕ) → List TokenKind
path_tokens = parted Dot name_tokens

abbrev pub star_tokens : Bool → List TokenKind
star_tokens true = Mark Dot ∷ Mark Star ∷ []
star_tokens false = []

abbrev pub role_word_shown : Bool → List ℕ
role_word_shown true = codes "event"
role_word_shown false = codes "fact"

-- an annotation without parentheses
abbrev pub bare_annotation_tokens : List ℕ → List TokenKind
bare_annotation_tokens name = Mark At ∷ Word name ∷ []

-- an annotation with a word in its parentheses
abbrev pub annotation_tokens : List ℕ → List ℕ → List TokenKind
annotation_tokens name content = Mark At ∷ Word name ∷ Mark OpenParenthesis ∷ Word content ∷ Mark CloseParenthesis ∷ []

-- an annotation with a span in its parentheses
abbrev pub span_annotation_tokens : List ℕ → ℤ → List TokenKind
span_annotation_tokens name ms = Mark At ∷ Word name ∷ Mark OpenParenthesis ∷ (number_tokens ms ++ (Mark CloseParenthesis ∷ []))

abbrev pub meta_tokens : Meta → List TokenKind
meta_tokens (meta.Role event) = annotation_tokens (codes "role") (role_word_shown event)
meta_tokens (meta.Timestamp f) = annotation_tokens (codes "timestamp") f
meta_tokens (meta.Duration f) = annotation_tokens (codes "duration") f
meta_tokens (meta.Expires ms) = span_annotation_tokens (codes "expires") ms
meta_tokens meta.Reference = bare_annotation_tokens (codes "reference")

abbrev pub field_tokens : List ℕ × List ℕ → List TokenKind
field_tokens (f, k) = Word f ∷ Mark Colon ∷ Word k ∷ []

-- the type that a type extends
abbrev pub parent_tokens : List ℕ → List TokenKind
parent_tokens ty = Word (codes "extends") ∷ Word ty ∷ []

unfoldable pub type_tokens : WrittenType → List TokenKind
type_tokens t = Word t.name ∷ (maybe parent_tokens t.parent ++ (each meta_tokens t.metas ++ (each field_tokens t.fields ++ (Word (codes "end") ∷ []))))

abbrev pub lateness_tokens : ℤ → List TokenKind
lateness_tokens = span_annotation_tokens (codes "lateness")

unfoldable pub entry_tokens : List ℕ → Option ℤ → List TokenKind
entry_tokens name late = Word (codes "entry") ∷ Mark Minus ∷ Word (codes "point") ∷ Text name ∷ (maybe lateness_tokens late ++ (Word (codes "end") ∷ []))

-- ---- rules

abbrev pub attr_tokens : Attr → List TokenKind
attr_tokens (attr.Salience n) = Word (codes "salience") ∷ number_tokens n
attr_tokens (attr.Dialect s) = Word (codes "dialect") ∷ Text s ∷ []

unfoldable pub rule_tokens : WrittenRule → List TokenKind
rule_tokens r = Text r.name ∷ (each attr_tokens r.attrs ++ (Word (codes "when") ∷ (each piece_tokens r.pieces ++ (Word (codes "then") ∷ (each action_tokens r.actions ++ (Word (codes "end") ∷ []))))))

-- ---- items

-- the word that an item begins with
abbrev pub item_word_shown : WrittenBody → List ℕ
item_word_shown (body.Package path) = codes "package"
item_word_shown (body.Import path all) = codes "import"
item_word_shown (body.Dialect s) = codes "dialect"
item_word_shown (body.Declare t) = codes "declare"
item_word_shown (body.Entry name late) = codes "declare"
item_word_shown (body.Rule r) = codes "rule"

-- what stands behind it
abbrev pub behind_word : WrittenBody → List TokenKind
behind_word (body.Package path) = path_tokens path
behind_word (body.Import path all) = path_tokens path ++ star_tokens all
behind_word (body.Dialect s) = Text s ∷ []
behind_word (body.Declare t) = type_tokens t
behind_word (body.Entry name late) = entry_tokens name late
behind_word (body.Rule r) = rule_tokens r

abbrev pub tokens_of_item : WrittenBody → List TokenKind
tokens_of_item b = Word (item_word_shown b) ∷ behind_word b
