-- Reading the conditions of a rule: the tree and what follows.
use Rattle.std.specs.{Prelude.{◌&&◌, ℕ, ℤ, List, [], ◌∷◌, pos, neg_ℤ, Option, Some, None, true, false, if◌then◌else◌, codes}, Str.{bytes_eq}}
use Rattle.temporal_ops.specs.declared.word.OpWord.{OpWord}
use Rattle.drl_lex.specs.declared.token.{Rel.{Rel}, TokenKind.{TokenKind, TheVariants.{Word, Var, Number, Text, Mark}}, Mark.TheVariants.{OpenParenthesis}}
use Rattle.drl_lex.specs.declared.token.Mark.TheVariants.{CloseParenthesis, OpenBracket, Comma, Semicolon, Colon, Dot, Minus, Comparison}
use Rattle.drl_expr.specs.{Exact.{Read}, Words.{is_ident}, declared.literal.LitTree.{LitTree}}
use Rattle.drl_expr.specs.declared.literal.LitTree.TheVariants as lit
use Rattle.drl_grammar.specs.declared.condition.Operand.{Operand}
use Rattle.drl_grammar.specs.declared.condition.Operand.TheVariants as operand
use Rattle.drl_grammar.specs.declared.condition.Cmp.{Cmp}
use Rattle.drl_grammar.specs.declared.condition.Cmp.TheVariants as cmp
use Rattle.drl_grammar.specs.declared.condition.Part.{Part}
use Rattle.drl_grammar.specs.declared.condition.Part.TheVariants as part
use Rattle.drl_grammar.specs.declared.condition.WindowTree.{WindowTree}
use Rattle.drl_grammar.specs.declared.condition.WindowTree.TheVariants as window
use Rattle.drl_grammar.specs.declared.condition.{SourceTree.{SourceTree}, FoldWord.{FoldWord}, CondTree.{CondTree}}
use Rattle.drl_grammar.specs.declared.condition.CondTree.TheVariants as condition
use Rattle.drl_phrase.specs.declared.phrase.Punctuation.TheVariants as p
use Rattle.drl_phrase.specs.Reading.{◌>>=◌, closed, ident, separated_at, listed_at, maybe_at, span_at, name_at}
use Rattle.drl_condition.specs.declared.words.{WindowWord.{WindowWord, TheVariants.{TimeWord, LengthWord}}, Form.{Form}}
use Rattle.drl_condition.specs.declared.words.Form.TheVariants as form
use Rattle.drl_condition.specs.Words.{op_word, fold_word, result_word, window_word, word_form}

-- ---- values

unfoldable pub literal_at : List TokenKind → Read LitTree
literal_at (Number n ∷ rest) = Some (lit.Int (pos n), rest)
literal_at (Mark Minus ∷ Number n ∷ rest) = Some (lit.Int (neg_ℤ (pos n)), rest)
literal_at (Text s ∷ rest) = Some (lit.Text s, rest)
literal_at (Word w ∷ rest) = if bytes_eq w (codes "true") then Some (lit.Bool true, rest) else if bytes_eq w (codes "false") then Some (lit.Bool false, rest) else None
literal_at ts = None

abbrev pub as_operand : LitTree × List TokenKind → Read Operand
as_operand l = Some (operand.Lit l.0, l.1)

unfoldable pub test_operand_at : List TokenKind → Read Operand
test_operand_at (Var v ∷ Mark Dot ∷ Word f ∷ rest) = ident f (Some (operand.VarField v f, rest))
test_operand_at (Var v ∷ Mark Dot ∷ rest) = None
test_operand_at (Var v ∷ rest) = Some (operand.Var v, rest)
test_operand_at (Word w ∷ rest) = if is_ident w then Some (operand.Own w, rest) else literal_at (Word w ∷ rest) >>= as_operand
test_operand_at ts = literal_at ts >>= as_operand

-- ---- what stands in the parentheses of a pattern

-- a field against an operand, behind the sign between them
unfoldable pub compared_at : List ℕ → Rel → List TokenKind → Read Cmp
compared_at f r ts = test_operand_at ts >>= λ o. Some (cmp.Rel f r o.0, o.1)

-- a field among operands, behind the opening parenthesis
unfoldable pub one_of_at : List ℕ → List TokenKind → Read Cmp
one_of_at f ts = separated_at test_operand_at p.Comma ts >>= λ os. closed p.CloseParenthesis (cmp.OneOf f os.0) os.1

unfoldable pub cmp_at : List TokenKind → Read Cmp
cmp_at (Word f ∷ Mark (Comparison r) ∷ ts) = ident f (compared_at f r ts)
cmp_at (Word f ∷ Word w ∷ Mark OpenParenthesis ∷ ts) = ident f (if bytes_eq w (codes "in") then one_of_at f ts else None)
cmp_at ts = None

abbrev pub conj_at : List TokenKind → Read (List Cmp)
conj_at = separated_at cmp_at p.And

abbrev pub disj_at : List TokenKind → Read (List (List Cmp))
disj_at = separated_at conj_at p.Or

unfoldable pub params_at : List TokenKind → Read (List ℤ)
params_at (Mark OpenBracket ∷ ts) = separated_at span_at p.Comma ts >>= λ ps. closed p.CloseBracket ps.0 ps.1
params_at ts = Some ([], ts)

-- the variable of the other event
unfoldable pub other_at : OpWord → List ℤ → List TokenKind → Read Part
other_at op ps (Var v ∷ rest) = Some (part.Temporal op ps v, rest)
other_at op ps ts = None

-- a temporal test, behind the word `this`
unfoldable pub temporal_at : List TokenKind → Read Part
temporal_at (Word w ∷ ts) = op_word w >>= λ op. params_at ts >>= λ ps. other_at op ps.0 ps.1
temporal_at ts = None

unfoldable pub any_of_at : List TokenKind → Read Part
any_of_at ts = disj_at ts >>= λ d. Some (part.AnyOf d.0, d.1)

unfoldable pub part_at : List TokenKind → Read Part
part_at (Var v ∷ Mark Colon ∷ Word f ∷ rest) = ident f (Some (part.Bind v f, rest))
part_at (Word w ∷ ts) = if bytes_eq w (codes "this") then temporal_at ts else any_of_at (Word w ∷ ts)
part_at ts = None

-- ---- patterns

-- what stands in the parentheses of a window, and the closing one
unfoldable pub extent_at : WindowWord → List TokenKind → Read WindowTree
extent_at TimeWord ts = span_at ts >>= λ ms. closed p.CloseParenthesis (window.Time ms.0) ms.1
extent_at LengthWord (Number n ∷ Mark CloseParenthesis ∷ rest) = Some (window.Length (pos n), rest)
extent_at LengthWord ts = None

unfoldable pub window_at : List TokenKind → Read WindowTree
window_at (Word o ∷ Word w ∷ Mark Colon ∷ Word kind ∷ Mark OpenParenthesis ∷ ts) =
    if bytes_eq o (codes "over") && bytes_eq w (codes "window") then (window_word kind >>= λ word. extent_at word ts) else None
window_at ts = None

unfoldable pub place_at : List TokenKind → Read (List ℕ)
place_at (Word f ∷ Word e ∷ Mark Minus ∷ Word point ∷ ts) =
    if bytes_eq f (codes "from") && (bytes_eq e (codes "entry") && bytes_eq point (codes "point")) then name_at ts else None
place_at ts = None

-- the variable in front, if one stands there, and what follows it
unfoldable pub binding_at : List TokenKind → Option (List ℕ) × List TokenKind
binding_at (Var v ∷ Mark Colon ∷ rest) = (Some v, rest)
binding_at ts = (None, ts)

-- a pattern, behind its variable
unfoldable pub pattern_at : Option (List ℕ) → List TokenKind → Read SourceTree
pattern_at v (Word ty ∷ Mark OpenParenthesis ∷ inner) =
    ident ty (listed_at part_at inner >>= λ ps. maybe_at window_at ps.1 >>= λ w. maybe_at place_at w.1 >>= λ e. Some (record { var = v; ty = ty; parts = ps.0; window = w.0; entry = e.0 }, e.1))
pattern_at v ts = None

unfoldable pub source_at : List TokenKind → Read SourceTree
source_at ts = pattern_at (binding_at ts).0 (binding_at ts).1

unfoldable pub group_at : List TokenKind → Read SourceTree
group_at (Mark OpenParenthesis ∷ ts) = source_at ts >>= λ s. closed p.CloseParenthesis s.0 s.1
group_at ts = source_at ts

-- ---- accumulates

unfoldable pub value_test_at : List TokenKind → Read (Rel × Operand)
value_test_at (Word w ∷ Mark (Comparison r) ∷ ts) = result_word w >>= λ word. test_operand_at ts >>= λ o. Some ((r, o.0), o.1)
value_test_at ts = None

-- a test of the result, which has this variable
unfoldable pub result_test_at : List ℕ → List TokenKind → Read (Rel × Operand)
result_test_at v (Var w ∷ Mark (Comparison r) ∷ ts) = if bytes_eq w v then (test_operand_at ts >>= λ o. Some ((r, o.0), o.1)) else None
result_test_at v ts = None

unfoldable pub result_tests_at : List ℕ → List TokenKind → Read (List (Rel × Operand))
result_tests_at v (Mark CloseParenthesis ∷ rest) = Some ([], rest)
result_tests_at v (Mark Semicolon ∷ ts) = separated_at (result_test_at v) p.Comma ts >>= λ rs. closed p.CloseParenthesis rs.0 rs.1
result_tests_at v ts = None

-- function '(' Var ')'
unfoldable pub call_at : List TokenKind → Read (FoldWord × List ℕ)
call_at (Word w ∷ Mark OpenParenthesis ∷ Var arg ∷ Mark CloseParenthesis ∷ rest) = fold_word w >>= λ word. Some ((word, arg), rest)
call_at ts = None

-- ',' function '(' Var ')' ')'
unfoldable pub last_call_at : List TokenKind → Read (FoldWord × List ℕ)
last_call_at (Mark Comma ∷ ts) = call_at ts >>= λ call. closed p.CloseParenthesis call.0 call.1
last_call_at ts = None

-- what stands behind the pattern of `Number(..) from accumulate(..)`
unfoldable pub number_call_at : Option (List ℕ) → List (Rel × Operand) → SourceTree → List TokenKind → Read CondTree
number_call_at v tests s ts = last_call_at ts >>= λ call. Some (condition.Folded v s call.0.0 call.0.1 tests, call.1)

-- what stands behind `Number(..)`
unfoldable pub number_source_at : Option (List ℕ) → List (Rel × Operand) → List TokenKind → Read CondTree
number_source_at v tests (Word f ∷ Word a ∷ Mark OpenParenthesis ∷ ts) =
    if bytes_eq f (codes "from") && bytes_eq a (codes "accumulate") then (source_at ts >>= λ s. number_call_at v tests s.0 s.1) else None
number_source_at v tests ts = None

-- what stands behind the variable
unfoldable pub number_tests_at : Option (List ℕ) → List TokenKind → Read CondTree
number_tests_at v (Word w ∷ Mark OpenParenthesis ∷ inner) =
    if bytes_eq w (codes "Number") then (listed_at value_test_at inner >>= λ tests. number_source_at v tests.0 tests.1) else None
number_tests_at v ts = None

unfoldable pub number_at : List TokenKind → Read CondTree
number_at ts = number_tests_at (binding_at ts).0 (binding_at ts).1

-- ';' Var ':' function '(' Var ')' and the tests of the result: its variable, the function with its argument, the tests
unfoldable pub result_at : List TokenKind → Read (List ℕ × (FoldWord × List ℕ) × List (Rel × Operand))
result_at (Mark Semicolon ∷ Var result ∷ Mark Colon ∷ ts) = call_at ts >>= λ call. result_tests_at result call.1 >>= λ tests. Some ((result, call.0, tests.0), tests.1)
result_at ts = None

-- what stands behind the pattern of `accumulate(..)`
unfoldable pub accumulate_call_at : SourceTree → List TokenKind → Read CondTree
accumulate_call_at s ts = result_at ts >>= λ r. Some (condition.Folded (Some r.0.0) s r.0.1.0 r.0.1.1 r.0.2, r.1)

-- what stands behind the word `accumulate`
unfoldable pub accumulate_at : List TokenKind → Read CondTree
accumulate_at (Mark OpenParenthesis ∷ ts) = source_at ts >>= λ s. accumulate_call_at s.0 s.1
accumulate_at ts = None

-- ---- conditions

-- the form of a condition, by its first word
unfoldable pub form_at : List TokenKind → Form
form_at (Var v ∷ Mark Colon ∷ Word w ∷ rest) = if bytes_eq w (codes "Number") then form.Number else form.Pattern
form_at (Word w ∷ rest) = word_form w
form_at ts = form.Pattern

unfoldable pub formed_at : Form → List TokenKind → Read CondTree
formed_at form.Pattern ts = source_at ts >>= λ s. Some (condition.Plain s.0, s.1)
formed_at form.Number ts = number_at ts
formed_at form.Negation (t ∷ ts) = group_at ts >>= λ s. Some (condition.Negated s.0, s.1)
formed_at form.Existence (t ∷ ts) = group_at ts >>= λ s. Some (condition.Existing s.0, s.1)
formed_at form.Accumulate (t ∷ ts) = accumulate_at ts
formed_at f [] = None

unfoldable pub condition_at : List TokenKind → Read CondTree
condition_at ts = formed_at (form_at ts) ts
