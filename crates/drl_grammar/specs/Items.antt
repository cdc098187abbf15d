-- The grammar of items, by one case for each line and each alternative of it.
use Rattle.std.specs.Prelude.{ℕ, ℤ, List, ◌∷◌, pos, neg_ℤ, Bool, true, false, Option, codes}
use Rattle.drl_lex.specs.declared.token.{TokenKind.{TokenKind, TheVariants.{Word, Number, Text, Mark}}, Mark.TheVariants.{OpenParenthesis, CloseParenthesis}}
use Rattle.drl_lex.specs.declared.token.Mark.TheVariants.{Comma, Semicolon, Colon, Dot, At, Minus, Star}
use Rattle.drl_expr.specs.Words.{IsIdent}
use Rattle.drl_grammar.specs.declared.{action.ActTree.{ActTree}, file.Attr.{Attr}}
use Rattle.drl_grammar.specs.declared.file.Attr.TheVariants as attr
use Rattle.drl_grammar.specs.declared.file.Meta.{Meta}
use Rattle.drl_grammar.specs.declared.file.Meta.TheVariants as meta
use Rattle.drl_grammar.specs.declared.written.{Piece.{Piece}, WrittenType.{WrittenType}, WrittenRule.{WrittenRule}, WrittenBody.{WrittenBody}}
use Rattle.drl_grammar.specs.declared.written.WrittenBody.TheVariants as body
use Rattle.drl_grammar.specs.{Shapes.{Maybe, Optional, Many}, Conditions.{IsSpan, IsName, IsAsked}, Actions.{IsAction}}

-- ---- names with dots

-- '.' Ident
pub data IsPathStep : List ℕ → List TokenKind → List TokenKind → Type 0 where
  step : {f : List ℕ} {rest : List TokenKind} → IsIdent f → IsPathStep f (Mark Dot ∷ Word f ∷ rest) rest

-- Ident ('.' Ident)*
pub data IsPath : List (List ℕ) → List TokenKind → List TokenKind → Type 0 where
  path : {f : List ℕ} {fs : List (List ℕ)} {ts rest : List TokenKind} → IsIdent f → Many IsPathStep fs ts rest → IsPath (f ∷ fs) (Word f ∷ ts) rest

-- ['.' '*']
pub data IsStar : Bool → List TokenKind → List TokenKind → Type 0 where
  no_star : {rest : List TokenKind} → IsStar false rest rest
  star : {rest : List TokenKind} → IsStar true (Mark Dot ∷ Mark Star ∷ rest) rest

-- ---- types and entry points

-- meta := '@' 'role' '(' ('event' | 'fact') ')' | '@' 'timestamp' '(' Ident ')' | '@' 'duration' '(' Ident ')' | '@' 'expires' '(' span ')'
--       | '@' 'reference'
pub data IsMeta : Meta → List TokenKind → List TokenKind → Type 0 where
  event_role : {rest : List TokenKind} → IsMeta (meta.Role true) (Mark At ∷ Word (codes "role") ∷ Mark OpenParenthesis ∷ Word (codes "event") ∷ Mark CloseParenthesis ∷ rest) rest
  fact_role : {rest : List TokenKind} → IsMeta (meta.Role false) (Mark At ∷ Word (codes "role") ∷ Mark OpenParenthesis ∷ Word (codes "fact") ∷ Mark CloseParenthesis ∷ rest) rest
  timestamp : {f : List ℕ} {rest : List TokenKind} → IsIdent f
      → IsMeta (meta.Timestamp f) (Mark At ∷ Word (codes "timestamp") ∷ Mark OpenParenthesis ∷ Word f ∷ Mark CloseParenthesis ∷ rest) rest
  duration : {f : List ℕ} {rest : List TokenKind} → IsIdent f
      → IsMeta (meta.Duration f) (Mark At ∷ Word (codes "duration") ∷ Mark OpenParenthesis ∷ Word f ∷ Mark CloseParenthesis ∷ rest) rest
  expires : {ms : ℤ} {ts rest : List TokenKind} → IsSpan ms ts (Mark CloseParenthesis ∷ rest)
      → IsMeta (meta.Expires ms) (Mark At ∷ Word (codes "expires") ∷ Mark OpenParenthesis ∷ ts) rest
  reference : {rest : List TokenKind} → IsMeta meta.Reference (Mark At ∷ Word (codes "reference") ∷ rest) rest

-- field := Ident ':' Ident
pub data IsField : List ℕ × List ℕ → List TokenKind → List TokenKind → Type 0 where
  field : {f k : List ℕ} {rest : List TokenKind} → IsIdent f → IsIdent k → IsField (f, k) (Word f ∷ Mark Colon ∷ Word k ∷ rest) rest

-- 'extends' Ident
pub data IsParentName : List ℕ → List TokenKind → List TokenKind → Type 0 where
  parent : {ty : List ℕ} {rest : List TokenKind} → IsIdent ty → IsParentName ty (Word (codes "extends") ∷ Word ty ∷ rest) rest

-- Ident ['extends' Ident] meta* field* 'end'
pub data IsType : WrittenType → List TokenKind → List TokenKind → Type 0 where
  type_of : {ty : List ℕ} {above : Option (List ℕ)} {ms : List Meta} {fs : List (List ℕ × List ℕ)} {ts behind_parent middle rest : List TokenKind} → IsIdent ty
      → Maybe IsParentName above ts behind_parent → Many IsMeta ms behind_parent middle → Many IsField fs middle (Word (codes "end") ∷ rest)
      → IsType (record { name = ty; parent = above; metas = ms; fields = fs }) (Word ty ∷ ts) rest

-- '@' 'lateness' '(' span ')'
pub data IsLateness : ℤ → List TokenKind → List TokenKind → Type 0 where
  lateness : {ms : ℤ} {ts rest : List TokenKind} → IsSpan ms ts (Mark CloseParenthesis ∷ rest) → IsLateness ms (Mark At ∷ Word (codes "lateness") ∷ Mark OpenParenthesis ∷ ts) rest

-- 'entry' '-' 'point' name ['@' 'lateness' '(' span ')'] 'end'
pub data IsEntry : List ℕ × Option ℤ → List TokenKind → List TokenKind → Type 0 where
  entry : {s : List ℕ} {late : Option ℤ} {ts middle rest : List TokenKind} → IsName s ts middle → Maybe IsLateness late middle (Word (codes "end") ∷ rest)
      → IsEntry (s, late) (Word (codes "entry") ∷ Mark Minus ∷ Word (codes "point") ∷ ts) rest

-- ---- rules

-- ['-'] Number
pub data IsSalience : ℤ → List TokenKind → List TokenKind → Type 0 where
  high : {n : ℕ} {rest : List TokenKind} → IsSalience (pos n) (Number n ∷ rest) rest
  low : {n : ℕ} {rest : List TokenKind} → IsSalience (neg_ℤ (pos n)) (Mark Minus ∷ Number n ∷ rest) rest

-- attr := 'salience' ['-'] Number [','] | 'dialect' Text [',']
pub data IsAttr : Attr → List TokenKind → List TokenKind → Type 0 where
  salience : {n : ℤ} {ts middle rest : List TokenKind} → IsSalience n ts middle → Optional (Mark Comma) middle rest → IsAttr (attr.Salience n) (Word (codes "salience") ∷ ts) rest
  dialect : {s : List ℕ} {middle rest : List TokenKind} → Optional (Mark Comma) middle rest → IsAttr (attr.Dialect s) (Word (codes "dialect") ∷ Text s ∷ middle) rest

-- name attr* 'when' choice+ 'then' action* 'end'
pub data IsRule : WrittenRule → List TokenKind → List TokenKind → Type 0 where
  rule : {s : List ℕ} {attrs : List Attr} {ps : List Piece} {acts : List ActTree} {ts behind_name asked actions rest : List TokenKind}
      → IsName s ts behind_name → Many IsAttr attrs behind_name (Word (codes "when") ∷ asked)
      → IsAsked ps asked (Word (codes "then") ∷ actions) → Many IsAction acts actions (Word (codes "end") ∷ rest)
      → IsRule (record { name = s; attrs = attrs; pieces = ps; actions = acts }) ts rest

-- ---- items

-- item := 'package' Ident ('.' Ident)* [';']
--       | 'import' Ident ('.' Ident)* ['.' '*'] [';']
--       | 'dialect' Text [';']
--       | 'declare' Ident ['extends' Ident] meta* field* 'end'
--       | 'declare' 'entry' '-' 'point' name ['@' 'lateness' '(' span ')'] 'end'
--       | 'rule' name attr* 'when' choice+ 'then' action* 'end'
pub data IsItem : WrittenBody → List TokenKind → List TokenKind → Type 0 where
  package_item : {path : List (List ℕ)} {ts middle rest : List TokenKind} → IsPath path ts middle → Optional (Mark Semicolon) middle rest
      → IsItem (body.Package path) (Word (codes "package") ∷ ts) rest
  import_item : {path : List (List ℕ)} {all : Bool} {ts behind_path middle rest : List TokenKind} → IsPath path ts behind_path → IsStar all behind_path middle → Optional (Mark Semicolon) middle rest
      → IsItem (body.Import path all) (Word (codes "import") ∷ ts) rest
  dialect_item : {s : List ℕ} {middle rest : List TokenKind} → Optional (Mark Semicolon) middle rest → IsItem (body.Dialect s) (Word (codes "dialect") ∷ Text s ∷ middle) rest
  declare_type : {t : WrittenType} {ts rest : List TokenKind} → IsType t ts rest → IsItem (body.Declare t) (Word (codes "declare") ∷ ts) rest
  declare_entry : {s : List ℕ} {late : Option ℤ} {ts rest : List TokenKind} → IsEntry (s, late) ts rest → IsItem (body.Entry s late) (Word (codes "declare") ∷ ts) rest
  rule_item : {r : WrittenRule} {ts rest : List TokenKind} → IsRule r ts rest → IsItem (body.Rule r) (Word (codes "rule") ∷ ts) rest
