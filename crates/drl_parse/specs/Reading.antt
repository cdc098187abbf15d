-- Reading the items of a file: the value of the phrase at the front and the tokens behind it.
use Rattle.std.specs.{Prelude.{ℕ, ℤ, List, ◌∷◌, pos, neg_ℤ, Bool, true, false, Option, Some, None, if◌then◌else◌, codes}, Str.{bytes_eq}}
use Rattle.drl_lex.specs.declared.token.{TokenKind.{TokenKind, TheVariants.{Word, Number, Text, Mark}}, Mark.TheVariants.{OpenParenthesis, CloseParenthesis}}
use Rattle.drl_lex.specs.declared.token.Mark.TheVariants.{Colon, Dot, At, Minus, Star}
use Rattle.drl_expr.specs.Exact.{Read}
use Rattle.drl_grammar.specs.declared.file.Attr.{Attr}
use Rattle.drl_grammar.specs.declared.file.Attr.TheVariants as attr
use Rattle.drl_grammar.specs.declared.file.Meta.{Meta}
use Rattle.drl_grammar.specs.declared.file.Meta.TheVariants as meta
use Rattle.drl_grammar.specs.declared.written.{Piece.{Piece}, WrittenType.{WrittenType}, WrittenRule.{WrittenRule}, WrittenBody.{WrittenBody}}
use Rattle.drl_grammar.specs.declared.written.WrittenBody.TheVariants as body
use Rattle.drl_phrase.specs.declared.phrase.Punctuation.TheVariants as p
use Rattle.drl_phrase.specs.Reading.{◌>>=◌, after_word, closed, ended, ident, many_at, maybe_at, optional_at, span_at, name_at}
use Rattle.drl_condition.specs.Choices.{pieces_at}
use Rattle.drl_action.specs.Reading.{action_at}
use Rattle.drl_parse.specs.declared.words.MetaWord.{MetaWord, TheVariants.{RoleWord, TimestampWord, DurationWord, ExpiresWord, ReferenceWord}}
use Rattle.drl_parse.specs.declared.words.ItemWord.{ItemWord, TheVariants.{PackageWord, ImportWord, DialectWord, DeclareWord, RuleWord}}

-- ---- words

abbrev pub meta_text : MetaWord → List ℕ
meta_text RoleWord = codes "role"
meta_text TimestampWord = codes "timestamp"
meta_text DurationWord = codes "duration"
meta_text ExpiresWord = codes "expires"
meta_text ReferenceWord = codes "reference"

unfoldable pub meta_word_of : List ℕ → Option MetaWord
meta_word_of w = if bytes_eq w (codes "role") then Some RoleWord else if bytes_eq w (codes "timestamp") then Some TimestampWord
    else if bytes_eq w (codes "duration") then Some DurationWord else if bytes_eq w (codes "expires") then Some ExpiresWord
    else if bytes_eq w (codes "reference") then Some ReferenceWord else None

-- the word of a role, and whether it is that of events
unfoldable pub role_word : List ℕ → Option Bool
role_word w = if bytes_eq w (codes "event") then Some true else if bytes_eq w (codes "fact") then Some false else None

abbrev pub item_text : ItemWord → List ℕ
item_text PackageWord = codes "package"
item_text ImportWord = codes "import"
item_text DialectWord = codes "dialect"
item_text DeclareWord = codes "declare"
item_text RuleWord = codes "rule"

unfoldable pub item_word : List ℕ → Option ItemWord
item_word w = if bytes_eq w (codes "package") then Some PackageWord else if bytes_eq w (codes "import") then Some ImportWord
    else if bytes_eq w (codes "dialect") then Some DialectWord else if bytes_eq w (codes "declare") then Some DeclareWord
    else if bytes_eq w (codes "rule") then Some RuleWord else None

-- ---- names with dots

unfoldable pub step_at : List TokenKind → Read (List ℕ)
step_at (Mark Dot ∷ Word f ∷ rest) = ident f (Some (f, rest))
step_at ts = None

unfoldable pub path_at : List TokenKind → Read (List (List ℕ))
path_at (Word f ∷ ts) = ident f (many_at step_at ts >>= λ fs. Some (f ∷ fs.0, fs.1))
path_at ts = None

-- whether a dot and a star stand there, and what follows them
unfoldable pub path_star_at : List TokenKind → Bool × List TokenKind
path_star_at (Mark Dot ∷ Mark Star ∷ rest) = (true, rest)
path_star_at ts = (false, ts)

-- ---- types and entry points

-- what stands behind the word of an annotation
unfoldable pub behind_meta : MetaWord → List TokenKind → Read Meta
behind_meta RoleWord (Mark OpenParenthesis ∷ Word f ∷ Mark CloseParenthesis ∷ rest) = role_word f >>= λ event. Some (meta.Role event, rest)
behind_meta TimestampWord (Mark OpenParenthesis ∷ Word f ∷ Mark CloseParenthesis ∷ rest) = ident f (Some (meta.Timestamp f, rest))
behind_meta DurationWord (Mark OpenParenthesis ∷ Word f ∷ Mark CloseParenthesis ∷ rest) = ident f (Some (meta.Duration f, rest))
behind_meta ExpiresWord (Mark OpenParenthesis ∷ ts) = span_at ts >>= λ ms. closed p.CloseParenthesis (meta.Expires ms.0) ms.1
behind_meta ReferenceWord rest = Some (meta.Reference, rest)
behind_meta word ts = None

unfoldable pub meta_at : List TokenKind → Read Meta
meta_at (Mark At ∷ Word w ∷ ts) = meta_word_of w >>= λ word. behind_meta word ts
meta_at ts = None

unfoldable pub field_at : List TokenKind → Read (List ℕ × List ℕ)
field_at (Word f ∷ Mark Colon ∷ Word k ∷ rest) = ident f (ident k (Some ((f, k), rest)))
field_at ts = None

unfoldable pub parent_at : List TokenKind → Read (List ℕ)
parent_at (Word w ∷ Word ty ∷ rest) = if bytes_eq w (codes "extends") then ident ty (Some (ty, rest)) else None
parent_at ts = None

unfoldable pub type_at : List TokenKind → Read WrittenType
type_at (Word ty ∷ ts) = ident ty (maybe_at parent_at ts >>= λ above. many_at meta_at above.1 >>= λ ms. many_at field_at ms.1 >>= λ fs.
    ended (codes "end") (record { name = ty; parent = above.0; metas = ms.0; fields = fs.0 }) fs.1)
type_at ts = None

unfoldable pub lateness_at : List TokenKind → Read ℤ
lateness_at (Mark At ∷ Word w ∷ Mark OpenParenthesis ∷ ts) = if bytes_eq w (codes "lateness") then (span_at ts >>= λ ms. closed p.CloseParenthesis ms.0 ms.1) else None
lateness_at ts = None

-- what stands behind the words of an entry point
unfoldable pub behind_point : List TokenKind → Read (List ℕ × Option ℤ)
behind_point ts = name_at ts >>= λ s. maybe_at lateness_at s.1 >>= λ late. ended (codes "end") (s.0, late.0) late.1

unfoldable pub entry_at : List TokenKind → Read (List ℕ × Option ℤ)
entry_at (Word w ∷ Mark Minus ∷ Word v ∷ ts) = if bytes_eq w (codes "entry") then (if bytes_eq v (codes "point") then behind_point ts else None) else None
entry_at ts = None

-- ---- rules

unfoldable pub salience_at : List TokenKind → Read ℤ
salience_at (Number n ∷ rest) = Some (pos n, rest)
salience_at (Mark Minus ∷ Number n ∷ rest) = Some (neg_ℤ (pos n), rest)
salience_at ts = None

unfoldable pub attr_at : List TokenKind → Read Attr
attr_at (Word w ∷ Text s ∷ ts) = if bytes_eq w (codes "dialect") then Some (attr.Dialect s, optional_at p.Comma ts) else None
attr_at (Word w ∷ ts) = if bytes_eq w (codes "salience") then (salience_at ts >>= λ n. Some (attr.Salience n.0, optional_at p.Comma n.1)) else None
attr_at ts = None

-- what stands behind the word `then`
unfoldable pub actions_at : List ℕ → List Attr → List Piece → List TokenKind → Read WrittenRule
actions_at s attrs ps ts = many_at action_at ts >>= λ acts. ended (codes "end") (record { name = s; attrs = attrs; pieces = ps; actions = acts.0 }) acts.1

-- what stands behind the word `when`
unfoldable pub conditions_at : List ℕ → List Attr → List TokenKind → Read WrittenRule
conditions_at s attrs ts = pieces_at ts >>= λ ps. after_word (codes "then") ps.1 >>= λ rest. actions_at s attrs ps.0 rest

-- a rule behind its first word
unfoldable pub rule_at : List TokenKind → Read WrittenRule
rule_at ts = name_at ts >>= λ s. many_at attr_at s.1 >>= λ attrs. after_word (codes "when") attrs.1 >>= λ rest. conditions_at s.0 attrs.0 rest

-- ---- items

-- what stands behind the word `declare`: no type has a minus behind its name
unfoldable pub declare_at : List TokenKind → Read WrittenBody
declare_at (Word w ∷ Mark Minus ∷ ts) = entry_at (Word w ∷ Mark Minus ∷ ts) >>= λ e. Some (body.Entry e.0.0 e.0.1, e.1)
declare_at ts = type_at ts >>= λ t. Some (body.Declare t.0, t.1)

-- what stands behind the first word of an item
unfoldable pub behind_item : ItemWord → List TokenKind → Read WrittenBody
behind_item PackageWord ts = path_at ts >>= λ path. Some (body.Package path.0, optional_at p.Semicolon path.1)
behind_item ImportWord ts = path_at ts >>= λ path. Some (body.Import path.0 (path_star_at path.1).0, optional_at p.Semicolon (path_star_at path.1).1)
behind_item DialectWord (Text s ∷ ts) = Some (body.Dialect s, optional_at p.Semicolon ts)
behind_item DeclareWord ts = declare_at ts
behind_item RuleWord ts = rule_at ts >>= λ r. Some (body.Rule r.0, r.1)
behind_item word ts = None

unfoldable pub item_at : List TokenKind → Read WrittenBody
item_at (Word w ∷ ts) = item_word w >>= λ word. behind_item word ts
item_at ts = None
