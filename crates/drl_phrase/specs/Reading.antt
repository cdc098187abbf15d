-- Reading what stands at the front of the tokens, the value and what follows: the shapes, spans and names.
use Rattle.std.specs.{Prelude.{ℕ, ℤ, zero, suc, length, List, [], ◌∷◌, ◌++◌, pos, neg_ℤ, Option, Some, None, option_and_then, if◌then◌else◌}, Str.{bytes_eq}}
use Rattle.drl_lex.specs.declared.token.{TokenKind.{TokenKind, TheVariants.{Word, Number, Time, Text, Mark}}, Mark.TheVariants.{Comma, Semicolon, Or, And}}
use Rattle.drl_lex.specs.declared.token.Mark.TheVariants.{Minus, CloseParenthesis, CloseBracket, CloseBrace}
use Rattle.drl_expr.specs.{Exact.{Read}, Words.{is_ident}}
use Rattle.drl_phrase.specs.declared.phrase.Punctuation.{Punctuation}
use Rattle.drl_phrase.specs.declared.phrase.Punctuation.TheVariants as p

infixl 10 ◌>>=◌
abbrev pub ◌>>=◌ : {A B : Type 0} → Option A → (A → Option B) → Option B
o >>= f = option_and_then f o

-- ---- single tokens

-- what follows this mark
unfoldable pub after : Punctuation → List TokenKind → Option (List TokenKind)
after p.Comma (Mark Comma ∷ rest) = Some rest
after p.Semicolon (Mark Semicolon ∷ rest) = Some rest
after p.Or (Mark Or ∷ rest) = Some rest
after p.And (Mark And ∷ rest) = Some rest
after p.CloseParenthesis (Mark CloseParenthesis ∷ rest) = Some rest
after p.CloseBracket (Mark CloseBracket ∷ rest) = Some rest
after p.CloseBrace (Mark CloseBrace ∷ rest) = Some rest
after mark ts = None

abbrev pub mark_of : Punctuation → TokenKind
mark_of p.Comma = Mark Comma
mark_of p.Semicolon = Mark Semicolon
mark_of p.Or = Mark Or
mark_of p.And = Mark And
mark_of p.CloseParenthesis = Mark CloseParenthesis
mark_of p.CloseBracket = Mark CloseBracket
mark_of p.CloseBrace = Mark CloseBrace

-- how loosely it binds
abbrev pub level : Punctuation → ℕ
level p.And = 3
level p.Or = 4
level p.Comma = 5
level p.Semicolon = 6
level mark = 9

-- what follows this word
unfoldable pub after_word : List ℕ → List TokenKind → Option (List TokenKind)
after_word word (Word w ∷ rest) = if bytes_eq w word then Some rest else None
after_word word ts = None

-- a value, with this mark behind it
unfoldable pub closed : {A : Type 0} → Punctuation → A → List TokenKind → Read A
closed mark x ts = after mark ts >>= λ rest. Some (x, rest)

-- a value, with this word behind it
unfoldable pub ended : {A : Type 0} → List ℕ → A → List TokenKind → Read A
ended word x ts = after_word word ts >>= λ rest. Some (x, rest)

-- nothing, where the word is no name
unfoldable pub ident : {A : Type 0} → List ℕ → Option A → Option A
ident word read = if is_ident word then read else None

-- ---- the shapes

abbrev pub with_first : {A : Type 0} → A → Read (List A) → Read (List A)
with_first x read = read >>= λ xs. Some (x ∷ xs.0, xs.1)

-- the members read so far, before those that are read next
abbrev pub with_front : {A : Type 0} → List A → Read (List A) → Read (List A)
with_front front read = read >>= λ xs. Some (front ++ xs.0, xs.1)

abbrev pub more_step : {A : Type 0} → Option (List TokenKind) → List TokenKind → (List TokenKind → Read (List A)) → Read (List A)
more_step None ts go = Some ([], ts)
more_step (Some rest) ts go = go rest

-- the members behind the first one; the number bounds the turns, and the count of the tokens is enough
unfoldable pub more_at : {A : Type 0} → (List TokenKind → Read A) → Punctuation → ℕ → List TokenKind → Read (List A)
more_at read separator zero ts = Some ([], ts)
more_at read separator (suc n) ts = more_step (after separator ts) ts (λ rest. read rest >>= λ x. with_first x.0 (more_at read separator n x.1))

abbrev pub members_at : {A : Type 0} → (List TokenKind → Read A) → Punctuation → ℕ → List TokenKind → Read (List A)
members_at read separator n ts = read ts >>= λ x. with_first x.0 (more_at read separator n x.1)

-- x (separator x)*
unfoldable pub separated_at : {A : Type 0} → (List TokenKind → Read A) → Punctuation → List TokenKind → Read (List A)
separated_at read separator ts = members_at read separator (length ts) ts

abbrev pub listed_step : {A : Type 0} → Option (List TokenKind) → Read (List A) → Read (List A)
listed_step (Some rest) members = Some ([], rest)
listed_step None members = members >>= λ xs. closed p.CloseParenthesis xs.0 xs.1

-- [x (',' x)*] ')'
unfoldable pub listed_at : {A : Type 0} → (List TokenKind → Read A) → List TokenKind → Read (List A)
listed_at read ts = listed_step (after p.CloseParenthesis ts) (separated_at read p.Comma ts)

abbrev pub many_step : {A : Type 0} → Read A → List TokenKind → (A → List TokenKind → Read (List A)) → Read (List A)
many_step None ts go = Some ([], ts)
many_step (Some x) ts go = go x.0 x.1

-- as many as can be read in so many turns
unfoldable pub turns_at : {A : Type 0} → (List TokenKind → Read A) → ℕ → List TokenKind → Read (List A)
turns_at read zero ts = Some ([], ts)
turns_at read (suc n) ts = many_step (read ts) ts (λ x rest. with_first x (turns_at read n rest))

-- x*, as many as can be read
unfoldable pub many_at : {A : Type 0} → (List TokenKind → Read A) → List TokenKind → Read (List A)
many_at read ts = turns_at read (length ts) ts

abbrev pub maybe_step : {A : Type 0} → Read A → List TokenKind → Read (Option A)
maybe_step None ts = Some (None, ts)
maybe_step (Some x) ts = Some (Some x.0, x.1)

-- [x], written where it can be read
unfoldable pub maybe_at : {A : Type 0} → (List TokenKind → Read A) → List TokenKind → Read (Option A)
maybe_at read ts = maybe_step (read ts) ts

abbrev pub optional_step : Option (List TokenKind) → List TokenKind → List TokenKind
optional_step None ts = ts
optional_step (Some rest) ts = rest

-- what follows the mark, if it stands there
unfoldable pub optional_at : Punctuation → List TokenKind → List TokenKind
optional_at mark ts = optional_step (after mark ts) ts

abbrev pub if_last : {A : Type 0} → A → List TokenKind → Option A
if_last x [] = Some x
if_last x (t ∷ ts) = None

-- what all the tokens are
unfoldable pub whole_at : {A : Type 0} → (List TokenKind → Read A) → List TokenKind → Option A
whole_at read ts = read ts >>= λ x. if_last x.0 x.1

-- ---- spans and names

unfoldable pub span_at : List TokenKind → Read ℤ
span_at (Number n ∷ rest) = Some (pos n, rest)
span_at (Time n ∷ rest) = Some (pos n, rest)
span_at (Mark Minus ∷ Number n ∷ rest) = Some (neg_ℤ (pos n), rest)
span_at (Mark Minus ∷ Time n ∷ rest) = Some (neg_ℤ (pos n), rest)
span_at ts = None

unfoldable pub name_at : List TokenKind → Read (List ℕ)
name_at (Text s ∷ rest) = Some (s, rest)
name_at (Word s ∷ rest) = ident s (Some (s, rest))
name_at ts = None
