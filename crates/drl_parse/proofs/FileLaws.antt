-- What the bytes are is what is read of them.
use Rattle.drl_parse.proofs.Common.{◌≡◌, ◌↔◌, ℕ, zero, suc, ◌+◌, ◌-◌, ◌<◌, ◌≤◌, nat_lt, Bool, true, false, cond, List, [], ◌∷◌, length, Option, Some, None}
use Rattle.drl_parse.proofs.Common.{Result, Ok, Err, refl, sym, ap, arith, ltb-false, Token, TokenKind, kinds, AreTokens, tokens_again, WrittenBody, lines_at}
use Rattle.drl_parse.proofs.Common.{IsFile, ItemsRead, items_at, Parsed, is_file, outside, too_long, lexical, items_parsed, ltb-true, lt-ltb, le-ltb, piece_at}
use Rattle.drl_parse.proofs.Common.{behind_piece, lexed_step, tokens_sound, refused_sound, refused_again, IsOutside, file_limit, IsLexical, tokens_parsed}
use Rattle.{drl_parse.specs.Parsed.{parsed_by}, drl_lex.specs.{declared.fault.LexCode.{LexCode}, Reading.{ReadToken, lexed_from, lexed}}}
use Rattle.drl_parse.proofs.ItemLaws as items
use Rattle.drl_parse.proofs.ItemLaws.{Exactly, Stands, items_sound}

-- ---- no more tokens than bytes

behind_few : (n at len : ℕ) (kind : Option TokenKind) (more : Result (List Token) (LexCode × ℕ)) (tokens : List Token) → ((others : List Token) → more ≡ Ok others → length others ≤ n)
    → behind_piece at len kind more ≡ Ok tokens → length tokens ≤ suc n
behind_few n at len None more tokens few e = let le = few tokens e in omega arith
behind_few n at len (Some kind) (Ok others) tokens few e =
    let same : record { kind = kind; at = at; len = len } ∷ others ≡ tokens = cc in
    let le = few others refl in
    rw (← same) (omega arith)
behind_few n at len (Some kind) (Err fault) tokens few e = absurd cc

step_few : (n at len : ℕ) (read : ReadToken (Option TokenKind)) (tokens : List Token) → ((at : ℕ) (rest : List ℕ) (others : List Token) → lexed_from n at rest ≡ Ok others → length others ≤ n)
    → lexed_step at len read (lexed_from n) ≡ Ok tokens → length tokens ≤ suc n
step_few n at len (Ok read) tokens few e =
    behind_few n at (len - length read.1) read.0 (lexed_from n (at + (len - length read.1)) read.1) tokens (few (at + (len - length read.1)) read.1) e
step_few n at len (Err fault) tokens few e = absurd cc

few_from : (n at : ℕ) (bytes : List ℕ) (tokens : List Token) → lexed_from n at bytes ≡ Ok tokens → length tokens ≤ n
unfolding lexed_from
few_from n at [] tokens e = let none : [] ≡ tokens = cc in rw (← none) (omega arith)
few_from zero at (b ∷ bytes) tokens e = let none : [] ≡ tokens = cc in rw (← none) (omega arith)
few_from (suc n) at (b ∷ bytes) tokens e = step_few n at (length (b ∷ bytes)) (piece_at at (b ∷ bytes)) tokens (few_from n) e

pub few_tokens : (tokens : List Token) (bytes : List ℕ) → AreTokens tokens bytes → length tokens ≤ length bytes
unfolding lexed
few_tokens tokens bytes h = few_from (length bytes) 0 bytes tokens (tokens_again tokens bytes h)

-- ---- what is read is so

abbrev pub Means : Parsed → List ℕ → Type 0
Means (is_file file) bytes = IsFile file bytes × (length bytes ≤ file_limit)
Means (outside item line) bytes = IsOutside item line bytes × (length bytes ≤ file_limit)
Means too_long bytes = file_limit < length bytes
Means (lexical code line) bytes = IsLexical code line bytes × (length bytes ≤ file_limit)

same_lines : (bytes : List ℕ) (tokens : List Token) → length (lines_at bytes tokens) ≡ length (kinds tokens)
same_lines bytes [] = refl
same_lines bytes (token ∷ tokens) = let same = same_lines bytes tokens in omega arith

pub same_kinds : (tokens : List Token) → length (kinds tokens) ≡ length tokens
same_kinds [] = refl
same_kinds (token ∷ tokens) = let same = same_kinds tokens in omega arith

items_mean : (bytes : List ℕ) (tokens : List Token) (read : ItemsRead) → AreTokens tokens bytes → length bytes ≤ file_limit → Stands read (kinds tokens) (lines_at bytes tokens) → Means (items_parsed read) bytes
items_mean bytes tokens (Ok read) spelled le h = (record { tokens = tokens; spelled = spelled; stand = h }, le)
items_mean bytes tokens (Err refused) spelled le h = (record { tokens = tokens; spelled = spelled; refused = h }, le)

tokens_mean : (body_of : List TokenKind → Option WrittenBody) (bytes : List ℕ) (read : Result (List Token) (LexCode × ℕ)) → Exactly body_of → lexed bytes ≡ read → length bytes ≤ file_limit
    → Means (tokens_parsed body_of bytes read) bytes
tokens_mean body_of bytes (Ok tokens) exact e le =
    items_mean bytes tokens (items_at body_of (length (kinds tokens)) (kinds tokens) (lines_at bytes tokens)) (tokens_sound tokens bytes e) le
    (items_sound body_of (length (kinds tokens)) (kinds tokens) (lines_at bytes tokens) exact (same_lines bytes tokens) (omega arith))
tokens_mean body_of bytes (Err fault) exact e le = (record { at = fault.1; refused = refused_sound fault.0 fault.1 bytes e; line_is = refl }, le)

pub parsed_means : (body_of : List TokenKind → Option WrittenBody) (bytes : List ℕ) → Exactly body_of → Means (parsed_by body_of bytes) bytes
unfolding parsed_by
parsed_means body_of bytes exact = go (nat_lt file_limit (length bytes)) refl
  where
    go : (b : Bool) → nat_lt file_limit (length bytes) ≡ b → Means (cond b too_long (tokens_parsed body_of bytes (lexed bytes))) bytes
    go true e = ltb-true file_limit (length bytes) e
    go false e = tokens_mean body_of bytes (lexed bytes) exact refl (ltb-false file_limit (length bytes) e)

-- ---- what is so is read

pub means_parsed : (body_of : List TokenKind → Option WrittenBody) (read : Parsed) (bytes : List ℕ) → Exactly body_of → Means read bytes → parsed_by body_of bytes ≡ read
unfolding parsed_by
means_parsed body_of (is_file file) bytes exact (h, le) =
    rw (
      le-ltb file_limit (length bytes) le,
      tokens_again h.tokens bytes h.spelled,
      items.items_again body_of (length (kinds h.tokens)) file.items (kinds h.tokens) (lines_at bytes h.tokens) exact h.stand (omega arith),
    ) refl
means_parsed body_of (outside item line) bytes exact (h, le) =
    rw (
      le-ltb file_limit (length bytes) le,
      tokens_again h.tokens bytes h.spelled,
      items.refused_again body_of (length (kinds h.tokens)) item line (kinds h.tokens) (lines_at bytes h.tokens) exact h.refused (omega arith),
    ) refl
means_parsed body_of too_long bytes exact lt = rw (lt-ltb file_limit (length bytes) lt) refl
means_parsed body_of (lexical code line) bytes exact (h, le) =
    rw (le-ltb file_limit (length bytes) le, refused_again code h.at bytes h.refused) (ap (lexical code) (sym h.line_is))

-- ---- the law

pub is_exactly : (body_of : List TokenKind → Option WrittenBody) (read : Parsed) (bytes : List ℕ) → Exactly body_of → Means read bytes ↔ (parsed_by body_of bytes ≡ read)
is_exactly body_of read bytes exact = (means_parsed body_of read bytes exact, λ e. rw e at (parsed_means body_of bytes exact))
