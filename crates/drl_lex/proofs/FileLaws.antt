-- The bytes of a file are one list of tokens, or have one first fault, and that is what is read.
use Rattle.drl_lex.proofs.Common.{◌≡◌, ℕ, zero, suc, ◌+◌, ◌-◌, ◌<◌, ◌≤◌, ◌++◌, List, [], ◌∷◌, length, Option, Some, None, Result, Ok, Err, refl, sym, ap, ◌∙◌}
use Rattle.drl_lex.proofs.Common.{arith, length-append, append-nil, Token, TokenKind, LexCode, kept, IsLexFault, ReadToken, piece_at, IsPiece, ReadsTokens}
use Rattle.drl_lex.{proofs.Common.{AreTokens, IsRefused, with_token, behind_piece, lexed_step}, specs.Reading.{lexed_from, lexed}}
use Rattle.drl_lex.specs.Tokens as p
use Rattle.drl_lex.proofs.{PieceLaws.{Stands, piece_sound}, PiecesAgain.{piece_again, fault_again, piece_some, fault_some}}

-- ---- one piece more

pub reads_on : (first : ℕ) (tokens : List Token) (all : List ℕ) (at : ℕ) (rest text bytes : List ℕ) (kind : Option TokenKind) → ReadsTokens first tokens all at rest → rest ≡ text ++ bytes → IsPiece kind text bytes
    → ReadsTokens first (tokens ++ kept at (length text) kind) all (at + length text) bytes
reads_on first [] all at rest text bytes None p.done e is = p.skip e is p.done
reads_on first [] all at rest text bytes (Some kind) p.done e is = p.next e is p.done
reads_on first tokens all at rest text bytes kind (p.skip e0 is0 h) e is = p.skip e0 is0 (reads_on _ tokens _ at rest text bytes kind h e is)
reads_on first tokens all at rest text bytes kind (p.next {tokens = others} e0 is0 h) e is = p.next e0 is0 (reads_on _ others _ at rest text bytes kind h e is)

-- ---- what stands there is read

step_is : (n at : ℕ) (bytes : List ℕ) → 0 < length bytes → lexed_from (suc n) at bytes ≡ lexed_step at (length bytes) (piece_at at bytes) (lexed_from n)
unfolding lexed_from
step_is n at [] some = absurd (omega arith)
step_is n at (b ∷ bytes) some = refl

front_len : (text bytes : List ℕ) → length (text ++ bytes) - length bytes ≡ length text
front_len text bytes = rw length-append (omega arith)

piece_step : (n at : ℕ) (kind : Option TokenKind) (text bytes all : List ℕ) → all ≡ text ++ bytes → IsPiece kind text bytes
    → lexed_from (suc n) at all ≡ behind_piece at (length text) kind (lexed_from n (at + length text) bytes)
piece_step n at kind text bytes all e is =
    let some = piece_some kind text bytes is in
    let longer : 0 < length (text ++ bytes) = rw length-append (omega arith) in
    rw e (step_is n at (text ++ bytes) longer ∙ rw (piece_again at kind text bytes is, front_len text bytes) refl)

-- the tokens before, and what is read behind them
with_tokens : List Token → Result (List Token) (LexCode × ℕ) → Result (List Token) (LexCode × ℕ)
with_tokens tokens (Ok more) = Ok (tokens ++ more)
with_tokens tokens (Err fault) = Err fault

no_tokens : (r : Result (List Token) (LexCode × ℕ)) → with_tokens [] r ≡ r
unfolding with_tokens
no_tokens (Ok more) = refl
no_tokens (Err fault) = refl

one_more : (token : Token) (tokens : List Token) (r : Result (List Token) (LexCode × ℕ)) → with_token token (with_tokens tokens r) ≡ with_tokens (token ∷ tokens) r
unfolding with_tokens
one_more token tokens (Ok more) = refl
one_more token tokens (Err fault) = refl

shorter : (text bytes all : List ℕ) (n : ℕ) → all ≡ text ++ bytes → 0 < length text → length all ≤ suc n → length bytes ≤ n
shorter text bytes all n e some le = let len = ap length e ∙ length-append text bytes in omega arith

no_room : (text bytes all : List ℕ) → all ≡ text ++ bytes → 0 < length text → length all ≤ 0 → ⊥
no_room text bytes all e some le = let len = ap length e ∙ length-append text bytes in omega arith

-- what stands behind what was read is read next
read_before : (n at : ℕ) (tokens : List Token) (all : List ℕ) (end : ℕ) (rest : List ℕ) (r : Result (List Token) (LexCode × ℕ)) → ReadsTokens at tokens all end rest → length all ≤ n
    → ((m : ℕ) → length rest ≤ m → lexed_from m end rest ≡ r) → lexed_from n at all ≡ with_tokens tokens r
read_before n at [] all end rest r p.done le last = last n le ∙ sym (no_tokens r)
read_before zero at tokens all end rest r (p.skip {text} {bytes} e is h) le last = absurd (no_room text bytes all e (piece_some None text bytes is) le)
read_before (suc n) at tokens all end rest r (p.skip {text} {bytes} e is h) le last =
    piece_step n at None text bytes all e is ∙ read_before n (at + length text) tokens bytes end rest r h (shorter text bytes all n e (piece_some None text bytes is) le) last
read_before zero at tokens all end rest r (p.next {kind} {text} {bytes} e is h) le last = absurd (no_room text bytes all e (piece_some (Some kind) text bytes is) le)
read_before (suc n) at tokens all end rest r (p.next {kind} {tokens = others} {text} {bytes} e is h) le last =
    piece_step n at (Some kind) text bytes all e is
    ∙ ap (λ (read : Result (List Token) (LexCode × ℕ)). with_token (record { kind = kind; at = at; len = length text }) read)
    (read_before n (at + length text) others bytes end rest r h (shorter text bytes all n e (piece_some (Some kind) text bytes is) le) last)
    ∙ one_more (record { kind = kind; at = at; len = length text }) others r

nothing_left : (n at : ℕ) → lexed_from n at [] ≡ Ok []
unfolding lexed_from
nothing_left zero at = refl
nothing_left (suc n) at = refl

fault_left : (n at place : ℕ) (code : LexCode) (rest : List ℕ) → IsLexFault at code place rest → length rest ≤ n → lexed_from n at rest ≡ Err (code, place)
fault_left n at place code [] fault le = let some = fault_some at place code [] fault in absurd (omega arith)
fault_left zero at place code (b ∷ rest) fault le = absurd (omega arith)
fault_left (suc n) at place code (b ∷ rest) fault le = step_is n at (b ∷ rest) (omega arith) ∙ rw (fault_again at place code (b ∷ rest) fault) refl

pub tokens_again : (tokens : List Token) (bytes : List ℕ) → AreTokens tokens bytes → lexed bytes ≡ Ok tokens
unfolding lexed with_tokens
tokens_again tokens bytes h = read_before (length bytes) 0 tokens bytes (length bytes) [] (Ok []) h (omega arith) (λ m le. nothing_left m (length bytes)) ∙ ap (λ (ts : List Token). Ok ts) (append-nil tokens)

pub refused_again : (code : LexCode) (place : ℕ) (bytes : List ℕ) → IsRefused code place bytes → lexed bytes ≡ Err (code, place)
unfolding lexed with_tokens
refused_again code place bytes h =
    read_before (length bytes) 0 h.tokens bytes h.at h.rest (Err (code, place)) h.before (omega arith) (λ m le. fault_left m h.at place code h.rest h.fault le)

-- ---- what is read stands there

-- tokens up to the end, or up to a fault
pub record Refusal (at : ℕ) (bytes : List ℕ) (fault : LexCode × ℕ) : Type 0 where
  pub tokens : List Token
  pub end : ℕ
  pub rest : List ℕ
  pub before : ReadsTokens at tokens bytes end rest
  pub is_fault : IsLexFault end fault.0 fault.1 rest

abbrev LexedIs : ℕ → List ℕ → Result (List Token) (LexCode × ℕ) → Type 0
LexedIs at bytes (Ok tokens) = (end : ℕ) × ReadsTokens at tokens bytes end []
LexedIs at bytes (Err fault) = Refusal at bytes fault

behind_sound : (at : ℕ) (kind : Option TokenKind) (text bytes all : List ℕ) (more : Result (List Token) (LexCode × ℕ)) → all ≡ text ++ bytes → IsPiece kind text bytes → LexedIs (at + length text) bytes more
    → LexedIs at all (behind_piece at (length text) kind more)
behind_sound at None text bytes all (Ok tokens) e is h = (h.0, p.skip e is h.1)
behind_sound at None text bytes all (Err fault) e is h = record { tokens = h.tokens; end = h.end; rest = h.rest; before = p.skip e is h.before; is_fault = h.is_fault }
behind_sound at (Some kind) text bytes all (Ok tokens) e is h = (h.0, p.next e is h.1)
behind_sound at (Some kind) text bytes all (Err fault) e is h = record {
  tokens = record { kind = kind; at = at; len = length text } ∷ h.tokens;
  end = h.end;
  rest = h.rest;
  before = p.next e is h.before;
  is_fault = h.is_fault;
}

step_sound : (at b : ℕ) (bytes : List ℕ) (r : ReadToken (Option TokenKind)) (more : ℕ → List ℕ → Result (List Token) (LexCode × ℕ)) → Stands at (b ∷ bytes) r
    → ((k : ℕ) (rest : List ℕ) → length rest < length (b ∷ bytes) → LexedIs k rest (more k rest)) → LexedIs at (b ∷ bytes) (lexed_step at (length (b ∷ bytes)) r more)
step_sound at b bytes (Ok read) more h reads =
    let len : length (b ∷ bytes) ≡ length h.text + length read.1 = ap length h.parts ∙ length-append h.text read.1 in
    let some = h.some in
    let taken : length (b ∷ bytes) - length read.1 ≡ length h.text = omega arith in
    rw taken (behind_sound at read.0 h.text read.1 (b ∷ bytes) (more (at + length h.text) read.1) h.parts h.is (reads (at + length h.text) read.1 (omega arith)))
step_sound at b bytes (Err fault) more h reads = record { tokens = []; end = at; rest = b ∷ bytes; before = p.done; is_fault = h }

lexed_is : (n at : ℕ) (bytes : List ℕ) → length bytes ≤ n → LexedIs at bytes (lexed_from n at bytes)
unfolding lexed_from
lexed_is zero at [] le = (at, p.done)
lexed_is zero at (b ∷ bytes) le = absurd (omega arith)
lexed_is (suc n) at [] le = (at, p.done)
lexed_is (suc n) at (b ∷ bytes) le = step_sound at b bytes (piece_at at (b ∷ bytes)) (lexed_from n) (piece_sound at b bytes) (λ k rest lt. lexed_is n k rest (omega arith))

-- the offset at the end
reads_len : (at : ℕ) (tokens : List Token) (all : List ℕ) (end : ℕ) (rest : List ℕ) → ReadsTokens at tokens all end rest → at + length all ≡ end + length rest
reads_len at [] all end rest p.done = refl
reads_len at tokens all end rest (p.skip {text} {bytes} e is h) =
    let len = ap length e ∙ length-append text bytes in let more = reads_len (at + length text) tokens bytes end rest h in omega arith
reads_len at tokens all end rest (p.next {tokens = others} {text} {bytes} e is h) =
    let len = ap length e ∙ length-append text bytes in let more = reads_len (at + length text) others bytes end rest h in omega arith

pub ends_there : (tokens : List Token) (bytes : List ℕ) (end : ℕ) → ReadsTokens 0 tokens bytes end [] → AreTokens tokens bytes
ends_there tokens bytes end h = let len = reads_len 0 tokens bytes end [] h in let same : length bytes ≡ end = omega arith in rw same h

tokens_case : (tokens : List Token) (bytes : List ℕ) (r : Result (List Token) (LexCode × ℕ)) → LexedIs 0 bytes r → r ≡ Ok tokens → AreTokens tokens bytes
tokens_case tokens bytes (Ok read) h e = let same : read ≡ tokens = cc in rw (← same) (ends_there read bytes h.0 h.1)
tokens_case tokens bytes (Err fault) h e = absurd cc

refused_case : (code : LexCode) (place : ℕ) (bytes : List ℕ) (r : Result (List Token) (LexCode × ℕ)) → LexedIs 0 bytes r → r ≡ Err (code, place) → IsRefused code place bytes
refused_case code place bytes (Ok read) h e = absurd cc
refused_case code place bytes (Err fault) h e =
    let same : fault ≡ (code, place) = cc in
    let is = rw same at h.is_fault in
    record { tokens = h.tokens; at = h.end; rest = h.rest; before = h.before; fault = is }

pub tokens_sound : (tokens : List Token) (bytes : List ℕ) → lexed bytes ≡ Ok tokens → AreTokens tokens bytes
unfolding lexed
tokens_sound tokens bytes e = tokens_case tokens bytes (lexed_from (length bytes) 0 bytes) (lexed_is (length bytes) 0 bytes (omega arith)) e

pub refused_sound : (code : LexCode) (place : ℕ) (bytes : List ℕ) → lexed bytes ≡ Err (code, place) → IsRefused code place bytes
unfolding lexed
refused_sound code place bytes e = refused_case code place bytes (lexed_from (length bytes) 0 bytes) (lexed_is (length bytes) 0 bytes (omega arith)) e
