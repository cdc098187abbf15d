-- Reading the pieces of a file one after the other, as a loop does.
use Rattle.drl_lex.proofs.Common.{◌≡◌, ℕ, ◌+◌, ◌-◌, ◌<◌, ◌≤◌, ◌++◌, Bool, true, false, eqb, List, [], ◌∷◌, length, Option, Result, Ok, Err, refl, sym, ap, ◌∙◌}
use Rattle.drl_lex.proofs.Common.{arith, eqb-true, eqb-false, length-append, Token, TokenKind, LexCode, kept, IsLexFault, IsFirstFault, ReadToken, piece_at}
use Rattle.drl_lex.{proofs.Common.{lexed, ReadsTokens, AreTokens, IfErr, IsErrAnd, FailsLexing, GivesTokens}, specs.declared.fault.LexFault.{LexFault}}
use Rattle.drl_lex.specs.declared.fault.LexFault.TheVariants.{Refused, NoMemory}
use Rattle.drl_lex.specs.Tokens as p
use Rattle.drl_lex.proofs.{FileLaws.{reads_on, refused_again, ends_there}, PieceLaws.{Front, Stands, piece_sound}}

pub starts : (tokens : List Token) (bytes : List ℕ) → tokens ≡ [] → ReadsTokens 0 tokens bytes (length bytes - length bytes) bytes
starts tokens bytes e = let same : length bytes - length bytes ≡ 0 = omega arith in rw (e, same) p.done

read_of : (at b : ℕ) (bytes : List ℕ) (r : ReadToken (Option TokenKind)) (read : Option TokenKind × List ℕ) → Stands at (b ∷ bytes) r → r ≡ Ok read → Front (b ∷ bytes) read
read_of at b bytes (Ok found) read h e = let same : found ≡ read = cc in rw (← same) h
read_of at b bytes (Err fault) read h e = absurd cc

fault_of : (at b : ℕ) (bytes : List ℕ) (r : ReadToken (Option TokenKind)) (code : LexCode) (place : ℕ) → Stands at (b ∷ bytes) r → r ≡ Err (code, place) → IsLexFault at code place (b ∷ bytes)
fault_of at b bytes (Ok found) code place h e = absurd cc
fault_of at b bytes (Err fault) code place h e = let same : fault ≡ (code, place) = cc in rw same at h

pub piece_front : (at : ℕ) (rest : List ℕ) (read : Option TokenKind × List ℕ) → 0 < length rest → piece_at at rest ≡ Ok read → Front rest read
piece_front at [] read some e = absurd (omega arith)
piece_front at (b ∷ bytes) read some e = read_of at b bytes (piece_at at (b ∷ bytes)) read (piece_sound at b bytes) e

pub turn : (tokens : List Token) (all rest : List ℕ) (read : Option TokenKind × List ℕ) → length rest ≤ length all → ReadsTokens 0 tokens all (length all - length rest) rest → Front rest read
    → ReadsTokens 0 (tokens ++ kept (length all - length rest) (length rest - length read.1) read.0) all (length all - length read.1) read.1
turn tokens all rest read le h front =
    let len : length rest ≡ length front.text + length read.1 = ap length front.parts ∙ length-append front.text read.1 in
    let taken : length rest - length read.1 ≡ length front.text = omega arith in
    let end : length all - length read.1 ≡ (length all - length rest) + length front.text = omega arith in
    rw (taken, end) (reads_on 0 tokens all (length all - length rest) rest front.text read.1 read.0 h front.parts front.is)

pub shorter : (rest : List ℕ) (read : Option TokenKind × List ℕ) → Front rest read → length read.1 < length rest
shorter rest read front = let len = ap length front.parts ∙ length-append front.text read.1 in let some = front.some in omega arith

pub first_fault : (fault : LexFault) (tokens : List Token) (all rest : List ℕ) → 0 < length rest → ReadsTokens 0 tokens all (length all - length rest) rest → FailsLexing fault (piece_at (length all - length rest) rest)
    → IsFirstFault fault all
first_fault NoMemory tokens all rest some h e = tt
first_fault (Refused code place) tokens all [] some h e = absurd (omega arith)
first_fault (Refused code place) tokens all (b ∷ bytes) some h e = record {
  tokens = tokens;
  at = length all - length (b ∷ bytes);
  rest = b ∷ bytes;
  before = h;
  fault = fault_of (length all - length (b ∷ bytes)) b bytes (piece_at (length all - length (b ∷ bytes)) (b ∷ bytes)) code place (piece_sound (length all - length (b ∷ bytes)) b bytes) e;
}

pub fault_read : (fault : LexFault) (all : List ℕ) → IsFirstFault fault all → FailsLexing fault (lexed all)
fault_read NoMemory all h = tt
fault_read (Refused code place) all h = refused_again code place all h

pub not_empty : (rest : List ℕ) (b : Bool) → b ≡ eqb (length rest) 0 → b ≡ false → 0 < length rest
not_empty rest b e test = let some = eqb-false (length rest) 0 (sym e ∙ test) in omega arith

pub empty : (rest : List ℕ) (b : Bool) → b ≡ eqb (length rest) 0 → b ≡ true → rest ≡ []
empty [] b e test = refl
empty (x ∷ rest) b e test = let none = eqb-true (length (x ∷ rest)) 0 (sym e ∙ test) in absurd (omega arith)

-- the fault that a `?` hands on
pub told_err : {X : Type 0} (r : Result X LexFault) (e : LexFault) (P : LexFault → Type 0) → IsErrAnd r (λ y. y ≡ e) → P e → IfErr r P
told_err (Ok x) e P h p = tt
told_err (Err y) e P h p = rw h p

pub told_read : {X Y : Type 0} (view : X → Y) (r : Result X LexFault) (e : LexFault) (read : Result Y (LexCode × ℕ)) → IsErrAnd r (λ y. y ≡ e) → FailsLexing e read → GivesTokens view r read
told_read view (Ok x) e read h p = absurd h
told_read view (Err y) e read h p = rw h p

pub are_tokens : (tokens : List Token) (all rest : List ℕ) → ReadsTokens 0 tokens all (length all - length rest) rest → rest ≡ [] → AreTokens tokens all
are_tokens tokens all rest h e = let is = rw e at h in ends_there tokens all (length all - length {A = ℕ} []) is
