-- What stands between quotes is read, and nothing else.
use Rattle.drl_lex.proofs.Common.{◌≡◌, ℕ, ◌+◌, ◌++◌, ◌||◌, Bool, true, false, not, cond, eqb, List, [], ◌∷◌, length, Option, Some, None, Ok, Err, eq-eqb, refl}
use Rattle.drl_lex.proofs.Common.{ap, ◌∙◌, arith, is_some, eqb-true, nat_tests, append-nil, LexCode, BadChar, OpenText, Backslash, Plain, begins, ReadToken}
use Rattle.drl_lex.proofs.Common.{with_byte, escaped_byte, Closing, Newline, content_end, content_step, escape_step, IsContent}
use Rattle.drl_lex.specs.{declared.bytes.TextByte.{TextByte}, Bytes.{is_line_byte, is_quote}, Leads.{text_byte_of}, Reading.{content_at}}
use Rattle.drl_lex.specs.Texts as t
use Rattle.drl_lex.{specs.Texts.{is_plain}, proofs.TextTurns.{behind}}

-- ---- what is read stands there

-- where a content that is not closed stops: at a `\` that begins no escape, at a newline, or at the end
pub data Stops (at place : ℕ) : LexCode × ℕ → List ℕ → Type 0 where
  bad_letter : {rest : List ℕ} → begins (λ letter. is_some (escaped_byte letter)) rest ≡ false → Stops at place (BadChar, place) (92 ∷ rest)
  left_open : {rest : List ℕ} → begins is_line_byte rest ≡ false → Stops at place (OpenText, at) rest

pub record Closed (quote : ℕ) (bytes : List ℕ) (read : List ℕ × List ℕ) : Type 0 where
  pub written : List ℕ
  pub parts : bytes ≡ written ++ (quote ∷ read.1)
  pub means : IsContent quote read.0 written

pub record Stopped (at quote place : ℕ) (bytes : List ℕ) (fault : LexCode × ℕ) : Type 0 where
  pub content : List ℕ
  pub written : List ℕ
  pub rest : List ℕ
  pub parts : bytes ≡ written ++ rest
  pub means : IsContent quote content written
  pub stops : Stops at (place + length written) fault rest

abbrev pub ContentIs : ℕ → ℕ → ℕ → List ℕ → ReadToken (List ℕ) → Type 0
ContentIs at quote place bytes (Ok read) = Closed quote bytes read
ContentIs at quote place bytes (Err fault) = Stopped at quote place bytes fault

abbrev TextByteIs : ℕ → ℕ → TextByte → Type 0
TextByteIs quote b Closing = b ≡ quote
TextByteIs quote b Backslash = b ≡ 92
TextByteIs quote b Newline = b ≡ 10
TextByteIs quote b Plain = is_plain quote b ≡ true

choose : (P : TextByte → Type 0) (u : Bool) (x y : TextByte) → (u ≡ true → P x) → (u ≡ false → P y) → P (cond u x y)
choose P true x y here there = here refl
choose P false x y here there = there refl

text_byte_is : (quote b : ℕ) → TextByteIs quote b (text_byte_of quote b)
unfolding text_byte_of is_plain
text_byte_is quote b =
    choose (TextByteIs quote b) (eqb b quote) _ _ (λ h. eqb-true b quote h) (λ no_quote.
    choose (TextByteIs quote b) (eqb b 92) _ _ (λ h. eqb-true b 92 h) (λ no_backslash.
    choose (TextByteIs quote b) (eqb b 10) _ _ (λ h. eqb-true b 10 h) (λ no_newline. rw (no_quote, no_backslash, no_newline) refl)))

stop_here : (at quote place : ℕ) (bytes : List ℕ) (fault : LexCode × ℕ) → Stops at place fault bytes → Stopped at quote place bytes fault
stop_here at quote place bytes fault h = record { content = []; written = []; rest = bytes; parts = refl; means = t.nothing; stops = let same : place + length {A = ℕ} [] ≡ place = omega arith in rw same h }

no_line : (b : ℕ) (bytes : List ℕ) → b ≡ 10 → begins is_line_byte (b ∷ bytes) ≡ false
unfolding is_line_byte
no_line b bytes e = rw e refl

one_byte : (at quote place b : ℕ) (bytes : List ℕ) (more : ReadToken (List ℕ)) → is_plain quote b ≡ true → ContentIs at quote (place + 1) bytes more → ContentIs at quote place (b ∷ bytes) (with_byte b more)
one_byte at quote place b bytes (Ok read) is h = record { written = b ∷ h.written; parts = ap (λ (bs : List ℕ). b ∷ bs) h.parts; means = t.plain is h.means }
one_byte at quote place b bytes (Err fault) is h = record {
  content = b ∷ h.content;
  written = b ∷ h.written;
  rest = h.rest;
  parts = ap (λ (bs : List ℕ). b ∷ bs) h.parts;
  means = t.plain is h.means;
  stops = let same : place + length (b ∷ h.written) ≡ place + 1 + length h.written = omega arith in rw same h.stops;
}

escaped : (at quote place b letter meant : ℕ) (bytes : List ℕ) (more : ReadToken (List ℕ)) → b ≡ 92 → escaped_byte letter ≡ Some meant → ContentIs at quote (place + 2) bytes more
    → ContentIs at quote place (b ∷ letter ∷ bytes) (with_byte meant more)
escaped at quote place b letter meant bytes (Ok read) e is h = record {
  written = 92 ∷ letter ∷ h.written;
  parts = rw e (ap (λ (bs : List ℕ). 92 ∷ letter ∷ bs) h.parts);
  means = t.escape is h.means;
}
escaped at quote place b letter meant bytes (Err fault) e is h = record {
  content = meant ∷ h.content;
  written = 92 ∷ letter ∷ h.written;
  rest = h.rest;
  parts = rw e (ap (λ (bs : List ℕ). 92 ∷ letter ∷ bs) h.parts);
  means = t.escape is h.means;
  stops = let same : place + length (92 ∷ letter ∷ h.written) ≡ place + 2 + length h.written = omega arith in rw same h.stops;
}

end_sound : (at quote place b : ℕ) (byte : TextByte) → TextByteIs quote b byte → ContentIs at quote place (b ∷ []) (content_end at place byte)
end_sound at quote place b Closing is = record { written = []; parts = ap (λ (x : ℕ). x ∷ []) is; means = t.nothing }
end_sound at quote place b Backslash is = rw is (stop_here at quote place (92 ∷ []) (BadChar, place) (bad_letter refl))
end_sound at quote place b Newline is = stop_here at quote place (b ∷ []) (OpenText, at) (left_open (no_line b [] is))
end_sound at quote place b Plain is = record { content = b ∷ []; written = b ∷ []; rest = []; parts = refl; means = t.plain is t.nothing; stops = left_open refl }

escape_sound : (at quote place b c : ℕ) (bytes : List ℕ) (o : Option ℕ) (more : ReadToken (List ℕ)) → b ≡ 92 → escaped_byte c ≡ o → ContentIs at quote (place + 2) bytes more
    → ContentIs at quote place (b ∷ c ∷ bytes) (escape_step place o more)
escape_sound at quote place b c bytes (Some meant) more e is h = escaped at quote place b c meant bytes more e is h
escape_sound at quote place b c bytes None more e is h = rw e (stop_here at quote place (92 ∷ c ∷ bytes) (BadChar, place) (bad_letter (ap is_some is)))

step_sound : (at quote place b c : ℕ) (bytes : List ℕ) (byte : TextByte) (one two : ReadToken (List ℕ)) → TextByteIs quote b byte → ContentIs at quote (place + 1) (c ∷ bytes) one → ContentIs at quote (place + 2) bytes two
    → ContentIs at quote place (b ∷ c ∷ bytes) (content_step at place byte b c bytes one two)
step_sound at quote place b c bytes Closing one two is h1 h2 = record { written = []; parts = ap (λ (x : ℕ). x ∷ c ∷ bytes) is; means = t.nothing }
step_sound at quote place b c bytes Backslash one two is h1 h2 = escape_sound at quote place b c bytes (escaped_byte c) two is refl h2
step_sound at quote place b c bytes Newline one two is h1 h2 = stop_here at quote place (b ∷ c ∷ bytes) (OpenText, at) (left_open (no_line b (c ∷ bytes) is))
step_sound at quote place b c bytes Plain one two is h1 h2 = one_byte at quote place b (c ∷ bytes) one is h1

pub content_sound : (at quote place : ℕ) (bytes : List ℕ) → ContentIs at quote place bytes (content_at at quote place bytes)
unfolding content_at
content_sound at quote place [] = stop_here at quote place [] (OpenText, at) (left_open refl)
content_sound at quote place (b ∷ []) = end_sound at quote place b (text_byte_of quote b) (text_byte_is quote b)
content_sound at quote place (b ∷ c ∷ bytes) =
    step_sound at quote place b c bytes (text_byte_of quote b) _ _ (text_byte_is quote b) (content_sound at quote (place + 1) (c ∷ bytes)) (content_sound at quote (place + 2) bytes)

-- ---- what stands there is read

plain_cases : (p q r : Bool) → not (p || (q || r)) ≡ true → cond p Closing (cond q Backslash (cond r Newline Plain)) ≡ Plain
plain_cases true q r h = absurd cc
plain_cases false true r h = absurd cc
plain_cases false false true h = absurd cc
plain_cases false false false h = refl

plain_byte : (quote b : ℕ) → is_plain quote b ≡ true → text_byte_of quote b ≡ Plain
unfolding is_plain text_byte_of
plain_byte quote b h = plain_cases (eqb b quote) (eqb b 92) (eqb b 10) h

quote_byte : (quote : ℕ) → text_byte_of quote quote ≡ Closing
unfolding text_byte_of
quote_byte quote = rw (eq-eqb quote quote refl) refl

no_backslash : (quote : ℕ) → is_quote quote ≡ true → eqb 92 quote ≡ false
unfolding is_quote
no_backslash quote h = grind (arith, nat_tests)

no_newline : (quote : ℕ) → is_quote quote ≡ true → eqb 10 quote ≡ false
unfolding is_quote
no_newline quote h = grind (arith, nat_tests)

backslash_byte : (quote : ℕ) → is_quote quote ≡ true → text_byte_of quote 92 ≡ Backslash
unfolding text_byte_of
backslash_byte quote h = rw (no_backslash quote h) refl

newline_byte : (quote b : ℕ) → is_quote quote ≡ true → b ≡ 10 → text_byte_of quote b ≡ Newline
unfolding text_byte_of
newline_byte quote b h e = rw (e, no_newline quote h) refl

plain_at : (at quote place b : ℕ) (bytes : List ℕ) → text_byte_of quote b ≡ Plain → content_at at quote place (b ∷ bytes) ≡ with_byte b (content_at at quote (place + 1) bytes)
unfolding content_at
plain_at at quote place b [] e = rw e refl
plain_at at quote place b (c ∷ bytes) e = rw e refl

escape_at : (at quote place letter meant : ℕ) (bytes : List ℕ) → text_byte_of quote 92 ≡ Backslash → escaped_byte letter ≡ Some meant
    → content_at at quote place (92 ∷ letter ∷ bytes) ≡ with_byte meant (content_at at quote (place + 2) bytes)
unfolding content_at
escape_at at quote place letter meant bytes e is = rw (e, is) refl

behind_more : (b : ℕ) (content : List ℕ) (read : ReadToken (List ℕ)) → with_byte b (behind content read) ≡ behind (b ∷ content) read
behind_more b content (Ok read) = refl
behind_more b content (Err fault) = refl

behind_none : (read : ReadToken (List ℕ)) → read ≡ behind [] read
behind_none (Ok read) = refl
behind_none (Err fault) = refl

-- the bytes that were read, and those behind them
content_before : (at quote : ℕ) (content written tail : List ℕ) → is_quote quote ≡ true → IsContent quote content written → (place : ℕ)
    → content_at at quote place (written ++ tail) ≡ behind content (content_at at quote (place + length written) tail)
content_before at quote [] [] tail q t.nothing place =
    let same : place + length {A = ℕ} [] ≡ place = omega arith in rw same (behind_none (content_at at quote place tail))
content_before at quote content written tail q (t.plain {b} {content = more} {written = others} is h) place =
    let same : place + length (b ∷ others) ≡ place + 1 + length others = omega arith in
    plain_at at quote place b (others ++ tail) (plain_byte quote b is)
    ∙ ap (λ (r : ReadToken (List ℕ)). with_byte b r) (content_before at quote more others tail q h (place + 1))
    ∙ rw same (behind_more b more (content_at at quote (place + 1 + length others) tail))
content_before at quote content written tail q (t.escape {letter} {b} {content = more} {written = others} is h) place =
    let same : place + length (92 ∷ letter ∷ others) ≡ place + 2 + length others = omega arith in
    escape_at at quote place letter b (others ++ tail) (backslash_byte quote q) is
    ∙ ap (λ (r : ReadToken (List ℕ)). with_byte b r) (content_before at quote more others tail q h (place + 2))
    ∙ rw same (behind_more b more (content_at at quote (place + 2 + length others) tail))

closes_at : (at quote place : ℕ) (rest : List ℕ) → content_at at quote place (quote ∷ rest) ≡ Ok ([], rest)
unfolding content_at
closes_at at quote place [] = rw quote_byte refl
closes_at at quote place (c ∷ rest) = rw quote_byte refl

no_letter : (o : Option ℕ) (place : ℕ) (more : ReadToken (List ℕ)) → is_some o ≡ false → escape_step place o more ≡ Err (BadChar, place)
no_letter None place more e = refl
no_letter (Some b) place more e = absurd cc

newline_is : (b : ℕ) → is_line_byte b ≡ false → b ≡ 10
unfolding is_line_byte
newline_is b h = not_false (eqb b 10) h (λ e. eqb-true b 10 e)
  where
    not_false : (u : Bool) → not u ≡ false → (u ≡ true → b ≡ 10) → b ≡ 10
    not_false true h is = is refl
    not_false false h is = absurd cc

stops_at : (at quote place : ℕ) (fault : LexCode × ℕ) (rest : List ℕ) → is_quote quote ≡ true → Stops at place fault rest → content_at at quote place rest ≡ Err fault
unfolding content_at
stops_at at quote place fault rest q (bad_letter {rest = []} h) = rw (backslash_byte quote q) refl
stops_at at quote place fault rest q (bad_letter {rest = c ∷ others} h) = rw (backslash_byte quote q) (no_letter (escaped_byte c) place _ h)
stops_at at quote place fault [] q (left_open h) = refl
stops_at at quote place fault (b ∷ []) q (left_open h) = rw (newline_byte quote b q (newline_is b h)) refl
stops_at at quote place fault (b ∷ c ∷ rest) q (left_open h) = rw (newline_byte quote b q (newline_is b h)) refl

pub closed_again : (at quote place : ℕ) (content written rest : List ℕ) → is_quote quote ≡ true → IsContent quote content written → content_at at quote place (written ++ (quote ∷ rest)) ≡ Ok (content, rest)
closed_again at quote place content written rest q h =
    content_before at quote content written (quote ∷ rest) q h place ∙ rw (closes_at at quote (place + length written) rest, append-nil content) refl

pub stopped_again : (at quote place : ℕ) (content written rest : List ℕ) (fault : LexCode × ℕ) → is_quote quote ≡ true → IsContent quote content written → Stops at (place + length written) fault rest
    → content_at at quote place (written ++ rest) ≡ Err fault
stopped_again at quote place content written rest fault q h stops =
    content_before at quote content written rest q h place ∙ ap (λ (r : ReadToken (List ℕ)). behind content r) (stops_at at quote (place + length written) fault rest q stops)
