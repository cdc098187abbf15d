-- What stands at the front of the bytes is read.
use Rattle.drl_lex.proofs.Common.{◌≡◌, ℕ, ◌+◌, ◌^◌, ◌<◌, ◌≤◌, ◌++◌, Bool, true, false, cond, eqb, List, [], ◌∷◌, length, Option, Some, None, Ok, Err, refl, ap}
use Rattle.drl_lex.proofs.Common.{◌∙◌, arith, append_assoc, codes, IfSome, nat_lt, nat_le, list_all, is_ascii_digit, is_utf8, digits_value, eqb-true, nat_tests}
use Rattle.drl_lex.proofs.Common.{TokenKind, Word, Var, Number, Time, Text, Mark, LexCode, BadChar, OpenText, NumberLarge, Lead, Blank, Hash, Slash, Quote}
use Rattle.drl_lex.proofs.Common.{Dollar, Digit, Letter, Other, is_word_byte, is_run_byte, is_line_byte, begins, IsWithout, BeginsNothing, IsDigitRun, IsOpened}
use Rattle.drl_lex.proofs.Common.{IsLexFault, longest, behind_close, mark_text, lengthens, token_read, mark_read, number_kind, time_kind, run_kind, with_rest}
use Rattle.drl_lex.proofs.Common.{var_step, behind_block, text_step, content_at, time_of, IsNumeral, IsTime, IsText, Spells, longer, IsComment, IsPiece}
use Rattle.drl_lex.{proofs.Common.{OpenComment, begins_word, mark_at}, specs.{declared.token.Mark.{Mark as MarkData}, Bytes.{is_blank, is_quote}}}
use Rattle.std.proofs.lemmas.Bool.{and_parts}
use Rattle.drl_lex.specs.Faults as f
use Rattle.drl_lex.specs.{Leads.{lead_of}, Reading.{slash_at, word_at, var_at, run_at, text_at, piece_of, piece_at}, Texts.{utf8_text}}
use Rattle.drl_lex.specs.Tokens as p
use Rattle.drl_lex.proofs.{CommentLaws.{close_again, open_again}, FrontLaws.{longest_is, longest_again}, LeadLaws.{LeadIs, lead_is, letter_is_word_byte}}
use Rattle.drl_lex.proofs.{LeadLaws.{blank_lead, digit_lead, letter_lead, quote_lead}, MarkLaws.{MarkIs, mark_sound, mark_again}, PieceLaws.{mark_some}}
use Rattle.drl_lex.proofs.{RunLaws.{numeral_begins, numeral_runs, time_begins, time_runs, time_unit, number_again, other_again}, TimeLaws.{time_sound}}
use Rattle.drl_lex.proofs.TimeLaws.{time_again}
use Rattle.drl_lex.proofs.TextLaws as x
use Rattle.drl_lex.proofs.TextLaws.{Stops, closed_again, stopped_again}

-- ---- blanks and comments

blank_again : (at b : ℕ) (rest : List ℕ) → is_blank b ≡ true → piece_at at (b ∷ rest) ≡ Ok (None, rest)
unfolding piece_at piece_of
blank_again at b rest h = rw (blank_lead b h) refl

hash_again : (at : ℕ) (body rest : List ℕ) → list_all is_line_byte body ≡ true → begins is_line_byte rest ≡ false → piece_at at (35 ∷ (body ++ rest)) ≡ Ok (None, rest)
unfolding piece_at piece_of lead_of is_blank
hash_again at body rest all stop = rw (longest_again is_line_byte body rest all stop) refl

slashes_again : (at : ℕ) (body rest : List ℕ) → list_all is_line_byte body ≡ true → begins is_line_byte rest ≡ false → piece_at at (47 ∷ 47 ∷ (body ++ rest)) ≡ Ok (None, rest)
unfolding piece_at piece_of lead_of is_blank slash_at
slashes_again at body rest all stop = rw (longest_again is_line_byte body rest all stop) refl

block_again : (at : ℕ) (body rest : List ℕ) → IsWithout (codes "*/") body → piece_at at (47 ∷ 42 ∷ (body ++ (codes "*/" ++ rest))) ≡ Ok (None, rest)
unfolding piece_at piece_of lead_of is_blank slash_at
block_again at body rest h = rw (close_again body rest h) refl

comment_again : (at : ℕ) (text rest : List ℕ) → IsComment text rest → piece_at at (text ++ rest) ≡ Ok (None, rest)
comment_again at text rest (p.hash {body} e all stop) = rw e (hash_again at body rest all stop)
comment_again at text rest (p.slashes {body} e all stop) = rw e (slashes_again at body rest all stop)
comment_again at text rest (p.block {body} e h) =
    let same : text ++ rest ≡ 47 ∷ 42 ∷ (body ++ (codes "*/" ++ rest)) = rw e (ap (λ (bs : List ℕ). 47 ∷ 42 ∷ bs) (append_assoc body (codes "*/") rest)) in
    rw same (block_again at body rest h)

-- ---- tokens

name_again : (at : ℕ) (name rest : List ℕ) → begins begins_word name ≡ true → list_all is_word_byte name ≡ true → begins is_word_byte rest ≡ false → piece_at at (name ++ rest) ≡ Ok (Some (Word name), rest)
unfolding piece_at piece_of word_at
name_again at [] rest begin all stop = absurd cc
name_again at (b ∷ name) rest begin all stop = rw (letter_lead b begin, longest_again is_word_byte (b ∷ name) rest all stop) refl

var_again : (at : ℕ) (name rest : List ℕ) → 0 < length name → list_all is_word_byte name ≡ true → begins is_word_byte rest ≡ false → piece_at at (36 ∷ (name ++ rest)) ≡ Ok (Some (Var name), rest)
unfolding piece_at piece_of lead_of is_blank is_quote var_at
var_again at [] rest some all stop = absurd (omega arith)
var_again at (b ∷ name) rest some all stop = rw (longest_again is_word_byte (b ∷ name) rest all stop) refl

run_again : (at : ℕ) (run rest : List ℕ) → begins is_ascii_digit run ≡ true → list_all is_run_byte run ≡ true → begins is_run_byte rest ≡ false
    → piece_at at (run ++ rest) ≡ token_read (with_rest rest (run_kind at run))
unfolding piece_at piece_of run_at
run_again at [] rest begin all stop = absurd cc
run_again at (b ∷ run) rest begin all stop = rw (digit_lead b begin, longest_again is_run_byte (b ∷ run) rest all stop) refl

number_kind_is : (at n : ℕ) → n < 2 ^ 63 → number_kind at n ≡ Ok (Number n)
number_kind_is at n lt = rw (ltb_is n (2 ^ 63) lt) refl
  where
    ltb_is : (a b : ℕ) → a < b → nat_lt a b ≡ true
    ltb_is a b lt = grind (arith, nat_tests)

number_kind_large : (at n : ℕ) → 2 ^ 63 ≤ n → number_kind at n ≡ Err (NumberLarge, at)
number_kind_large at n le = rw (ltb_not n (2 ^ 63) le) refl
  where
    ltb_not : (a b : ℕ) → b ≤ a → nat_lt a b ≡ false
    ltb_not a b le = grind (arith, nat_tests)

time_kind_is : (at ms : ℕ) → ms ≤ 2 ^ 53 → time_kind at (Some ms) ≡ Ok (Time ms)
time_kind_is at ms le = rw (leb_is ms (2 ^ 53) le) refl
  where
    leb_is : (a b : ℕ) → a ≤ b → nat_le a b ≡ true
    leb_is a b le = grind (arith, nat_tests)

time_kind_large : (at ms : ℕ) → 2 ^ 53 < ms → time_kind at (Some ms) ≡ Err (NumberLarge, at)
time_kind_large at ms lt = rw (leb_not ms (2 ^ 53) lt) refl
  where
    leb_not : (a b : ℕ) → b < a → nat_le a b ≡ false
    leb_not a b lt = grind (arith, nat_tests)

number_token : (at n : ℕ) (text rest : List ℕ) → IsNumeral n text → n < 2 ^ 63 → begins is_run_byte rest ≡ false → piece_at at (text ++ rest) ≡ Ok (Some (Number n), rest)
number_token at n text rest h lt stop =
    run_again at text rest (numeral_begins n text h) (numeral_runs n text h) stop ∙ rw (number_again at n text h, number_kind_is at n lt) refl

time_token : (at ms : ℕ) (text rest : List ℕ) → IsTime ms text → ms ≤ 2 ^ 53 → begins is_run_byte rest ≡ false → piece_at at (text ++ rest) ≡ Ok (Some (Time ms), rest)
time_token at ms text rest h le stop =
    run_again at text rest (time_begins ms text h) (time_runs ms text h) stop
    ∙ rw (other_again at text (Some ms) (time_unit ms text h) (time_again ms text h), time_kind_is at ms le) refl

utf8_is : (content : List ℕ) (u : Bool) → is_utf8 content ≡ u → utf8_text content ≡ cond u (Some content) None
unfolding utf8_text
utf8_is content u e = rw e refl

quote_again : (at quote : ℕ) (bytes : List ℕ) → is_quote quote ≡ true → piece_at at (quote ∷ bytes) ≡ token_read (text_step at (content_at at quote (at + 1) bytes))
unfolding piece_at piece_of text_at
quote_again at quote bytes q = rw (quote_lead quote q) refl

text_token : (at : ℕ) (content text rest : List ℕ) → IsText content text → piece_at at (text ++ rest) ≡ Ok (Some (Text content), rest)
text_token at content text rest h =
    let same : text ++ rest ≡ h.quote ∷ (h.written ++ (h.quote ∷ rest)) = rw h.quoted (ap (λ (bs : List ℕ). h.quote ∷ bs) (append_assoc h.written (h.quote ∷ []) rest)) in
    ap (piece_at at) same ∙ quote_again at h.quote (h.written ++ (h.quote ∷ rest)) h.is_a_quote
    ∙ rw (closed_again at h.quote (at + 1) content h.written rest h.is_a_quote h.means, utf8_is content true h.utf8) refl

other_lead : (at b : ℕ) (bytes : List ℕ) → lead_of b ≡ Other → piece_at at (b ∷ bytes) ≡ mark_read at (mark_at b bytes)
unfolding piece_at piece_of
other_lead at b bytes e = rw e refl

mark_token : (at : ℕ) (mark : MarkData) (rest : List ℕ) → begins (lengthens mark) rest ≡ false → piece_at at (mark_text mark ++ rest) ≡ Ok (Some (Mark mark), rest)
mark_token at mark rest stop =
    let s = mark_again mark rest stop in
    ap (piece_at at) s.parts ∙ other_lead at s.first s.others s.lead ∙ rw s.read refl

token_again : (at : ℕ) (kind : TokenKind) (text rest : List ℕ) → Spells kind text → begins (longer kind) rest ≡ false → piece_at at (text ++ rest) ≡ Ok (Some kind, rest)
token_again at (Word name) text rest h stop = rw h.0 (name_again at name rest h.1 h.2 stop)
token_again at (Var name) text rest h stop = rw h.0 (var_again at name rest h.1 h.2 stop)
token_again at (Number n) text rest h stop = number_token at n text rest h.0 h.1 stop
token_again at (Time ms) text rest h stop = time_token at ms text rest h.0 h.1 stop
token_again at (Text content) text rest h stop = text_token at content text rest h
token_again at (Mark mark) text rest h stop = rw h (mark_token at mark rest stop)

pub piece_again : (at : ℕ) (kind : Option TokenKind) (text rest : List ℕ) → IsPiece kind text rest → piece_at at (text ++ rest) ≡ Ok (kind, rest)
piece_again at kind text rest (p.blank {b} h) = blank_again at b rest h
piece_again at kind text rest (p.comment h) = comment_again at text rest h
piece_again at kind text rest (p.token {kind = k} h stop) = token_again at k text rest h stop

kind_some : (kind : TokenKind) (text : List ℕ) → Spells kind text → 0 < length text
kind_some (Word []) text h = absurd cc
kind_some (Word (b ∷ name)) text h = rw h.0 (omega arith)
kind_some (Var name) text h = rw h.0 (omega arith)
kind_some (Number n) text h = h.0.some
kind_some (Time ms) [] h = let begin = time_begins ms [] h.0 in absurd cc
kind_some (Time ms) (b ∷ text) h = omega arith
kind_some (Text content) text h = rw h.quoted (omega arith)
kind_some (Mark mark) text h = rw h (mark_some mark)

comment_some : (text rest : List ℕ) → IsComment text rest → 0 < length text
comment_some text rest (p.hash {body} e all stop) = rw e (omega arith)
comment_some text rest (p.slashes {body} e all stop) = rw e (omega arith)
comment_some text rest (p.block {body} e h) = rw e (omega arith)

pub piece_some : (kind : Option TokenKind) (text rest : List ℕ) → IsPiece kind text rest → 0 < length text
piece_some kind text rest (p.blank h) = omega arith
piece_some kind text rest (p.comment h) = comment_some text rest h
piece_some kind text rest (p.token {kind = k} h stop) = kind_some k text h

-- ---- faults

no_slash : (at c : ℕ) (bytes : List ℕ) (u v : Bool) → eqb c 47 ≡ u → eqb c 42 ≡ v → BeginsNothing (47 ∷ c ∷ bytes)
    → cond u (Ok (longest is_line_byte bytes).1) (cond v (behind_block at (behind_close bytes)) (Err (BadChar, at))) ≡ Err (BadChar, at)
no_slash at c bytes true v e e1 h = absurd (h.no_slashes bytes (ap (λ (d : ℕ). 47 ∷ d ∷ bytes) (eqb-true c 47 e)))
no_slash at c bytes false true e e1 h = absurd (h.no_block bytes (ap (λ (d : ℕ). 47 ∷ d ∷ bytes) (eqb-true c 42 e1)))
no_slash at c bytes false false e e1 h = refl

slash_nothing : (at : ℕ) (bytes : List ℕ) → BeginsNothing (47 ∷ bytes) → slash_at at bytes ≡ Err (BadChar, at)
unfolding slash_at
slash_nothing at [] h = refl
slash_nothing at (c ∷ bytes) h = no_slash at c bytes (eqb c 47) (eqb c 42) refl refl h

no_var : (at : ℕ) (bytes name rest : List ℕ) → bytes ≡ name ++ rest → list_all is_word_byte name ≡ true → BeginsNothing (36 ∷ bytes) → var_step at name rest ≡ Err (BadChar, at)
no_var at bytes [] rest e all h = refl
no_var at bytes (c ∷ name) rest e all h =
    let first = (and_parts (is_word_byte c) (list_all is_word_byte name) all).0 in
    absurd (h.no_token (Var (c ∷ [])) (36 ∷ c ∷ []) (name ++ rest) (ap (λ (bs : List ℕ). 36 ∷ bs) e) (refl, omega arith, rw first refl))

var_nothing : (at : ℕ) (bytes : List ℕ) → BeginsNothing (36 ∷ bytes) → var_at at bytes ≡ Err (BadChar, at)
unfolding var_at
var_nothing at bytes h =
    let l = longest_is is_word_byte bytes in no_var at bytes (longest is_word_byte bytes).0 (longest is_word_byte bytes).1 l.parts l.passes h

no_mark : (at : ℕ) (bytes : List ℕ) (o : Option (MarkData × List ℕ)) → IfSome o (MarkIs bytes) → BeginsNothing bytes → mark_read at o ≡ Err (BadChar, at)
no_mark at bytes None is h = refl
no_mark at bytes (Some read) is h = absurd (h.no_token (Mark read.0) (mark_text read.0) read.1 is.parts refl)

nothing_of : (lead : Lead) (at b : ℕ) (bytes : List ℕ) → LeadIs b lead → BeginsNothing (b ∷ bytes) → piece_of lead at b bytes ≡ Err (BadChar, at)
unfolding piece_of
nothing_of Blank at b bytes is h = let no_blank = h.no_blank in absurd cc
nothing_of Hash at b bytes is h = absurd (h.no_hash bytes (ap (λ (c : ℕ). c ∷ bytes) is))
nothing_of Slash at b bytes is h = rw (slash_nothing at bytes (rw is at h)) refl
nothing_of Quote at b bytes is h = let no_text = h.no_text in absurd cc
nothing_of Dollar at b bytes is h = rw (var_nothing at bytes (rw is at h)) refl
nothing_of Digit at b bytes is h = let no_run = h.no_run in absurd cc
nothing_of Letter at b bytes is h = absurd (h.no_token (Word (b ∷ [])) (b ∷ []) bytes refl (refl, is, rw (letter_is_word_byte b is) refl))
nothing_of Other at b bytes is h = no_mark at (b ∷ bytes) (mark_at b bytes) (mark_sound b bytes) h

nothing_again : (at : ℕ) (bytes : List ℕ) → BeginsNothing bytes → piece_at at bytes ≡ Err (BadChar, at)
unfolding piece_at
nothing_again at [] h = let some = h.some in absurd (omega arith)
nothing_again at (b ∷ bytes) h = nothing_of (lead_of b) at b bytes (lead_is b) h

no_time_none : (run : List ℕ) (o : Option ℕ) → IfSome o (λ ms. IsTime ms run) → ((ms : ℕ) → IsTime ms run → ⊥) → o ≡ None
no_time_none run None h none = refl
no_time_none run (Some ms) h none = absurd (none ms h)

no_digits : (run : List ℕ) → begins is_ascii_digit run ≡ true → ((n : ℕ) → IsNumeral n run → ⊥) → list_all is_ascii_digit run ≡ true → ⊥
no_digits [] begin none all = cc
no_digits (b ∷ run) begin none all = none (digits_value 10 (b ∷ run)) (record { some = omega arith; digits = all; value = refl })

run_nothing : (at : ℕ) (run bytes : List ℕ) → IsDigitRun run bytes → ((n : ℕ) → IsNumeral n run → ⊥) → ((ms : ℕ) → IsTime ms run → ⊥) → piece_at at bytes ≡ Err (BadChar, at)
run_nothing at run bytes is none no_time =
    ap (piece_at at) is.parts ∙ run_again at run is.rest is.begin is.all is.stop
    ∙ rw (other_again at run None (no_digits run is.begin none) (no_time_none run (time_of run) (time_sound run) no_time)) refl

comment_nothing : (at : ℕ) (body : List ℕ) → IsWithout (codes "*/") body → piece_at at (47 ∷ 42 ∷ body) ≡ Err (OpenComment, at)
unfolding piece_at piece_of lead_of is_blank slash_at
comment_nothing at body h = rw (open_again body h) refl

text_nothing : (at quote : ℕ) (content written rest bytes : List ℕ) (fault : LexCode × ℕ) → IsOpened quote content written rest bytes → Stops at (at + 1 + length written) fault rest
    → piece_at at bytes ≡ Err fault
text_nothing at quote content written rest bytes fault is stops =
    ap (piece_at at) is.opened ∙ quote_again at quote (written ++ rest) is.is_a_quote
    ∙ rw (stopped_again at quote (at + 1) content written rest fault is.is_a_quote is.means stops) refl

pub fault_again : (at place : ℕ) (code : LexCode) (bytes : List ℕ) → IsLexFault at code place bytes → piece_at at bytes ≡ Err (code, place)
fault_again at place code bytes (f.no_token h) = nothing_again at bytes h
fault_again at place code bytes (f.no_number {run} is none no_time) = run_nothing at run bytes is none no_time
fault_again at place code bytes (f.large_number {n} {run} is h le) = rw is.parts (run_again at run is.rest is.begin is.all is.stop ∙ rw (number_again at n run h, number_kind_large at n le) refl)
fault_again at place code bytes (f.large_time {ms} {run} is h lt) =
    rw is.parts (run_again at run is.rest is.begin is.all is.stop ∙ rw (other_again at run (Some ms) (time_unit ms run h) (time_again ms run h), time_kind_large at ms lt) refl)
fault_again at place code bytes (f.open_comment {body} e h) = rw e (comment_nothing at body h)
fault_again at place code bytes (f.bad_escape {quote} {content} {written} {rest} is h) =
    let same : at + (1 + length written) ≡ at + 1 + length written = omega arith in
    rw same (text_nothing at quote content written (92 ∷ rest) bytes (BadChar, at + 1 + length written) is (x.bad_letter h))
fault_again at place code bytes (f.open_text {quote} {content} {written} {rest} is h) = text_nothing at quote content written rest bytes (OpenText, at) is (x.left_open h)
fault_again at place code bytes (f.no_utf8 {quote} {content} {written} {rest} is h) =
    rw is.opened (quote_again at quote (written ++ (quote ∷ rest)) is.is_a_quote
    ∙ rw (closed_again at quote (at + 1) content written rest is.is_a_quote is.means, utf8_is content false h) refl)

run_bytes : (run bytes : List ℕ) → IsDigitRun run bytes → 0 < length bytes
run_bytes [] bytes is = let begin = is.begin in absurd cc
run_bytes (b ∷ run) bytes is = rw is.parts (omega arith)

pub fault_some : (at place : ℕ) (code : LexCode) (bytes : List ℕ) → IsLexFault at code place bytes → 0 < length bytes
fault_some at place code bytes (f.no_token h) = h.some
fault_some at place code bytes (f.no_number {run} is none no_time) = run_bytes run bytes is
fault_some at place code bytes (f.large_number {run} is h le) = run_bytes run bytes is
fault_some at place code bytes (f.large_time {run} is h lt) = run_bytes run bytes is
fault_some at place code bytes (f.open_comment e h) = rw e (omega arith)
fault_some at place code bytes (f.bad_escape is h) = rw is.opened (omega arith)
fault_some at place code bytes (f.open_text is h) = rw is.opened (omega arith)
fault_some at place code bytes (f.no_utf8 is h) = rw is.opened (omega arith)
