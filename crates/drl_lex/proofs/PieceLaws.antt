-- What is read at the front of the bytes stands there: a blank, a comment, a token, or a fault.
use Rattle.drl_lex.proofs.Common.{◌≡◌, ℕ, ◌+◌, ◌<◌, ◌++◌, Bool, true, false, cond, eqb, List, [], ◌∷◌, length, Option, Some, None, Result, Ok, Err, eq-eqb}
use Rattle.drl_lex.proofs.Common.{refl, ap, ◌∙◌, arith, append_assoc, codes, is_some, IfSome, list_all, is_ascii_digit, is_utf8, eqb-true, length-append}
use Rattle.drl_lex.proofs.Common.{TokenKind, Word, Var, Number, Time, Text, Mark, Assign, Comparison, Equal, Less, LessOrEqual, Greater, GreaterOrEqual}
use Rattle.drl_lex.proofs.Common.{LexCode, BadChar, Lead, Blank, Hash, Slash, Quote, Dollar, Digit, Letter, Other, is_word_byte, is_run_byte, is_line_byte}
use Rattle.drl_lex.proofs.Common.{begins, BeginsNothing, IsDigitRun, IsOpened, IsLexFault, behind_close, mark_text, lengthens, ReadToken, behind_block}
use Rattle.drl_lex.proofs.Common.{token_read, mark_read, var_step, run_kind, with_rest, text_step, content_at, Spells, longer, IsComment, IsPiece, lead_of}
use Rattle.drl_lex.{proofs.Common.{comment_read, text_read}, specs.{declared.token.Mark.{Mark as MarkData}, Bytes.{is_blank, begins_word, is_quote}}}
use Rattle.std.proofs.lemmas.Bool.{and_parts}
use Rattle.drl_lex.specs.Faults as f
use Rattle.drl_lex.specs.{Fronts.{longest}, MarkReading.{mark_at, single_mark, double_mark}, Reading.{slash_at, word_at, var_at, run_at, text_at, piece_of}}
use Rattle.drl_lex.specs.{Reading.{piece_at}, Texts.{utf8_text}}
use Rattle.drl_lex.specs.Tokens as p
use Rattle.drl_lex.proofs.{CommentLaws.{CloseIs, close_is}, FrontLaws.{longest_is}, LeadLaws.{IsOther, LeadIs, lead_is, digit_runs, letter_is_word_byte}}
use Rattle.drl_lex.proofs.{MarkLaws.{MarkIs, mark_sound, mark_again}, RunLaws.{KindIs, run_kind_sound, numeral_begins, time_begins}, TextLaws.{Stops, Closed}}
use Rattle.drl_lex.proofs.TextLaws.{ContentIs, content_sound}
use Rattle.drl_lex.proofs.TextLaws as x

-- a piece at the front, and the bytes behind it
pub record Front (bytes : List ℕ) (read : Option TokenKind × List ℕ) : Type 0 where
  pub text : List ℕ
  pub parts : bytes ≡ text ++ read.1
  pub some : 0 < length text
  pub is : IsPiece read.0 text read.1

abbrev pub Stands : ℕ → List ℕ → ReadToken (Option TokenKind) → Type 0
Stands at bytes (Ok read) = Front bytes read
Stands at bytes (Err fault) = IsLexFault at fault.0 fault.1 bytes

-- ---- what a token begins with

head_is : (a b : ℕ) (xs ys : List ℕ) → a ∷ xs ≡ b ∷ ys → a ≡ b
head_is a b xs ys e = cc

tail_is : (a b : ℕ) (xs ys : List ℕ) → a ∷ xs ≡ b ∷ ys → xs ≡ ys
tail_is a b xs ys e = cc

begins_same : (test : ℕ → Bool) (text rest : List ℕ) (b : ℕ) (bytes : List ℕ) → b ∷ bytes ≡ text ++ rest → begins test text ≡ true → test b ≡ true
begins_same test [] rest b bytes e h = absurd cc
begins_same test (c ∷ text) rest b bytes e h = rw (head_is b c bytes (text ++ rest) e) h

abbrev TokenBegins : TokenKind → ℕ → List ℕ → Type 0
TokenBegins (Word name) b bytes = begins_word b ≡ true
TokenBegins (Var name) b bytes = (b ≡ 36) × (begins is_word_byte bytes ≡ true)
TokenBegins (Number n) b bytes = is_ascii_digit b ≡ true
TokenBegins (Time ms) b bytes = is_ascii_digit b ≡ true
TokenBegins (Text content) b bytes = is_quote b ≡ true
TokenBegins (Mark mark) b bytes = is_some (mark_at b bytes) ≡ true

grown : (mark : MarkData) (rest : List ℕ) (b : ℕ) (bytes : List ℕ) → b ∷ bytes ≡ mark_text mark ++ rest → begins (lengthens mark) rest ≡ true → is_some (mark_at b bytes) ≡ true
unfolding mark_at double_mark
grown Assign (c ∷ rest) b bytes e h = rw (head_is b 61 bytes (c ∷ rest) e, tail_is b 61 bytes (c ∷ rest) e, h) refl
grown (Comparison Less) (c ∷ rest) b bytes e h = rw (head_is b 60 bytes (c ∷ rest) e, tail_is b 60 bytes (c ∷ rest) e, h) refl
grown (Comparison Greater) (c ∷ rest) b bytes e h = rw (head_is b 62 bytes (c ∷ rest) e, tail_is b 62 bytes (c ∷ rest) e, h) refl
grown mark [] b bytes e h = absurd cc
grown mark (c ∷ rest) b bytes e h = absurd cc

mark_begins : (u : Bool) (mark : MarkData) (rest : List ℕ) (b : ℕ) (bytes : List ℕ) → begins (lengthens mark) rest ≡ u → b ∷ bytes ≡ mark_text mark ++ rest → is_some (mark_at b bytes) ≡ true
mark_begins true mark rest b bytes h e = grown mark rest b bytes e h
mark_begins false mark rest b bytes h e =
    let s = mark_again mark rest h in
    let same : b ∷ bytes ≡ s.first ∷ s.others = e ∙ s.parts in
    rw (head_is b s.first bytes s.others same, tail_is b s.first bytes s.others same, s.read) refl

var_begins : (name rest : List ℕ) (b : ℕ) (bytes : List ℕ) → b ∷ bytes ≡ 36 ∷ (name ++ rest) → 0 < length name → list_all is_word_byte name ≡ true → (b ≡ 36) × (begins is_word_byte bytes ≡ true)
var_begins [] rest b bytes e some all = absurd (omega arith)
var_begins (c ∷ name) rest b bytes e some all =
    (head_is b 36 bytes (c ∷ (name ++ rest)) e, rw (tail_is b 36 bytes (c ∷ (name ++ rest)) e) (and_parts (is_word_byte c) (list_all is_word_byte name) all).0)

token_begins : (kind : TokenKind) (text rest : List ℕ) (b : ℕ) (bytes : List ℕ) → b ∷ bytes ≡ text ++ rest → Spells kind text → TokenBegins kind b bytes
token_begins (Word name) text rest b bytes e h = begins_same begins_word name rest b bytes (rw h.0 at e) h.1
token_begins (Var name) text rest b bytes e h = var_begins name rest b bytes (rw h.0 at e) h.1 h.2
token_begins (Number n) text rest b bytes e h = begins_same is_ascii_digit text rest b bytes e (numeral_begins n text h.0)
token_begins (Time ms) text rest b bytes e h = begins_same is_ascii_digit text rest b bytes e (time_begins ms text h.0)
token_begins (Text content) text rest b bytes e h = begins_same is_quote text rest b bytes e (rw h.quoted h.is_a_quote)
token_begins (Mark mark) text rest b bytes e h = mark_begins (begins (lengthens mark) rest) mark rest b bytes refl (rw h at e)

-- ---- bytes with which nothing begins

-- what is known of a byte that begins nothing before these bytes
record Nothing (b : ℕ) (bytes : List ℕ) : Type 0 where
  no_blank : is_blank b ≡ false
  no_hash : b ≡ 35 → ⊥
  no_slash : b ≡ 47 → (begins (λ c. eqb c 47) bytes ≡ false) × (begins (λ c. eqb c 42) bytes ≡ false)
  no_quote : is_quote b ≡ false
  no_name : b ≡ 36 → begins is_word_byte bytes ≡ false
  no_digit : is_ascii_digit b ≡ false
  no_letter : begins_word b ≡ false
  no_mark : mark_at b bytes ≡ None

no_kind : (b : ℕ) (bytes : List ℕ) → Nothing b bytes → (kind : TokenKind) → TokenBegins kind b bytes → ⊥
no_kind b bytes n (Word name) h = let no_letter = n.no_letter in cc
no_kind b bytes n (Var name) h = let no_name = n.no_name h.0 in let name_here = h.1 in cc
no_kind b bytes n (Number k) h = let no_digit = n.no_digit in cc
no_kind b bytes n (Time ms) h = let no_digit = n.no_digit in cc
no_kind b bytes n (Text content) h = let no_quote = n.no_quote in cc
no_kind b bytes n (Mark mark) h = let clash = rw n.no_mark at h in cc

second_is : (b c : ℕ) (bytes rest : List ℕ) → b ∷ bytes ≡ 47 ∷ c ∷ rest → begins (λ d. eqb d c) bytes ≡ false → ⊥
second_is b c bytes rest e h = let same = tail_is b 47 bytes (c ∷ rest) e in let clash = rw (same, eq-eqb c c refl) at h in cc

begins_nothing : (b : ℕ) (bytes : List ℕ) → Nothing b bytes → BeginsNothing (b ∷ bytes)
begins_nothing b bytes n = record {
  some = omega arith;
  no_blank = n.no_blank;
  no_hash = λ rest e. n.no_hash (head_is b 35 bytes rest e);
  no_slashes = λ rest e. second_is b 47 bytes rest e (n.no_slash (head_is b 47 bytes (47 ∷ rest) e)).0;
  no_block = λ rest e. second_is b 42 bytes rest e (n.no_slash (head_is b 47 bytes (42 ∷ rest) e)).1;
  no_text = n.no_quote;
  no_run = n.no_digit;
  no_token = λ kind text rest e h. no_kind b bytes n kind (token_begins kind text rest b bytes e h);
}

-- ---- comments

no_slash_mark : (bytes : List ℕ) → mark_at 47 bytes ≡ None
unfolding mark_at single_mark double_mark
no_slash_mark [] = refl
no_slash_mark (c ∷ bytes) = refl

lone_slash : (bytes : List ℕ) → begins (λ c. eqb c 47) bytes ≡ false → begins (λ c. eqb c 42) bytes ≡ false → Nothing 47 bytes
unfolding is_blank is_quote begins_word
lone_slash bytes no_slash no_star = record {
  no_blank = refl;
  no_hash = λ e. omega arith;
  no_slash = λ e. (no_slash, no_star);
  no_quote = refl;
  no_name = λ e. absurd (omega arith);
  no_digit = refl;
  no_letter = refl;
  no_mark = no_slash_mark bytes;
}

line_front : (at : ℕ) (opening bytes : List ℕ) → 0 < length opening
    → ((text body rest : List ℕ) → text ≡ opening ++ body → list_all is_line_byte body ≡ true → begins is_line_byte rest ≡ false → IsComment text rest)
    → Front (opening ++ bytes) (None, (longest is_line_byte bytes).1)
line_front at opening bytes some comment =
    let h = longest_is is_line_byte bytes in
    let body = (longest is_line_byte bytes).0 in
    record {
      text = opening ++ body;
      parts = ap (λ (bs : List ℕ). opening ++ bs) h.parts ∙ simp append_assoc;
      some = rw length-append (omega arith);
      is = p.comment (comment (opening ++ body) body (longest is_line_byte bytes).1 refl h.passes h.stop);
    }

block_sound : (at : ℕ) (bytes : List ℕ) (o : Option (List ℕ)) → CloseIs bytes o → Stands at (47 ∷ 42 ∷ bytes) (comment_read (behind_block at o))
block_sound at bytes (Some rest) h = record {
  text = codes "/*" ++ (h.body ++ codes "*/");
  parts = ap (λ (bs : List ℕ). 47 ∷ 42 ∷ bs) (h.parts ∙ simp append_assoc);
  some = omega arith;
  is = p.comment (p.block refl h.first);
}
block_sound at bytes None h = f.open_comment refl h

slash_case : (at b : ℕ) (bytes : List ℕ) (u v : Bool) → eqb b 47 ≡ u → eqb b 42 ≡ v
    → Stands at (47 ∷ b ∷ bytes) (comment_read (cond u (Ok (longest is_line_byte bytes).1) (cond v (behind_block at (behind_close bytes)) (Err (BadChar, at)))))
slash_case at b bytes true v e e1 = rw (eqb-true b 47 e) (line_front at (codes "//") bytes (omega arith) (λ text body rest e all stop. p.slashes e all stop))
slash_case at b bytes false true e e1 = rw (eqb-true b 42 e1) (block_sound at bytes (behind_close bytes) (close_is bytes))
slash_case at b bytes false false e e1 = f.no_token (begins_nothing 47 (b ∷ bytes) (lone_slash (b ∷ bytes) e e1))

slash_sound : (at : ℕ) (bytes : List ℕ) → Stands at (47 ∷ bytes) (comment_read (slash_at at bytes))
unfolding slash_at
slash_sound at [] = f.no_token (begins_nothing 47 [] (lone_slash [] refl refl))
slash_sound at (b ∷ bytes) = slash_case at b bytes (eqb b 47) (eqb b 42) refl refl

-- ---- variables, words, runs

no_dollar_mark : (bytes : List ℕ) → mark_at 36 bytes ≡ None
unfolding mark_at single_mark double_mark
no_dollar_mark [] = refl
no_dollar_mark (c ∷ bytes) = refl

lone_dollar : (bytes : List ℕ) → begins is_word_byte bytes ≡ false → Nothing 36 bytes
unfolding is_blank is_quote begins_word
lone_dollar bytes no_name = record {
  no_blank = refl;
  no_hash = λ e. omega arith;
  no_slash = λ e. absurd (omega arith);
  no_quote = refl;
  no_name = λ e. no_name;
  no_digit = refl;
  no_letter = refl;
  no_mark = no_dollar_mark bytes;
}

var_case : (at : ℕ) (bytes name rest : List ℕ) → bytes ≡ name ++ rest → list_all is_word_byte name ≡ true → begins is_word_byte rest ≡ false → Stands at (36 ∷ bytes) (token_read (var_step at name rest))
var_case at bytes [] rest parts all stop = f.no_token (begins_nothing 36 bytes (lone_dollar bytes (rw parts stop)))
var_case at bytes (b ∷ name) rest parts all stop = record {
  text = 36 ∷ b ∷ name;
  parts = ap (λ (bs : List ℕ). 36 ∷ bs) parts;
  some = omega arith;
  is = p.token (refl, omega arith, all) stop;
}

var_sound : (at : ℕ) (bytes : List ℕ) → Stands at (36 ∷ bytes) (token_read (var_at at bytes))
unfolding var_at
var_sound at bytes = let h = longest_is is_word_byte bytes in var_case at bytes (longest is_word_byte bytes).0 (longest is_word_byte bytes).1 h.parts h.passes h.stop

front_first : (test : ℕ → Bool) (b : ℕ) (bytes : List ℕ) → test b ≡ true → (longest test (b ∷ bytes)).0 ≡ b ∷ (longest test bytes).0
unfolding longest
front_first test b bytes e = rw e refl

word_sound : (at b : ℕ) (bytes : List ℕ) → begins_word b ≡ true → Stands at (b ∷ bytes) (token_read (word_at (b ∷ bytes)))
unfolding word_at
word_sound at b bytes e =
    let h = longest_is is_word_byte (b ∷ bytes) in
    let first = front_first is_word_byte b bytes (letter_is_word_byte b e) in
    record {
      text = (longest is_word_byte (b ∷ bytes)).0;
      parts = h.parts;
      some = rw first (omega arith);
      is = p.token (refl, rw first e, h.passes) h.stop;
    }

same_stop : (kind : TokenKind) (rest : List ℕ) → ((b : ℕ) → longer kind b ≡ is_run_byte b) → begins is_run_byte rest ≡ false → begins (longer kind) rest ≡ false
same_stop kind [] same stop = refl
same_stop kind (b ∷ rest) same stop = same b ∙ stop

run_case : (at : ℕ) (run bytes : List ℕ) (r : Result TokenKind (LexCode × ℕ)) (is : IsDigitRun run bytes) → 0 < length run → KindIs at run bytes r → Stands at bytes (token_read (with_rest is.rest r))
run_case at run bytes (Ok kind) is some h = record { text = run; parts = is.parts; some = some; is = p.token h.0 (same_stop kind is.rest h.1 is.stop) }
run_case at run bytes (Err fault) is some h = h

run_sound : (at b : ℕ) (bytes : List ℕ) → is_ascii_digit b ≡ true → Stands at (b ∷ bytes) (token_read (run_at at (b ∷ bytes)))
unfolding run_at
run_sound at b bytes e =
    let h = longest_is is_run_byte (b ∷ bytes) in
    let run = (longest is_run_byte (b ∷ bytes)).0 in
    let first : run ≡ b ∷ (longest is_run_byte bytes).0 = front_first is_run_byte b bytes (digit_runs b e) in
    let is : IsDigitRun run (b ∷ bytes) = record { rest = (longest is_run_byte (b ∷ bytes)).1; parts = h.parts; begin = rw first e; all = h.passes; stop = h.stop } in
    run_case at run (b ∷ bytes) (run_kind at run) is (rw first (omega arith)) (run_kind_sound at run (b ∷ bytes) is)

-- ---- texts

utf8_case : (at quote : ℕ) (bytes : List ℕ) (read : List ℕ × List ℕ) (u : Bool) → is_utf8 read.0 ≡ u → is_quote quote ≡ true → Closed quote bytes read
    → Stands at (quote ∷ bytes) (token_read (text_read at (cond u (Some read.0) None) read.1))
utf8_case at quote bytes read true e q h = record {
  text = quote ∷ (h.written ++ quote ∷ []);
  parts = ap (λ (bs : List ℕ). quote ∷ bs) (h.parts ∙ simp append_assoc);
  some = omega arith;
  is = p.token (record { quote = quote; written = h.written; quoted = refl; is_a_quote = q; means = h.means; utf8 = e }) (no_longer read.1);
}
  where
    no_longer : (rest : List ℕ) → begins (λ _. false) rest ≡ false
    no_longer [] = refl
    no_longer (b ∷ rest) = refl
utf8_case at quote bytes read false e q h = f.no_utf8 (record { opened = ap (λ (bs : List ℕ). quote ∷ bs) h.parts; is_a_quote = q; means = h.means }) e

stop_case : (at quote place : ℕ) (bytes content written rest : List ℕ) (fault : LexCode × ℕ) → place ≡ at + (1 + length written) → IsOpened quote content written rest bytes → Stops at place fault rest
    → IsLexFault at fault.0 fault.1 bytes
stop_case at quote place bytes content written rest fault same is (x.bad_letter h) = rw same (f.bad_escape is h)
stop_case at quote place bytes content written rest fault same is (x.left_open h) = f.open_text is h

text_case : (at quote : ℕ) (bytes : List ℕ) (r : ReadToken (List ℕ)) → is_quote quote ≡ true → ContentIs at quote (at + 1) bytes r → Stands at (quote ∷ bytes) (token_read (text_step at r))
unfolding utf8_text
text_case at quote bytes (Ok read) q h = utf8_case at quote bytes read (is_utf8 read.0) refl q h
text_case at quote bytes (Err fault) q h =
    stop_case at quote (at + 1 + length h.written) (quote ∷ bytes) h.content h.written h.rest fault (omega arith)
    (record { opened = ap (λ (bs : List ℕ). quote ∷ bs) h.parts; is_a_quote = q; means = h.means }) h.stops

text_sound : (at quote : ℕ) (bytes : List ℕ) → is_quote quote ≡ true → Stands at (quote ∷ bytes) (token_read (text_at at quote bytes))
unfolding text_at
text_sound at quote bytes q = text_case at quote bytes (content_at at quote (at + 1) bytes) q (content_sound at quote (at + 1) bytes)

-- ---- marks

pub mark_some : (mark : MarkData) → 0 < length (mark_text mark)
mark_some (Comparison Equal) = omega arith
mark_some (Comparison Less) = omega arith
mark_some (Comparison LessOrEqual) = omega arith
mark_some (Comparison Greater) = omega arith
mark_some (Comparison GreaterOrEqual) = omega arith
mark_some (Comparison rel) = omega arith
mark_some mark = omega arith

mark_case : (at b : ℕ) (bytes : List ℕ) (o : Option (MarkData × List ℕ)) → mark_at b bytes ≡ o → IsOther b → IfSome o (MarkIs (b ∷ bytes)) → Stands at (b ∷ bytes) (mark_read at o)
mark_case at b bytes (Some read) e other h = record { text = mark_text read.0; parts = h.parts; some = mark_some read.0; is = p.token refl h.stop }
mark_case at b bytes None e other h = f.no_token (begins_nothing b bytes (record {
  no_blank = other.no_blank;
  no_hash = other.no_hash;
  no_slash = λ slash. absurd (other.no_slash slash);
  no_quote = other.no_quote;
  no_name = λ dollar. absurd (other.no_dollar dollar);
  no_digit = other.no_digit;
  no_letter = other.no_letter;
  no_mark = e;
}))

-- ---- all of them

by_lead : (lead : Lead) (at b : ℕ) (bytes : List ℕ) → LeadIs b lead → Stands at (b ∷ bytes) (piece_of lead at b bytes)
unfolding piece_of
by_lead Blank at b bytes is = record { text = b ∷ []; parts = refl; some = omega arith; is = p.blank is }
by_lead Hash at b bytes is = rw is (line_front at (codes "#") bytes (omega arith) (λ text body rest e all stop. p.hash e all stop))
by_lead Slash at b bytes is = rw is (slash_sound at bytes)
by_lead Quote at b bytes is = text_sound at b bytes is
by_lead Dollar at b bytes is = rw is (var_sound at bytes)
by_lead Digit at b bytes is = run_sound at b bytes is
by_lead Letter at b bytes is = word_sound at b bytes is
by_lead Other at b bytes is = mark_case at b bytes (mark_at b bytes) refl is (mark_sound b bytes)

pub piece_sound : (at b : ℕ) (bytes : List ℕ) → Stands at (b ∷ bytes) (piece_at at (b ∷ bytes))
unfolding piece_at
piece_sound at b bytes = by_lead (lead_of b) at b bytes (lead_is b)
