-- What begins with a digit is read as a number or a time, and nothing else is.
use Rattle.drl_lex.proofs.Common.{◌≡◌, ℕ, ◌^◌, ◌<◌, ◌++◌, Bool, true, false, not, cond, List, [], ◌∷◌, length, Option, Some, None, Result, Ok, Err, refl, ap}
use Rattle.drl_lex.proofs.Common.{◌∙◌, arith, append_assoc, codes, nat_lt, nat_le, IfSome, list_all, is_ascii_digit, digits_value, ltb-true, leb-true}
use Rattle.drl_lex.proofs.Common.{length-append, append-nil, TokenKind, Number, Time, LexCode, NumberLarge, begins, IsDigitRun, IsLexFault, longest}
use Rattle.drl_lex.proofs.Common.{number_kind, time_kind, is_empty_text, time_of, IsNumeral, IsTimePart, IsLastPart, IsTime, Spells, longer, ltb-false}
use Rattle.{drl_lex.{proofs.Common.{leb-false}, specs.Bytes.{is_run_byte, is_unit_byte, is_word_byte}}, std.proofs.lemmas.Bool.{and_parts, not-true}}
use Rattle.drl_lex.specs.Faults as f
use Rattle.drl_lex.specs.Reading.{run_kind}
use Rattle.drl_lex.specs.Times as t
use Rattle.drl_lex.proofs.{FrontLaws.{longest_is}, LeadLaws.{digit_runs}, TimeLaws.{IsUnit, seconds_unit, minutes_unit, hours_unit, days_unit, millis_unit}}
use Rattle.drl_lex.proofs.TimeLaws.{whole, follows_time, time_sound, time_again}

-- ---- the form of a time

all_append : (test : ℕ → Bool) (xs ys : List ℕ) → list_all test xs ≡ true → list_all test ys ≡ true → list_all test (xs ++ ys) ≡ true
all_append test [] ys all more = more
all_append test (x ∷ xs) ys all more = let parts = and_parts (test x) (list_all test xs) all in rw parts.0 (all_append test xs ys parts.1 more)

all_front : (test : ℕ → Bool) (xs ys : List ℕ) → list_all test (xs ++ ys) ≡ true → list_all test xs ≡ true
all_front test [] ys all = refl
all_front test (x ∷ xs) ys all = let parts = and_parts (test x) (list_all test (xs ++ ys)) all in rw parts.0 (all_front test xs ys parts.1)

all_back : (test : ℕ → Bool) (xs ys : List ℕ) → list_all test (xs ++ ys) ≡ true → list_all test ys ≡ true
all_back test [] ys all = all
all_back test (x ∷ xs) ys all = let parts = and_parts (test x) (list_all test (xs ++ ys)) all in all_back test xs ys parts.1

digits_run : (digits : List ℕ) → list_all is_ascii_digit digits ≡ true → list_all is_run_byte digits ≡ true
digits_run [] all = refl
digits_run (b ∷ digits) all = let parts = and_parts (is_ascii_digit b) (list_all is_ascii_digit digits) all in rw (digit_runs b parts.0) (digits_run digits parts.1)

part_runs : (unit text : List ℕ) (count : ℕ) → list_all is_run_byte unit ≡ true → IsTimePart unit count text → list_all is_run_byte text ≡ true
part_runs unit [] count runs t.no_part = refl
part_runs unit text count runs (t.some_part {digits} n e) = rw e (all_append is_run_byte digits unit (digits_run digits n.digits) runs)

last_runs : (others text : List ℕ) (count : ℕ) → IsLastPart others count text → list_all is_run_byte text ≡ true
unfolding is_run_byte is_word_byte
last_runs others [] count (t.no_last some) = refl
last_runs others text count (t.some_last {digits} n e) = rw e (all_append is_run_byte digits (codes "ms") (digits_run digits n.digits) refl)
last_runs others text count (t.no_unit some n) = digits_run text n.digits

pub time_runs : (ms : ℕ) (text : List ℕ) → IsTime ms text → list_all is_run_byte text ≡ true
unfolding is_run_byte is_word_byte
time_runs ms text h =
    rw h.parts (
    all_append is_run_byte h.day_part _ (part_runs (codes "d") h.day_part h.days refl h.in_days) (
    all_append is_run_byte h.hour_part _ (part_runs (codes "h") h.hour_part h.hours refl h.in_hours) (
    all_append is_run_byte h.minute_part _ (part_runs (codes "m") h.minute_part h.minutes refl h.in_minutes) (
    all_append is_run_byte h.second_part _ (part_runs (codes "s") h.second_part h.seconds refl h.in_seconds) (
    last_runs _ h.last_part h.rest h.in_millis)))))

last_some : (others text : List ℕ) (count : ℕ) → IsLastPart others count text → 0 < length (others ++ text)
last_some others [] count (t.no_last some) = rw append-nil some
last_some others text count (t.some_last {digits} n e) = rw (e, length-append, length-append) (let some = n.some in omega arith)
last_some others text count (t.no_unit some n) = rw length-append (omega arith)

begins_digit : (text : List ℕ) → 0 < length text → begins is_unit_byte text ≡ false → begins is_ascii_digit text ≡ true
unfolding is_unit_byte
begins_digit [] some stop = absurd (omega arith)
begins_digit (b ∷ text) some stop = not_false (is_ascii_digit b) stop
  where
    not_false : (u : Bool) → not u ≡ false → u ≡ true
    not_false true h = refl
    not_false false h = absurd cc

pub time_begins : (ms : ℕ) (text : List ℕ) → IsTime ms text → begins is_ascii_digit text ≡ true
time_begins ms text h =
    let some = last_some (h.day_part ++ (h.hour_part ++ (h.minute_part ++ h.second_part))) h.last_part h.rest h.in_millis in
    let all : text ≡ (h.day_part ++ (h.hour_part ++ (h.minute_part ++ h.second_part))) ++ h.last_part = h.parts ∙ simp append_assoc in
    begins_digit text (rw all some) (follows_time ms text h).stop

no_unit_digits : (unit : List ℕ) → IsUnit unit → list_all is_ascii_digit unit ≡ true → ⊥
unfolding is_unit_byte
no_unit_digits [] u all = absurd (omega arith)
no_unit_digits (b ∷ unit) u all =
    let digit = (and_parts (is_ascii_digit b) (list_all is_ascii_digit unit) all).0 in
    let letter = not-true (is_ascii_digit b) (and_parts (not (is_ascii_digit b)) (list_all (λ c. not (is_ascii_digit c)) unit) u.all).0 in
    cc

part_none : (unit text : List ℕ) (count : ℕ) → IsUnit unit → IsTimePart unit count text → list_all is_ascii_digit text ≡ true → text ≡ []
part_none unit [] count u t.no_part all = refl
part_none unit text count u (t.some_part {digits} n e) all = let digits_all = rw e at all in absurd (no_unit_digits unit u (all_back is_ascii_digit digits unit digits_all))

last_clash : (others text : List ℕ) (count : ℕ) → IsLastPart others count text → others ≡ [] → list_all is_ascii_digit text ≡ true → ⊥
last_clash others [] count (t.no_last some) none all = let len = ap length none in absurd (omega arith)
last_clash others text count (t.some_last {digits} n e) none all = let digits_all = rw e at all in no_unit_digits (codes "ms") millis_unit (all_back is_ascii_digit digits (codes "ms") digits_all)
last_clash others text count (t.no_unit some n) none all = let len = ap length none in absurd (omega arith)

-- a time has a unit
pub time_unit : (ms : ℕ) (text : List ℕ) → IsTime ms text → list_all is_ascii_digit text ≡ true → ⊥
time_unit ms text h all =
    let all0 = rw h.parts at all in
    let all1 = all_back is_ascii_digit h.day_part _ all0 in
    let all2 = all_back is_ascii_digit h.hour_part _ all1 in
    let all3 = all_back is_ascii_digit h.minute_part _ all2 in
    let all4 = all_back is_ascii_digit h.second_part _ all3 in
    let d : h.day_part ≡ [] = part_none (codes "d") h.day_part h.days days_unit h.in_days (all_front is_ascii_digit h.day_part _ all0) in
    let k : h.hour_part ≡ [] = part_none (codes "h") h.hour_part h.hours hours_unit h.in_hours (all_front is_ascii_digit h.hour_part _ all1) in
    let m : h.minute_part ≡ [] = part_none (codes "m") h.minute_part h.minutes minutes_unit h.in_minutes (all_front is_ascii_digit h.minute_part _ all2) in
    let s : h.second_part ≡ [] = part_none (codes "s") h.second_part h.seconds seconds_unit h.in_seconds (all_front is_ascii_digit h.second_part _ all3) in
    last_clash _ h.last_part h.rest h.in_millis (rw (d, k, m, s) refl) all4

-- ---- runs

empty_is : (bytes : List ℕ) → is_empty_text bytes ≡ true → bytes ≡ []
empty_is [] e = refl
empty_is (b ∷ bytes) e = absurd cc

pub numeral_begins : (n : ℕ) (text : List ℕ) → IsNumeral n text → begins is_ascii_digit text ≡ true
numeral_begins n [] h = absurd (omega arith)
numeral_begins n (b ∷ text) h = (and_parts (is_ascii_digit b) (list_all is_ascii_digit text) h.digits).0

pub numeral_runs : (n : ℕ) (text : List ℕ) → IsNumeral n text → list_all is_run_byte text ≡ true
numeral_runs n text h = digits_run text h.digits

-- a run and what is read of it
abbrev pub KindIs : ℕ → List ℕ → List ℕ → Result TokenKind (LexCode × ℕ) → Type 0
KindIs at run bytes (Ok kind) = Spells kind run × ((b : ℕ) → longer kind b ≡ is_run_byte b)
KindIs at run bytes (Err fault) = IsLexFault at fault.0 fault.1 bytes

number_sound : (at : ℕ) (run bytes : List ℕ) (n : ℕ) (u : Bool) → nat_lt n (2 ^ 63) ≡ u → IsDigitRun run bytes → IsNumeral n run → KindIs at run bytes (cond u (Ok (Number n)) (Err (NumberLarge, at)))
number_sound at run bytes n true e is h = ((h, ltb-true n (2 ^ 63) e), λ b. refl)
number_sound at run bytes n false e is h = f.large_number is h (ltb-false n (2 ^ 63) e)

time_sound_at : (at : ℕ) (run bytes : List ℕ) (ms : ℕ) (u : Bool) → nat_le ms (2 ^ 53) ≡ u → IsDigitRun run bytes → IsTime ms run → KindIs at run bytes (cond u (Ok (Time ms)) (Err (NumberLarge, at)))
time_sound_at at run bytes ms true e is h = ((h, leb-true ms (2 ^ 53) e), λ b. refl)
time_sound_at at run bytes ms false e is h = f.large_time is h (leb-false ms (2 ^ 53) e)

time_case : (at : ℕ) (run bytes : List ℕ) (o : Option ℕ) → time_of run ≡ o → IsDigitRun run bytes → ((n : ℕ) → IsNumeral n run → ⊥) → IfSome o (λ ms. IsTime ms run) → KindIs at run bytes (time_kind at o)
time_case at run bytes (Some ms) e is none h = time_sound_at at run bytes ms (nat_le ms (2 ^ 53)) refl is h
time_case at run bytes None e is none h = f.no_number is none (λ ms time. let again = time_again ms run time in absurd cc)

run_some : (run bytes : List ℕ) → IsDigitRun run bytes → 0 < length run
run_some [] bytes h = let begin = h.begin in absurd cc
run_some (b ∷ run) bytes h = omega arith

run_case : (at : ℕ) (run bytes : List ℕ) (u : Bool) → is_empty_text (longest is_ascii_digit run).1 ≡ u → IsDigitRun run bytes
    → KindIs at run bytes (cond u (number_kind at (digits_value 10 (longest is_ascii_digit run).0)) (time_kind at (time_of run)))
run_case at run bytes true e is =
    let h = longest_is is_ascii_digit run in
    let none : (longest is_ascii_digit run).1 ≡ [] = empty_is (longest is_ascii_digit run).1 e in
    let same : run ≡ (longest is_ascii_digit run).0 = h.parts ∙ ap (λ (bs : List ℕ). (longest is_ascii_digit run).0 ++ bs) none ∙ append-nil (longest is_ascii_digit run).0 in
    let n : IsNumeral (digits_value 10 (longest is_ascii_digit run).0) run = record { some = run_some run bytes is; digits = rw same h.passes; value = ap (digits_value 10) same } in
    number_sound at run bytes (digits_value 10 (longest is_ascii_digit run).0) (nat_lt (digits_value 10 (longest is_ascii_digit run).0) (2 ^ 63)) refl is n
run_case at run bytes false e is =
    time_case at run bytes (time_of run) refl is (λ n h. let all = whole run h.digits in let clash = rw all at e in cc) (time_sound run)

pub run_kind_sound : (at : ℕ) (run bytes : List ℕ) → IsDigitRun run bytes → KindIs at run bytes (run_kind at run)
unfolding run_kind
run_kind_sound at run bytes is = run_case at run bytes (is_empty_text (longest is_ascii_digit run).1) refl is

-- ---- what a run is, is read

pub number_again : (at n : ℕ) (run : List ℕ) → IsNumeral n run → run_kind at run ≡ number_kind at n
unfolding run_kind
number_again at n run h = rw (whole run h.digits, h.value) refl

rest_digits : (u : Bool) (run : List ℕ) → is_empty_text (longest is_ascii_digit run).1 ≡ u → (list_all is_ascii_digit run ≡ true → ⊥) → is_empty_text (longest is_ascii_digit run).1 ≡ false
rest_digits false run e none = e
rest_digits true run e none =
    let h = longest_is is_ascii_digit run in
    let rest : (longest is_ascii_digit run).1 ≡ [] = empty_is (longest is_ascii_digit run).1 e in
    let same : run ≡ (longest is_ascii_digit run).0 = h.parts ∙ ap (λ (bs : List ℕ). (longest is_ascii_digit run).0 ++ bs) rest ∙ append-nil (longest is_ascii_digit run).0 in
    absurd (none (rw same h.passes))

pub other_again : (at : ℕ) (run : List ℕ) (o : Option ℕ) → (list_all is_ascii_digit run ≡ true → ⊥) → time_of run ≡ o → run_kind at run ≡ time_kind at o
unfolding run_kind
other_again at run o none e = rw (rest_digits (is_empty_text (longest is_ascii_digit run).1) run refl none, e) refl
