-- What is read as a length of time is written so, and what is written so is read.
use Rattle.drl_lex.proofs.Common.{◌≡◌, ℕ, ◌+◌, ◌<◌, ◌≤◌, ◌++◌, Bool, true, false, not, ◌&&◌, ◌||◌, cond, List, [], ◌∷◌, length, refl, ap, ◌∙◌, arith, Option}
use Rattle.drl_lex.proofs.Common.{Some, None, append_assoc, codes, option_map, nat_lt, IfSome, list_all, is_ascii_digit, digits_value, ltb-true, nat_tests}
use Rattle.drl_lex.proofs.Common.{length-append, append-nil, begins, IsNumeral, IsTimePart, IsLastPart, IsTime, is_empty_text, total_of, bytes_eq}
use Rattle.{drl_lex.specs.{Bytes.{is_unit_byte}, Fronts.{longest}}, std.proofs.lemmas.{Bool.{and_parts, and_right, not-true}, Slice.Eq.{bytes_eq-Decides}}}
use Rattle.drl_lex.specs.Times as t
use Rattle.drl_lex.{specs.TimeReading.{unit_part_at, last_at, time_of}, proofs.FrontLaws.{longest_is, longest_again}}

pub same_bytes : (xs ys : List ℕ) → bytes_eq xs ys ≡ true → xs ≡ ys
same_bytes xs ys e = (bytes_eq-Decides xs ys).0 e

pub equal_bytes : (xs : List ℕ) → bytes_eq xs xs ≡ true
equal_bytes xs = (bytes_eq-Decides xs xs).1 refl

-- ---- what is read is written so

-- a part at the front, and the bytes behind it
pub record PartIs (unit bytes : List ℕ) (read : ℕ × List ℕ) : Type 0 where
  pub text : List ℕ
  pub parts : bytes ≡ text ++ read.1
  pub is_part : IsTimePart unit read.0 text

pub numeral_of : (digits : List ℕ) → is_empty_text digits ≡ false → list_all is_ascii_digit digits ≡ true → IsNumeral (digits_value 10 digits) digits
numeral_of [] e all = absurd cc
numeral_of (b ∷ digits) e all = record { some = omega arith; digits = all; value = refl }

part_case : (t : Bool) (unit bytes digits letters rest : List ℕ) → (not (is_empty_text digits) && bytes_eq letters unit) ≡ t → bytes ≡ digits ++ (letters ++ rest) → list_all is_ascii_digit digits ≡ true
    → PartIs unit bytes (cond t (digits_value 10 digits, rest) (0, bytes))
part_case true unit bytes digits letters rest e parts all =
    let h = and_parts (not (is_empty_text digits)) (bytes_eq letters unit) e in
    let same : letters ≡ unit = same_bytes letters unit h.1 in
    record { text = digits ++ unit; parts = parts ∙ rw (same, append_assoc) refl; is_part = t.some_part (numeral_of digits (not-true _ h.0) all) refl }
part_case false unit bytes digits letters rest e parts all = record { text = []; parts = refl; is_part = t.no_part }

pub part_sound : (unit bytes : List ℕ) → PartIs unit bytes (unit_part_at unit bytes)
unfolding unit_part_at
part_sound unit bytes =
    let d = longest_is is_ascii_digit bytes in
    let l = longest_is is_unit_byte (longest is_ascii_digit bytes).1 in
    let digits = (longest is_ascii_digit bytes).0 in
    let letters = (longest is_unit_byte (longest is_ascii_digit bytes).1).0 in
    let parts : bytes ≡ digits ++ (letters ++ (longest is_unit_byte (longest is_ascii_digit bytes).1).1) = d.parts ∙ ap (λ (bs : List ℕ). digits ++ bs) l.parts in
    part_case (not (is_empty_text digits) && bytes_eq letters unit) unit bytes digits letters (longest is_unit_byte (longest is_ascii_digit bytes).1).1 refl parts d.passes

last_case : (others digits unit : List ℕ) (flag t : Bool) → list_all is_ascii_digit digits ≡ true → (flag ≡ true → 0 < length others) → (not (is_empty_text digits) && bytes_eq unit (codes "ms")) ≡ t
    → IfSome (cond (t || (is_empty_text unit && flag)) (Some (digits_value 10 digits)) None) (λ n. IsLastPart others n (digits ++ unit))
last_case others digits unit flag true all some e =
    let h = and_parts (not (is_empty_text digits)) (bytes_eq unit (codes "ms")) e in
    t.some_last (numeral_of digits (not-true _ h.0) all) (ap (λ (bs : List ℕ). digits ++ bs) (same_bytes unit (codes "ms") h.1))
last_case others [] [] true false all some e = t.no_last (some refl)
last_case others (b ∷ digits) [] true false all some e = rw append-nil (t.no_unit (some refl) (numeral_of (b ∷ digits) refl all))
last_case others digits [] false false all some e = tt
last_case others digits (b ∷ unit) flag false all some e = tt

pub last_sound : (others bytes : List ℕ) (flag : Bool) → (flag ≡ true → 0 < length others) → IfSome (last_at flag bytes) (λ n. IsLastPart others n bytes)
unfolding last_at
last_sound others bytes flag some =
    let front = longest is_ascii_digit bytes in
    let d = longest_is is_ascii_digit bytes in
    let read = last_case others front.0 front.1 flag (not (is_empty_text front.0) && bytes_eq front.1 (codes "ms")) d.passes some refl in
    rw (← d.parts) at read

-- what was written before the rest takes bytes
longer_parts : (run text rest : List ℕ) → run ≡ text ++ rest → nat_lt (length rest) (length run) ≡ true → 0 < length text
longer_parts run [] rest e lt = let same : length run ≡ length rest = ap length e in let less = ltb-true (length rest) (length run) lt in absurd (omega arith)
longer_parts run (b ∷ text) rest e lt = omega arith

joined : (run d h m s l r1 r2 r3 : List ℕ) → run ≡ d ++ r1 → r1 ≡ h ++ r2 → r2 ≡ m ++ r3 → r3 ≡ s ++ l → run ≡ (d ++ (h ++ (m ++ s))) ++ l
joined run d h m s l r1 r2 r3 e1 e2 e3 e4 = rw (e1, e2, e3, e4) (simp append_assoc)

times_sound : (o : Option ℕ) (run : List ℕ) (d h m s : ℕ × List ℕ) → PartIs (codes "d") run d → PartIs (codes "h") d.1 h → PartIs (codes "m") h.1 m → PartIs (codes "s") m.1 s
    → ((others : List ℕ) → run ≡ others ++ s.1 → IfSome o (λ n. IsLastPart others n s.1)) → IfSome (option_map (total_of d.0 h.0 m.0 s.0) o) (λ ms. IsTime ms run)
times_sound None run d h m s pd ph pm ps last = tt
times_sound (Some n) run d h m s pd ph pm ps last =
    let parts = joined run pd.text ph.text pm.text ps.text s.1 d.1 h.1 m.1 pd.parts ph.parts pm.parts ps.parts in
    record {
      days = d.0;
      hours = h.0;
      minutes = m.0;
      seconds = s.0;
      rest = n;
      day_part = pd.text;
      hour_part = ph.text;
      minute_part = pm.text;
      second_part = ps.text;
      last_part = s.1;
      parts = parts ∙ simp append_assoc;
      in_days = pd.is_part;
      in_hours = ph.is_part;
      in_minutes = pm.is_part;
      in_seconds = ps.is_part;
      in_millis = last (pd.text ++ (ph.text ++ (pm.text ++ ps.text))) parts;
      total = refl;
    }

pub time_sound : (run : List ℕ) → IfSome (time_of run) (λ ms. IsTime ms run)
unfolding time_of
time_sound run =
    let d = unit_part_at (codes "d") run in
    let h = unit_part_at (codes "h") d.1 in
    let m = unit_part_at (codes "m") h.1 in
    let s = unit_part_at (codes "s") m.1 in
    times_sound (last_at (nat_lt (length s.1) (length run)) s.1) run d h m s (part_sound (codes "d") run) (part_sound (codes "h") d.1) (part_sound (codes "m") h.1) (part_sound (codes "s") m.1)
    (λ others e. last_sound others s.1 (nat_lt (length s.1) (length run)) (longer_parts run others s.1 e))

-- ---- what is written so is read

-- the unit of the first part
pub unit_at : List ℕ → List ℕ
unit_at bytes = (longest is_unit_byte (longest is_ascii_digit bytes).1).0

-- the place of a unit among the five
abbrev pub rank_of : List ℕ → ℕ
rank_of unit = cond (bytes_eq unit (codes "d")) 1 (cond (bytes_eq unit (codes "h")) 2 (cond (bytes_eq unit (codes "m")) 3 (cond (bytes_eq unit (codes "s")) 4 5)))

-- only units from the k-th on follow
pub record Follows (k : ℕ) (rest : List ℕ) : Type 0 where
  pub stop : begins is_unit_byte rest ≡ false
  pub late : k ≤ rank_of (unit_at rest)

pub record IsUnit (unit : List ℕ) : Type 0 where
  pub some : 0 < length unit
  pub all : list_all is_unit_byte unit ≡ true

begins_unit : (digits rest : List ℕ) → 0 < length digits → list_all is_ascii_digit digits ≡ true → begins is_unit_byte (digits ++ rest) ≡ false
unfolding is_unit_byte
begins_unit [] rest some all = absurd (omega arith)
begins_unit (b ∷ digits) rest some all = let h = and_parts (is_ascii_digit b) (list_all is_ascii_digit digits) all in rw h.0 refl

begins_digit : (unit rest : List ℕ) → IsUnit unit → begins is_ascii_digit (unit ++ rest) ≡ false
unfolding is_unit_byte
begins_digit [] rest h = absurd (omega arith)
begins_digit (b ∷ unit) rest h = not-true (is_ascii_digit b) (and_parts (not (is_ascii_digit b)) (list_all (λ c. not (is_ascii_digit c)) unit) h.all).0

not_empty : (n : ℕ) (digits : List ℕ) → IsNumeral n digits → is_empty_text digits ≡ false
not_empty n [] h = absurd (omega arith)
not_empty n (b ∷ digits) h = refl

-- how a written part is cut
record Cut (digits unit rest : List ℕ) : Type 0 where
  in_digits : longest is_ascii_digit (digits ++ (unit ++ rest)) ≡ (digits, unit ++ rest)
  in_unit : longest is_unit_byte (unit ++ rest) ≡ (unit, rest)

cut : (n : ℕ) (digits unit rest : List ℕ) → IsNumeral n digits → IsUnit unit → begins is_unit_byte rest ≡ false → Cut digits unit rest
cut n digits unit rest h u stop = record {
  in_digits = longest_again is_ascii_digit digits (unit ++ rest) h.digits (begins_digit unit rest u);
  in_unit = longest_again is_unit_byte unit rest u.all stop;
}

unit_is : (digits unit rest : List ℕ) → Cut digits unit rest → unit_at (digits ++ (unit ++ rest)) ≡ unit
unfolding unit_at
unit_is digits unit rest h = ap (λ (p : List ℕ × List ℕ). (longest is_unit_byte p.1).0) h.in_digits ∙ ap (λ (p : List ℕ × List ℕ). p.0) h.in_unit

part_again : (unit text rest : List ℕ) (count : ℕ) → IsTimePart unit count text → IsUnit unit → begins is_unit_byte rest ≡ false → bytes_eq (unit_at rest) unit ≡ false → unit_part_at unit (text ++ rest) ≡ (count, rest)
unfolding unit_part_at unit_at
part_again unit [] rest count t.no_part u stop other = rw (and_right (not (is_empty_text (longest is_ascii_digit rest).0)) _ other) refl
part_again unit text rest count (t.some_part {digits} n e) u stop other =
    let h = cut count digits unit rest n u stop in
    rw (e, append_assoc, h.in_digits, h.in_unit, equal_bytes unit, not_empty count digits n, n.value) refl

follows_part : (unit text rest : List ℕ) (count k : ℕ) → IsTimePart unit count text → IsUnit unit → rank_of unit ≡ k → Follows (k + 1) rest → Follows k (text ++ rest)
follows_part unit [] rest count k t.no_part u rank h = record { stop = h.stop; late = let late = h.late in omega arith }
follows_part unit text rest count k (t.some_part {digits} n e) u rank h =
    let c = cut count digits unit rest n u h.stop in
    let same : unit_at (digits ++ (unit ++ rest)) ≡ unit = unit_is digits unit rest c in
    rw (e, append_assoc) (record { stop = begins_unit digits (unit ++ rest) n.some n.digits; late = rw (same, rank) (omega arith) })

pub seconds_unit : IsUnit (codes "s")
unfolding is_unit_byte
seconds_unit = record { some = omega arith; all = refl }

pub minutes_unit : IsUnit (codes "m")
unfolding is_unit_byte
minutes_unit = record { some = omega arith; all = refl }

pub hours_unit : IsUnit (codes "h")
unfolding is_unit_byte
hours_unit = record { some = omega arith; all = refl }

pub days_unit : IsUnit (codes "d")
unfolding is_unit_byte
days_unit = record { some = omega arith; all = refl }

pub millis_unit : IsUnit (codes "ms")
unfolding is_unit_byte
millis_unit = record { some = omega arith; all = refl }

pub whole : (digits : List ℕ) → list_all is_ascii_digit digits ≡ true → longest is_ascii_digit digits ≡ (digits, [])
whole digits all = let h = longest_again is_ascii_digit digits [] all refl in rw append-nil at h

follows_last : (others text : List ℕ) (count : ℕ) → IsLastPart others count text → Follows 5 text
unfolding unit_at longest
follows_last others [] count (t.no_last some) = record { stop = refl; late = omega arith }
follows_last others text count (t.some_last {digits} n e) =
    let same : unit_at (digits ++ (codes "ms" ++ [])) ≡ codes "ms" = unit_is digits (codes "ms") [] (cut count digits (codes "ms") [] n millis_unit refl) in
    rw e (record { stop = begins_unit digits (codes "ms") n.some n.digits; late = rw same (omega arith) })
follows_last others text count (t.no_unit some n) =
    let same : unit_at text ≡ [] = ap (λ (p : List ℕ × List ℕ). (longest is_unit_byte p.1).0) (whole text n.digits) in
    let stop = begins_unit text [] n.some n.digits in
    record { stop = rw append-nil at stop; late = rw same (omega arith) }

past : (u : Bool) (i k : ℕ) → i < cond u i k → u ≡ false
past true i k lt = absurd (omega arith)
past false i k lt = refl

skip : (u : Bool) (i j k : ℕ) → i ≤ j → j < cond u i k → j < k
skip true i j k le lt = absurd (omega arith)
skip false i j k le lt = lt

last_again : (others text : List ℕ) (count : ℕ) (flag : Bool) → IsLastPart others count text → (0 < length others → flag ≡ true) → last_at flag text ≡ Some count
unfolding last_at longest
last_again others [] count flag (t.no_last some) written = rw (written some) refl
last_again others text count flag (t.some_last {digits} n e) written =
    let c : longest is_ascii_digit (digits ++ codes "ms") ≡ (digits, codes "ms") = longest_again is_ascii_digit digits (codes "ms") n.digits refl in
    rw (e, c, not_empty count digits n, n.value) refl
last_again others text count flag (t.no_unit some n) written =
    rw (whole text n.digits, written some, not_empty count text n, n.value) refl

-- the parts of a time, as they are read
pub record Parts (run : List ℕ) (days hours minutes seconds : ℕ) (h m s l : List ℕ) : Type 0 where
  pub in_days : unit_part_at (codes "d") run ≡ (days, h)
  pub in_hours : unit_part_at (codes "h") h ≡ (hours, m)
  pub in_minutes : unit_part_at (codes "m") m ≡ (minutes, s)
  pub in_seconds : unit_part_at (codes "s") s ≡ (seconds, l)

pub parts_again : (run : List ℕ) (days hours minutes seconds : ℕ) (h m s l : List ℕ) (last : Option ℕ) → Parts run days hours minutes seconds h m s l → last_at (nat_lt (length l) (length run)) l ≡ last
    → time_of run ≡ option_map (total_of days hours minutes seconds) last
unfolding time_of
parts_again run days hours minutes seconds h m s l last p e = rw (p.in_days, p.in_hours, p.in_minutes, p.in_seconds, e) refl

before_last : (run others l : List ℕ) → run ≡ others ++ l → 0 < length others → nat_lt (length l) (length run) ≡ true
before_last run others l e some = rw (e, length-append) (grind (arith, nat_tests))

-- what follows each part of a time
pub record FollowsEach (h m s l : List ℕ) : Type 0 where
  pub behind_days : Follows 2 h
  pub behind_hours : Follows 3 m
  pub behind_minutes : Follows 4 s
  pub behind_seconds : Follows 5 l

follows_each : (ms : ℕ) (run : List ℕ) (t : IsTime ms run)
    → FollowsEach (t.hour_part ++ (t.minute_part ++ (t.second_part ++ t.last_part))) (t.minute_part ++ (t.second_part ++ t.last_part)) (t.second_part ++ t.last_part) t.last_part
follows_each ms run t =
    let l = t.last_part in
    let s = t.second_part ++ l in
    let m = t.minute_part ++ s in
    let in_l : Follows 5 l = follows_last (t.day_part ++ (t.hour_part ++ (t.minute_part ++ t.second_part))) l t.rest t.in_millis in
    let in_s : Follows 4 s = follows_part (codes "s") t.second_part l t.seconds 4 t.in_seconds seconds_unit refl in_l in
    let in_m : Follows 3 m = follows_part (codes "m") t.minute_part s t.minutes 3 t.in_minutes minutes_unit refl in_s in
    record { behind_days = follows_part (codes "h") t.hour_part m t.hours 2 t.in_hours hours_unit refl in_m; behind_hours = in_m; behind_minutes = in_s; behind_seconds = in_l }

pub follows_time : (ms : ℕ) (run : List ℕ) → IsTime ms run → Follows 1 run
follows_time ms run t =
    let each = follows_each ms run t in
    rw (t.parts) (follows_part (codes "d") t.day_part (t.hour_part ++ (t.minute_part ++ (t.second_part ++ t.last_part))) t.days 1 t.in_days days_unit refl each.behind_days)

pub time_again : (ms : ℕ) (run : List ℕ) → IsTime ms run → time_of run ≡ Some ms
time_again ms run t =
    let l = t.last_part in
    let s = t.second_part ++ l in
    let m = t.minute_part ++ s in
    let h = t.hour_part ++ m in
    let each = follows_each ms run t in
    let others = t.day_part ++ (t.hour_part ++ (t.minute_part ++ t.second_part)) in
    let all : t.day_part ++ h ≡ others ++ l = simp append_assoc in
    let parts : Parts (t.day_part ++ h) t.days t.hours t.minutes t.seconds h m s l = record {
      in_days = part_again (codes "d") t.day_part h t.days t.in_days days_unit each.behind_days.stop (past _ 1 _ each.behind_days.late);
      in_hours = part_again (codes "h") t.hour_part m t.hours t.in_hours hours_unit each.behind_hours.stop (past _ 2 _ (skip _ 1 2 _ (omega arith) each.behind_hours.late));
      in_minutes = part_again (codes "m") t.minute_part s t.minutes t.in_minutes minutes_unit each.behind_minutes.stop (past _ 3 _ (skip _ 2 3 _ (omega arith) (skip _ 1 3 _ (omega arith) each.behind_minutes.late)));
      in_seconds = part_again (codes "s") t.second_part l t.seconds t.in_seconds seconds_unit each.behind_seconds.stop
          (past _ 4 _ (skip _ 3 4 _ (omega arith) (skip _ 2 4 _ (omega arith) (skip _ 1 4 _ (omega arith) each.behind_seconds.late))));
    } in
    let last = last_again others l t.rest (nat_lt (length l) (length (t.day_part ++ h))) t.in_millis (before_last (t.day_part ++ h) others l all) in
    rw (t.parts, t.total) (parts_again (t.day_part ++ h) t.days t.hours t.minutes t.seconds h m s l (Some t.rest) parts last)
