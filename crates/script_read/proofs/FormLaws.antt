-- The forms as cases and the command that is found by the word after `do` say the same.
use Rattle.script_read.proofs.Common.{◌≡◌, List, ℕ, ℤ, Bool, true, false, Option, Some, None, refl, sym, ◌∙◌, ap, subst, Data, Members, IsForm, fire, fire_most}
use Rattle.script_read.proofs.Common.{held, insert_into, modify, retract, advance, at, promise, promise_for, begin, has_count, fire_parts, insert_parts}
use Rattle.script_read.proofs.Common.{insert_into_parts, modify_parts, retract_parts, advance_parts, at_parts, promise_parts, promise_of_parts, command_by_word}
use Rattle.script_read.proofs.Common.{Command, Change, Fire, Held, if◌then◌else◌, bytes_eq, text_member, object_member, whole_member, id_member, count_member}
use Rattle.script_read.{proofs.Common.{count, Begin}, specs.Form.{insert, fire_of, held_form, insert_of, modify_of, retract_of, advance_of, at_of, promise_of}}
use Rattle.{script_read.specs.Form.{begin_of, command_of}, std.{specs.Prelude.{codes}, proofs.lemmas.{Slice.Eq.{bytes_eq-Decides}, Bool.Decides.{Decides-eqb}}}}

-- every command with the form of a value is the one that is found
pub form_again : {d : Data} {c : Command} → IsForm d c → command_of d ≡ Some c
unfolding command_of fire_of held_form insert_of modify_of retract_of advance_of at_of promise_of begin_of
form_again (fire word members) = rw (word, members) refl
form_again (fire_most word most members) = rw (word, members, most) refl
form_again (held word members) = rw (word, members) refl
form_again (insert word ty fields members) = rw (word, members, ty, fields) refl
form_again (insert_into word ty entry fields members) = rw (word, members, ty, entry, fields) refl
form_again (modify word ty id fields members) = rw (word, members, ty, id, fields) refl
form_again (retract word ty id members) = rw (word, members, ty, id) refl
form_again (advance word by members) = rw (word, members, by) refl
form_again (at word moment members) = rw (word, members, moment) refl
form_again (promise word from members) = rw (word, members, from) refl
form_again (promise_for word entry from members) = rw (word, members, entry, from) refl
form_again (begin word members) = rw (word, members) refl

-- a value in which no command is found has no form
pub no_form : {d : Data} → None ≡ command_of d → (c : Command) → IsForm d c → ⊥
no_form none c form = let e = none ∙ form_again form in cc

-- ---- what is found has its form: a lemma for each form, and one line for each word

-- equal options have equal values
some_injective : {c other : Command} → Some c ≡ Some other → c ≡ other
some_injective e = cc

-- the test of a count says the count
counted : (n : ℕ) (m : Option ℕ) → has_count n m ≡ true → m ≡ Some n
counted n None e = cc
counted n (Some m) e = ap Some ((Decides-eqb m n).0 e)

-- at each case of the two counts and of the number of firings
fire_counted : (alone two : Bool) (most : Option ℕ) (d : Data) (c : Command)
    → has_count 1 (count d) ≡ alone → has_count 2 (count d) ≡ two → count_member (codes "max") d ≡ most
    → text_member (codes "do") d ≡ Some (codes "fire")
    → Some c ≡ (if alone then Some (Fire None) else (if two then fire_parts most else None)) → IsForm d c
fire_counted true two most d c members more given word found =
    subst (IsForm d) (some_injective (sym found)) (fire word (counted 1 (count d) members))
fire_counted false true (Some n) d c members more given word found =
    subst (IsForm d) (some_injective (sym found)) (fire_most word given (counted 2 (count d) more))
fire_counted false true None d c members more given word found = cc
fire_counted false false most d c members more given word found = cc

-- a fire that is found has its form
fire_sound : (d : Data) (c : Command) → text_member (codes "do") d ≡ Some (codes "fire") → Some c ≡ fire_of d → IsForm d c
unfolding fire_of
fire_sound d c word found =
    fire_counted (has_count 1 (count d)) (has_count 2 (count d)) (count_member (codes "max") d) d c refl refl refl word found

-- at each case of the count
held_counted : (alone : Bool) (d : Data) (c : Command) → has_count 1 (count d) ≡ alone → text_member (codes "do") d ≡ Some (codes "held")
    → Some c ≡ (if alone then Some Held else None) → IsForm d c
held_counted true d c members word found = subst (IsForm d) (some_injective (sym found)) (held word (counted 1 (count d) members))
held_counted false d c members word found = cc

-- a request for the kept events that is found has its form
held_sound : (d : Data) (c : Command) → text_member (codes "do") d ≡ Some (codes "held") → Some c ≡ held_form d → IsForm d c
unfolding held_form
held_sound d c word found = held_counted (has_count 1 (count d)) d c refl word found

-- at each case of the two counts and of the three members
insert_counted : (plain into : Bool) (ty entry : Option (List ℕ)) (fields : Option Members) (d : Data) (c : Command)
    → has_count 3 (count d) ≡ plain → has_count 4 (count d) ≡ into
    → text_member (codes "type") d ≡ ty → text_member (codes "entry") d ≡ entry → object_member (codes "fields") d ≡ fields
    → text_member (codes "do") d ≡ Some (codes "insert")
    → Some c ≡ (if plain then insert_parts ty fields else (if into then insert_into_parts ty entry fields else None)) → IsForm d c
insert_counted true into (Some ty) entry (Some fields) d c members more named way given word found =
    subst (IsForm d) (some_injective (sym found)) (insert word named given (counted 3 (count d) members))
insert_counted true into (Some ty) entry None d c members more named way given word found = cc
insert_counted true into None entry fields d c members more named way given word found = cc
insert_counted false true (Some ty) (Some entry) (Some fields) d c members more named way given word found =
    subst (IsForm d) (some_injective (sym found)) (insert_into word named way given (counted 4 (count d) more))
insert_counted false true (Some ty) (Some entry) None d c members more named way given word found = cc
insert_counted false true (Some ty) None fields d c members more named way given word found = cc
insert_counted false true None entry fields d c members more named way given word found = cc
insert_counted false false ty entry fields d c members more named way given word found = cc

-- an insert that is found has its form
insert_sound : (d : Data) (c : Command) → text_member (codes "do") d ≡ Some (codes "insert") → Some c ≡ insert_of d → IsForm d c
unfolding insert_of
insert_sound d c word found =
    insert_counted (has_count 3 (count d)) (has_count 4 (count d)) (text_member (codes "type") d) (text_member (codes "entry") d)
    (object_member (codes "fields") d) d c refl refl refl refl refl word found

-- at each case of the count and of the three members
modify_counted : (b : Bool) (ty : Option (List ℕ)) (id : Option ℕ) (fields : Option Members) (d : Data) (c : Command)
    → has_count 4 (count d) ≡ b → text_member (codes "type") d ≡ ty → id_member (codes "id") d ≡ id → object_member (codes "fields") d ≡ fields
    → text_member (codes "do") d ≡ Some (codes "modify")
    → Some c ≡ (if b then modify_parts ty id fields else None) → IsForm d c
modify_counted true (Some ty) (Some id) (Some fields) d c members named numbered given word found =
    subst (IsForm d) (some_injective (sym found)) (modify word named numbered given (counted 4 (count d) members))
modify_counted true (Some ty) (Some id) None d c members named numbered given word found = cc
modify_counted true (Some ty) None fields d c members named numbered given word found = cc
modify_counted true None id fields d c members named numbered given word found = cc
modify_counted false ty id fields d c members named numbered given word found = cc

-- a modify that is found has its form
modify_sound : (d : Data) (c : Command) → text_member (codes "do") d ≡ Some (codes "modify") → Some c ≡ modify_of d → IsForm d c
unfolding modify_of
modify_sound d c word found =
    modify_counted (has_count 4 (count d)) (text_member (codes "type") d) (id_member (codes "id") d) (object_member (codes "fields") d) d c
    refl refl refl refl word found

-- at each case of the count and of the two members
retract_counted : (b : Bool) (ty : Option (List ℕ)) (id : Option ℕ) (d : Data) (c : Command)
    → has_count 3 (count d) ≡ b → text_member (codes "type") d ≡ ty → id_member (codes "id") d ≡ id
    → text_member (codes "do") d ≡ Some (codes "retract")
    → Some c ≡ (if b then retract_parts ty id else None) → IsForm d c
retract_counted true (Some ty) (Some id) d c members named numbered word found =
    subst (IsForm d) (some_injective (sym found)) (retract word named numbered (counted 3 (count d) members))
retract_counted true (Some ty) None d c members named numbered word found = cc
retract_counted true None id d c members named numbered word found = cc
retract_counted false ty id d c members named numbered word found = cc

-- a retract that is found has its form
retract_sound : (d : Data) (c : Command) → text_member (codes "do") d ≡ Some (codes "retract") → Some c ≡ retract_of d → IsForm d c
unfolding retract_of
retract_sound d c word found =
    retract_counted (has_count 3 (count d)) (text_member (codes "type") d) (id_member (codes "id") d) d c refl refl refl word found

-- at each case of the count and of the whole number
advance_counted : (b : Bool) (by : Option ℤ) (d : Data) (c : Command)
    → has_count 2 (count d) ≡ b → whole_member (codes "by") d ≡ by → text_member (codes "do") d ≡ Some (codes "advance")
    → Some c ≡ (if b then advance_parts by else None) → IsForm d c
advance_counted true (Some by) d c members given word found =
    subst (IsForm d) (some_injective (sym found)) (advance word given (counted 2 (count d) members))
advance_counted true None d c members given word found = cc
advance_counted false by d c members given word found = cc

-- an advance that is found has its form
advance_sound : (d : Data) (c : Command) → text_member (codes "do") d ≡ Some (codes "advance") → Some c ≡ advance_of d → IsForm d c
unfolding advance_of
advance_sound d c word found = advance_counted (has_count 2 (count d)) (whole_member (codes "by") d) d c refl refl word found

-- at each case of the count and of the whole number
at_counted : (b : Bool) (moment : Option ℤ) (d : Data) (c : Command)
    → has_count 2 (count d) ≡ b → whole_member (codes "ms") d ≡ moment → text_member (codes "do") d ≡ Some (codes "at")
    → Some c ≡ (if b then at_parts moment else None) → IsForm d c
at_counted true (Some moment) d c members given word found =
    subst (IsForm d) (some_injective (sym found)) (at word given (counted 2 (count d) members))
at_counted true None d c members given word found = cc
at_counted false moment d c members given word found = cc

-- a setting of the clock that is found has its form
at_sound : (d : Data) (c : Command) → text_member (codes "do") d ≡ Some (codes "at") → Some c ≡ at_of d → IsForm d c
unfolding at_of
at_sound d c word found = at_counted (has_count 2 (count d)) (whole_member (codes "ms") d) d c refl refl word found

-- at each case of the two counts and of the two members
promise_counted : (plain into : Bool) (entry : Option (List ℕ)) (from : Option ℤ) (d : Data) (c : Command)
    → has_count 2 (count d) ≡ plain → has_count 3 (count d) ≡ into → text_member (codes "entry") d ≡ entry → whole_member (codes "from") d ≡ from
    → text_member (codes "do") d ≡ Some (codes "promise")
    → Some c ≡ (if plain then promise_parts from else (if into then promise_of_parts entry from else None)) → IsForm d c
promise_counted true into entry (Some from) d c members more way given word found =
    subst (IsForm d) (some_injective (sym found)) (promise word given (counted 2 (count d) members))
promise_counted true into entry None d c members more way given word found = cc
promise_counted false true (Some entry) (Some from) d c members more way given word found =
    subst (IsForm d) (some_injective (sym found)) (promise_for word way given (counted 3 (count d) more))
promise_counted false true (Some entry) None d c members more way given word found = cc
promise_counted false true None from d c members more way given word found = cc
promise_counted false false entry from d c members more way given word found = cc

-- a promise that is found has its form
promise_sound : (d : Data) (c : Command) → text_member (codes "do") d ≡ Some (codes "promise") → Some c ≡ promise_of d → IsForm d c
unfolding promise_of
promise_sound d c word found =
    promise_counted (has_count 2 (count d)) (has_count 3 (count d)) (text_member (codes "entry") d) (whole_member (codes "from") d) d c refl refl refl refl word found

-- at each case of the count
begin_counted : (alone : Bool) (d : Data) (c : Command) → has_count 1 (count d) ≡ alone → text_member (codes "do") d ≡ Some (codes "begin")
    → Some c ≡ (if alone then Some (Change Begin) else None) → IsForm d c
begin_counted true d c members word found = subst (IsForm d) (some_injective (sym found)) (begin word (counted 1 (count d) members))
begin_counted false d c members word found = cc

-- a begin that is found has its form
begin_sound : (d : Data) (c : Command) → text_member (codes "do") d ≡ Some (codes "begin") → Some c ≡ begin_of d → IsForm d c
unfolding begin_of
begin_sound d c word found = begin_counted (has_count 1 (count d)) d c refl word found

-- what is found by a test comes from one of its two sides
by_test : (b : Bool) (front rest : Option Command) (P : Command → Type 0) → (b ≡ true → (c : Command) → Some c ≡ front → P c)
    → ((c : Command) → Some c ≡ rest → P c) → (c : Command) → Some c ≡ (if b then front else rest) → P c
by_test true front rest P first second c found = first refl c found
by_test false front rest P first second c found = second c found

-- a word that tests as this one is this one
word_is : (expected word : List ℕ) (d : Data) → text_member (codes "do") d ≡ Some word → bytes_eq word expected ≡ true
    → text_member (codes "do") d ≡ Some expected
word_is expected word d stands same = stands ∙ ap Some ((bytes_eq-Decides word expected).0 same)

-- at each word after `do`
by_word : (word : Option (List ℕ)) (d : Data) → text_member (codes "do") d ≡ word → (c : Command) → Some c ≡ command_by_word d word → IsForm d c
by_word None d stands = λ c found. cc
by_word (Some word) d stands =
    by_test (bytes_eq word (codes "fire")) _ _ (IsForm d) (λ same c. fire_sound d c (word_is (codes "fire") word d stands same))
    (by_test (bytes_eq word (codes "insert")) _ _ (IsForm d) (λ same c. insert_sound d c (word_is (codes "insert") word d stands same))
    (by_test (bytes_eq word (codes "modify")) _ _ (IsForm d) (λ same c. modify_sound d c (word_is (codes "modify") word d stands same))
    (by_test (bytes_eq word (codes "retract")) _ _ (IsForm d) (λ same c. retract_sound d c (word_is (codes "retract") word d stands same))
    (by_test (bytes_eq word (codes "advance")) _ _ (IsForm d) (λ same c. advance_sound d c (word_is (codes "advance") word d stands same))
    (by_test (bytes_eq word (codes "at")) _ _ (IsForm d) (λ same c. at_sound d c (word_is (codes "at") word d stands same))
    (by_test (bytes_eq word (codes "held")) _ _ (IsForm d) (λ same c. held_sound d c (word_is (codes "held") word d stands same))
    (by_test (bytes_eq word (codes "promise")) _ _ (IsForm d) (λ same c. promise_sound d c (word_is (codes "promise") word d stands same))
    (by_test (bytes_eq word (codes "begin")) _ _ (IsForm d) (λ same c. begin_sound d c (word_is (codes "begin") word d stands same))
    (λ c found. cc)))))))))

-- a value has the form of the command that is found in it
pub form_sound : (d : Data) (c : Command) → Some c ≡ command_of d → IsForm d c
unfolding command_of
form_sound d c found = by_word (text_member (codes "do") d) d refl c found
