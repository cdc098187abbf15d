-- The forms as cases and the question that is found by the word after `do` say the same.
use Rattle.desk_read.proofs.Common.{◌≡◌, List, ℕ, Bool, true, false, Option, Some, None, Result, Ok, Err, IfOk, refl, sym, ◌∙◌, ap, subst, Data, IsLineReading}
use Rattle.desk_read.proofs.Common.{reading, has_count, count, text_member, reading_again, reading_sound, codes, if◌then◌else◌, bytes_eq, option_and_then}
use Rattle.desk_read.proofs.Common.{IsQuestion, TellsQuestion, save, facts, typed_facts, counts, question_by_word, typed_parts, Question, Save, Facts, Counts}
use Rattle.{desk_read.specs.Questions.{save_of, facts_of, counts_of, question_in, question_of}, fx_base.specs.declared.no_memory.NoMemory.{NoMemory}}
use Rattle.std.proofs.lemmas.{Slice.Eq.{bytes_eq-Decides}, Bool.Decides.{Decides-eqb}}

-- every question with the form of a value is the one that is found
pub question_again : {d : Data} {q : Question} → IsQuestion d q → question_in d ≡ Some q
unfolding question_in save_of facts_of counts_of
question_again (save word members) = rw (word, members) refl
question_again (facts word members) = rw (word, members) refl
question_again (typed_facts word ty members) = rw (word, members, ty) refl
question_again (counts word members) = rw (word, members) refl

-- ---- what is found has its form: a lemma for each form, and one line for each word

-- equal options have equal values
some_injective : {q other : Question} → Some q ≡ Some other → q ≡ other
some_injective e = cc

-- the test of a count says the count
counted : (n : ℕ) (m : Option ℕ) → has_count n m ≡ true → m ≡ Some n
counted n None e = cc
counted n (Some m) e = ap Some ((Decides-eqb m n).0 e)

-- a question of a word alone has its form, at each case of the count
alone : (b : Bool) (word : List ℕ) (own : Question) (d : Data) (q : Question) → has_count 1 (count d) ≡ b → text_member (codes "do") d ≡ Some word
    → (text_member (codes "do") d ≡ Some word → count d ≡ Some 1 → IsQuestion d own)
    → Some q ≡ (if b then Some own else None) → IsQuestion d q
alone true word own d q members stands form found = subst (IsQuestion d) (some_injective (sym found)) (form stands (counted 1 (count d) members))
alone false word own d q members stands form found = cc

-- a question for the image that is found has its form
save_sound : (d : Data) (q : Question) → text_member (codes "do") d ≡ Some (codes "save") → Some q ≡ save_of d → IsQuestion d q
unfolding save_of
save_sound d q word found = alone (has_count 1 (count d)) (codes "save") Save d q refl word (λ w n. save w n) found

-- at each case of the two counts and of the name
facts_counted : (all typed : Bool) (ty : Option (List ℕ)) (d : Data) (q : Question)
    → has_count 1 (count d) ≡ all → has_count 2 (count d) ≡ typed → text_member (codes "type") d ≡ ty
    → text_member (codes "do") d ≡ Some (codes "facts")
    → Some q ≡ (if all then Some (Facts None) else (if typed then typed_parts ty else None)) → IsQuestion d q
facts_counted true typed ty d q members more named word found =
    subst (IsQuestion d) (some_injective (sym found)) (facts word (counted 1 (count d) members))
facts_counted false true (Some ty) d q members more named word found =
    subst (IsQuestion d) (some_injective (sym found)) (typed_facts word named (counted 2 (count d) more))
facts_counted false true None d q members more named word found = cc
facts_counted false false ty d q members more named word found = cc

-- a question for the facts that is found has its form
facts_sound : (d : Data) (q : Question) → text_member (codes "do") d ≡ Some (codes "facts") → Some q ≡ facts_of d → IsQuestion d q
unfolding facts_of
facts_sound d q word found =
    facts_counted (has_count 1 (count d)) (has_count 2 (count d)) (text_member (codes "type") d) d q refl refl refl word found

-- a question for the counts that is found has its form
counts_sound : (d : Data) (q : Question) → text_member (codes "do") d ≡ Some (codes "counts") → Some q ≡ counts_of d → IsQuestion d q
unfolding counts_of
counts_sound d q word found = alone (has_count 1 (count d)) (codes "counts") Counts d q refl word (λ w n. counts w n) found

-- what is found by a test comes from one of its two sides
by_test : (b : Bool) (front rest : Option Question) (P : Question → Type 0) → (b ≡ true → (q : Question) → Some q ≡ front → P q)
    → ((q : Question) → Some q ≡ rest → P q) → (q : Question) → Some q ≡ (if b then front else rest) → P q
by_test true front rest P first second q found = first refl q found
by_test false front rest P first second q found = second q found

-- a word that tests as this one is this one
word_is : (expected word : List ℕ) (d : Data) → text_member (codes "do") d ≡ Some word → bytes_eq word expected ≡ true
    → text_member (codes "do") d ≡ Some expected
word_is expected word d stands same = stands ∙ ap Some ((bytes_eq-Decides word expected).0 same)

-- at each word after `do`
by_word : (word : Option (List ℕ)) (d : Data) → text_member (codes "do") d ≡ word → (q : Question) → Some q ≡ question_by_word d word → IsQuestion d q
by_word None d stands = λ q found. cc
by_word (Some word) d stands =
    by_test (bytes_eq word (codes "save")) _ _ (IsQuestion d) (λ same q. save_sound d q (word_is (codes "save") word d stands same))
    (by_test (bytes_eq word (codes "facts")) _ _ (IsQuestion d) (λ same q. facts_sound d q (word_is (codes "facts") word d stands same))
    (by_test (bytes_eq word (codes "counts")) _ _ (IsQuestion d) (λ same q. counts_sound d q (word_is (codes "counts") word d stands same))
    (λ q found. cc)))

-- a value has the form of the question that is found in it
pub question_sound : (d : Data) (q : Question) → Some q ≡ question_in d → IsQuestion d q
unfolding question_in
question_sound d q found = by_word (text_member (codes "do") d) d refl q found

-- ---- the same of lines

-- a line has the question whose form its reading has
pub form_asked : (line : List ℕ) (q : Question) → (d : Data) × IsLineReading line d × IsQuestion d q → question_of line ≡ Some q
unfolding question_of
form_asked line q (d, read, form) = rw (reading_again read) (question_again form)

-- at each case of the reading
form_in : (o : Option Data) (line : List ℕ) (q : Question) → reading line ≡ o → option_and_then question_in o ≡ Some q
    → (d : Data) × IsLineReading line d × IsQuestion d q
form_in None line q stands found = cc
form_in (Some d) line q stands found = (d, reading_sound line d stands, question_sound d q (sym found))

-- the question of a line has its form in the reading
pub asked_form : (line : List ℕ) (q : Question) → question_of line ≡ Some q → (d : Data) × IsLineReading line d × IsQuestion d q
unfolding question_of
asked_form line q found = form_in (reading line) line q refl found

-- a line with no question has no reading, or one of no form
pub asked_formless : (line : List ℕ) → question_of line ≡ None → (d : Data) → IsLineReading line d → (q : Question) → IsQuestion d q → ⊥
asked_formless line none d read q form = let some = form_asked line q (d, read, form) in cc

-- at each case of the question found
formless : (o : Option Question) (line : List ℕ) → question_of line ≡ o
    → ((d : Data) → IsLineReading line d → (q : Question) → IsQuestion d q → ⊥) → o ≡ None
formless None line stands none = refl
formless (Some q) line stands none = let form = asked_form line q stands in absurd (none form.0 form.1 q form.2)

-- a line of which no reading has a form has no question
pub formless_asked : (line : List ℕ) → ((d : Data) → IsLineReading line d → (q : Question) → IsQuestion d q → ⊥) → question_of line ≡ None
formless_asked line none = formless (question_of line) line refl none

-- what is found is told by the forms
pub tells : (line : List ℕ) (o : Option Question) → question_of line ≡ o → TellsQuestion line o
tells line None stands = asked_formless line stands
tells line (Some q) stands = asked_form line q stands

-- the same of what a call answers
pub told : (line : List ℕ) (r : Result (Option Question) NoMemory) → IfOk r (λ q. q ≡ question_of line) → IfOk r (λ q. TellsQuestion line q)
told line (Ok q) found = tells line q (sym found)
told line (Err fault) found = tt
