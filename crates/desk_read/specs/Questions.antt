-- What a line of a live script asks beside the commands of every script.
use Rattle.std.specs.{Prelude.{◌≡◌, ℕ, List, Option, Some, None, if◌then◌else◌, option_and_then, codes}, Str.{bytes_eq}}
use Rattle.serde_json.specs.Data.{Data}
use Rattle.script_read.specs.{Asked.{IsLineReading, reading}, Form.{has_count}, Members.{text_member, count}}
use Rattle.desk_read.specs.declared.asked.Question.{Question, TheVariants.{Save, Facts, Counts}}

-- The forms, one for each kind of line: an object with exactly the members that are named. Since each name stands once,
-- an object of n members that has n given names has no other.
pub data IsQuestion : Data → Question → Type 0 where
  -- {"do":"save"}
  save : {d : Data} → text_member (codes "do") d ≡ Some (codes "save")
      → count d ≡ Some 1
      → IsQuestion d Save
  -- {"do":"facts"}
  facts : {d : Data} → text_member (codes "do") d ≡ Some (codes "facts")
      → count d ≡ Some 1
      → IsQuestion d (Facts None)
  -- {"do":"facts","type":T}
  typed_facts : {d : Data} {ty : List ℕ} → text_member (codes "do") d ≡ Some (codes "facts")
      → text_member (codes "type") d ≡ Some ty
      → count d ≡ Some 2
      → IsQuestion d (Facts (Some ty))
  -- {"do":"counts"}
  counts : {d : Data} → text_member (codes "do") d ≡ Some (codes "counts")
      → count d ≡ Some 1
      → IsQuestion d Counts

unfoldable pub save_of : Data → Option Question
save_of d = if has_count 1 (count d) then Some Save else None

abbrev pub typed_parts : Option (List ℕ) → Option Question
typed_parts None = None
typed_parts (Some ty) = Some (Facts (Some ty))

unfoldable pub facts_of : Data → Option Question
facts_of d = if has_count 1 (count d) then Some (Facts None)
    else (if has_count 2 (count d) then typed_parts (text_member (codes "type") d) else None)

unfoldable pub counts_of : Data → Option Question
counts_of d = if has_count 1 (count d) then Some Counts else None

-- by the word after `do`
abbrev pub question_by_word : Data → Option (List ℕ) → Option Question
question_by_word d None = None
question_by_word d (Some word) = if bytes_eq word (codes "save") then save_of d
    else (if bytes_eq word (codes "facts") then facts_of d
    else (if bytes_eq word (codes "counts") then counts_of d else None))

-- the question whose form a value has
unfoldable pub question_in : Data → Option Question
question_in d = question_by_word d (text_member (codes "do") d)

-- The question of a line, as a function. The same as a relation: `IsLineReading` of `script_read` and `IsQuestion` here, law
-- `desk_read::laws::a_line_has_the_question_of_its_form`.
unfoldable pub question_of : List ℕ → Option Question
question_of line = option_and_then question_in (reading line)

-- the reading of the line has the form of this question; without one it has no reading, or its reading has no form
abbrev pub TellsQuestion : List ℕ → Option Question → Type 0
TellsQuestion line None = (d : Data) → IsLineReading line d → (q : Question) → ¬ IsQuestion d q
TellsQuestion line (Some q) = (d : Data) × IsLineReading line d × IsQuestion d q
