-- A line with a question has the form of no command.
use Rattle.desk_read.proofs.Common.{◌≡◌, List, ℕ, Some, None, refl, Data, IsQuestion, save, facts, typed_facts, counts, Question, reading_again}
use Rattle.{desk_read.{specs.Questions.{question_of}, proofs.QuestionLaws.{asked_form}}, script_read.specs.{Asked.{asked, bad_command}, Form.{command_of}}}

-- the word of a question is that of no command
no_command : {d : Data} {q : Question} → IsQuestion d q → command_of d ≡ None
unfolding command_of
no_command (save word members) = rw word refl
no_command (facts word members) = rw word refl
no_command (typed_facts word ty members) = rw word refl
no_command (counts word members) = rw word refl

-- a line with a question has the fault of no command
pub question_asked : (line : List ℕ) (q : Question) → question_of line ≡ Some q → asked line ≡ bad_command
unfolding asked
question_asked line q found = let form = asked_form line q found in rw (reading_again form.1, no_command form.2) refl
