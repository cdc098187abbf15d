-- What a line asks for, by the function and by the forms.
use Rattle.script_read.proofs.Common.{◌≡◌, List, ℕ, Option, Some, None, Result, Ok, Err, refl, sym, IfOk, IsErrOf, Data, IsForm, command_of, IsLineReading}
use Rattle.script_read.{proofs.Common.{asks, bad_json, reading, asked_of_reading, AnswersLine, bad_command, asked_of_command, Command}, specs.Asked.{asked}}
use Rattle.script_read.{specs.declared.fault.CommandFault.{CommandFault, TheVariants.{BadJson, BadCommand, NoMemory}}, proofs.FormLaws.{form_again, form_sound}}
use Rattle.script_read.proofs.{FormLaws.{no_form}, Readings.{reading_again, reading_sound}}

-- ---- from the forms to what is asked

-- a line asks for the command whose form its reading has
pub form_asked : (line : List ℕ) (d : Data) (c : Command) → IsLineReading line d → IsForm d c → asked line ≡ asks c
unfolding asked
form_asked line d c read form = rw (reading_again read, form_again form) refl

-- at each case of the reading
unread : (o : Option Data) (line : List ℕ) → reading line ≡ o → ((d : Data) → IsLineReading line d → ⊥) → asked_of_reading o ≡ bad_json
unread None line e none = refl
unread (Some d) line e none = absurd (none d (reading_sound line d e))

-- a line with no reading has the fault of no JSON
pub unread_asked : (line : List ℕ) → ((d : Data) → IsLineReading line d → ⊥) → asked line ≡ bad_json
unfolding asked
unread_asked line none = unread (reading line) line refl none

-- at each case of the command found
formless : (o : Option Command) (d : Data) → command_of d ≡ o → ((c : Command) → IsForm d c → ⊥) → asked_of_command o ≡ bad_command
formless None d e none = refl
formless (Some c) d e none = absurd (none c (form_sound d c (sym e)))

-- a line whose reading has no form has the fault of no command
pub formless_asked : (line : List ℕ) (d : Data) → IsLineReading line d → ((c : Command) → IsForm d c → ⊥) → asked line ≡ bad_command
unfolding asked
formless_asked line d read none = rw (reading_again read) (formless (command_of d) d refl none)

-- ---- from what is asked to the forms

-- at each case of the command found
form_in : (o : Option Command) (d : Data) (c : Command) → command_of d ≡ o → asked_of_command o ≡ asks c → IsForm d c
form_in None d c e found = cc
form_in (Some other) d c e found = form_sound d c (cc)

-- at each case of the reading
form_by : (o : Option Data) (line : List ℕ) (c : Command) → reading line ≡ o → asked_of_reading o ≡ asks c → (d : Data) × IsLineReading line d × IsForm d c
form_by None line c e found = cc
form_by (Some d) line c e found = (d, reading_sound line d e, form_in (command_of d) d c refl found)

-- the command that is asked has its form in the reading
pub asked_form : (line : List ℕ) (c : Command) → asked line ≡ asks c → (d : Data) × IsLineReading line d × IsForm d c
unfolding asked
asked_form line c found = form_by (reading line) line c refl found

-- at each case of the reading
not_read : (o : Option Data) (line : List ℕ) → reading line ≡ o → asked_of_reading o ≡ bad_json → (d : Data) → IsLineReading line d → ⊥
not_read None line e found d read = let some = reading_again read in cc
not_read (Some other) line e found d read = not_asked (command_of other) found
  where
    not_asked : (o : Option Command) → asked_of_command o ≡ bad_json → ⊥
    not_asked None found = cc
    not_asked (Some c) found = cc

-- a line with the fault of no JSON has no reading
pub asked_unread : (line : List ℕ) → asked line ≡ bad_json → (d : Data) → IsLineReading line d → ⊥
unfolding asked
asked_unread line found = not_read (reading line) line refl found

-- at each case of the command found
none_in : (o : Option Command) (d : Data) → command_of d ≡ o → asked_of_command o ≡ bad_command → (c : Command) → IsForm d c → ⊥
none_in None d e found = no_form (sym e)
none_in (Some other) d e found = cc

-- at each case of the reading
none_by : (o : Option Data) (line : List ℕ) → reading line ≡ o → asked_of_reading o ≡ bad_command → (d : Data) × IsLineReading line d × ((c : Command) → IsForm d c → ⊥)
none_by None line e found = cc
none_by (Some d) line e found = (d, reading_sound line d e, none_in (command_of d) d refl found)

-- a line with the fault of no command has a reading of no form
pub asked_formless : (line : List ℕ) → asked line ≡ bad_command → (d : Data) × IsLineReading line d × ((c : Command) → IsForm d c → ⊥)
unfolding asked
asked_formless line found = none_by (reading line) line refl found

-- ---- an answer that says what is asked, by the forms

pub answer_ok : (line : List ℕ) (r : Result Command CommandFault) → AnswersLine (asked line) r → IfOk r (λ c. (d : Data) × IsLineReading line d × IsForm d c)
answer_ok line (Ok c) answers = asked_form line c answers
answer_ok line (Err fault) answers = tt

pub answer_bad_command : (line : List ℕ) (r : Result Command CommandFault) → AnswersLine (asked line) r → IsErrOf r BadCommand
    → (d : Data) × IsLineReading line d × ((c : Command) → IsForm d c → ⊥)
answer_bad_command line (Ok c) answers is = cc
answer_bad_command line (Err BadJson) answers is = cc
answer_bad_command line (Err BadCommand) answers is = asked_formless line answers
answer_bad_command line (Err NoMemory) answers is = cc
