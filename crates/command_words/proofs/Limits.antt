-- What words ask for has a limit from 1 to 1,000,000, and a load a number below 2^31.
use Rattle.command_words.proofs.Common.{ℕ, List, Option, Some, None, IfSome, option_map, option_and_then, rules, Row, Text, first_of, IsLimit, IsLoadNumber}
use Rattle.command_words.proofs.Common.{IsWithinBounds, asks_file, asks_resumed, asks_load, asks_parts, given_or, limited, load_numbered, mode_of}
use Rattle.command_words.{proofs.Common.{number_in_digits}, specs.declared.asking.{Asked.TheVariants.{Load}, Mode.{Mode, TheVariants.{Run, Check, Lives}}}}
use Rattle.command_words.specs.{declared.asking.Mode.TheVariants.{Proof, Save}, Asked.{asked_rows, limit_written, load_number_of}, Desk.{HasLimit, asks_desk}}
use Rattle.command_words.specs.{Desk.{desk_rows, is_set, runs_desk}, declared.desk.DeskWords.{DeskWords, TheVariants.{Help, Version}}}
use Rattle.std.{specs.Prelude.{codes, Bool, true, false, if◌then◌else◌}, proofs.lemmas.Bool.Decides.{nat_tests}}

limited_within : (n : ℕ) → IfSome (limited n) IsLimit
limited_within n = search rules

limit_within : (text : Text) → IfSome (limit_written text) IsLimit
unfolding limit_written
limit_within text = go (number_in_digits 7 text)
  where
    go : (number : Option ℕ) → IfSome (option_and_then limited number) IsLimit
    go None = tt
    go (Some n) = limited_within n

load_numbered_within : (n : ℕ) → IfSome (load_numbered n) IsLoadNumber
load_numbered_within n = search (rules, nat_tests)

load_number_within : (text : Text) → IfSome (load_number_of text) IsLoadNumber
unfolding load_number_of
load_number_within text = go (number_in_digits 10 text)
  where
    go : (number : Option ℕ) → IfSome (option_and_then load_numbered number) IsLoadNumber
    go None = tt
    go (Some n) = load_numbered_within n

load_within : (number : Option ℕ) (limit : ℕ) → IfSome number IsLoadNumber → IsLimit limit → IfSome (option_map (λ k. Load k limit) number) IsWithinBounds
load_within None limit is within = tt
load_within (Some k) limit is within = (is, within)

file_within : (mode : Option Mode) (limit : Option ℕ) (name : Option Text) → IfSome limit IsLimit → IfSome (asks_file mode limit name) IsWithinBounds
file_within None limit name within = tt
file_within (Some mode) None name within = tt
file_within (Some mode) (Some limit) None within = tt
file_within (Some mode) (Some limit) (Some name) within = within

resumed_within : (mode : Option Mode) (limit : Option ℕ) (name : Option Text) (image : Text) → IfSome limit IsLimit → IfSome (asks_resumed mode limit name image) IsWithinBounds
resumed_within None limit name image within = tt
resumed_within (Some Run) None name image within = tt
resumed_within (Some Run) (Some limit) None image within = tt
resumed_within (Some Run) (Some limit) (Some name) image within = within
resumed_within (Some Save) None name image within = tt
resumed_within (Some Save) (Some limit) None image within = tt
resumed_within (Some Save) (Some limit) (Some name) image within = within
resumed_within (Some Check) limit name image within = tt
resumed_within (Some Lives) limit name image within = tt
resumed_within (Some Proof) limit name image within = tt

numbered_within : (mode : Option Mode) (limit : Option ℕ) (name : Option Text) (text : Text) → IfSome limit IsLimit → IfSome (asks_load mode limit name text) IsWithinBounds
numbered_within None limit name text within = tt
numbered_within (Some Run) None name text within = tt
numbered_within (Some Run) (Some limit) None text within = load_within (load_number_of text) limit (load_number_within text) within
numbered_within (Some Run) (Some limit) (Some name) text within = tt
numbered_within (Some Check) limit name text within = tt
numbered_within (Some Lives) limit name text within = tt
numbered_within (Some Proof) limit name text within = tt
numbered_within (Some Save) limit name text within = tt

parts_within : (text image : Option Text) (mode : Option Mode) (limit : Option ℕ) (name : Option Text) → IfSome limit IsLimit → IfSome (asks_parts text image mode limit name) IsWithinBounds
parts_within None None mode limit name within = file_within mode limit name within
parts_within None (Some image) mode limit name within = resumed_within mode limit name image within
parts_within (Some text) None mode limit name within = numbered_within mode limit name text within
parts_within (Some text) (Some image) mode limit name within = tt

-- what arguments ask for
pub rows_within : (rows : List Row) → IfSome (asked_rows rows) IsWithinBounds
unfolding asked_rows
rows_within rows =
    parts_within (first_of (codes "gen") rows) (first_of (codes "resume") rows) (mode_of (given_or (codes "mode") (codes "run") rows)) _ (first_of (codes "rules") rows)
    (limit_within (given_or (codes "limit") (codes "100000") rows))

asks_within : (text : Bool) (each : Option ℕ) (image keep rules : Option Text) → IfSome each IsLimit
    → IfSome (runs_desk (asks_desk text each image keep rules)) HasLimit
asks_within text None image keep rules within = tt
asks_within text (Some each) image keep None within = tt
asks_within text (Some each) image keep (Some rules) within = within

pub desk_within : (rows : List Row) → IfSome (desk_rows rows) HasLimit
unfolding desk_rows
desk_within rows =
    told (is_set (first_of (codes "help") rows)) Help _ tt (told (is_set (first_of (codes "version") rows)) Version _ tt
    (asks_within (is_set (first_of (codes "text") rows)) (limit_written (given_or (codes "limit") (codes "100000") rows)) (first_of (codes "image") rows)
    (first_of (codes "keep") rows) (first_of (codes "rules") rows)
    (limit_within (given_or (codes "limit") (codes "100000") rows))))
  where
    told : (flag : Bool) (words : DeskWords) (asked : Option DeskWords) → HasLimit words → IfSome asked HasLimit → IfSome (if flag then Some words else asked) HasLimit
    told true words asked within other = within
    told false words asked within other = other
