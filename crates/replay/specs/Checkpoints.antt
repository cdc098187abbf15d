-- Images in files, and why they are refused.
use Rattle.std.specs.{Prelude.{◌≡◌, ℕ, ◌++◌, ◌^◌, ◌&&◌, Bool, List, [], ◌∷◌, length, nat_le, nat_lt, Option, Some, None, codes, if◌then◌else◌}, Str.{bytes_eq}}
use Rattle.checkpoint.specs.{declared.image.Image.{Image}, Reading.{decoded}}
use Rattle.drl_parse.specs.Parsed.{Parsed, is_file, outside, too_long, lexical, parsed}
use Rattle.drl_show.specs.Shown.{shown}
use Rattle.replay.specs.declared.checkpoint_file.CheckpointFault.{CheckpointFault, TheVariants.{Refused, ReadFault, NoMemory}}
use Rattle.replay.specs.declared.refused_checkpoint.CheckpointCode.{CheckpointCode, TheVariants.{Missing, TooLong, BadImage, OtherRules, Unfit}}

-- ---- the text of rules

-- of a file, as it is shown
abbrev pub shown_file : Parsed → List ℕ
shown_file (is_file file) = shown file
shown_file (outside item line) = []
shown_file too_long = []
shown_file (lexical reason line) = []

unfoldable pub rules_shown : List ℕ → List ℕ
rules_shown bytes = shown_file (parsed bytes)

-- ---- what the file of a checkpoint is to rules with a text

pub data Checkpoint : Type 0 where
  has_image : Image → Checkpoint
  is_refused : CheckpointCode → Checkpoint

-- the most bytes of an image
unfoldable pub image_limit : ℕ
image_limit = 2 ^ 30

abbrev pub of_image : List ℕ → Image → Checkpoint
of_image rules image = if bytes_eq image.run.rules rules then has_image image else is_refused OtherRules

abbrev pub of_decoded : List ℕ → Option Image → Checkpoint
of_decoded rules None = is_refused BadImage
of_decoded rules (Some image) = of_image rules image

unfoldable pub checkpoint_of : List ℕ → List ℕ → Checkpoint
checkpoint_of rules bytes = if nat_lt image_limit (length bytes) then is_refused TooLong else of_decoded rules (decoded bytes)

abbrev pub checkpoint_in : List ℕ → Option (List ℕ) → Checkpoint
checkpoint_in rules None = is_refused Missing
checkpoint_in rules (Some bytes) = checkpoint_of rules bytes

-- what a fault says of the file: it is refused with this code; a failed read, and want of memory, say nothing
abbrev pub TellsCheckpointFault : Checkpoint → CheckpointFault → Type 0
TellsCheckpointFault found (Refused code) = found ≡ is_refused code
TellsCheckpointFault found ReadFault = Unit {0}
TellsCheckpointFault found NoMemory = Unit {0}

-- ---- images that are written

-- the numbers of an image let a run go on from it
abbrev pub can_go_on : Image → Bool
can_go_on image =
    nat_le image.next_id (2 ^ 61) && (nat_le image.next_tag (2 ^ 61) && (nat_le image.run.lines (2 ^ 61) && nat_le image.run.firings (2 ^ 61)))

-- ---- the line

abbrev pub checkpoint_code_text : CheckpointCode → List ℕ
checkpoint_code_text Missing = codes "Missing"
checkpoint_code_text TooLong = codes "TooLong"
checkpoint_code_text BadImage = codes "BadImage"
checkpoint_code_text OtherRules = codes "OtherRules"
checkpoint_code_text Unfit = codes "Unfit"

abbrev pub checkpoint_text : CheckpointCode → List ℕ
checkpoint_text code = codes "refused checkpoint " ++ checkpoint_code_text code ++ 10 ∷ []
