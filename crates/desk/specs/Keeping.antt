-- An image that is put to a file.
use Rattle.std.specs.Prelude.{◌≡◌, ◌≢◌, ◌⊎◌, ◌<◌, ◌≤◌, ◌++◌, [], ℕ, Bool, true, false, List, length, Option, Some, None, codes}
use Rattle.fx_io.specs.Outside.{AppendsFront}
use Rattle.fx_store.specs.{Puts.{IsPut}, declared.store.StoreFault.{StoreFault}}
use Rattle.fx_store.specs.declared.store.StoreFault.TheVariants as store
use Rattle.checkpoint.specs.{declared.image.{Image.{Image}, RunPart.{RunPart}}, Bytes.{IsImage}}
use Rattle.desk_image.specs.Bytes.{AreImageLives, desk_bytes, lives_bytes}
use Rattle.image_laws.specs.Images.{IsImageOf}
use Rattle.rule_model.specs.declared.{life.LifeTable.{LifeTable}, program.Program.{Program}}
use Rattle.rule_world.specs.Worlds.{World}
use Rattle.line_run.specs.declared.fault.{ImageFault.{ImageFault}, KeepFault.{KeepFault}}
use Rattle.line_run.specs.declared.fault.KeepFault.TheVariants as keep
use Rattle.line_run.specs.declared.fault.ImageFault.TheVariants as fault
use Rattle.line_run.specs.{declared.turn.Ended.TheVariants.{Script}, Parts.{run_part_at}, Run.{RunState}}
use Rattle.script_run.specs.Live.{most_firings}
use Rattle.replay.specs.declared.refused_checkpoint.CheckpointCode.{CheckpointCode, TheVariants.{Missing, TooLong, BadImage, OtherRules, Unfit}}
use Rattle.replay.specs.{Report.{run_status}, Checkpoints.{can_go_on, checkpoint_text, image_limit}, Wanted.{Files}}

-- what stands in front of the bytes of an image
abbrev pub front_bytes : Option LifeTable → List ℕ
front_bytes None = []
front_bytes (Some lives) = codes "FXC2" ++ lives_bytes lives

-- these alone are more than an image may have
abbrev pub IsTooMuch : List ℕ → ImageFault → Type 0
IsTooMuch bytes why = (why ≡ fault.TooLong) × (image_limit < length bytes)

-- the file of the name has the bytes of the image with the lives that it says, if it says some, which are read back as them; it is not too long, and a run
-- can go on from its numbers
abbrev pub Keeps : Option LifeTable → Image → Option Files → Option Files → List ℕ → Type 0
Keeps told image before after name =
    AreImageLives told × IsImage image × (can_go_on image ≡ true) × (length (desk_bytes told image) ≤ image_limit) × IsPut before after name (desk_bytes told image)

-- why an image is refused that was to be put: it is too long, or no run could go on from its numbers
abbrev pub MayRefuse : Option LifeTable → Image → CheckpointCode → Type 0
MayRefuse told image TooLong = image_limit < length (desk_bytes told image)
MayRefuse told image Unfit = can_go_on image ≡ false
MayRefuse told image Missing = ⊥
MayRefuse told image BadImage = ⊥
MayRefuse told image OtherRules = ⊥

-- of a run that came to the end of its script
abbrev pub status_of_part : Bool → ℕ
status_of_part faulty = run_status (Script faulty)

-- the code with which an image is refused that was to be put
abbrev pub refusal_code : ImageFault → CheckpointCode
refusal_code fault.TooLong = TooLong
refusal_code fault.Unfit = Unfit

-- the fault with which a file is not put
abbrev pub kept_as : StoreFault → KeepFault
kept_as store.Failed = keep.WriteFault
kept_as store.NoMemory = keep.NoMemory

-- ---- of an engine that stands for worlds

-- what is put where the name of an image is given
abbrev pub IsPutFor : (World → Type 0) → Program → LifeTable → Option LifeTable → RunPart → Option Files → Option Files → Option (List ℕ) → Type 0
IsPutFor stands p table told run before after None = after ≡ before
IsPutFor stands p table told run before after (Some name) =
    (image : Image) × (image.run ≡ run) × ((w : World) → stands w → IsImageOf p table w image) × Keeps told image before after name

-- its image is refused with a code
abbrev pub IsRefusedFor : (World → Type 0) → Program → LifeTable → Option LifeTable → RunPart → CheckpointCode → Type 0
IsRefusedFor stands p table told run code =
    (image : Image) × (image.run ≡ run) × ((w : World) → stands w → IsImageOf p table w image) × MayRefuse told image code

-- It is not put, for a fault: nothing is written, and the file of the image is the old one or the new one. Or it is refused, and a front of the line is
-- written that says so.
abbrev pub IsUnputFor : (World → Type 0) → Program → LifeTable → Option LifeTable → RunPart → Option (List ℕ) → Option (List ℕ) → Option Files → Option Files → Option (List ℕ) → Type 0
IsUnputFor stands p table told run before after files files' image =
    ((after ≡ before) × ((files' ≡ files) ⊎ IsPutFor stands p table told run files files' image))
    ⊎ ((code : CheckpointCode) × AppendsFront before after (checkpoint_text code) × IsRefusedFor stands p table told run code × (image ≢ None) × (files' ≡ files))

-- ---- of a state to which a run came that began behind a part

-- its image is put, where a file is named for it
abbrev pub IsPutBehind : Program → LifeTable → Option LifeTable → RunPart → RunState → Option Files → Option Files → Option (List ℕ) → Type 0
IsPutBehind p table told first s before after None = after ≡ before
IsPutBehind p table told first s before after (Some name) =
    (image : Image) × IsImageOf p table s.world image × (image.run ≡ run_part_at most_firings first s.progress) × Keeps told image before after name

-- its image is refused with a code
abbrev pub IsRefusedBehind : Program → LifeTable → Option LifeTable → RunPart → RunState → CheckpointCode → Type 0
IsRefusedBehind p table told first s code =
    (image : Image) × IsImageOf p table s.world image × (image.run ≡ run_part_at most_firings first s.progress) × MayRefuse told image code
