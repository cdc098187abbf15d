-- What other rules make of an image.
use Rattle.std.specs.Prelude.{◌≡◌, ℕ, Option, None}
use Rattle.checkpoint.specs.declared.image.Image.{Image}
use Rattle.image_change.specs.Images.{IsChangedImage}
use Rattle.image_laws.specs.{Fitting.{Fits, IsNextNumber}, Images.{IsImageOf}}
use Rattle.laden_rows.specs.Placed.{IsSmall}
use Rattle.rule_change.specs.{declared.code.ChangeCode.{ChangeCode}, Alike.{AreOver, HaveNames, HavePlaces}, Changed.{AreFrom, carried, changed}}
use Rattle.rule_change.specs.Refused.{IsVerdict}
use Rattle.life_meaning.specs.Tables.{AreLives, IsSafeTable}
use Rattle.rule_model.specs.{Lives.{AreShort}, declared.{life.LifeTable.{LifeTable}, program.Program.{Program}}}
use Rattle.rule_world.specs.{Lawful.{IsLawful}, Programs.{IsRunnable}, Worlds.{World}}

-- rules and others, of which those that stay are known
pub record AreRules (p q : Program) (from : ℕ → Option ℕ) : Type 0 where
  pub runnable : IsRunnable p
  pub other_runnable : IsRunnable q
  pub places : HavePlaces p
  pub names : HaveNames p
  pub other_names : HaveNames q
  pub are_from : AreFrom p q from

-- a lawful world of which the image is, by a safe table
pub record IsWorldOf (p : Program) (table : LifeTable) (image : Image) (w : World) : Type 0 where
  pub lawful : IsLawful p w
  pub safe : IsSafeTable p table
  pub is : IsImageOf p table w image

-- of each world of which the image is, the rules are refused so, or taken
abbrev pub IsVerdictOf : Program → Program → (ℕ → Option ℕ) → LifeTable → LifeTable → Image → Option ChangeCode → Type 0
IsVerdictOf p q from table own image code = (w : World) → IsWorldOf p table image w → IsVerdict p q from table own w code

-- The rules are taken, and this image and these lives are made: of each world of which the image was, that under the new rules has the one that is made,
-- and it fits.
pub record IsTakenOver (p q : Program) (from : ℕ → Option ℕ) (table own : LifeTable) (image made : Image) (lives : LifeTable) : Type 0 where
  pub verdict : IsVerdictOf p q from table own image None
  pub over : AreOver p q from
  pub changed_so : IsChangedImage p q from image made
  pub carried_so : lives ≡ carried p q table own
  pub is : AreLives q own → AreShort own → (w : World) → IsWorldOf p table image w → IsImageOf q lives (changed p q from w) made
  pub fits : AreLives q own → AreShort own → (w : World) → IsWorldOf p table image w → IsNextNumber image.next_id → IsNextNumber image.next_tag → IsSmall image.run.lines
      → IsSmall image.run.firings → Fits q lives made
