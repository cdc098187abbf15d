-- What holds of images that are loaded.
use Rattle.std.specs.Prelude.{ℕ, Option}
use Rattle.checkpoint.specs.declared.image.Image.{Image}
use Rattle.rule_change.specs.Alike.{AreOver}
use Rattle.rule_model.specs.declared.{life.LifeTable.{LifeTable}, program.Program.{Program}}
use Rattle.image_making.specs.{Loads.{CanBeLoaded}, Moved.{MovesApart}}
use Rattle.image_change.specs.Images.{IsMovedImage}
use Rattle.image_laws.specs.Fitting.{Fits}
use Rattle.life_meaning.specs.Tables.{AreSafe}
use Rattle.rule_world.specs.Programs.{IsRunnable}

abbrev pub ChangedCanBeLoaded : Type 0
ChangedCanBeLoaded = (p q : Program) (from : ℕ → Option ℕ) (image made : Image) → AreOver p q from → CanBeLoaded p image → IsMovedImage p q image made → CanBeLoaded q made

abbrev pub ConditionsApart : Type 0
ConditionsApart = (p q : Program) (from : ℕ → Option ℕ) → AreOver p q from → MovesApart p q

abbrev pub FittingCanBeLoaded : Type 0
FittingCanBeLoaded = (p : Program) (table : LifeTable) (image : Image) → IsRunnable p → AreSafe p table → Fits p table image → CanBeLoaded p image
