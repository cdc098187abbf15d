-- Whether other rules can be asked for over the worlds of an image.
use Rattle.{std.proofs.Common.{◌≡◌, ◌↔◌, ℕ, Bool, false, true, Result, Ok, Err, IfOk, IsTrue, OnOk}, checkpoint.specs.declared.image.Image.{Image}}
use Rattle.{image_fitting.specs.Plain.{FitsPlainly, FittingLaw}, image_laws.specs.Fitting.{Fits}, image_making.specs.Loads.{CanBeLoaded}}
use Rattle.{laden_rows.specs.Laden.{AreOwners}, life_meaning.specs.Tables.{IsSafeTable}, rule_model.specs.declared.life.LifeTable.{LifeTable}}
use Rattle.{rule_model.specs.declared.program.Program.{Program}, rule_world.specs.Programs.{IsRunnable}}

-- a network can be loaded from an image that fits plainly
pub plainly_loads : (p : Program) (table : LifeTable) (image : Image) → IsRunnable p → FitsPlainly p table image → CanBeLoaded p image
plainly_loads p table image runnable fits = record {
  runnable = runnable;
  lawful = fits.lawful;
  present = fits.present;
  facts_in_order = fits.facts_in_order;
  placed = λ e i. (fits.placed e i).place;
  extras_in_order = fits.extras_in_order;
}

-- one that does not, does not fit
pub none_fits : FittingLaw → (p : Program) (table : LifeTable) (image : Image) (owners : ℕ → ℕ → ℕ) → AreOwners p owners
    → (FitsPlainly p table image → ⊥) → IsSafeTable p table → Fits p table image → ⊥
none_fits law p table image owners own none safe fits = none ((law p table image owners safe.safe own).0 fits).0

-- ---- what a test of an image answers

-- it fits plainly, so it can be loaded
pub ground_by : {T : Type 0} (r : Result Bool T) (P Q : Type 0) → IfOk r (λ yes. IsTrue yes ↔ P) → (P → Q) → IfOk r (λ has. IsTrue has → Q)
ground_by (Ok fits) P Q exact so = λ is. so (exact.0 is)
ground_by (Err e) P Q exact so = tt

-- it does not
pub none_by : {T : Type 0} (r : Result Bool T) (O P N : Type 0) → IfOk r (λ yes. IsTrue yes ↔ P) → OnOk r O
    → (O → (P → ⊥) → N) → IfOk r (λ has. has ≡ false → N)
none_by (Ok true) O P N exact own so = λ is. absurd (let torn : true ≡ false = is in cc)
none_by (Ok false) O P N exact own so = λ is. so own (λ fits. let torn : false ≡ true = exact.1 fits in absurd cc)
none_by (Err e) O P N exact own so = tt
