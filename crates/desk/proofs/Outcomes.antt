-- What becomes of a live run behind an image of other rules.
use Rattle.{std.proofs.Common.{◌≡◌, inl, inr, ℕ, false, List, Option, Some, refl, subst}, change_rules.specs.{AsLong.{are_as_long}, Staying.{place_in}}}
use Rattle.{checkpoint.specs.declared.image.Image.{Image}, image_laws.specs.Fitting.{Fits}, image_making.specs.Change.{IsTakenOver, IsVerdictOf, IsWorldOf}}
use Rattle.{replay.specs.declared.beginning.Beginning.TheVariants.{Behind}, rule_change.specs.{declared.code.ChangeCode.{ChangeCode}, Alike.{HaveNames}}}
use Rattle.{rule_change.specs.{Alike.{HavePlaces}, Changed.{AreFrom}, Told.{rules_told}}, rule_lines.specs.Told.{told_lines}}
use Rattle.{life_meaning.specs.Tables.{AreLives}, rule_model.specs.declared.life.LifeTable.{LifeTable}, rule_world.specs.Worlds.{World}}
use Rattle.desk.specs.{declared.wanted.Changing.{Changing}, Changes.{Changed, HasNoGround, IsRefusedOver, IsUnfit, Known, begun_over, kept_by}}
use Rattle.desk.specs.Meanings.{is_text}

module _ (c : Changing) (own kept : LifeTable) (are_old : AreLives c.old own) (is_kept : kept ≡ kept_by c own) where
  -- no world has an image that fits
  abbrev NoneFits : LifeTable → Type 0
  NoneFits table = HavePlaces c.old → HaveNames c.old → HaveNames c.setting.program
      → (w : World) → IsWorldOf c.old table c.image w → Fits c.old table c.image → ⊥

  -- no network of the old rules can be loaded
  pub groundless : HasNoGround c own kept → IsUnfit c
  groundless (inl short) = (own, are_old, inl (subst (λ (k : LifeTable). are_as_long own k ≡ false) is_kept short))
  groundless (inr none) = (
    own,
    are_old,
    inr (subst NoneFits is_kept (λ places names others w of fits. none places names others of.safe fits)),
  )

  -- no network of them has a row that the image names
  pub rowless : (Fits c.old kept c.image → (w : World) → IsWorldOf c.old kept c.image w → ⊥) → IsUnfit c
  rowless none = (
    own,
    are_old,
    inr (subst NoneFits is_kept (λ places names others w of fits. none fits w of)),
  )

  module _ (needs : LifeTable) (places : List (Option ℕ)) (are_needs : AreLives c.setting.program needs)
      (are_from : AreFrom c.old c.setting.program (place_in places)) where
    abbrev known : Known c
    known = record { old_own = own; are_old = are_old; own = needs; are_own = are_needs; from = place_in places; are_from = are_from }

    pub taken_so : (made : Image) (lives : LifeTable) (lines : List ℕ)
        → IsTakenOver c.old c.setting.program (place_in places) kept needs c.image made lives → made.run ≡ record c.image.run { rules = c.rules }
        → lines ≡ told_lines (is_text c.setting.form) (rules_told c.old c.setting.program (place_in places))
        → (to : Changed c) × (record { setting = c.setting; beginning = Behind made; lives = Some lives } ≡ begun_over c to) × (lines ≡ to.lines)
    taken_so made lives lines taken run told = (
      record {
        known = known;
        made = made;
        lives = lives;
        taken = subst (λ (k : LifeTable). IsTakenOver c.old c.setting.program (place_in places) k needs c.image made lives) is_kept taken;
        run = run;
        lines = lines;
        told = told;
      },
      refl,
      refl,
    )

    pub refused_so : (code : ChangeCode) → IsVerdictOf c.old c.setting.program (place_in places) kept needs c.image (Some code)
        → IsRefusedOver c code
    refused_so code verdict =
        (known, subst (λ (k : LifeTable). IsVerdictOf c.old c.setting.program (place_in places) k needs c.image (Some code)) is_kept verdict)
