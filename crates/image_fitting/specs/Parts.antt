-- What makes up that an image fits plainly, part by part.
use Rattle.std.specs.{Prelude.{◌≡◌, true, pos, length, replicate}, List.{All, list_all, Sorted.{IsStrictlySortedBy}}}
use Rattle.checkpoint.specs.declared.image.Image.{Image}
use Rattle.rule_model.specs.{declared.{life.LifeTable.{LifeTable}, program.Program.{Program}}, Distinct.{HaveDistinctIds, tag_cmp}}
use Rattle.laden_rows.specs.Extras.{extra_cmp}
use Rattle.image_laws.specs.{Fitting.{IsForgettable}, Images.{fired_cmp}}
use Rattle.image_fitting.specs.Tests.{counts_fit, moments_fit, is_at_hand, come_in_turn}

-- the numbers and the moments, and what is asked of each fact alone
pub record NumbersFit (p : Program) (image : Image) : Type 0 where
  pub counts : counts_fit image ≡ true
  pub moments : moments_fit p image ≡ true
  pub at_hand : list_all (is_at_hand p image) image.facts ≡ true

pub record OrdersFit (image : Image) : Type 0 where
  pub facts : IsStrictlySortedBy tag_cmp image.facts
  pub fired : IsStrictlySortedBy fired_cmp image.fired
  pub extras : IsStrictlySortedBy extra_cmp image.extras

-- what can be told without memory
pub record FitsAlone (p : Program) (table : LifeTable) (image : Image) : Type 0 where
  pub numbers : NumbersFit p image
  pub orders : OrdersFit image
  pub placed : All (IsForgettable p table) image.extras

pub record FitByParts (p : Program) (table : LifeTable) (image : Image) : Type 0 where
  pub alone : FitsAlone p table image
  pub distinct : HaveDistinctIds image.facts
  pub in_turn : come_in_turn p (replicate (length p.entries) (pos 0)) image.facts ≡ true
