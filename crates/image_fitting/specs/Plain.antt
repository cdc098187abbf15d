-- What of an image can be told to fit before a network is loaded from it.
use Rattle.std.specs.{Prelude.{◌≡◌, ◌↔◌, ℕ, true, length}, List.Sorted.{IsStrictlySortedBy}}
use Rattle.fx_base.specs.{Lists.{In}, declared.fact.Fact.{Fact}}
use Rattle.row_delta.specs.declared.extra.Extra.{Extra}
use Rattle.checkpoint.specs.declared.image.{FiredMatch.{FiredMatch}, Image.{Image}}
use Rattle.rule_model.specs.{declared.{life.LifeTable.{LifeTable}, program.Program.{Program}}, Candidates.{is_present}, Distinct.{tag_cmp}}
use Rattle.rule_world.specs.Lawful.{IsLawful}
use Rattle.life_meaning.specs.Tables.{AreSafe}
use Rattle.laden_rows.specs.{Extras.{extra_cmp}, Placed.{IsSmall}, Laden.{AreOwners}}
use Rattle.image_laws.specs.{Fitting.{world_of, IsNextNumber, IsForgettable, IsLadenRow, IsLadenMatch, IsNeeded, Fits}, Images.{fired_cmp}}

-- An image fits a program with a table of lives, but for what asks the rows over its facts: its numbers, its facts, which are present, its
-- orders, and the places of its extras.
pub record FitsPlainly (p : Program) (table : LifeTable) (image : Image) : Type 0 where
  pub last_starts : length image.last_starts ≡ length p.entries
  pub promises : length image.promises ≡ length p.entries
  pub next_id : IsNextNumber image.next_id
  pub next_tag : IsNextNumber image.next_tag
  pub lines : IsSmall image.run.lines
  pub firings : IsSmall image.run.firings
  pub lawful : IsLawful p (world_of image)
  pub present : (f : Fact) → In f image.facts → is_present p image.clock f ≡ true
  pub facts_in_order : IsStrictlySortedBy tag_cmp image.facts
  pub fired_in_order : IsStrictlySortedBy fired_cmp image.fired
  pub extras_in_order : IsStrictlySortedBy extra_cmp image.extras
  pub placed : (e : Extra) → In e image.extras → IsForgettable p table e

-- What asks the rows over the facts of an image: those of extras and the fired matches are there, and the facts are those that are kept.
pub record FitsByRows (p : Program) (table : LifeTable) (image : Image) (owners : ℕ → ℕ → ℕ) : Type 0 where
  pub rows : (e : Extra) → In e image.extras → IsLadenRow p image owners e.rule.0 e.row e.condition
  pub fired : (m : FiredMatch) → In m image.fired → IsLadenMatch p image owners m.rule.0 m.row
  pub needed : (f : Fact) → In f image.facts → IsNeeded p table image owners f

-- An image fits exactly where it does by both, by whatever owners.
abbrev pub FittingLaw : Type 0
FittingLaw = (p : Program) (table : LifeTable) (image : Image) (owners : ℕ → ℕ → ℕ) → AreSafe p table → AreOwners p owners
    → (Fits p table image ↔ (FitsPlainly p table image × FitsByRows p table image owners))
