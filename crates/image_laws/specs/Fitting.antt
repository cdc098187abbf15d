-- Which images fit a program with its lives, so that a session can be resumed from them.
use Rattle.std.specs.{Prelude.{◌≡◌, ◌≤◌, ℕ, ℤ, true, false, [], length, Some, slice_get}, List.Sorted.{IsStrictlySortedBy}}
use Rattle.fx_base.specs.{Lists.{In}, declared.fact.Fact.{Fact}}
use Rattle.row_delta.specs.declared.{extra.Extra.{Extra}, row.Row.{Row}}
use Rattle.checkpoint.specs.declared.image.{FiredMatch.{FiredMatch}, Image.{Image}}
use Rattle.rule_model.specs.declared.{life.{Life.TheVariants.{Finite}, LifeTable.{LifeTable}}, matched.Match.{Match}, program.{Program.{Program}, Rule.{Rule}}}
use Rattle.rule_model.specs.{Moments.{reached_in}, Rows.{pattern_of}, Tuples.{name_of}, Distinct.{tag_cmp}}
use Rattle.rule_world.specs.{Lawful.{IsLawful}, Worlds.{World}}
use Rattle.kept_meaning.specs.Kept.{is_alive}
use Rattle.laden_rows.specs.{Extras.{extra_cmp}, Laden.{AreOwners, laden}, Placed.{IsPlaced, IsSmall}}
use Rattle.image_laws.specs.Images.{fired_cmp, has_fired, snapshot_of}

-- the world of what an image has at hand, where nothing was fired
abbrev pub world_of : Image → World
world_of image = record {
  facts = image.facts;
  clock = image.clock;
  reached = reached_in image.last_starts image.promises;
  begun = image.begun;
  next_id = image.next_id;
  next_tag = image.next_tag;
  fired = [];
}

-- the number of a next fact or version: from 1 to 2^61
abbrev pub IsNextNumber : ℕ → Type 0
IsNextNumber n = (1 ≤ n) × IsSmall n

-- what an extra counts can have been forgotten: it has its place, at a condition on events of a finite life
pub record IsForgettable (p : Program) (table : LifeTable) (e : Extra) : Type 0 where
  pub place : IsPlaced p e
  pub life : ℤ
  pub finite : slice_get table.lives (pattern_of place.condition).ty.0 ≡ Some (Finite life)

-- the row is one of the first conditions of the rule in a place, over the facts of an image with its extras
pub record IsLadenRow (p : Program) (image : Image) (owners : ℕ → ℕ → ℕ) (place : ℕ) (row : Row) (n : ℕ) : Type 0 where
  pub rule : Rule
  pub stands : slice_get p.rules place ≡ Some rule
  pub conditions : n ≤ length rule.conditions
  pub there : laden p (snapshot_of image) image.extras (owners place) rule.conditions n row ≡ true

-- a row of a whole rule
abbrev pub IsLadenMatch : Program → Image → (ℕ → ℕ → ℕ) → ℕ → Row → Type 0
IsLadenMatch p image owners place row = (rule : Rule) × (slice_get p.rules place ≡ Some rule) × (laden p (snapshot_of image) image.extras (owners place) rule.conditions (length rule.conditions) row ≡ true)

-- A fact is kept: its life keeps it at the clock, or a match that was not fired names it.
abbrev pub IsNeeded : Program → LifeTable → Image → (ℕ → ℕ → ℕ) → Fact → Type 0
IsNeeded p table image owners f =
    is_alive p (slice_get table.lives f.ty.0) image.clock f ≡ false
    → (m : Match) × IsLadenMatch p image owners m.rule.0 m.row × (has_fired image m ≡ false) × In (name_of f) m.row.facts

-- An image fits a program with a table of lives.
pub record Fits (p : Program) (table : LifeTable) (image : Image) : Type 0 where
  pub last_starts : length image.last_starts ≡ length p.entries
  pub promises : length image.promises ≡ length p.entries
  pub next_id : IsNextNumber image.next_id
  pub next_tag : IsNextNumber image.next_tag
  pub lines : IsSmall image.run.lines
  pub firings : IsSmall image.run.firings
  -- the facts, the clock, the moments and the next numbers are those of a lawful world
  pub lawful : IsLawful p (world_of image)
  pub facts_in_order : IsStrictlySortedBy tag_cmp image.facts
  pub fired_in_order : IsStrictlySortedBy fired_cmp image.fired
  pub extras_in_order : IsStrictlySortedBy extra_cmp image.extras
  pub placed : (e : Extra) → In e image.extras → IsForgettable p table e
  -- the rows of extras and the fired matches are there
  pub rows : (owners : ℕ → ℕ → ℕ) → AreOwners p owners → (e : Extra) → In e image.extras → IsLadenRow p image owners e.rule.0 e.row e.condition
  pub fired : (owners : ℕ → ℕ → ℕ) → AreOwners p owners → (m : FiredMatch) → In m image.fired → IsLadenMatch p image owners m.rule.0 m.row
  -- the facts are those that are kept
  pub needed : (owners : ℕ → ℕ → ℕ) → AreOwners p owners → (f : Fact) → In f image.facts → IsNeeded p table image owners f
