-- What the image of a session says of a world.
use Rattle.std.specs.{Prelude.{◌≡◌, ◌↔◌, ◌&&◌, ℕ, ℤ, Bool, List, map, length}, declared.cmp.Ordering.{Ordering}, List.Sorted.{IsStrictlySortedBy}}
use Rattle.fx_base.specs.{Lists.{In}, declared.fact.Fact.{Fact}}
use Rattle.checkpoint.specs.declared.image.{FiredMatch.{FiredMatch}, Image.{Image}}
use Rattle.rule_model.specs.{declared.{life.LifeTable.{LifeTable}, matched.Match.{Match}, program.Program.{Program}}, Distinct.{tag_cmp}, Matches.{match_cmp}}
use Rattle.rule_model.specs.{Matches.{has_match}, Moments.{moment_in, reached_in}, Snapshots.{Snapshot}}
use Rattle.rule_world.specs.Worlds.{World, snapshot}
use Rattle.life_meaning.specs.Tables.{IsKept}
use Rattle.join_memory.specs.Standing.{clean}
use Rattle.kept_meaning.specs.Kept.{is_forgotten}
use Rattle.laden_rows.specs.Extras.{AreExtras}

-- the moments of so many entry points, by their places, and of no further one
pub record AreMoments (of : ℕ → ℤ) (entries : ℕ) (moments : List ℤ) : Type 0 where
  pub as_many : length moments ≡ entries
  pub each : (entry : ℕ) → moment_in moments entry ≡ of entry

abbrev pub match_fired : FiredMatch → Match
match_fired m = record { rule = m.rule; row = m.row }

-- fired matches are ordered by rule and row
abbrev pub fired_cmp : FiredMatch → FiredMatch → Ordering
fired_cmp a b = match_cmp (match_fired a) (match_fired b)

-- whether an image has a match as fired
abbrev pub has_fired : Image → Match → Bool
has_fired image m = has_match (map match_fired image.fired) m

-- what the conditions of rules look at in an image
abbrev pub snapshot_of : Image → Snapshot
snapshot_of image = record { facts = image.facts; clock = image.clock; reached = reached_in image.last_starts image.promises }

-- An image is that of a world, with the lives of a table. What it says of the run so far is no part of this.
pub record IsImageOf (p : Program) (table : LifeTable) (w : World) (image : Image) : Type 0 where
  pub clock : image.clock ≡ w.clock
  pub begun : image.begun ≡ w.begun
  pub last_starts : AreMoments w.reached.last_start (length p.entries) image.last_starts
  pub promises : AreMoments w.reached.promise (length p.entries) image.promises
  pub next_id : image.next_id ≡ w.next_id
  pub next_tag : image.next_tag ≡ w.next_tag
  -- the facts that are kept
  pub facts_in_order : IsStrictlySortedBy tag_cmp image.facts
  pub facts : (f : Fact) → In f image.facts ↔ IsKept p table w f
  -- the fired matches that name kept facts alone
  pub fired_in_order : IsStrictlySortedBy fired_cmp image.fired
  pub fired : (m : Match) → has_fired image m ≡ (has_match w.fired m && clean (is_forgotten p table w) m.row)
  -- what conditions count of the others
  pub extras : AreExtras p (snapshot w) (is_forgotten p table w) image.extras
