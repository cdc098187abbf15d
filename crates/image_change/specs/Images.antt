-- The image of the world under other rules, made of the image of the world under the old ones.
use Rattle.std.specs.{Prelude.{◌≡◌, ◌↔◌, ℕ, suc, true, map, take, length, Option, Some, None, slice_get}, List.Sorted.{IsStrictlySortedBy}}
use Rattle.fx_base.specs.Lists.{In}
use Rattle.row_delta.specs.declared.extra.Extra.{Extra}
use Rattle.checkpoint.specs.declared.image.Image.{Image}
use Rattle.rule_model.specs.{declared.{life.LifeTable.{LifeTable}, matched.Match.{Match}, program.{Program.{Program}, Rule.{Rule}}}, Lives.{AreShort}}
use Rattle.rule_model.specs.Moments.{moment_in}
use Rattle.rule_world.specs.{Lawful.{IsLawful}, Worlds.{World}}
use Rattle.life_meaning.specs.Tables.{AreLives, IsSafeTable}
use Rattle.laden_rows.specs.{Extras.{IsFirstWith, extra_cmp}, Laden.{AreOwners}, Placed.{IsSmall}}
use Rattle.image_laws.specs.{Images.{AreMoments, IsImageOf, fired_cmp, has_fired, match_fired}, Fitting.{Fits, IsLadenMatch, IsNextNumber}}
use Rattle.rule_change.specs.{Changed.{changed, carried, entry_in, is_marked, moment_or_zero, moved_condition, moved_fact}, Refused.{IsVerdict, NonePending}}
use Rattle.rule_change.specs.Alike.{AreOver}

-- What conditions of new rules count of forgotten facts: what the image has of conditions that an old rule begins with, under the first of the new rules
-- that begins so.
pub record IsMovedExtra (p q : Program) (image : Image) (e : Extra) : Type 0 where
  pub rule : Rule
  pub stands : slice_get q.rules e.rule.0 ≡ Some rule
  pub first : IsFirstWith q (suc e.condition) rule.conditions e.rule.0
  pub was : Extra
  pub there : In was image.extras
  pub old : Rule
  pub old_stands : slice_get p.rules was.rule.0 ≡ Some old
  pub begins : map (moved_condition p q) (take (suc e.condition) old.conditions) ≡ take (suc e.condition) rule.conditions
  pub alike : e ≡ record was { rule = e.rule }

-- An image is that of another under other rules. What it says of the run is no part of this, but for the text of the rules all of it stays.
pub record IsChangedImage (p q : Program) (from : ℕ → Option ℕ) (image made : Image) : Type 0 where
  pub clock : made.clock ≡ image.clock
  pub begun : made.begun ≡ image.begun
  pub last_starts : AreMoments (λ entry. moment_or_zero (moment_in image.last_starts) (entry_in q p entry)) (length q.entries) made.last_starts
  pub promises : AreMoments (λ entry. moment_or_zero (moment_in image.promises) (entry_in q p entry)) (length q.entries) made.promises
  pub next_id : made.next_id ≡ image.next_id
  pub next_tag : made.next_tag ≡ image.next_tag
  pub facts : made.facts ≡ map (moved_fact p q) image.facts
  pub fired_in_order : IsStrictlySortedBy fired_cmp made.fired
  pub fired : (owners : ℕ → ℕ → ℕ) → AreOwners q owners → (m : Match)
      → (has_fired made m ≡ true) ↔ (IsLadenMatch q made owners m.rule.0 m.row × (is_marked from (map match_fired image.fired) m ≡ true))
  pub extras_in_order : IsStrictlySortedBy extra_cmp made.extras
  pub extras : (e : Extra) → In e made.extras ↔ IsMovedExtra p q image e

-- The same, but for what was fired.
pub record IsMovedImage (p q : Program) (image made : Image) : Type 0 where
  pub clock : made.clock ≡ image.clock
  pub begun : made.begun ≡ image.begun
  pub last_starts : AreMoments (λ entry. moment_or_zero (moment_in image.last_starts) (entry_in q p entry)) (length q.entries) made.last_starts
  pub promises : AreMoments (λ entry. moment_or_zero (moment_in image.promises) (entry_in q p entry)) (length q.entries) made.promises
  pub next_id : made.next_id ≡ image.next_id
  pub next_tag : made.next_tag ≡ image.next_tag
  pub facts : made.facts ≡ map (moved_fact p q) image.facts
  pub extras_in_order : IsStrictlySortedBy extra_cmp made.extras
  pub extras : (e : Extra) → In e made.extras ↔ IsMovedExtra p q image e

-- ---- what holds

-- of each lawful world of which the image is, the changed one is the image of the world under the new rules, with the carried lives
abbrev pub ChangedIsImage : Type 0
ChangedIsImage = (p q : Program) (from : ℕ → Option ℕ) (table own : LifeTable) (w : World) (image made : Image) → AreOver p q from
    → IsLawful p w → IsSafeTable p table → AreLives q own → AreShort own → IsVerdict p q from table own w None
    → IsImageOf p table w image → IsChangedImage p q from image made
    → IsImageOf q (carried p q table own) (changed p q from w) made

-- whether something of a rule that is gone is pending can be told from the image
abbrev pub PendingIsTold : Type 0
PendingIsTold = (p : Program) (from : ℕ → Option ℕ) (table : LifeTable) (owners : ℕ → ℕ → ℕ) (w : World) (image : Image)
    → IsLawful p w → IsSafeTable p table → AreOwners p owners → IsImageOf p table w image
    → NonePending p from w ↔ ((m : Match) → IsLadenMatch p image owners m.rule.0 m.row → (has_fired image m ≡ true → ⊥) → (new : ℕ) × (from new ≡ Some m.rule.0))

-- an image is changed in one way, but for what it says of the run
abbrev pub ChangedIsOne : Type 0
ChangedIsOne = (p q : Program) (from : ℕ → Option ℕ) (image a b : Image) → IsChangedImage p q from image a → IsChangedImage p q from image b
    → a.run ≡ b.run → a ≡ b

-- The changed image of a world fits the new rules, with the carried lives, where its next numbers are from 1 on, and they, its lines and its firings are
-- small.
abbrev pub ChangedFits : Type 0
ChangedFits = (p q : Program) (from : ℕ → Option ℕ) (table own : LifeTable) (w : World) (image made : Image) → AreOver p q from
    → IsLawful p w → IsSafeTable p table → AreLives q own → AreShort own → IsVerdict p q from table own w None
    → IsImageOf p table w image → IsChangedImage p q from image made
    → IsNextNumber image.next_id → IsNextNumber image.next_tag → IsSmall made.run.lines → IsSmall made.run.firings
    → Fits q (carried p q table own) made
