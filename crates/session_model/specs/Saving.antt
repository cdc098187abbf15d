-- What the image of a session has of its parts.
use Rattle.std.specs.Prelude.{◌≡◌, ◌<◌, ℕ, ℤ, Bool, List, length, map as list_map}
use Rattle.std.specs.FinMap as map
use Rattle.std.specs.List.Sorted.{IsStrictlySortedBy}
use Rattle.row_delta.specs.declared.row.Named.{Named}
use Rattle.checkpoint.specs.declared.image.Image.{Image}
use Rattle.fact_store.specs.Held.{facts_of}
use Rattle.rule_model.specs.{declared.program.Program.{Program}, Matches.{match_cmp}, Moments.{moment_in}, Snapshots.{Snapshot}}
use Rattle.condition_rows.specs.Looks.{HasAllOf}
use Rattle.laden_rows.specs.Extras.{AreExtras}
use Rattle.image_laws.specs.Images.{match_fired}
use Rattle.rete_net.specs.{declared.net.Rete.{Rete}, Nets.{NetStands}}
use Rattle.session_model.specs.Standing.{Contents}

-- the first so many of these moments, by their places
pub record ArePadded (moments : List ℤ) (many : ℕ) (first : List ℤ) : Type 0 where
  pub as_many : length first ≡ many
  pub each : (entry : ℕ) → entry < many → moment_in first entry ≡ moment_in moments entry

-- An image has what a session has: what so many entry points have reached, its facts and fired matches in their order, and what its network
-- counts beyond the facts.
pub record IsSessionSaved (k : Contents) (many : ℕ) (net : Rete) (image : Image) : Type 0 where
  pub clock : image.clock ≡ k.clock
  pub begun : image.begun ≡ k.course.begun
  pub last_starts : ArePadded k.course.last_starts many image.last_starts
  pub promises : ArePadded k.course.promises many image.promises
  pub next_id : image.next_id ≡ k.next_id
  pub next_tag : image.next_tag ≡ k.next_tag
  pub facts : image.facts ≡ facts_of k.facts
  pub fired : list_map match_fired image.fired ≡ k.agenda.fired
  pub fired_in_order : IsStrictlySortedBy match_cmp (list_map match_fired image.fired)
  pub extras : (p : Program) (s : Snapshot) (forgotten : Named → Bool) → NetStands p net s forgotten → HasAllOf (λ tag. map.get k.facts tag.0) s forgotten → AreExtras p s forgotten image.extras
