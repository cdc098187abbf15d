-- What a session is made of from an image.
use Rattle.std.specs.Prelude.{◌≡◌, ◌≤ℤ◌, ◌-ℤ◌, ◌+ℤ◌, ◌==◌, ◌&&◌, ◌||◌, not, ℕ, ℤ, pos, Bool, true, false, List, [], ◌∷◌, map as list_map, length, Option, Some}
use Rattle.std.specs.Prelude.{None, slice_get}
use Rattle.std.specs.FinMap as map
use Rattle.std.specs.List.{list_any}
use Rattle.fx_base.specs.{Lists.{In}, declared.fact.Fact.{Fact}}
use Rattle.row_delta.specs.{declared.{extra.Extra.{Extra}, row.Named.{Named}}, Rows.{has}}
use Rattle.checkpoint.specs.declared.image.{FiredMatch.{FiredMatch}, Image.{Image}}
use Rattle.due_queue.specs.Timers.{Timers}
use Rattle.fact_store.specs.Held.{HeldFacts}
use Rattle.rule_model.specs.declared.{life.LifeTable.{LifeTable}, matched.Match.{Match}, program.{Program.{Program}, Rule.{Rule}}}
use Rattle.rule_model.specs.{Distinct.{HaveDistinctTags}, Matches.{has_match, saliences}, Snapshots.{Snapshot}}
use Rattle.rule_world.specs.{Events.{most_millis}, Lawful.{IsLawful}, Worlds.{World}}
use Rattle.agenda.specs.Agendas.{Marks}
use Rattle.image_laws.specs.Images.{match_fired, snapshot_of, IsImageOf}
use Rattle.laden_rows.specs.Laden.{AreOwners, laden}
use Rattle.image_fitting.specs.Plain.{FitsByRows}
use Rattle.retention.specs.{declared.retention.Retention.{Retention}, Retentions.{lingers}}
use Rattle.forgetting_laws.specs.Sights.{ends_by, ends_of}
use Rattle.join_tests.specs.Joins.{Look}
use Rattle.rete_net.specs.{declared.{changes.RuleChange.{RuleChange}, net.Rete.{Rete}}, Loading.{IsBehind, IsThere}, Nets.{NetStands}, Doors.{IsNetwork}}
use Rattle.session_model.specs.{declared.{memory.Memory.{Memory}, setting.Setting.{Setting}}, Standing.{Contents, IsSound, Standing, expiry_at}}

-- ---- facts

-- facts put under their tags, one after the other, beside those that are held
abbrev pub all_held : HeldFacts → List Fact → HeldFacts
all_held held [] = held
all_held held (f ∷ facts) = all_held (map.insert held f.tag.0 f) facts

abbrev pub stored : List Fact → HeldFacts
stored facts = all_held map.empty facts

-- Each fact waits for the moment from which it is not present and for the end of its life, where it has them; nothing else waits, and no
-- event lingers.
pub record AreHeld (p : Program) (table : LifeTable) (facts : HeldFacts) (expiries : Timers) (retention : Retention) : Type 0 where
  pub waits : (tag : ℕ) → map.get expiries tag ≡ expiry_at p (map.get facts tag)
  pub ends : (tag : ℕ) → map.get retention.due tag ≡ ends_of (ends_by table) (map.get facts) tag
  pub none : (tag : ℕ) → lingers retention tag ≡ false

-- times from which the ends of presence and of life can be told
pub record HasTimes (f : Fact) : Type 0 where
  pub start_low : (pos 0 -ℤ most_millis) ≤ℤ f.times.start
  pub start_high : f.times.start ≤ℤ most_millis
  pub end_low : (pos 0 -ℤ most_millis) ≤ℤ f.times.end
  pub end_high : f.times.end ≤ℤ (most_millis +ℤ most_millis)

-- facts of distinct tags, with such times
pub record AreStorable (facts : List Fact) : Type 0 where
  pub tags : HaveDistinctTags facts
  pub times : (f : Fact) → In f facts → HasTimes f

-- ---- matches

-- the match's row comes by one of these changes
abbrev pub comes_by : List RuleChange → Match → Bool
comes_by changes m = list_any (λ (c : RuleChange). c.rule.0 == m.rule.0 && has c.delta.come m.row) changes

-- no row goes by these changes
abbrev pub NoneGo : List RuleChange → Type 0
NoneGo changes = (c : RuleChange) → In c changes → c.delta.gone ≡ []

abbrev pub has_marked : List FiredMatch → Match → Bool
has_marked fired m = has_match (list_map match_fired fired) m

-- pending is what comes, but for these matches, and these were fired
pub record AreMarked (comes : Match → Bool) (marked : List FiredMatch) (marks : Marks) : Type 0 where
  pub pending : (m : Match) → has_match marks.pending m ≡ (comes m && not (has_marked marked m))
  pub fired : (m : Match) → has_match marks.fired m ≡ has_marked marked m

-- Of the matches of an agenda these were marked one after the other, and all of them are among those that came.
pub record AreMarking (came : List Match) (first now : Marks) (taken : List FiredMatch) : Type 0 where
  pub saliences : now.saliences ≡ first.saliences
  pub pending : (m : Match) → has_match now.pending m ≡ (has_match first.pending m && not (has_marked taken m))
  pub fired : (m : Match) → has_match now.fired m ≡ (has_match first.fired m || has_marked taken m)
  pub there : (m : FiredMatch) → In m taken → has_match came (match_fired m) ≡ true

-- a match is a row of its rule over the facts of an image, with its extras
abbrev pub laden_by : Program → Image → (ℕ → ℕ → ℕ) → Option Rule → Match → Bool
laden_by p image owners None m = false
laden_by p image owners (Some rule) m = laden p (snapshot_of image) image.extras (owners m.rule.0) rule.conditions (length rule.conditions) m.row

abbrev pub is_laden : Program → Image → (ℕ → ℕ → ℕ) → Match → Bool
is_laden p image owners m = laden_by p image owners (slice_get p.rules m.rule.0) m

-- the facts of an image at hand
abbrev pub at_hand : Image → Look
at_hand image tag = map.get (stored image.facts) tag.0

-- A network stands for each snapshot that is behind an image, and an agenda has the matches over its facts: what was fired is marked, and is
-- there, as the rows of its extras are.
pub record IsMatched (p : Program) (image : Image) (net : Rete) (marks : Marks) : Type 0 where
  pub net_of : IsNetwork p net
  pub stands : (s : Snapshot) (forgotten : Named → Bool) → IsBehind p s (snapshot_of image) forgotten image.extras (at_hand image) → NetStands p net s forgotten
  pub salient : marks.saliences ≡ saliences p.rules
  pub marked : (owners : ℕ → ℕ → ℕ) → AreOwners p owners → AreMarked (is_laden p image owners) image.fired marks
  pub there : (owners : ℕ → ℕ → ℕ) → AreOwners p owners → (e : Extra) → In e image.extras → IsThere p (snapshot_of image) image.extras owners e true
  pub came : (owners : ℕ → ℕ → ℕ) → AreOwners p owners → (m : FiredMatch) → In m image.fired → is_laden p image owners (match_fired m) ≡ true

-- A session stands for each lawful world of which an image is, and the image fits by its rows.
pub record IsRestored (s : Setting) (image : Image) (owners : ℕ → ℕ → ℕ) (m : Memory) (k : Contents) : Type 0 where
  pub stands : (w : World) → IsLawful s.program w → IsImageOf s.program s.lives w image → Standing s m k w
  pub sound : IsSound s.program m k
  pub next : k.next_tag ≡ image.next_tag
  pub fits : FitsByRows s.program s.lives image owners
