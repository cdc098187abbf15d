-- A step in two phases: the store and the agenda take the change, and then what is no longer kept is forgotten.
use Rattle.std.specs.Prelude.{◌≡◌, ◌≤ℤ◌, ℕ, ℤ, ◌==◌, ◌&&◌, ◌||◌, Bool, true, false, cond, not, Option, Some, None, is_some}
use Rattle.std.specs.FinMap as map
use Rattle.fx_base.specs.declared.fact.Fact.{Fact}
use Rattle.rule_model.specs.{declared.matched.Match.{Match}, Matches.{has_match}}
use Rattle.agenda.specs.Agendas.{Marks, names_tag}
use Rattle.retention.specs.{Retentions.{lingers, is_named, PassesLives}, Watching.{Covers}}
use Rattle.forgetting_laws.specs.Sights.{Lives, TagWorld, Holding, HoldsKept, IsSoundSight, only, kept, is_kept_tag, is_clean, some_tag, ends_of}

-- ---- the beginning

-- a session that has nothing holds exactly what is kept of a world without facts and fired matches
abbrev pub EmptySessionLaw : Type 0
EmptySessionLaw = (lives : Lives) (w : TagWorld) (s : Holding) → ((tag : ℕ) → w.facts tag ≡ None) → ((m : Match) → w.fired m ≡ false)
    → ((tag : ℕ) → s.store tag ≡ None) → s.retention.due ≡ map.empty → ((tag : ℕ) → lingers s.retention tag ≡ false)
    → ((m : Match) → has_match s.agenda.pending m ≡ has_match w.pending m) → ((m : Match) → has_match s.agenda.fired m ≡ false)
    → HoldsKept lives w s

-- ---- steps of worlds

-- the new fact under its tag, where there is one
abbrev pub brought : Option Fact → ℕ → Option Fact
brought None tag = None
brought (Some f) tag = cond (f.tag.0 == tag) (Some f) None

-- what stands under a tag: what came under it, or what was there and does not go out
abbrev pub changed : Option Fact → (Fact → Bool) → Option Fact → Option Fact
changed (Some f) out was = Some f
changed None out was = only (λ f. not (out f)) was

-- A fact may come, under a tag that none had, and facts go out, and the clock moves on or stands. Of the fired matches those stay fired
-- that are matches still.
pub record IsStep (new : Option Fact) (out : Fact → Bool) (was is : TagWorld) : Type 0 where
  pub facts : (tag : ℕ) → is.facts tag ≡ changed (brought new tag) out (was.facts tag)
  pub fresh : (tag : ℕ) → is_some (brought new tag) ≡ true → was.facts tag ≡ None
  pub clock : was.clock ≤ℤ is.clock
  pub fired : (m : Match) → is.fired m ≡ (was.fired m && is.matches m)

-- a match that comes names no forgotten fact
abbrev pub ComeClean : Lives → TagWorld → TagWorld → Type 0
ComeClean lives was is = (m : Match) → is.matches m ≡ true → was.matches m ≡ false → is_clean lives was m ≡ true

-- a fact that was there and is kept behind the step was kept before it
abbrev pub KeptBeforeStep : Lives → TagWorld → TagWorld → Type 0
KeptBeforeStep lives was is = (tag : ℕ) (f : Fact) → was.facts tag ≡ Some f → kept lives is tag ≡ Some f → is_kept_tag lives was tag ≡ true

abbrev pub KeptBeforeLaw : Type 0
KeptBeforeLaw = (lives : Lives) (new : Option Fact) (out : Fact → Bool) (was is : TagWorld) → IsSoundSight was → IsSoundSight is → IsStep new out was is → ComeClean lives was is
    → KeptBeforeStep lives was is

-- ---- the first phase

-- The store and the retention take what comes and what goes out, and the agenda takes the difference of the matches that name no
-- forgotten fact.
pub record TakesChanges (lives : Lives) (new : Option Fact) (out : Fact → Bool) (was is : TagWorld) (before middle : Holding) (gone come : Match → Bool) : Type 0 where
  pub store : (tag : ℕ) → middle.store tag ≡ changed (brought new tag) out (before.store tag)
  pub covered : Covers (ends_of lives middle.store) is.clock middle.retention
  pub lingering : (tag : ℕ) → lingers middle.retention tag ≡ true → lingers before.retention tag ≡ true
  pub goes : (m : Match) → gone m ≡ ((was.matches m && is_clean lives was m) && not (is.matches m && is_clean lives was m))
  pub comes : (m : Match) → come m ≡ ((is.matches m && is_clean lives was m) && not (was.matches m && is_clean lives was m))
  pub pending : (m : Match) → has_match middle.agenda.pending m ≡ ((has_match before.agenda.pending m && not (gone m)) || come m)
  pub fired : (m : Match) → has_match middle.agenda.fired m ≡ (has_match before.agenda.fired m && not (gone m))

-- the tags of the matches that have stopped pending
abbrev pub HasLeft : Marks → Marks → (ℕ → Bool) → Type 0
HasLeft before middle left = (m : Match) (tag : ℕ) → has_match before.pending m ≡ true → has_match middle.pending m ≡ false → names_tag tag m ≡ true → left tag ≡ true

-- it is enough to look at the matches that go
abbrev pub MatchesLeftLaw : Type 0
MatchesLeftLaw = (before middle : Marks) (gone come : Match → Bool) (left : ℕ → Bool)
    → ((m : Match) → has_match middle.pending m ≡ ((has_match before.pending m && not (gone m)) || come m))
    → ((m : Match) (tag : ℕ) → gone m ≡ true → names_tag tag m ≡ true → left tag ≡ true) → HasLeft before middle left

-- ---- the second phase

-- the retention tells what is old; the store loses it, and so do the fired matches that name it
pub record Forgets (clock : ℤ) (left : ℕ → Bool) (middle after : Holding) (old : ℕ → Bool) : Type 0 where
  pub told : PassesLives clock left (is_named middle.agenda) middle.retention after.retention old
  pub store : (tag : ℕ) → after.store tag ≡ cond (old tag) None (middle.store tag)
  pub pending : (m : Match) → has_match after.agenda.pending m ≡ has_match middle.agenda.pending m
  pub fired : (m : Match) → has_match after.agenda.fired m ≡ (has_match middle.agenda.fired m && not (some_tag old m))

-- it is enough to drop what names something old among the fired matches
abbrev pub DropFiredLaw : Type 0
DropFiredLaw = (middle after : Marks) (old : ℕ → Bool) (dropped : Match → Bool)
    → ((m : Match) → has_match after.fired m ≡ (has_match middle.fired m && not (dropped m)))
    → ((m : Match) → has_match middle.fired m ≡ true → dropped m ≡ some_tag old m)
    → (m : Match) → has_match after.fired m ≡ (has_match middle.fired m && not (some_tag old m))

-- ---- both phases

-- a step in two phases leaves a session that holds exactly what is kept behind the step
abbrev pub TwoPhaseLaw : Type 0
TwoPhaseLaw = (lives : Lives) (new : Option Fact) (out : Fact → Bool) (was is : TagWorld) (before middle after : Holding) (gone come : Match → Bool) (left old : ℕ → Bool)
    → IsSoundSight was → IsSoundSight is → IsStep new out was is → ComeClean lives was is
    → HoldsKept lives was before → TakesChanges lives new out was is before middle gone come → HasLeft before.agenda middle.agenda left → Forgets is.clock left middle after old
    → HoldsKept lives is after
