-- A firing in two phases: one pending match is marked as fired, and then what is no longer kept is forgotten.
use Rattle.std.specs.{Prelude.{◌≡◌, ℕ, ◌&&◌, ◌||◌, Bool, true, not}, Ordering.{eq_by_cmp}}
use Rattle.rule_model.specs.{declared.matched.Match.{Match}, Matches.{has_match, match_cmp}}
use Rattle.agenda.specs.Agendas.{names_tag}
use Rattle.forgetting_laws.specs.{Sights.{Lives, TagWorld, Holding, HoldsKept, IsSoundSight}, Steps.{Forgets}}

-- the world marks the match, and nothing else changes
pub record IsMarked (m : Match) (was is : TagWorld) : Type 0 where
  pub facts : (tag : ℕ) → is.facts tag ≡ was.facts tag
  pub clock : is.clock ≡ was.clock
  pub matches : (x : Match) → is.matches x ≡ was.matches x
  pub fired : (x : Match) → is.fired x ≡ (was.fired x || eq_by_cmp match_cmp m x)

-- the first phase: so does the agenda
pub record FiresMatch (m : Match) (before middle : Holding) : Type 0 where
  pub store : (tag : ℕ) → middle.store tag ≡ before.store tag
  pub retention : middle.retention ≡ before.retention
  pub pending : (x : Match) → has_match middle.agenda.pending x ≡ (has_match before.agenda.pending x && not (eq_by_cmp match_cmp m x))
  pub fired : (x : Match) → has_match middle.agenda.fired x ≡ (has_match before.agenda.fired x || eq_by_cmp match_cmp m x)

-- a firing in two phases leaves a session that holds exactly what is kept; what has left are the tags of the fired match
abbrev pub FireLaw : Type 0
FireLaw = (lives : Lives) (m : Match) (was is : TagWorld) (before middle after : Holding) (left old : ℕ → Bool)
    → IsSoundSight was → IsSoundSight is → IsMarked m was is → HoldsKept lives was before → has_match before.agenda.pending m ≡ true → FiresMatch m before middle
    → ((tag : ℕ) → names_tag tag m ≡ true → left tag ≡ true) → Forgets is.clock left middle after old
    → HoldsKept lives is after
