-- With a safe table of lives the sight of a lawful world keeps what is kept of the world, so a session that forgets needs no premise but
-- those of the world.
use Rattle.std.specs.Prelude.{◌≡◌, ℕ, ℤ, Bool, true, false, List, Some, None}
use Rattle.fx_base.specs.declared.{fact.Fact.{Fact}, ids.FactId.{FactId}, value.Value.{Value}}
use Rattle.rule_model.specs.declared.{life.LifeTable.{LifeTable}, matched.Match.{Match}, program.Program.{Program}, step.Step.{Step, TheVariants.{Modify}}}
use Rattle.rule_model.specs.{Candidates.{is_present}, Matches.{matches, has_match}, Types.{is_event}}
use Rattle.rule_world.specs.{Lawful.{IsOrdered}, Worlds.{World, snapshot, pending, stepped, step_fault, marked}}
use Rattle.life_meaning.specs.Tables.{AreSafe}
use Rattle.agenda.specs.Agendas.{names_tag}
use Rattle.join_memory.specs.Standing.{clean}
use Rattle.kept_meaning.specs.Kept.{is_kept, is_forgotten}
use Rattle.kept_laws.specs.Steps.{IsLawfulStep}
use Rattle.forgetting_laws.specs.{Sights.{Holding, HoldsKept, ends_by, only, kept, is_clean}, Steps.{ComeClean, TakesChanges, HasLeft, Forgets}}
use Rattle.forgetting_laws.specs.{Firings.{FiresMatch}, WorldSights.{fact_at, sight_of, comes, goes}}

-- ---- what is kept

-- under each tag the sight keeps the fact of the world where that is kept
abbrev pub SameKept : Type 0
SameKept = (p : Program) (table : LifeTable) (w : World) → AreSafe p table → IsOrdered p w → (tag : ℕ) → kept (ends_by table) (sight_of p w) tag ≡ only (is_kept p table w) (fact_at w.facts tag)

-- a match of the world names nothing forgotten where its row is clean of the versions that are forgotten
abbrev pub SameClean : Type 0
SameClean = (p : Program) (table : LifeTable) (w : World) → AreSafe p table → IsOrdered p w → (m : Match) → has_match (matches p (snapshot w)) m ≡ true
    → is_clean (ends_by table) (sight_of p w) m ≡ clean (is_forgotten p table w) m.row

-- the life of a plain fact does not end, and neither does that of an event with an explicit expiry, which is not present any more
abbrev pub PlainEndless : Type 0
PlainEndless = (p : Program) (table : LifeTable) (f : Fact) → AreSafe p table → is_event p f.ty.0 ≡ false → ends_by table f ≡ None

abbrev pub ExpiredEndless : Type 0
ExpiredEndless = (p : Program) (table : LifeTable) (clock : ℤ) (f : Fact) → AreSafe p table → is_present p clock f ≡ false → ends_by table f ≡ None

-- nor those of the versions that come and go out in a modification
abbrev pub ModifyEndless : Type 0
ModifyEndless = (p : Program) (table : LifeTable) (w : World) (id : FactId) (sets : List (ℕ × Value)) → AreSafe p table → IsOrdered p w → step_fault p w (Modify id sets) ≡ None
    → ((f : Fact) → comes p w (Modify id sets) ≡ Some f → ends_by table f ≡ None)
    × ((tag : ℕ) (f : Fact) → (sight_of p w).facts tag ≡ Some f → goes p w (Modify id sets) f ≡ true → ends_by table f ≡ None)

-- ---- steps and firings of a world

-- a match that comes in a step names nothing forgotten
abbrev pub StepComesClean : Type 0
StepComesClean = (p : Program) (table : LifeTable) (w : World) (step : Step) → IsLawfulStep p table w step → ComeClean (ends_by table) (sight_of p w) (sight_of p (stepped p w step))

-- so of the matches of both worlds those name nothing forgotten whose rows are clean of the versions that are forgotten before the step
abbrev pub NextClean : Type 0
NextClean = (p : Program) (table : LifeTable) (w : World) (step : Step) → IsLawfulStep p table w step → (m : Match) → has_match (matches p (snapshot (stepped p w step))) m ≡ true
    → is_clean (ends_by table) (sight_of p w) m ≡ clean (is_forgotten p table w) m.row

-- a step in two phases leaves a session that holds exactly what is kept of the next world
abbrev pub WorldStepKept : Type 0
WorldStepKept = (p : Program) (table : LifeTable) (w : World) (step : Step) (before middle after : Holding) (gone come : Match → Bool) (left old : ℕ → Bool)
    → IsLawfulStep p table w step → HoldsKept (ends_by table) (sight_of p w) before
    → TakesChanges (ends_by table) (comes p w step) (goes p w step) (sight_of p w) (sight_of p (stepped p w step)) before middle gone come
    → HasLeft before.agenda middle.agenda left → Forgets (stepped p w step).clock left middle after old
    → HoldsKept (ends_by table) (sight_of p (stepped p w step)) after

-- and so does a firing of a pending match
abbrev pub WorldFireKept : Type 0
WorldFireKept = (p : Program) (table : LifeTable) (w : World) (m : Match) (before middle after : Holding) (left old : ℕ → Bool)
    → IsOrdered p w → has_match (pending p w) m ≡ true → HoldsKept (ends_by table) (sight_of p w) before
    → FiresMatch m before middle → ((tag : ℕ) → names_tag tag m ≡ true → left tag ≡ true) → Forgets w.clock left middle after old
    → HoldsKept (ends_by table) (sight_of p (marked w m)) after
