-- How forgetting sees the worlds of a program, their steps and their firings.
use Rattle.std.specs.Prelude.{◌≡◌, ℕ, ◌+ℤ◌, ◌==◌, ◌&&◌, Bool, false, not, List, [], ◌∷◌, Option, Some, None, option_map, if◌then◌else◌}
use Rattle.fx_base.specs.declared.{fact.Fact.{Fact}, ids.{FactId.{FactId}, TypeId.{TypeId}}}
use Rattle.rule_model.specs.declared.{matched.Match.{Match}, program.Program.{Program}, step.Step.{Step, TheVariants.{Insert, Modify, Retract, Advance, At}}}
use Rattle.rule_model.specs.{declared.step.Step.TheVariants.{Promise, Begin}, Candidates.{is_present}, Matches.{matches, has_match}}
use Rattle.rule_world.specs.{Lawful.{IsOrdered}, Worlds.{World, snapshot, present, found, pending, new_fact, revised, has_id, stepped, step_fault, marked}}
use Rattle.forgetting_laws.specs.{Sights.{TagWorld, IsSoundSight, only}, Steps.{IsStep}, Firings.{IsMarked}}

-- the fact with a tag
abbrev pub fact_at : List Fact → ℕ → Option Fact
fact_at [] tag = None
fact_at (f ∷ facts) tag = if f.tag.0 == tag then Some f else fact_at facts tag

-- the present facts of a world, its clock and its marks
abbrev pub sight_of : Program → World → TagWorld
sight_of p w = record {
  facts = fact_at (present p w);
  clock = w.clock;
  matches = has_match (matches p (snapshot w));
  fired = has_match w.fired;
  pending = pending p w;
}

-- the version that comes in a step: of a new fact where it is present, of a modified one always
abbrev pub comes : Program → World → Step → Option Fact
comes p w (Insert ty entry fields) = only (is_present p w.clock) (Some (new_fact p w ty.0 entry.0 fields))
comes p w (Modify id sets) = option_map (revised w.next_tag sets) (found p w id.0)
comes p w (Retract ty id) = None
comes p w (Advance by) = None
comes p w (At moment) = None
comes p w (Promise entry from) = None
comes p w Begin = None

-- which facts go out: the version that is modified, the fact that is retracted, and what is not present any more
abbrev pub goes : Program → World → Step → Fact → Bool
goes p w (Insert ty entry fields) f = false
goes p w (Modify id sets) f = has_id id.0 f
goes p w (Retract ty id) f = f.ty.0 == ty.0 && has_id id.0 f
goes p w (Advance by) f = not (is_present p (w.clock +ℤ by) f)
goes p w (At moment) f = not (is_present p moment f)
goes p w (Promise entry from) f = false
goes p w Begin f = false

-- the sight of a world whose numbers and marks are in order is lawful
abbrev pub SightLaw : Type 0
SightLaw = (p : Program) (w : World) → IsOrdered p w → IsSoundSight (sight_of p w)

-- a step without a fault is one of the sights
abbrev pub WorldStepLaw : Type 0
WorldStepLaw = (p : Program) (w : World) (step : Step) → IsOrdered p w → step_fault p w step ≡ None → IsStep (comes p w step) (goes p w step) (sight_of p w) (sight_of p (stepped p w step))

-- and a firing marks its match
abbrev pub WorldFireLaw : Type 0
WorldFireLaw = (p : Program) (w : World) (m : Match) → IsMarked m (sight_of p w) (sight_of p (marked w m))

-- of the present facts one goes out in the retraction of a fact that is found: the one of its tag
abbrev pub RetractsOne : Type 0
RetractsOne = (p : Program) (w : World) (ty : TypeId) (id : FactId) (g : Fact) → IsOrdered p w → found p w id.0 ≡ Some g → g.ty.0 ≡ ty.0
    → (tag : ℕ) (f : Fact) → (sight_of p w).facts tag ≡ Some f → goes p w (Retract ty id) f ≡ (tag == g.tag.0)
