-- Contents of a session that lead from a world to the next, and what is written on the way.
use Rattle.std.specs.Prelude.{◌≡◌, ◌++◌, ◌&&◌, Bool, true, false, nat_lt, List, length, Some, None, Result, Ok}
use Rattle.fx_base.specs.{Lists.{In}, declared.fact.Fact.{Fact}}
use Rattle.rule_model.specs.declared.{program.Program.{Program}, step.Step.{Step, TheVariants.{Insert, Modify, Retract, Advance, At, Promise, Begin}}}
use Rattle.rule_model.specs.Types.{is_event}
use Rattle.rule_world.specs.{declared.code.Code.{Code}, Kinds.{step_fits}, Lawful.{IsLawful}, Worlds.{World, fact_of, found, stepped, step_fault}}
use Rattle.answer_lines.specs.declared.lines.OutLine.{OutLine}
use Rattle.engine.specs.Known.{are_known}
use Rattle.session_model.specs.{Gives.{tries, does, does_all}, declared.{memory.Memory.{Memory}, setting.Setting.{Setting}}, Standing.{Contents, Standing}}

-- ---- steps that are done

-- of each world for which the first contents stand, the second ones stand for the world behind the step, where that has no fault
abbrev pub MovesSession : Setting → Memory → Contents → Step → Memory → Contents → Type 0
MovesSession s m k step n t =
    (w : World) → Standing s m k w → step_fault s.program w step ≡ None → IsLawful s.program (stepped s.program w step) → Standing s n t (stepped s.program w step)

-- ---- steps that are tried

-- what is modified is no event
abbrev pub IsOfPlain : Program → World → Step → Type 0
IsOfPlain p w (Insert ty entry fields) = Unit {0}
IsOfPlain p w (Modify id sets) = (f : Fact) → found p w id.0 ≡ Some f → is_event p f.ty.0 ≡ false
IsOfPlain p w (Retract ty id) = Unit {0}
IsOfPlain p w (Advance by) = Unit {0}
IsOfPlain p w (At moment) = Unit {0}
IsOfPlain p w (Promise entry from) = Unit {0}
IsOfPlain p w Begin = Unit {0}

-- a step that modifies no event, and has values of the declared kinds, where it has no fault
pub record Suits (p : Program) (w : World) (step : Step) : Type 0 where
  pub plain : IsOfPlain p w step
  pub fits : step_fault p w step ≡ None → step_fits p (fact_of w.facts) step ≡ true

-- of each world for which the first contents stand and that the step suits, the second ones stand for the next
abbrev pub Tries : Setting → Memory → Contents → Step → Memory → Contents → Type 0
Tries s m k step n t = (w : World) → Standing s m k w → Suits s.program w step → Standing s n t (tries s.detail s.program w step).1

-- and its lines are written behind those before
abbrev pub Writes : Setting → Memory → Contents → Step → List OutLine → List OutLine → Type 0
Writes s m k step before after = (w : World) → Standing s m k w → Suits s.program w step → after ≡ before ++ (tries s.detail s.program w step).0

-- ---- what is wanted

-- what is wanted suits the world, where it is a step
abbrev pub FitsWorld : Program → World → Result Step Code → Type 0
FitsWorld p w wanted = (step : Step) → wanted ≡ Ok step → Suits p w step

-- of each world for which the first contents stand, and which what is wanted fits, the second ones stand for the next
abbrev pub StandsAfter : Setting → Memory → Contents → Result Step Code → Memory → Contents → Type 0
StandsAfter s m k wanted n t = (w : World) → Standing s m k w → FitsWorld s.program w wanted → Standing s n t (does s.detail s.program w wanted).1

-- and its lines are written
abbrev pub WritesFor : Setting → Memory → Contents → Result Step Code → List OutLine → List OutLine → Type 0
WritesFor s m k wanted before after = (w : World) → Standing s m k w → FitsWorld s.program w wanted → after ≡ before ++ (does s.detail s.program w wanted).0

-- ---- a plan

-- all that is planned has values of the declared kinds and modifies no event, whatever its fault
abbrev pub AllFit : Program → World → List (Result Step Code) → Type 0
AllFit p w plan = (step : Step) → In (Ok step) plan → step_fits p (fact_of w.facts) step ≡ true

abbrev pub StandsAfterAll : Setting → Memory → Contents → List (Result Step Code) → Memory → Contents → Type 0
StandsAfterAll s m k plan n t = (w : World) → Standing s m k w → AllFit s.program w plan → Standing s n t (does_all s.detail s.program w plan).1

abbrev pub WritesAll : Setting → Memory → Contents → List (Result Step Code) → List OutLine → List OutLine → Type 0
WritesAll s m k plan before after = (w : World) → Standing s m k w → AllFit s.program w plan → after ≡ before ++ (does_all s.detail s.program w plan).0

-- ---- lines that name what the program has

-- an insertion has a type and an entry point of the program, and a promise an entry point
abbrev pub has_known_places : Program → Step → Bool
has_known_places p (Insert ty entry fields) = nat_lt ty.0 (length p.types) && nat_lt entry.0 (length p.entries)
has_known_places p (Modify id sets) = true
has_known_places p (Retract ty id) = true
has_known_places p (Advance by) = true
has_known_places p (At moment) = true
has_known_places p (Promise entry from) = nat_lt entry.0 (length p.entries)
has_known_places p Begin = true

-- what is wanted has places of the program, where it is a step
abbrev pub WantsKnown : Program → Result Step Code → Type 0
WantsKnown p wanted = (step : Step) → wanted ≡ Ok step → has_known_places p step ≡ true

abbrev pub AllWantKnown : Program → List (Result Step Code) → Type 0
AllWantKnown p plan = (step : Step) → In (Ok step) plan → has_known_places p step ≡ true

-- where the lines before name types and rules of the program alone, those behind do
abbrev pub StayKnown : Program → List OutLine → List OutLine → Type 0
StayKnown p before after = are_known p before ≡ true → are_known p after ≡ true
