-- What the engine answers in a world: the lines of a change or of a firing, and the next world.
use Rattle.std.specs.Prelude.{ℕ, ℤ, List, [], ◌∷◌, ◌++◌, map, filter_map, option_map, Option, Some, None, Result, Ok, Err, slice_get, if◌then◌else◌, ◌==◌}
use Rattle.std.specs.List.{flat_map}
use Rattle.fx_base.specs.declared.{ids.{FactId.{FactId}, TypeId.{TypeId}, Tag.{Tag}}, value.Value.{Value}, fact.Fact.{Fact}}
use Rattle.row_delta.specs.declared.row.{Named.{Named}, Row.{Row}}
use Rattle.rule_model.specs.declared.{action.Action.{Action}, condition.Condition.{Condition, TheVariants.{Plain, Negated, Existing, Folded}}}
use Rattle.rule_model.specs.declared.{matched.Match.{Match}, program.{Program.{Program}, Rule.{Rule}}, step.Step.{Step, TheVariants.{Insert, Modify, Retract}}}
use Rattle.rule_model.specs.{declared.step.Step.TheVariants.{Advance, At, Promise, Begin}, Lent.{bound_in}, Planned.{step_of}, Tuples.{name_of}}
use Rattle.rule_world.specs.{Worlds.{World, stepped, step_fault, present, found, new_fact, revised, first_pending, marked}, declared.code.Code.{Code}}
use Rattle.rule_world.specs.declared.code.Code.TheVariants.{Overflow}
use Rattle.script_read.specs.declared.asked.Change.{Change}
use Rattle.change_resolve.specs.Changes.{change_step}
use Rattle.answer_lines.specs.declared.lines.{Detail.{Detail, TheVariants.{Brief, Full}}, OutLine.{OutLine, TheVariants.{New, Fire, Fault, Inserted, Modified}}}
use Rattle.answer_lines.specs.declared.lines.{OutLine.TheVariants.{Retracted, FiredFor}, Cell.{Cell}}
use Rattle.answer_lines.specs.declared.lines.Cell.TheVariants as cell

-- ---- steps

-- a new fact: its number and its type, or the fact
abbrev pub new_line : Detail → Fact → OutLine
new_line Brief f = New f.id f.ty
new_line Full f = Inserted f

-- a fact with other values; in brief nothing is said of it
abbrev pub modified_lines : Detail → Option Fact → List OutLine
modified_lines Brief found = []
modified_lines Full None = []
modified_lines Full (Some f) = Modified f ∷ []

-- a retraction, of which in brief nothing is said; in full also where no event is there
abbrev pub retracted_lines : Detail → TypeId → FactId → List OutLine
retracted_lines Brief ty id = []
retracted_lines Full ty id = Retracted id ty ∷ []

-- the fact that a modification makes of one
abbrev pub revision : ℕ → List (ℕ × Value) → Option Fact → Option Fact
revision tag sets found = option_map (revised tag sets) found

-- an insertion tells the new fact, a modification what it makes of the fact, a retraction what it takes; any other step tells nothing
abbrev pub step_lines : Detail → Program → World → Step → List OutLine
step_lines d p w (Insert ty entry fields) = new_line d (new_fact p w ty.0 entry.0 fields) ∷ []
step_lines d p w (Modify id sets) = modified_lines d (revision w.next_tag sets (found p w id.0))
step_lines d p w (Retract ty id) = retracted_lines d ty id
step_lines d p w (Advance by) = []
step_lines d p w (At moment) = []
step_lines d p w (Promise entry from) = []
step_lines d p w Begin = []

-- a fault changes nothing
abbrev pub refused : World → Code → List OutLine × World
refused w code = (Fault code ∷ [], w)

abbrev pub tries_with : Detail → Program → World → Step → Option Code → List OutLine × World
tries_with d p w step None = (step_lines d p w step, stepped p w step)
tries_with d p w step (Some code) = refused w code

-- a step, or its fault in the world
abbrev pub tries : Detail → Program → World → Step → List OutLine × World
tries d p w step = tries_with d p w step (step_fault p w step)

-- a step or a fault
abbrev pub does : Detail → Program → World → Result Step Code → List OutLine × World
does d p w (Err code) = refused w code
does d p w (Ok step) = tries d p w step

-- a change of the script
unfoldable pub gives_in : Detail → Program → World → Change → List OutLine × World
gives_in d p w change = does d p w (change_step p w.begun (found p w) change)

-- the same in brief
abbrev pub gives : Program → World → Change → List OutLine × World
gives = gives_in Brief

-- ---- firings

abbrev pub then_does : List OutLine × World → (World → List OutLine × World) → List OutLine × World
then_does done next = (done.0 ++ (next done.1).0, (next done.1).1)

-- one after the other
unfoldable pub does_all : Detail → Program → World → List (Result Step Code) → List OutLine × World
does_all d p w [] = ([], w)
does_all d p w (wanted ∷ more) = then_does (does d p w wanted) (λ next. does_all d p next more)

-- the version of a fact with a tag
unfoldable pub version_of : List Fact → Tag → Option Fact
version_of [] tag = None
version_of (f ∷ facts) tag = if f.tag.0 == tag.0 then Some f else version_of facts tag

abbrev pub step_or_overflow : Option Step → Result Step Code
step_or_overflow None = Err Overflow
step_or_overflow (Some step) = Ok step

-- what actions are to do for a row, with the values that these facts have now
abbrev pub wanted : List Fact → Row → List Action → List (Result Step Code)
wanted facts row actions = map (λ (a : Action). step_or_overflow (step_of (bound_in (version_of facts) row) row.facts a)) actions

abbrev pub actions_of : Option Rule → List Action
actions_of None = []
actions_of (Some rule) = rule.actions

abbrev pub conditions_of : Option Rule → List Condition
conditions_of None = []
conditions_of (Some rule) = rule.conditions

-- What conditions bound, in their order: each pattern the next fact, each accumulate the next result.
abbrev pub cells : List Condition → List Named → List ℤ → List Cell
cells [] facts values = []
cells (Plain pattern ∷ conditions) [] values = cells conditions [] values
cells (Plain pattern ∷ conditions) (n ∷ facts) values = cell.Fact n.id ∷ cells conditions facts values
cells (Negated pattern ∷ conditions) facts values = cells conditions facts values
cells (Existing pattern ∷ conditions) facts values = cells conditions facts values
cells (Folded a ∷ conditions) facts [] = cells conditions facts []
cells (Folded a ∷ conditions) facts (v ∷ values) = cell.Value v ∷ cells conditions facts values

-- the versions that a row names, in its order
abbrev pub seen : (Tag → Option Fact) → Row → List Fact
seen version row = filter_map (λ (n : Named). version n.tag) row.facts

-- A rule fires: for what its conditions bound, or at a moment for the versions of its row, and for its results.
abbrev pub fire_line_by : Detail → Program → ℤ → (Tag → Option Fact) → Match → OutLine
fire_line_by Brief p clock version m = Fire m.rule (cells (conditions_of (slice_get p.rules m.rule.0)) m.row.facts m.row.values)
fire_line_by Full p clock version m = FiredFor m.rule clock (seen version m.row) m.row.values

-- with the facts as they are in the world
abbrev pub fire_line : Detail → Program → World → Match → OutLine
fire_line d p w m = fire_line_by d p w.clock (version_of (present p w)) m

-- a match is marked and printed, and its rule's actions are done in their order; their values are those of the world before
abbrev pub fires_match : Detail → Program → World → Match → List OutLine × World
fires_match d p w m =
    then_does (fire_line d p w m ∷ [], marked w m) (λ next. does_all d p next (wanted (present p w) m.row (actions_of (slice_get p.rules m.rule.0))))

abbrev pub fires_with : Detail → Program → World → Option Match → Option (List OutLine × World)
fires_with d p w None = None
fires_with d p w (Some m) = Some (fires_match d p w m)

-- a firing of the first pending match; nothing where nothing is pending
unfoldable pub fires_in : Detail → Program → World → Option (List OutLine × World)
fires_in d p w = fires_with d p w (first_pending p w)

-- the same in brief
abbrev pub fires : Program → World → Option (List OutLine × World)
fires = fires_in Brief

-- ---- both kinds of lines

-- what a line in full says in brief
abbrev pub brief_of : Program → OutLine → List OutLine
brief_of p (Inserted f) = new_line Brief f ∷ []
brief_of p (Modified f) = []
brief_of p (Retracted id ty) = []
brief_of p (FiredFor rule clock facts values) = Fire rule (cells (conditions_of (slice_get p.rules rule.0)) (map name_of facts) values) ∷ []
brief_of p (New id ty) = New id ty ∷ []
brief_of p (Fire rule cells) = Fire rule cells ∷ []
brief_of p (Fault code) = Fault code ∷ []

-- an answer in full, said in brief
abbrev pub in_brief : Program → List OutLine × World → List OutLine × World
in_brief p answer = (flat_map (brief_of p) answer.0, answer.1)
