-- That what a step makes names only what is kept (Walzer, Breddin, Groch 2008; Drools Fusion 5 User Guide, memory management for events).
use Rattle.std.specs.Prelude.{◌≡◌, ℕ, true, false, List, take, Some, None, slice_get}
use Rattle.fx_base.specs.{Lists.{In}, declared.fact.Fact.{Fact}}
use Rattle.rule_model.specs.declared.{condition.Condition.{Condition}, life.LifeTable.{LifeTable}, matched.Match.{Match}, program.Program.{Program}}
use Rattle.rule_model.specs.{declared.{program.Rule.{Rule}, step.Step.{Step}}, Candidates.{passing}, Matches.{matches, has_match}, Rows.{pattern_of, binds}}
use Rattle.rule_model.specs.Tuples.{Tuple, name_of}
use Rattle.rule_world.specs.{Lawful.{IsLawful}, Programs.{UseOperators}, Worlds.{World, snapshot, moved, stepped, step_fault}}
use Rattle.life_laws.specs.Law.{Made, IsFlagged}
use Rattle.life_meaning.specs.Tables.{AreSafe, IsKept}

-- ---- the laws

-- the tuple is made behind the step, and was not before it
abbrev pub Comes : Program → World → Step → List Condition → Tuple → Type 0
Comes p w step conditions tuple = Made p (snapshot (moved p w step)) conditions tuple × (Made p (snapshot w) conditions tuple → ⊥)

-- By a safe table: a fact of the world that a tuple of a whole rule names which comes is kept in the world.
abbrev pub TupleNamesKept : Type 0
TupleNamesKept = (p : Program) (table : LifeTable) (w : World) (step : Step) → IsFlagged p → AreSafe p table → IsLawful p w
    → step_fault p w step ≡ None
    → (rule : Rule) → In rule p.rules → (tuple : Tuple) → Comes p w step rule.conditions tuple
    → (f : Fact) → In f tuple.facts → In f w.facts → IsKept p table w f

-- The same of a match that comes.
abbrev pub MatchNamesKept : Type 0
MatchNamesKept = (p : Program) (table : LifeTable) (w : World) (step : Step) → IsFlagged p → UseOperators p.rules → AreSafe p table
    → IsLawful p w → step_fault p w step ≡ None
    → (m : Match) → has_match (matches p (snapshot (moved p w step))) m ≡ true → has_match (matches p (snapshot w)) m ≡ false
    → (f : Fact) → In (name_of f) m.row.facts → In f w.facts → IsKept p table w f

-- A fact of the world that passes, behind the step, for a `not`, `exists` or `accumulate` with a tuple of the conditions before that one
-- which comes is kept in the world.
abbrev pub TupleMeetsKept : Type 0
TupleMeetsKept = (p : Program) (table : LifeTable) (w : World) (step : Step) → IsFlagged p → AreSafe p table → IsLawful p w
    → step_fault p w step ≡ None
    → (rule : Rule) → In rule p.rules → (q : ℕ) (c : Condition) → slice_get rule.conditions q ≡ Some c → binds c ≡ false
    → (tuple : Tuple) → Comes p w step (take q rule.conditions) tuple
    → (f : Fact) → In f (passing p (pattern_of c) (snapshot (moved p w step)) tuple) → In f w.facts → IsKept p table w f

-- What is kept behind the step and was a fact before it was kept before it.
abbrev pub KeptBefore : Type 0
KeptBefore = (p : Program) (table : LifeTable) (w : World) (step : Step) → IsFlagged p → UseOperators p.rules → AreSafe p table
    → IsLawful p w → step_fault p w step ≡ None
    → (f : Fact) → IsKept p table (stepped p w step) f → In f w.facts → IsKept p table w f
