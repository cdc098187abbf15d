-- The law of changes: what comes or goes in a step names only events that are within their inferred lives (Walzer, Breddin, Groch 2008;
-- Drools Fusion 5 User Guide, memory management for events, inferred expiration offset).
use Rattle.std.specs.Prelude.{◌≡◌, ◌&&◌, ◌⊎◌, ℕ, ℤ, ◌+ℤ◌, ◌≤ℤ◌, true, false, List, take, Some, None, slice_get}
use Rattle.fx_base.specs.{Lists.{In}, declared.fact.Fact.{Fact}}
use Rattle.rule_model.specs.declared.{condition.{Condition.{Condition}, WindowTag.TheVariants.{Whole}}, program.{Program.{Program}, Rule.{Rule}}}
use Rattle.rule_model.specs.{declared.step.Step.{Step, TheVariants.{Insert, Modify, Retract, Advance, At, Promise, Begin}}, Candidates.{passing}, Rows.{Makes}}
use Rattle.rule_model.specs.{Rows.{pattern_of, binds}, Simple.{is_observed_in}, Snapshots.{Snapshot}, Tuples.{Tuple, empty_tuple}, Types.{is_event}}
use Rattle.rule_model.specs.Types.{is_reference, is_observed}
use Rattle.rule_world.specs.{Worlds.{World, snapshot, moved, step_fault}, Lawful.{IsLawful}}
use Rattle.life_meaning.specs.{Reach.{finite}, Lifetimes.{IsLife}}

-- ---- what comes and goes

-- conditions make the tuple of nothing
abbrev pub Made : Program → Snapshot → List Condition → Tuple → Type 0
Made p s conditions tuple = Makes p s conditions empty_tuple tuple

-- the tuple is made over one snapshot and not over the other
abbrev pub Differs : Program → Snapshot → Snapshot → List Condition → Tuple → Type 0
Differs p a b conditions tuple =
    (Made p a conditions tuple × (Made p b conditions tuple → ⊥)) ⊎ (Made p b conditions tuple × (Made p a conditions tuple → ⊥))

-- the step retracts no fact of the tuple
abbrev pub KeepsTuple : Step → Tuple → Type 0
KeepsTuple (Insert ty entry fields) tuple = Unit {0}
KeepsTuple (Modify id sets) tuple = Unit {0}
KeepsTuple (Retract ty id) tuple = (f : Fact) → In f tuple.facts → f.ty.0 ≡ ty.0 → f.id.0 ≡ id.0 → ⊥
KeepsTuple (Advance by) tuple = Unit {0}
KeepsTuple (At moment) tuple = Unit {0}
KeepsTuple (Promise entry from) tuple = Unit {0}
KeepsTuple Begin tuple = Unit {0}

-- ---- what is asked of the program

-- what the program says of its types and windows, as the program of every accepted rule file does
pub record IsFlagged (p : Program) : Type 0 where
  -- the observed types are the event types that some condition observes
  pub observed : (ty : ℕ) → is_observed p ty ≡ (is_event p ty && is_observed_in p.rules ty)
  -- reference types are no event types
  pub references : (ty : ℕ) → is_reference p ty ≡ true → is_event p ty ≡ false
  -- a pattern on a plain type has no window
  pub windows : (rule : Rule) → In rule p.rules → (c : Condition) → In c rule.conditions → is_event p (pattern_of c).ty.0 ≡ false → (pattern_of c).window ≡ Whole

-- ---- the law

-- An event of a tuple of a whole rule that comes or goes in a step is within its life.
abbrev pub OfRule : Type 0
OfRule = (p : Program) (w : World) (step : Step) → IsFlagged p → IsLawful p w → step_fault p w step ≡ None
    → (rule : Rule) → In rule p.rules → (tuple : Tuple) → KeepsTuple step tuple
    → Differs p (snapshot w) (snapshot (moved p w step)) rule.conditions tuple
    → (x : Fact) → In x tuple.facts → (n : ℤ) → IsLife p x.ty.0 (finite n)
    → w.clock ≤ℤ (x.times.end +ℤ n)

-- An event that passes for a `not`, `exists` or `accumulate` is within its life where a tuple of the conditions before that one comes or
-- goes.
abbrev pub OfPrefix : Type 0
OfPrefix = (p : Program) (w : World) (step : Step) → IsFlagged p → IsLawful p w → step_fault p w step ≡ None
    → (rule : Rule) → In rule p.rules → (tuple : Tuple) → KeepsTuple step tuple
    → (q : ℕ) (c : Condition) → slice_get rule.conditions q ≡ Some c → binds c ≡ false
    → Differs p (snapshot w) (snapshot (moved p w step)) (take q rule.conditions) tuple
    → (x : Fact) → In x (passing p (pattern_of c) (snapshot (moved p w step)) tuple) → (n : ℤ) → IsLife p x.ty.0 (finite n)
    → w.clock ≤ℤ (x.times.end +ℤ n)
