-- Patterns that take the same facts.
use Rattle.std.specs.Prelude.{◌≡◌, ◌↔◌}
use Rattle.fx_base.specs.declared.fact.Fact.{Fact}
use Rattle.row_delta.specs.declared.row.Named.{Named}
use Rattle.rule_model.specs.{declared.{condition.Pattern.{Pattern}, program.Program.{Program}}, Snapshots.{Snapshot}}
use Rattle.condition_rows.specs.Sets.{candidates_of}
use Rattle.pattern_gate.specs.{declared.gate.PatternGate.{PatternGate}, Gates.{GateStands, has_good_window}, Turns.{is_meant}}

-- they ask the same of a fact alone, and let it count as long; of rows they may ask what they like
pub record TakesAlike (a b : Pattern) : Type 0 where
  pub ty : a.ty ≡ b.ty
  pub entry : a.entry ≡ b.entry
  pub alone : a.alone ≡ b.alone
  pub window : a.window ≡ b.window

-- they have the same candidates in each snapshot
abbrev pub SameCandidatesLaw : Type 0
SameCandidatesLaw = (p : Program) (a b : Pattern) (s : Snapshot) (who : Named) → TakesAlike a b → candidates_of p a s who ≡ candidates_of p b s who

-- a gate stands for the one exactly where it stands for the other
abbrev pub SameGateLaw : Type 0
SameGateLaw = (p : Program) (a b : Pattern) (gate : PatternGate) (s : Snapshot) → TakesAlike a b → GateStands p a gate s ↔ GateStands p b gate s

-- they mean the same facts
abbrev pub SameMeantLaw : Type 0
SameMeantLaw = (a b : Pattern) (f : Fact) → TakesAlike a b → is_meant a f ≡ is_meant b f

-- a program may have the window of both, or of neither
abbrev pub SameWindowLaw : Type 0
SameWindowLaw = (p : Program) (a b : Pattern) → TakesAlike a b → has_good_window p a ≡ has_good_window p b
