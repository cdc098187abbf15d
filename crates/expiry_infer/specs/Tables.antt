-- The table of the inferred lives of a program, with conditions and rules by their places.
use Rattle.std.specs.Prelude.{◌≡◌, ℕ, false, List, length}
use Rattle.rule_model.specs.{declared.{condition.Condition.{Condition}, program.{Program.{Program}, Rule.{Rule}}}, Rows.{pattern_of}, Types.{is_reference}}
use Rattle.life_meaning.specs.{Lifetimes.{Adds, LivesFor}, Reach.{Limit, Placed}}
use Rattle.expiry_infer.specs.declared.lifetimes.Placed as lent_placed
use Rattle.life_edges.specs.Places.{placed}
use Rattle.expiry_infer.specs.Tops.{Among}

abbrev pub lent : lent_placed.Placed → Placed
lent i = placed i.place i.condition.now

-- what j adds to i: nothing where it is on a reference type
abbrev pub AddsBy : Program → List Condition → Placed → Placed → Limit → Type 0
AddsBy p conditions i j l = (is_reference p (pattern_of j.condition).ty.0 ≡ false) × Adds p conditions i j l

-- the same of the condition j of place `place`
abbrev pub AddsAt : Program → List Condition → Placed → ℕ → Condition → Limit → Type 0
AddsAt p conditions i place j l = AddsBy p conditions i (placed place j) l

-- what the condition i of place `place` gives to the type, if its pattern is on it
abbrev pub GivesAt : Program → List Condition → ℕ → ℕ → Condition → Limit → Type 0
GivesAt p conditions ty place i l = ((pattern_of i).ty.0 ≡ ty) × LivesFor p conditions (placed place i) (pattern_of i).window l

-- what a rule gives to the type
abbrev pub GivesIn : Program → ℕ → ℕ → Rule → Limit → Type 0
GivesIn p ty place rule l = Among rule.conditions (GivesAt p rule.conditions ty) (length rule.conditions) l
