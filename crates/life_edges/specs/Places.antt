-- Conditions by their places.
use Rattle.std.specs.Prelude.{◌≡◌, ℕ, List, Some, slice_get}
use Rattle.rule_model.specs.declared.condition.Condition.{Condition}
use Rattle.life_meaning.specs.Reach.{Placed}

abbrev pub placed : ℕ → Condition → Placed
placed place c = record { place = place; condition = c }

-- the condition stands at its place
abbrev pub StandsIn : List Condition → Placed → Type 0
StandsIn conditions i = slice_get conditions i.place ≡ Some i.condition
