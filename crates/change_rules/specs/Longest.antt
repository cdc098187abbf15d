-- The lives by which events are kept for as long as other rules need them.
use Rattle.std.specs.{Prelude.{◌≡◌, true, List, [], ◌∷◌, Option, Some, None, slice_get, ℕ}, Int.{int_max}}
use Rattle.change_resolve.specs.Changes.{type_named}
use Rattle.rule_change.specs.{Alike.{HaveNames}, Refused.{IsLonger}}
use Rattle.life_meaning.specs.Tables.{AreLives}
use Rattle.rule_model.specs.{Lives.{AreShort}, declared.{life.{Life.{Life, TheVariants.{Finite, Infinite}}, LifeTable.{LifeTable}}, program.Program.{Program}}}
use Rattle.rule_model.specs.declared.program.TypeInfo.{TypeInfo}
use Rattle.change_rules.specs.AsLong.{are_as_long}

-- the longer one of a type's own life and of one that other rules need; one that is plain, explicit or for ever stays
abbrev pub longer_life : Life → Life → Life
longer_life (Finite own) (Finite needs) = Finite (int_max own needs)
longer_life (Finite own) Infinite = Infinite
longer_life own _ = own

abbrev pub longer_or_own : Life → Option Life → Life
longer_or_own own None = own
longer_or_own own (Some needs) = longer_life own needs

-- given the type of the same name of the other rules, with its place
abbrev pub longest_life : LifeTable → Life → Option (ℕ × TypeInfo) → Life
longest_life needs own None = own
longest_life needs own (Some there) = longer_or_own own (slice_get needs.lives there.0)

-- the lives of types, with these lives of their own, given the types of the other rules and the lives that these need
unfoldable pub longest_lives : List TypeInfo → LifeTable → List TypeInfo → List Life → List Life
longest_lives others needs [] own = []
longest_lives others needs (ty ∷ types) [] = []
longest_lives others needs (ty ∷ types) (life ∷ own) = longest_life needs life (type_named ty.name others 0) ∷ longest_lives others needs types own

-- The table of the rules of `p`, whose own lives are `own`, by which events are kept for as long as `r` needs them too.
abbrev pub longest : Program → Program → LifeTable → LifeTable → LifeTable
longest p r own needs = record { lives = longest_lives r.types needs p.types own.lives }

-- ---- what holds

-- its lives are as long as the own ones
abbrev pub LongestIsAsLong : Type 0
LongestIsAsLong = (p r : Program) (own needs : LifeTable) → AreLives p own → AreShort own → AreShort needs → are_as_long own (longest p r own needs) ≡ true

-- the other rules need the events of no type for longer
abbrev pub LongestIsLongEnough : Type 0
LongestIsLongEnough = (p r : Program) (own needs : LifeTable) → HaveNames r → (ty : ℕ) → IsLonger p r (longest p r own needs) needs ty → ⊥
