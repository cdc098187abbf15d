-- Tables of lives: the bound on finite lives, and the table that has none.
use Rattle.std.specs.Prelude.{◌≡◌, ◌^◌, ◌≤ℤ◌, Bool, true, false, ℕ, ℤ, pos, map, Option, Some, None, slice_get}
use Rattle.rule_model.specs.declared.{life.{Life.{Life, TheVariants.{Plain, Explicit, Finite, Infinite}}, LifeTable.{LifeTable}}, program.Program.{Program}}
use Rattle.rule_model.specs.declared.program.TypeInfo.{TypeInfo}

-- a finite life is from 0 to 2^62 ms, so that its end behind an event has a number of 64 bits
abbrev pub IsShortLife : Life → Type 0
IsShortLife Plain = Unit {0}
IsShortLife (Explicit expiry) = Unit {0}
IsShortLife (Finite n) = (pos 0 ≤ℤ n) × (n ≤ℤ pos (2 ^ 62))
IsShortLife Infinite = Unit {0}

-- each life of the table is
abbrev pub AreShort : LifeTable → Type 0
AreShort table = (ty : ℕ) (life : Life) → slice_get table.lives ty ≡ Some life → IsShortLife life

-- ---- the table of an engine that forgets no event but by explicit expiry

abbrev pub life_by : Bool → Option ℤ → Life
life_by false expires = Plain
life_by true None = Infinite
life_by true (Some expiry) = Explicit expiry

-- a plain type has none, an explicit expiry is the life, and every other event lives for ever
abbrev pub endless_life : TypeInfo → Life
endless_life ty = life_by ty.event ty.expires

abbrev pub endless_lives : Program → LifeTable
endless_lives p = record { lives = map endless_life p.types }
