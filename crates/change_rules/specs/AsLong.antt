-- Which lives are as long as others.
use Rattle.std.specs.{Prelude.{◌≡◌, ◌^◌, ◌&&◌, int_le, Bool, true, false, List, [], ◌∷◌, pos}, Ordering.{int_eq}}
use Rattle.life_meaning.specs.Tables.{AreLives, IsSafeTable}
use Rattle.rule_model.specs.{Lives.{AreShort}, declared.life.{Life.{Life, TheVariants.{Plain, Explicit, Finite, Infinite}}, LifeTable.{LifeTable}}}
use Rattle.rule_model.specs.declared.program.Program.{Program}

-- A life is as long as a type's own one: of the same kind, a finite one at least as long and at most 2^62 ms, and for a finite one also one for ever.
abbrev pub is_life_as_long : Life → Life → Bool
is_life_as_long Plain Plain = true
is_life_as_long (Explicit own) (Explicit expiry) = int_eq own expiry
is_life_as_long (Finite own) (Finite life) = int_le own life && int_le life (pos (2 ^ 62))
is_life_as_long (Finite own) Infinite = true
is_life_as_long Infinite Infinite = true
is_life_as_long _ _ = false

-- each life is as long as the own one in its place, and there are as many
unfoldable pub are_lives_as_long : List Life → List Life → Bool
are_lives_as_long [] [] = true
are_lives_as_long [] (life ∷ lives) = false
are_lives_as_long (own ∷ owns) [] = false
are_lives_as_long (own ∷ owns) (life ∷ lives) = is_life_as_long own life && are_lives_as_long owns lives

abbrev pub are_as_long : LifeTable → LifeTable → Bool
are_as_long own table = are_lives_as_long own.lives table.lives

-- ---- what holds

-- lives that are as long as those of the program are safe for it
abbrev pub AsLongIsSafe : Type 0
AsLongIsSafe = (p : Program) (own table : LifeTable) → AreLives p own → AreShort own → are_as_long own table ≡ true → IsSafeTable p table
