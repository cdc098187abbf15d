-- Which tables of lives a certificate may be of: each type has the life that its declaration asks for, and a finite one is not below 0
-- or a window on the type.
use Rattle.std.specs.Prelude.{◌≡◌, ◌&&◌, ◌≤ℤ◌, ℕ, ℤ, pos, Bool, true, false, not, List, [], ◌∷◌, length, Option, Some, None, slice_get}
use Rattle.std.specs.{Int.RustNames.{int_le}, List.{list_all}, Ordering.{int_eq}}
use Rattle.fx_base.specs.Lists.{In}
use Rattle.rule_model.specs.declared.{condition.{Condition.{Condition}, WindowTag.{WindowTag, TheVariants.{Whole, Time, Length}}}, life.Life.{Life}}
use Rattle.rule_model.specs.declared.{life.{Life.TheVariants.{Plain, Explicit, Finite, Infinite}, LifeTable.{LifeTable}}, program.Program.{Program}}
use Rattle.rule_model.specs.{declared.program.{Rule.{Rule}, TypeInfo.{TypeInfo}}, Rows.{pattern_of}, Types.{is_event, expiry_of}}

-- ---- as a relation

-- what a life says of the type of a place
abbrev pub IsLawfulLife : Program → ℕ → Life → Type 0
IsLawfulLife p ty Plain = is_event p ty ≡ false
IsLawfulLife p ty (Explicit expiry) = (is_event p ty ≡ true) × (expiry_of p ty ≡ Some expiry)
IsLawfulLife p ty (Finite n) = (is_event p ty ≡ true) × (expiry_of p ty ≡ None) × (pos 0 ≤ℤ n)
IsLawfulLife p ty Infinite = (is_event p ty ≡ true) × (expiry_of p ty ≡ None)

-- a life of n ms is as long as the window
abbrev pub Spans : WindowTag → ℤ → Type 0
Spans Whole n = Unit {0}
Spans (Time span) n = span ≤ℤ n
Spans (Length count) n = ⊥

pub record IsLawfulTable (p : Program) (table : LifeTable) : Type 0 where
  pub as_many : length table.lives ≡ length p.types
  pub each : (ty : ℕ) (life : Life) → slice_get table.lives ty ≡ Some life → IsLawfulLife p ty life
  pub windows : (rule : Rule) → In rule p.rules → (c : Condition) → In c rule.conditions → (n : ℤ)
      → slice_get table.lives (pattern_of c).ty.0 ≡ Some (Finite n) → Spans (pattern_of c).window n

-- ---- as a function

abbrev pub is_expiry : Option ℤ → ℤ → Bool
is_expiry (Some expiry) n = int_eq expiry n
is_expiry None n = false

abbrev pub is_unexpired : Option ℤ → Bool
is_unexpired (Some expiry) = false
is_unexpired None = true

abbrev pub is_life_of : TypeInfo → Life → Bool
is_life_of ty Plain = not ty.event
is_life_of ty (Explicit expiry) = ty.event && is_expiry ty.expires expiry
is_life_of ty (Finite n) = ty.event && (is_unexpired ty.expires && int_le (pos 0) n)
is_life_of ty Infinite = ty.event && is_unexpired ty.expires

abbrev pub are_lives_of : List TypeInfo → List Life → Bool
are_lives_of [] [] = true
are_lives_of [] (life ∷ lives) = false
are_lives_of (ty ∷ types) [] = false
are_lives_of (ty ∷ types) (life ∷ lives) = is_life_of ty life && are_lives_of types lives

abbrev pub spans : WindowTag → ℤ → Bool
spans Whole n = true
spans (Time span) n = int_le span n
spans (Length count) n = false

-- a finite life is as long as the window
abbrev pub spans_by : WindowTag → Option Life → Bool
spans_by window (Some (Finite n)) = spans window n
spans_by window (Some Plain) = true
spans_by window (Some (Explicit expiry)) = true
spans_by window (Some Infinite) = true
spans_by window None = true

abbrev pub is_spanned : List Life → Condition → Bool
is_spanned lives c = spans_by (pattern_of c).window (slice_get lives (pattern_of c).ty.0)

abbrev pub are_spanned : List Life → Rule → Bool
are_spanned lives rule = list_all (is_spanned lives) rule.conditions

abbrev pub is_lawful_table : Program → LifeTable → Bool
is_lawful_table p table = are_lives_of p.types table.lives && list_all (are_spanned table.lives) p.rules
