-- Tables of lives, which of them are safe to forget by, and which facts are kept by them (Walzer, Breddin, Groch 2008; Drools Fusion 5 User Guide,
-- memory management for events).
use Rattle.std.specs.Prelude.{◌≡◌, ℕ, ℤ, ◌+ℤ◌, ◌≤ℤ◌, true, false, length, Some, None, slice_get}
use Rattle.fx_base.specs.{Lists.{In}, declared.fact.Fact.{Fact}}
use Rattle.rule_model.specs.declared.{life.{Life.{Life, TheVariants.{Plain, Explicit, Finite, Infinite}}, LifeTable.{LifeTable}}, matched.Match.{Match}}
use Rattle.rule_model.specs.{declared.program.Program.{Program}, Candidates.{is_present}, Lives.{AreShort, endless_lives}, Matches.{has_match}}
use Rattle.rule_model.specs.{Tuples.{name_of}, Types.{is_event, expiry_of}}
use Rattle.rule_world.specs.Worlds.{World, pending}
use Rattle.life_meaning.specs.{Reach.{finite, infinite}, Lifetimes.{IsLife}}

-- ---- the table of lives

-- what a life says of the type of a place
abbrev pub IsLifeOf : Program → ℕ → Life → Type 0
IsLifeOf p ty Plain = is_event p ty ≡ false
IsLifeOf p ty (Explicit expiry) = (is_event p ty ≡ true) × (expiry_of p ty ≡ Some expiry)
IsLifeOf p ty (Finite n) = IsLife p ty (finite n)
IsLifeOf p ty Infinite = IsLife p ty infinite

-- the table has the life of each type of the program, at the type's place
pub record AreLives (p : Program) (table : LifeTable) : Type 0 where
  pub as_many : length table.lives ≡ length p.types
  pub each : (ty : ℕ) (life : Life) → slice_get table.lives ty ≡ Some life → IsLifeOf p ty life

-- ---- tables that are safe to forget by

-- A life by which no event of the type is forgotten too early: a finite one is at least as long as the life of the type, and one for ever
-- is safe for each event type without an explicit expiry. Plain types and explicit expiries are called what they are.
abbrev pub IsSafeLife : Program → ℕ → Life → Type 0
IsSafeLife p ty Plain = is_event p ty ≡ false
IsSafeLife p ty (Explicit expiry) = (is_event p ty ≡ true) × (expiry_of p ty ≡ Some expiry)
IsSafeLife p ty (Finite n) = (m : ℤ) × IsLife p ty (finite m) × (m ≤ℤ n)
IsSafeLife p ty Infinite = (is_event p ty ≡ true) × (expiry_of p ty ≡ None)

-- the table has a safe life for each type of the program, at the type's place
pub record AreSafe (p : Program) (table : LifeTable) : Type 0 where
  pub as_many : length table.lives ≡ length p.types
  pub each : (ty : ℕ) (life : Life) → slice_get table.lives ty ≡ Some life → IsSafeLife p ty life

-- a table that an engine of the program may be made with
pub record IsSafeTable (p : Program) (table : LifeTable) : Type 0 where
  pub safe : AreSafe p table
  pub short : AreShort table

-- the table of the program's lives is one, and so is the table without finite lives
abbrev pub LivesAreSafe : Type 0
LivesAreSafe = (p : Program) (table : LifeTable) → AreLives p table → AreShort table → IsSafeTable p table

abbrev pub EndlessAreSafe : Type 0
EndlessAreSafe = (p : Program) → IsSafeTable p (endless_lives p)

-- ---- what is kept

-- The facts of a world that are kept by a table of lives: the plain ones; the events of types with an explicit expiry, while they are
-- present; the events that live for ever, and those that are within their lives; what a pending match names.
pub data IsKept (p : Program) (table : LifeTable) (w : World) (f : Fact) : Type 0 where
  plain : In f w.facts → is_event p f.ty.0 ≡ false → IsKept p table w f
  unexpired : (expiry : ℤ) → In f w.facts → is_event p f.ty.0 ≡ true → expiry_of p f.ty.0 ≡ Some expiry → is_present p w.clock f ≡ true → IsKept p table w f
  endless : In f w.facts → slice_get table.lives f.ty.0 ≡ Some Infinite → IsKept p table w f
  living : (n : ℤ) → In f w.facts → slice_get table.lives f.ty.0 ≡ Some (Finite n) → w.clock ≤ℤ (f.times.end +ℤ n) → IsKept p table w f
  named : (m : Match) → In f w.facts → has_match (pending p w) m ≡ true → In (name_of f) m.row.facts → IsKept p table w f
