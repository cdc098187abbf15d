-- What is not present does not come back.
use Rattle.rule_world.proofs.Common.{◌≡◌, ◌||◌, not, ◌≤ℤ◌, ◌-ℤ◌, ℤ, Bool, true, false, Option, Some, None, arith, ints, Fact, Program, is_within, is_event}
use Rattle.{rule_world.proofs.Common.{expiry_of}, rule_model.specs.Candidates.{is_present}}

too_old : (expiry : Option ℤ) (a b : ℤ) → is_within expiry a ≡ false → a ≤ℤ b → is_within expiry b ≡ false
too_old None a b e h = absurd cc
too_old (Some expiry) a b e h = grind (arith, ints)

aged : (c d start : ℤ) → c ≤ℤ d → (c -ℤ start) ≤ℤ (d -ℤ start)
aged c d start h = omega (arith, ints)

pub absent_later : (p : Program) (c d : ℤ) (f : Fact) → is_present p c f ≡ false → c ≤ℤ d → is_present p d f ≡ false
unfolding is_present
absent_later p c d f e h = by (is_event p f.ty.0) e
  where
    by : (event : Bool) → (not event || is_within (expiry_of p f.ty.0) (c -ℤ f.times.start)) ≡ false
        → (not event || is_within (expiry_of p f.ty.0) (d -ℤ f.times.start)) ≡ false
    by false k = absurd cc
    by true k = too_old (expiry_of p f.ty.0) (c -ℤ f.times.start) (d -ℤ f.times.start) k (aged c d f.times.start h)
