-- Tables that are safe to forget by.
use Rattle.life_meaning.proofs.Common.{◌≡◌, ℕ, zero, suc, ℤ, ◌≤ℤ◌, Bool, true, false, List, [], ◌∷◌, map, length, Option, Some, None, refl, ap, subst}
use Rattle.life_meaning.proofs.Common.{slice_get, Life, Explicit, Finite, Infinite, LifeTable, Program, AreSafe, is_event_type, expiry_in, IsLifeOf, IsSafeLife}
use Rattle.{life_meaning.proofs.Common.{LivesAreSafe, EndlessAreSafe}, std.specs.Int.Signed.{≤ℤ_refl}, rule_model.specs.declared.life.Life.TheVariants.{Plain}}
use Rattle.rule_model.specs.{declared.program.TypeInfo.{TypeInfo}, Lives.{IsShortLife, life_by, endless_life}, Types.{is_event, expiry_of}}

-- the life of a type is safe
pub safe_life : (p : Program) (ty : ℕ) (life : Life) → IsLifeOf p ty life → IsSafeLife p ty life
safe_life p ty Plain is = is
safe_life p ty (Explicit expiry) is = is
safe_life p ty (Finite n) is = (n, is, ≤ℤ_refl n)
safe_life p ty Infinite is = (is.event, is.unexpired)

pub lives_are_safe : LivesAreSafe
lives_are_safe p table are short = record {
  safe = record { as_many = are.as_many; each = λ ty life at. safe_life p ty life (are.each ty life at) };
  short = short;
}

-- ---- what is not in a safe table

none_too : {A B : Type 0} (xs : List A) (ys : List B) (k : ℕ) → length xs ≡ length ys → slice_get xs k ≡ None → slice_get ys k ≡ None
none_too [] [] k e h = refl
none_too [] (y ∷ ys) k e h = absurd cc
none_too (x ∷ xs) [] k e h = absurd cc
none_too (x ∷ xs) (y ∷ ys) zero e h = absurd cc
none_too (x ∷ xs) (y ∷ ys) (suc k) e h = none_too xs ys k (let s : length xs ≡ length ys = cc in s) h

-- what is no type of the table is none of the program, and plain
pub plain_unlisted : (p : Program) (table : LifeTable) (ty : ℕ) → AreSafe p table → slice_get table.lives ty ≡ None → is_event p ty ≡ false
unfolding is_event
plain_unlisted p table ty are e = ap is_event_type (none_too table.lives p.types ty are.as_many e)

-- ---- the table without finite lives

as_many_mapped : {A B : Type 0} (g : A → B) (xs : List A) → length (map g xs) ≡ length xs
as_many_mapped g [] = refl
as_many_mapped g (x ∷ xs) = ap suc (as_many_mapped g xs)

-- what stands in a place of a mapped list is mapped from what stands there
mapped_at : {A B : Type 0} (g : A → B) (xs : List A) (place : ℕ) (y : B) → slice_get (map g xs) place ≡ Some y → (x : A) × (slice_get xs place ≡ Some x) × (g x ≡ y)
mapped_at g [] place y e = absurd cc
mapped_at g (x ∷ xs) zero y e = (x, refl, (let s : g x ≡ y = cc in s))
mapped_at g (x ∷ xs) (suc place) y e = mapped_at g xs place y e

-- what the table has for a type of this kind and this expiry
safe_by : (p : Program) (ty : ℕ) (event : Bool) (expires : Option ℤ) → is_event p ty ≡ event → expiry_of p ty ≡ expires → IsSafeLife p ty (life_by event expires)
safe_by p ty false expires e x = e
safe_by p ty true None e x = (e, x)
safe_by p ty true (Some expiry) e x = (e, x)

short_by : (event : Bool) (expires : Option ℤ) → IsShortLife (life_by event expires)
short_by false expires = tt
short_by true None = tt
short_by true (Some expiry) = tt

safe_at : (p : Program) (ty : ℕ) (info : TypeInfo) → slice_get p.types ty ≡ Some info → IsSafeLife p ty (endless_life info)
unfolding is_event expiry_of
safe_at p ty info at = safe_by p ty info.event info.expires (ap is_event_type at) (ap expiry_in at)

pub endless_are_safe : EndlessAreSafe
endless_are_safe p = record {
  safe = record {
    as_many = as_many_mapped endless_life p.types;
    each = λ ty life at.
        let q = mapped_at endless_life p.types ty life at in
        subst (IsSafeLife p ty) q.2 (safe_at p ty q.0 q.1);
  };
  short = λ ty life at.
      let q = mapped_at endless_life p.types ty life at in
      subst IsShortLife q.2 (short_by q.0.event q.0.expires);
}
