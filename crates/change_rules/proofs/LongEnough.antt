-- Lives that are as long as others.
use Rattle.change_rules.proofs.Common.{Life, List, Program, Some, [], ap, ap₂, drop, get_or, length, refl, sym, true, ℕ, ◌+◌, ◌<◌, ◌∙◌, ◌∷◌, ◌≡◌, ◌≤◌}
use Rattle.{change_rules.specs.AsLong.{AsLongIsSafe, are_lives_as_long, is_life_as_long}, change_resolve.proofs.Places.{some_is}}
use Rattle.{fx_base.proofs.{Orders.{int_eq-true, int_le-true, ≤ℤ_trans}, Sequences.{drop_at, drop_past}}, std.proofs.Common.{Bool, false, suc, zero, ◌&&◌, ◌^◌}}
use Rattle.std.{proofs.{Common.{int_le, pos}, lemmas.{Bool.{and_parts}, List.{get_or_default}}}, specs.Prelude.{slice_get}}
use Rattle.{life_meaning.specs.Tables.{IsLifeOf, IsSafeLife}, rule_model.specs.{Lives.{IsShortLife}, declared.life.Life.TheVariants.{Plain, Explicit, Finite}}}
use Rattle.rule_model.specs.declared.life.Life.TheVariants.{Infinite}

-- ---- one life

safe_as_long : (p : Program) (ty : ℕ) (own life : Life) → IsLifeOf p ty own → IsShortLife own → is_life_as_long own life ≡ true
    → IsSafeLife p ty life × IsShortLife life
safe_as_long p ty Plain Plain is short long = (is, tt)
safe_as_long p ty Plain (Explicit expiry) is short long = absurd (let torn : false ≡ true = long in cc)
safe_as_long p ty Plain (Finite life) is short long = absurd (let torn : false ≡ true = long in cc)
safe_as_long p ty Plain Infinite is short long = absurd (let torn : false ≡ true = long in cc)
safe_as_long p ty (Explicit own) Plain is short long = absurd (let torn : false ≡ true = long in cc)
safe_as_long p ty (Explicit own) (Explicit expiry) is short long = ((is.0, is.1 ∙ ap Some (int_eq-true own expiry long)), tt)
safe_as_long p ty (Explicit own) (Finite life) is short long = absurd (let torn : false ≡ true = long in cc)
safe_as_long p ty (Explicit own) Infinite is short long = absurd (let torn : false ≡ true = long in cc)
safe_as_long p ty (Finite own) Plain is short long = absurd (let torn : false ≡ true = long in cc)
safe_as_long p ty (Finite own) (Explicit expiry) is short long = absurd (let torn : false ≡ true = long in cc)
safe_as_long p ty (Finite own) (Finite life) is short long =
    let parts = and_parts (int_le own life) (int_le life (pos (2 ^ 62))) long in
    let more = int_le-true own life parts.0 in
    ((own, is, more), (≤ℤ_trans (pos 0) own life short.0 more, int_le-true life (pos (2 ^ 62)) parts.1))
safe_as_long p ty (Finite own) Infinite is short long = ((is.event, is.unexpired), tt)
safe_as_long p ty Infinite Plain is short long = absurd (let torn : false ≡ true = long in cc)
safe_as_long p ty Infinite (Explicit expiry) is short long = absurd (let torn : false ≡ true = long in cc)
safe_as_long p ty Infinite (Finite life) is short long = absurd (let torn : false ≡ true = long in cc)
safe_as_long p ty Infinite Infinite is short long = ((is.event, is.unexpired), tt)

-- ---- all lives

as_many : (own lives : List Life) → are_lives_as_long own lives ≡ true → length lives ≡ length own
unfolding are_lives_as_long
as_many [] [] e = refl
as_many [] (life ∷ lives) e = absurd (let torn : false ≡ true = e in cc)
as_many (mine ∷ own) [] e = absurd (let torn : false ≡ true = e in cc)
as_many (mine ∷ own) (life ∷ lives) e = ap suc (as_many own lives (and_parts (is_life_as_long mine life) (are_lives_as_long own lives) e).1)

-- what stands in a place is as long as the own one there
as_long_at : (own lives : List Life) (place : ℕ) (life : Life) → are_lives_as_long own lives ≡ true → slice_get lives place ≡ Some life
    → (mine : Life) × (slice_get own place ≡ Some mine) × (is_life_as_long mine life ≡ true)
unfolding are_lives_as_long
as_long_at [] [] place life e at = absurd cc
as_long_at [] (x ∷ lives) place life e at = absurd (let torn : false ≡ true = e in cc)
as_long_at (mine ∷ own) [] place life e at = absurd (let torn : false ≡ true = e in cc)
as_long_at (mine ∷ own) (x ∷ lives) zero life e at =
    (mine, refl, ap (is_life_as_long mine) (sym (some_is at)) ∙ (and_parts (is_life_as_long mine x) (are_lives_as_long own lives) e).0)
as_long_at (mine ∷ own) (x ∷ lives) (suc place) life e at =
    as_long_at own lives place life (and_parts (is_life_as_long mine x) (are_lives_as_long own lives) e).1 at

pub as_long_is_safe : AsLongIsSafe
as_long_is_safe p own table are short long = record {
  safe = record { as_many = as_many own.lives table.lives long ∙ are.as_many; each = λ ty life at. (safe_at ty life at).0 };
  short = λ ty life at. (safe_at ty life at).1;
}
  where
    safe_at : (ty : ℕ) (life : Life) → slice_get table.lives ty ≡ Some life → IsSafeLife p ty life × IsShortLife life
    safe_at ty life at =
        let mine = as_long_at own.lives table.lives ty life long at in
        safe_as_long p ty mine.0 life (are.each ty mine.0 mine.1) (short ty mine.0 mine.1) mine.2

-- ---- place by place

pub other_many : (own lives : List Life) → (length own ≡ length lives → ⊥) → are_lives_as_long own lives ≡ false
other_many own lives other = by (are_lives_as_long own lives) refl
  where
    by : (b : Bool) → are_lives_as_long own lives ≡ b → b ≡ false
    by true e = absurd (other (sym (as_many own lives e)))
    by false e = refl

module _ (own lives : List Life) (place : ℕ) (so : are_lives_as_long (drop place own) (drop place lives) ≡ are_lives_as_long own lives) where
  module _ (mine life : Life) (low : place < length own) (less : place < length lives) where
    abbrev rest : Bool
    rest = are_lives_as_long (drop (place + 1) own) (drop (place + 1) lives)

    cut : are_lives_as_long own lives ≡ (is_life_as_long (get_or own place mine) (get_or lives place life) && rest)
    unfolding are_lives_as_long
    cut = sym so ∙ ap₂ are_lives_as_long (drop_at own place (get_or own place mine) low (get_or_default own place mine (get_or own place mine) low))
        (drop_at lives place (get_or lives place life) less (get_or_default lives place life (get_or lives place life) less))

    pub differs : is_life_as_long (get_or own place mine) (get_or lives place life) ≡ false → are_lives_as_long own lives ≡ false
    differs e = cut ∙ ap (λ (b : Bool). b && rest) e

    pub goes_on : is_life_as_long (get_or own place mine) (get_or lives place life) ≡ true → rest ≡ are_lives_as_long own lives
    goes_on e = sym (cut ∙ ap (λ (b : Bool). b && rest) e)

  pub ends : length own ≤ place → length lives ≤ place → are_lives_as_long own lives ≡ true
  unfolding are_lives_as_long
  ends low less = sym so ∙ ap₂ are_lives_as_long (drop_past own place low) (drop_past lives place less)
