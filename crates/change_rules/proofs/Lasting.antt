-- The longest lives, made life by life, and that they are long enough.
use Rattle.change_rules.proofs.Common.{Life, LifeTable, List, None, Option, Program, Some, TypeInfo, [], ap, ap₂, arith, cases_lt, drop, get_or, inl, inr}
use Rattle.change_rules.{proofs.Common.{length, refl, sym, true, type_named, ℕ, ◌++◌, ◌+◌, ◌<◌, ◌∙◌, ◌∷◌, ◌≡◌, ◌≤◌}, specs.AsLong.{are_lives_as_long}}
use Rattle.change_rules.specs.{AsLong.{is_life_as_long}, Longest.{LongestIsAsLong, LongestIsLongEnough, longer_life, longer_or_own, longest, longest_life}}
use Rattle.{change_rules.specs.Longest.{longest_lives}, change_resolve.proofs.Places.{some_is}, fx_base.proofs.Orders.{int_eq-self, int_lt-false, int_lt-flip}}
use Rattle.{fx_base.proofs.{Orders.{le-int_le}, Sequences.{drop_at, drop_past}}, rule_change.{proofs.Places.{type_back, type_found}, specs.Alike.{HaveNames}}}
use Rattle.{rule_change.specs.{Changed.{carried_life, carried_lives, life_or}, Refused.{is_longer}}, rule_model.specs.Lives.{AreShort, IsShortLife}}
use Rattle.{rule_model.specs.declared.life.Life.TheVariants.{Plain, Explicit, Finite, Infinite}, std.proofs.Common.{append-nil, append_assoc, min, Bool, false}}
use Rattle.std.proofs.{Common.{suc, zero, cond, ◌&&◌, ◌^◌, ◌≤ℤ◌, ℤ, int_le, int_lt, pos}, lemmas.{Bool.{and_from}, Int.{ints}, List.{get_or_default}}}
use Rattle.std.specs.{Int.Signed.{≤ℤ_refl}, Prelude.{slice_get}}

-- ---- life by life

module _ (others : List TypeInfo) (needs : LifeTable) (types : List TypeInfo) (own lives : List Life) (place : ℕ) where
  abbrev rest : ℕ → List Life
  rest n = longest_lives others needs (drop n types) (drop n own)

  pub one_lasting : (ty : TypeInfo) (none : Life) (now : List Life) → place < length types → place < length own
      → now ≡ lives ++ longest_life needs (get_or own place none) (type_named (get_or types place ty).name others 0) ∷ []
      → lives ++ rest place ≡ longest_lives others needs types own → now ++ rest (place + 1) ≡ longest_lives others needs types own
  unfolding longest_lives
  one_lasting ty none now low less made so =
      let t = get_or types place ty in
      let mine = get_or own place none in
      ap (λ (xs : List Life). xs ++ rest (place + 1)) made ∙ append_assoc lives (longest_life needs mine (type_named t.name others 0) ∷ []) (rest (place + 1))
      ∙ ap (λ (more : List Life). lives ++ more)
      (sym (ap₂ (longest_lives others needs) (drop_at types place t low (get_or_default types place ty t low))
      (drop_at own place mine less (get_or_default own place none mine less)))) ∙ so

  none_left : (rest_types : List TypeInfo) → longest_lives others needs rest_types [] ≡ []
  unfolding longest_lives
  none_left [] = refl
  none_left (ty ∷ types) = refl

  pub all_lasting : min (length types) (length own) ≤ place → lives ++ rest place ≡ longest_lives others needs types own
      → lives ≡ longest_lives others needs types own
  unfolding longest_lives
  all_lasting end so = sym (ap (λ (more : List Life). lives ++ more) nothing ∙ append-nil lives) ∙ so
    where
      nothing : rest place ≡ []
      nothing = elim (cases_lt place (length types)) [
        | inl low ↦ (ap (longest_lives others needs (drop place types)) (drop_past own place (omega (arith, end, low))) ∙ none_left (drop place types))
        | inr high ↦ ap (λ (more : List TypeInfo). longest_lives others needs more (drop place own)) (drop_past types place high)
      ]

-- ---- as long as the own ones

itself_as_long : (own : Life) → IsShortLife own → is_life_as_long own own ≡ true
itself_as_long Plain short = refl
itself_as_long (Explicit expiry) short = int_eq-self expiry
itself_as_long (Finite own) short =
    and_from (int_le own own) (int_le own (pos (2 ^ 62))) (le-int_le own own (≤ℤ_refl own)) (le-int_le own (pos (2 ^ 62)) short.1)
itself_as_long Infinite short = refl

greater_as_long : (own needs limit : ℤ) → own ≤ℤ limit → needs ≤ℤ limit → (b : Bool) → int_lt needs own ≡ b
    → (int_le own (cond b own needs) && int_le (cond b own needs) limit) ≡ true
greater_as_long own needs limit short other true e = and_from (int_le own own) (int_le own limit) (le-int_le own own (≤ℤ_refl own)) (le-int_le own limit short)
greater_as_long own needs limit short other false e =
    and_from (int_le own needs) (int_le needs limit) (le-int_le own needs (int_lt-false needs own e)) (le-int_le needs limit other)

longer_as_long : (own needs : Life) → IsShortLife own → IsShortLife needs → is_life_as_long own (longer_life own needs) ≡ true
longer_as_long Plain needs short other = refl
longer_as_long (Explicit expiry) needs short other = int_eq-self expiry
longer_as_long (Finite own) Plain short other = itself_as_long (Finite own) short
longer_as_long (Finite own) (Explicit expiry) short other = itself_as_long (Finite own) short
longer_as_long (Finite own) (Finite needs) short other = greater_as_long own needs (pos (2 ^ 62)) short.1 other.1 (int_lt needs own) refl
longer_as_long (Finite own) Infinite short other = refl
longer_as_long Infinite needs short other = refl

module _ (others : List TypeInfo) (needs : LifeTable) (other : AreShort needs) where
  or_own_as_long : (own : Life) (place : ℕ) (found : Option Life) → slice_get needs.lives place ≡ found → IsShortLife own
      → is_life_as_long own (longer_or_own own found) ≡ true
  or_own_as_long own place None at short = itself_as_long own short
  or_own_as_long own place (Some life) at short = longer_as_long own life short (other place life at)

  one_as_long : (own : Life) (named : Option (ℕ × TypeInfo)) → IsShortLife own → is_life_as_long own (longest_life needs own named) ≡ true
  one_as_long own None short = itself_as_long own short
  one_as_long own (Some there) short = or_own_as_long own there.0 (slice_get needs.lives there.0) refl short

  all_as_long : (types : List TypeInfo) (own : List Life) → length own ≡ length types
      → ((place : ℕ) (life : Life) → slice_get own place ≡ Some life → IsShortLife life)
      → are_lives_as_long own (longest_lives others needs types own) ≡ true
  unfolding are_lives_as_long longest_lives
  all_as_long [] [] many short = refl
  all_as_long [] (life ∷ own) many short = absurd (omega (arith, many))
  all_as_long (ty ∷ types) [] many short = absurd (omega (arith, many))
  all_as_long (ty ∷ types) (life ∷ own) many short =
      and_from (is_life_as_long life (longest_life needs life (type_named ty.name others 0))) (are_lives_as_long own (longest_lives others needs types own))
      (one_as_long life (type_named ty.name others 0) (short 0 life refl))
      (all_as_long types own (let h : suc (length own) ≡ suc (length types) = many in omega (arith, h)) (λ place life at. short (suc place) life at))

pub longest_is_as_long : LongestIsAsLong
longest_is_as_long p r own needs are short other = all_as_long r.types needs other p.types own.lives are.as_many short

-- ---- long enough for the other rules

-- what is carried, or lasts, in a place is made of the type and the own life there
carried_made : (old : List TypeInfo) (table : LifeTable) (types : List TypeInfo) (own : List Life) (place : ℕ) (life : Life)
    → slice_get (carried_lives old table types own) place ≡ Some life
    → (ty : TypeInfo) × (slice_get types place ≡ Some ty) × (mine : Life) × (slice_get own place ≡ Some mine)
    × (life ≡ carried_life table mine (type_named ty.name old 0))
unfolding carried_lives
carried_made old table [] own place life e = absurd cc
carried_made old table (ty ∷ types) [] place life e = absurd cc
carried_made old table (ty ∷ types) (one ∷ own) zero life e = (ty, refl, one, refl, sym (some_is e))
carried_made old table (ty ∷ types) (one ∷ own) (suc place) life e = carried_made old table types own place life e

longest_made : (others : List TypeInfo) (needs : LifeTable) (types : List TypeInfo) (own : List Life) (place : ℕ) (life : Life)
    → slice_get (longest_lives others needs types own) place ≡ Some life
    → (ty : TypeInfo) × (slice_get types place ≡ Some ty) × (mine : Life) × (slice_get own place ≡ Some mine)
    × (life ≡ longest_life needs mine (type_named ty.name others 0))
unfolding longest_lives
longest_made others needs [] own place life e = absurd cc
longest_made others needs (ty ∷ types) [] place life e = absurd cc
longest_made others needs (ty ∷ types) (one ∷ own) zero life e = (ty, refl, one, refl, sym (some_is e))
longest_made others needs (ty ∷ types) (one ∷ own) (suc place) life e = longest_made others needs types own place life e

less_itself : (n : ℤ) → int_lt n n ≡ false
less_itself n = grind (arith, ints)

less_greater : (own needs : ℤ) (b : Bool) → int_lt needs own ≡ b → int_lt (cond b own needs) needs ≡ false
less_greater own needs true e = int_lt-flip needs own e
less_greater own needs false e = less_itself needs

itself_no_longer : (life : Life) → is_longer life life ≡ false
itself_no_longer Plain = refl
itself_no_longer (Explicit expiry) = refl
itself_no_longer (Finite life) = less_itself life
itself_no_longer Infinite = refl

longer_no_longer : (own needs : Life) → is_longer needs (longer_life own needs) ≡ false
longer_no_longer Plain Plain = refl
longer_no_longer Plain (Explicit expiry) = refl
longer_no_longer Plain (Finite needs) = refl
longer_no_longer Plain Infinite = refl
longer_no_longer (Explicit own) Plain = refl
longer_no_longer (Explicit own) (Explicit expiry) = refl
longer_no_longer (Explicit own) (Finite needs) = refl
longer_no_longer (Explicit own) Infinite = refl
longer_no_longer (Finite own) Plain = refl
longer_no_longer (Finite own) (Explicit expiry) = refl
longer_no_longer (Finite own) (Finite needs) = less_greater own needs (int_lt needs own) refl
longer_no_longer (Finite own) Infinite = refl
longer_no_longer Infinite Plain = refl
longer_no_longer Infinite (Explicit expiry) = refl
longer_no_longer Infinite (Finite needs) = refl
longer_no_longer Infinite Infinite = refl

module _ (p r : Program) (own needs : LifeTable) (names : HaveNames r) (ty : ℕ) (info : TypeInfo) (life : Life) (stands : slice_get r.types ty ≡ Some info)
    (needed : slice_get needs.lives ty ≡ Some life) where
  abbrev lasting : List Life
  lasting = longest_lives r.types needs p.types own.lives

  -- what lasts for the type of its name is long enough
  found_enough : (there : ℕ × TypeInfo) (found : Life) → type_named info.name p.types 0 ≡ Some there → slice_get lasting there.0 ≡ Some found
      → is_longer life found ≡ false
  found_enough there found named at =
      let made = longest_made r.types needs p.types own.lives there.0 found at in
      let was = type_found info.name p.types there named in
      let same : made.0 ≡ there.1 = some_is (sym made.1 ∙ was.0) in
      let name : made.0.name ≡ info.name = ap (λ (t : TypeInfo). t.name) same ∙ was.1 in
      let back : type_named made.0.name r.types 0 ≡ Some (ty, info) = ap (λ (n : List ℕ). type_named n r.types 0) name ∙ type_back r names ty info stands in
      let is : found ≡ longer_life made.2 life =
      made.4 ∙ ap (longest_life needs made.2) back ∙ ap (longer_or_own made.2) needed in
      ap (is_longer life) is ∙ longer_no_longer made.2 life

  kept_enough : (there : ℕ × TypeInfo) (found : Option Life) → type_named info.name p.types 0 ≡ Some there → slice_get lasting there.0 ≡ found
      → is_longer life (life_or life found) ≡ false
  kept_enough there None named at = itself_no_longer life
  kept_enough there (Some found) named at = found_enough there found named at

  carried_enough : (named : Option (ℕ × TypeInfo)) → type_named info.name p.types 0 ≡ named
      → is_longer life (carried_life (longest p r own needs) life named) ≡ false
  carried_enough None named = itself_no_longer life
  carried_enough (Some there) named = kept_enough there (slice_get lasting there.0) named refl

pub longest_is_long_enough : LongestIsLongEnough
longest_is_long_enough p r own needs names ty longer =
    let made = carried_made p.types (longest p r own needs) r.types needs.lives ty longer.life longer.kept in
    let same : made.2 ≡ longer.needs = some_is (sym made.3 ∙ longer.needed) in
    let enough = carried_enough p r own needs names ty made.0 made.2 made.1 made.3 (type_named made.0.name p.types 0) refl in
    let torn : true ≡ false =
    sym longer.longer ∙ ap₂ is_longer (sym same) made.4 ∙ enough in
    absurd cc
