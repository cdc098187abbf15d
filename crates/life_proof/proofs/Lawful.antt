-- The test of a table decides whether it is lawful.
use Rattle.life_proof.proofs.Common.{◌≡◌, ◌&&◌, ℕ, zero, suc, ℤ, pos, ◌≤ℤ◌, Bool, true, false, List, [], ◌∷◌, length, Option, Some, None, refl, sym, ap, subst}
use Rattle.life_proof.proofs.Common.{◌∙◌, arith, slice_get, list_all, int_le, Decides-int_eq, WindowTag, Whole, Time, Length, Life, Plain, Explicit, Finite}
use Rattle.life_proof.proofs.Common.{Infinite, LifeTable, Program, TypeInfo, pattern_of, IsLawfulLife, Spans, IsLawfulTable, is_life_of, are_lives_of}
use Rattle.life_proof.proofs.Common.{is_lawful_table, is_event_type, expiry_in, is_expiry, is_unexpired, spans, spans_by, is_spanned, are_spanned}
use Rattle.{life_proof.proofs.Tests.{false_is}, std.proofs.lemmas.Bool.{and_from, and_parts, not-true, not_from_false}, rule_model.specs.Types.{is_event}}
use Rattle.{rule_model.specs.Types.{expiry_of}, fx_base.proofs.{Orders.{int_le-true, le-int_le}, Sequences.{list_all-In, list_all-from}}}

-- ---- lists

the_same : {A : Type 0} {x y : A} → Some x ≡ Some y → x ≡ y
the_same e = cc

-- ---- numbers

expiry_from : (o : Option ℤ) (n : ℤ) → is_expiry o n ≡ true → o ≡ Some n
expiry_from (Some x) n h = ap Some ((Decides-int_eq x n).0 h)
expiry_from None n h = false_is h

expiry_to : (o : Option ℤ) (n : ℤ) → o ≡ Some n → is_expiry o n ≡ true
expiry_to (Some x) n h = (Decides-int_eq x n).1 (the_same h)
expiry_to None n h = absurd cc

none_from : (o : Option ℤ) → is_unexpired o ≡ true → o ≡ None
none_from (Some x) h = false_is h
none_from None h = refl

none_to : (o : Option ℤ) → o ≡ None → is_unexpired o ≡ true
none_to (Some x) h = absurd cc
none_to None h = refl

-- ---- lives

-- what a life says of a type, by its declaration
abbrev Says : Bool → Option ℤ → Life → Type 0
Says event expires Plain = event ≡ false
Says event expires (Explicit expiry) = (event ≡ true) × (expires ≡ Some expiry)
Says event expires (Finite n) = (event ≡ true) × (expires ≡ None) × (pos 0 ≤ℤ n)
Says event expires Infinite = (event ≡ true) × (expires ≡ None)

says_from : (ty : TypeInfo) (life : Life) → is_life_of ty life ≡ true → Says ty.event ty.expires life
says_from ty Plain h = not-true ty.event h
says_from ty (Explicit x) h = let a = and_parts ty.event (is_expiry ty.expires x) h in (a.0, expiry_from ty.expires x a.1)
says_from ty (Finite n) h =
    let a = and_parts ty.event (is_unexpired ty.expires && int_le (pos 0) n) h in
    let b = and_parts (is_unexpired ty.expires) (int_le (pos 0) n) a.1 in
    (a.0, none_from ty.expires b.0, int_le-true (pos 0) n b.1)
says_from ty Infinite h = let a = and_parts ty.event (is_unexpired ty.expires) h in (a.0, none_from ty.expires a.1)

says_to : (ty : TypeInfo) (life : Life) → Says ty.event ty.expires life → is_life_of ty life ≡ true
says_to ty Plain h = not_from_false ty.event h
says_to ty (Explicit x) h = and_from ty.event (is_expiry ty.expires x) h.0 (expiry_to ty.expires x h.1)
says_to ty (Finite n) h =
    and_from ty.event (is_unexpired ty.expires && int_le (pos 0) n) h.0 (and_from (is_unexpired ty.expires) (int_le (pos 0) n) (none_to ty.expires h.1) (le-int_le (pos 0) n h.2))
says_to ty Infinite h = and_from ty.event (is_unexpired ty.expires) h.0 (none_to ty.expires h.1)

-- the same, by the place of the type
says_at : (p : Program) (ty : ℕ) (life : Life) → Says (is_event p ty) (expiry_of p ty) life → IsLawfulLife p ty life
says_at p ty Plain h = h
says_at p ty (Explicit x) h = h
says_at p ty (Finite n) h = h
says_at p ty Infinite h = h

said_at : (p : Program) (ty : ℕ) (life : Life) → IsLawfulLife p ty life → Says (is_event p ty) (expiry_of p ty) life
said_at p ty Plain h = h
said_at p ty (Explicit x) h = h
said_at p ty (Finite n) h = h
said_at p ty Infinite h = h

event_here : (p : Program) (place : ℕ) (ty : TypeInfo) → slice_get p.types place ≡ Some ty → is_event p place ≡ ty.event
unfolding is_event
event_here p place ty at = ap is_event_type at

expiry_here : (p : Program) (place : ℕ) (ty : TypeInfo) → slice_get p.types place ≡ Some ty → expiry_of p place ≡ ty.expires
unfolding expiry_of
expiry_here p place ty at = ap expiry_in at

lives_length : (types : List TypeInfo) (lives : List Life) → are_lives_of types lives ≡ true → length lives ≡ length types
lives_length [] [] h = refl
lives_length [] (life ∷ lives) h = false_is h
lives_length (ty ∷ types) [] h = false_is h
lives_length (ty ∷ types) (life ∷ lives) h = ap suc (lives_length types lives (and_parts (is_life_of ty life) (are_lives_of types lives) h).1)

-- the declaration of a type, and what is told of it
record IsTold (types : List TypeInfo) (place : ℕ) (life : Life) : Type 0 where
  ty : TypeInfo
  at : slice_get types place ≡ Some ty
  says : Says ty.event ty.expires life

lives_from : (types : List TypeInfo) (lives : List Life) → are_lives_of types lives ≡ true → (place : ℕ) (life : Life) → slice_get lives place ≡ Some life → IsTold types place life
lives_from [] [] h place life at = absurd cc
lives_from [] (other ∷ lives) h place life at = false_is h
lives_from (ty ∷ types) [] h place life at = false_is h
lives_from (ty ∷ types) (other ∷ lives) h zero life at =
    record { ty = ty; at = refl; says = subst (Says ty.event ty.expires) (the_same at) (says_from ty other (and_parts (is_life_of ty other) (are_lives_of types lives) h).0) }
lives_from (ty ∷ types) (other ∷ lives) h (suc place) life at =
    let t = lives_from types lives (and_parts (is_life_of ty other) (are_lives_of types lives) h).1 place life at in record { ty = t.ty; at = t.at; says = t.says }

lives_to : (types : List TypeInfo) (lives : List Life) → length lives ≡ length types
    → ((place : ℕ) (ty : TypeInfo) (life : Life) → slice_get types place ≡ Some ty → slice_get lives place ≡ Some life → Says ty.event ty.expires life) → are_lives_of types lives ≡ true
lives_to [] [] n h = refl
lives_to [] (life ∷ lives) n h = absurd cc
lives_to (ty ∷ types) [] n h = absurd cc
lives_to (ty ∷ types) (life ∷ lives) n h =
    and_from (is_life_of ty life) (are_lives_of types lives) (says_to ty life (h 0 ty life refl refl)) (lives_to types lives (omega (arith, n)) (λ place t l a b. h (suc place) t l a b))

-- ---- windows

spans_from : (window : WindowTag) (n : ℤ) → spans window n ≡ true → Spans window n
spans_from Whole n h = tt
spans_from (Time span) n h = int_le-true span n h
spans_from (Length count) n h = false_is h

spans_to : (window : WindowTag) (n : ℤ) → Spans window n → spans window n ≡ true
spans_to Whole n h = refl
spans_to (Time span) n h = le-int_le span n h
spans_to (Length count) n h = absurd h

by_to : (window : WindowTag) (l : Option Life) → ((n : ℤ) → l ≡ Some (Finite n) → Spans window n) → spans_by window l ≡ true
by_to window (Some (Finite n)) h = spans_to window n (h n refl)
by_to window (Some Plain) h = refl
by_to window (Some (Explicit x)) h = refl
by_to window (Some Infinite) h = refl
by_to window None h = refl

-- ---- tables

pub lawful_from : (p : Program) (table : LifeTable) → is_lawful_table p table ≡ true → IsLawfulTable p table
lawful_from p table h =
    let a = and_parts (are_lives_of p.types table.lives) (list_all (are_spanned table.lives) p.rules) h in record {
      as_many = lives_length p.types table.lives a.0;
      each = λ ty life at.
          let t = lives_from p.types table.lives a.0 ty life at in
          says_at p ty life (subst (λ (e : Bool). Says e (expiry_of p ty) life) (sym (event_here p ty t.ty t.at)) (subst (λ (x : Option ℤ). Says t.ty.event x life) (sym (expiry_here p ty t.ty t.at)) t.says));
      windows = λ rule m c k n at.
          let one = list_all-In (is_spanned table.lives) rule.conditions (list_all-In (are_spanned table.lives) p.rules a.1 rule m) c k in
          spans_from (pattern_of c).window n (sym (ap (spans_by (pattern_of c).window) at) ∙ one);
    }

pub lawful_to : (p : Program) (table : LifeTable) → IsLawfulTable p table → is_lawful_table p table ≡ true
lawful_to p table g =
    and_from (are_lives_of p.types table.lives) (list_all (are_spanned table.lives) p.rules)
    (lives_to p.types table.lives g.as_many (λ place ty life at there.
    subst (λ (x : Option ℤ). Says ty.event x life) (expiry_here p place ty at) (subst (λ (e : Bool). Says e (expiry_of p place) life) (event_here p place ty at)
    (said_at p place life (g.each place life there)))))
    (list_all-from (are_spanned table.lives) p.rules (λ rule m. list_all-from (is_spanned table.lives) rule.conditions (λ c k. by_to (pattern_of c).window (slice_get table.lives (pattern_of c).ty.0) (λ n at. g.windows rule m c k n at))))
