-- The lives by which a world goes on are safe for the new rules.
use Rattle.rule_change.proofs.Common.{◌≡◌, ℕ, zero, suc, Bool, true, false, List, [], ◌∷◌, Option, Some, None, refl, sym, ◌∙◌, ap, ap₂, ◌<◌, subst, arith}
use Rattle.rule_change.proofs.Common.{option_and_then, length, slice_get, get-below, slice_get_within, is_event_type, expiry_in, Program, TypeInfo, carried}
use Rattle.rule_change.{proofs.Common.{carried_life, life_or, IsLonger, is_longer, AreOver, some_is}, specs.Changed.{carried_lives, new_type}}
use Rattle.{rule_change.{specs.Lives.{CarriedIsSafe}, proofs.{Matching.{over_moves}, Places.{type_back, type_found}}}, fx_base.proofs.Orders.{int_lt-false}}
use Rattle.{life_meaning.{proofs.Safe.{safe_life}, specs.Tables.{AreLives, IsLifeOf, IsSafeLife, IsSafeTable}}, rule_model.specs.Lives.{AreShort, IsShortLife}}
use Rattle.rule_model.specs.{Types.{is_event, expiry_of}, declared.life.{Life.{Life, TheVariants.{Plain, Explicit, Finite, Infinite}}, LifeTable.{LifeTable}}}
use Rattle.change_resolve.specs.Changes.{type_named}

-- ---- the carried table

carried_many : (old : List TypeInfo) (table : LifeTable) (types : List TypeInfo) (own : List Life) → length own ≡ length types → length (carried_lives old table types own) ≡ length types
unfolding carried_lives
carried_many old table [] own e = refl
carried_many old table (ty ∷ types) [] e = e
carried_many old table (ty ∷ types) (life ∷ own) e = ap suc (carried_many old table types own (let h : suc (length own) ≡ suc (length types) = e in omega (arith, h)))

-- the life of a place: what is carried for the type there, given its own life
record IsCarried (old : List TypeInfo) (table : LifeTable) (types : List TypeInfo) (own : List Life) (place : ℕ) (life : Life) : Type 0 where
  ty : TypeInfo
  stands : slice_get types place ≡ Some ty
  life_own : Life
  has : slice_get own place ≡ Some life_own
  is : life ≡ carried_life table life_own (type_named ty.name old 0)

carried_at : (old : List TypeInfo) (table : LifeTable) (types : List TypeInfo) (own : List Life) (place : ℕ) (life : Life)
    → slice_get (carried_lives old table types own) place ≡ Some life → IsCarried old table types own place life
unfolding carried_lives
carried_at old table [] own place life e = absurd cc
carried_at old table (ty ∷ types) [] place life e = absurd cc
carried_at old table (ty ∷ types) (one ∷ own) zero life e = record { ty = ty; stands = refl; life_own = one; has = refl; is = sym (some_is e) }
carried_at old table (ty ∷ types) (one ∷ own) (suc place) life e =
    let r = carried_at old table types own place life e in
    record { ty = r.ty; stands = r.stands; life_own = r.life_own; has = r.has; is = r.is }

-- what is carried to a place
carried_there : (old : List TypeInfo) (table : LifeTable) (types : List TypeInfo) (own : List Life) (place : ℕ) (ty : TypeInfo) (life : Life)
    → slice_get types place ≡ Some ty → slice_get own place ≡ Some life
    → slice_get (carried_lives old table types own) place ≡ Some (carried_life table life (type_named ty.name old 0))
unfolding carried_lives
carried_there old table [] own place ty life e h = absurd cc
carried_there old table (x ∷ types) [] place ty life e h = absurd cc
carried_there old table (x ∷ types) (one ∷ own) zero ty life e h =
    ap₂ (λ (z : TypeInfo) (l : Life). Some (carried_life table l (type_named z.name old 0))) (some_is e) (some_is h)
carried_there old table (x ∷ types) (one ∷ own) (suc place) ty life e h = carried_there old table types own place ty life e h

-- the life of a type that was there stays
pub life_stays : (p q : Program) (from : ℕ → Option ℕ) (table own : LifeTable) → AreOver p q from → length table.lives ≡ length p.types → length own.lives ≡ length q.types
    → (ty : ℕ) → ty < length p.types → slice_get (carried p q table own).lives (new_type p q ty) ≡ slice_get table.lives ty
life_stays p q from table own over many others ty lt =
    let t = get-below p.types ty lt in
    let u = (over_moves p q from over).type_is ty t.0 t.1 in
    let below = slice_get_within q.types (new_type p q ty) u.0 u.1 in
    let needs = get-below own.lives (new_type p q ty) (omega (arith, below, others)) in
    let life = get-below table.lives ty (omega (arith, lt, many)) in
    carried_there p.types table q.types own.lives (new_type p q ty) u.0 needs.0 u.1 needs.1
    ∙ ap (λ (name : List ℕ). Some (carried_life table needs.0 (type_named name p.types 0))) (sym u.2.name)
    ∙ ap (λ (named : Option (ℕ × TypeInfo)). Some (carried_life table needs.0 named)) (type_back p over.names ty t.0 t.1)
    ∙ ap (λ (o : Option Life). Some (life_or needs.0 o)) life.1 ∙ sym life.1

-- ---- the life of a type that both have

module _ (p q : Program) (there ty : ℕ) (event : is_event q ty ≡ is_event p there) (expiry : expiry_of q ty ≡ expiry_of p there) where
  -- a life that is safe for the old rules, where the new ones need the events for no longer
  still_safe : (life needs : Life) → IsSafeLife p there life → IsLifeOf q ty needs → is_longer needs life ≡ false → IsSafeLife q ty life
  still_safe Plain needs safe own short = event ∙ safe
  still_safe (Explicit e) needs safe own short = (event ∙ safe.0, expiry ∙ safe.1)
  still_safe Infinite needs safe own short = (event ∙ safe.0, expiry ∙ safe.1)
  still_safe (Finite n) Plain safe own short = absurd (let h : true ≡ false = sym safe.1.event ∙ sym event ∙ own in cc)
  still_safe (Finite n) (Explicit e) safe own short = absurd (let h : None ≡ Some e = sym safe.1.unexpired ∙ sym expiry ∙ own.1 in cc)
  still_safe (Finite n) (Finite k) safe own short = (k, own, int_lt-false n k short)
  still_safe (Finite n) Infinite safe own short = absurd cc

-- ---- the law

module _ (p q : Program) (from : ℕ → Option ℕ) (table own : LifeTable) (over : AreOver p q from) (safe : IsSafeTable p table) (lives : AreLives q own) (short : AreShort own)
    (no_longer : (ty : ℕ) → IsLonger p q table own ty → ⊥) where
  -- a type that was there before
  was_there : (ty : ℕ) (info : TypeInfo) (there : ℕ × TypeInfo) → slice_get q.types ty ≡ Some info → type_named info.name p.types 0 ≡ Some there
      → (is_event q ty ≡ is_event p there.0) × (expiry_of q ty ≡ expiry_of p there.0)
  unfolding is_event expiry_of
  was_there ty info there stands named =
      let f = type_found info.name p.types there named in
      let g = over.have_types there.0 there.1 f.0 in
      let h = type_found there.1.name q.types g.0 (sym (ap (option_and_then (λ (x : TypeInfo). type_named x.name q.types 0)) f.0) ∙ g.1) in
      let same : g.0.0 ≡ ty = over.other_names.types g.0.0 ty g.0.1 info h.0 stands (h.1 ∙ f.1) in
      let one : g.0.1 ≡ info = some_is (sym h.0 ∙ ap (slice_get q.types) same ∙ stands) in (
        ap is_event_type stands ∙ ap (λ (x : TypeInfo). x.event) (sym one) ∙ sym g.2.event ∙ sym (ap is_event_type f.0),
        ap expiry_in stands ∙ ap (λ (x : TypeInfo). x.expires) (sym one) ∙ sym g.2.expires ∙ sym (ap expiry_in f.0),
      )

  short_enough : (ty : ℕ) (needs life : Life) (b : Bool) → slice_get own.lives ty ≡ Some needs → slice_get (carried p q table own).lives ty ≡ Some life → is_longer needs life ≡ b → b ≡ false
  short_enough ty needs life true has kept e = absurd (no_longer ty (record { needs = needs; needed = has; life = life; kept = kept; longer = e }))
  short_enough ty needs life false has kept e = refl

  module _ (ty : ℕ) (info : TypeInfo) (needs life : Life) (stands : slice_get q.types ty ≡ Some info) (has : slice_get own.lives ty ≡ Some needs)
      (kept : slice_get (carried p q table own).lives ty ≡ Some life) where
    safe_own : life ≡ needs → IsSafeLife q ty life × IsShortLife life
    safe_own e = subst (λ (l : Life). IsSafeLife q ty l × IsShortLife l) (sym e) (safe_life q ty needs (lives.each ty needs has), short ty needs has)

    safe_kept : (there : ℕ × TypeInfo) (old : Option Life) → type_named info.name p.types 0 ≡ Some there → slice_get table.lives there.0 ≡ old → life ≡ life_or needs old
        → IsSafeLife q ty life × IsShortLife life
    safe_kept there None named at e = safe_own e
    safe_kept there (Some l) named at e =
        let was = was_there ty info there stands named in
        let lasts : slice_get table.lives there.0 ≡ Some life = at ∙ ap Some (sym e) in (
          still_safe p q there.0 ty was.0 was.1 life needs (safe.safe.each there.0 life lasts) (lives.each ty needs has) (short_enough ty needs life (is_longer needs life) has kept refl),
          safe.short there.0 life lasts,
        )

    safe_by : (named : Option (ℕ × TypeInfo)) → type_named info.name p.types 0 ≡ named → life ≡ carried_life table needs named → IsSafeLife q ty life × IsShortLife life
    safe_by None named e = safe_own e
    safe_by (Some there) named e = safe_kept there (slice_get table.lives there.0) named refl e

  safe_at : (ty : ℕ) (life : Life) → slice_get (carried p q table own).lives ty ≡ Some life → IsSafeLife q ty life × IsShortLife life
  safe_at ty life kept =
      let c = carried_at p.types table q.types own.lives ty life kept in
      safe_by ty c.ty c.life_own life c.stands c.has kept (type_named c.ty.name p.types 0) refl c.is

pub carried_is_safe : CarriedIsSafe
carried_is_safe p q from table own w over safe lives short verdict = record {
  safe = record {
    as_many = carried_many p.types table q.types own.lives lives.as_many;
    each = λ ty life kept. (safe_at p q from table own over safe lives short verdict.3 ty life kept).0;
  };
  short = λ ty life kept. (safe_at p q from table own over safe lives short verdict.3 ty life kept).1;
}
