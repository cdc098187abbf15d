-- Where the types and the entry points of a program stand in another that has them all.
use Rattle.rule_change.proofs.Common.{◌≡◌, ◌<◌, ◌+◌, ◌==◌, ℕ, zero, suc, Bool, true, false, cond, List, [], ◌∷◌, Option, Some, option_map, refl, sym, ◌∙◌, ap}
use Rattle.rule_change.proofs.Common.{ap₂, subst, arith, eq-eqb, eqb-true, option_and_then, length, slice_get, get-below, same_test, Program, TypeInfo}
use Rattle.rule_change.proofs.Common.{is_event_type, is_reference_type, is_point_type, expiry_in, lateness_in, entry_in, place_or_zero, IsSameType, HaveTypes}
use Rattle.{rule_change.{proofs.Common.{HaveEntries, HaveNames, some_is}, specs.Changed.{new_type, new_entry}}, std.proofs.lemmas.Slice.Eq.{bytes_eq-Decides}}
use Rattle.{std.specs.Str.{bytes_eq}, rule_model.specs.{declared.program.EntryInfo.{EntryInfo}, Types.{is_event, is_reference, is_point, expiry_of}}}
use Rattle.{rule_model.specs.Types.{lateness_of}, change_resolve.specs.Changes.{type_named, entry_named}}

-- ---- what a name finds

-- the type stands in its place, behind so many others, and has the name
abbrev pub TypeStands : List ℕ → List TypeInfo → ℕ → ℕ × TypeInfo → Type 0
TypeStands name types before found = (k : ℕ) × (found.0 ≡ before + k) × (slice_get types k ≡ Some found.1) × (found.1.name ≡ name)

type_stands : (name : List ℕ) (types : List TypeInfo) (before : ℕ) (found : ℕ × TypeInfo) → type_named name types before ≡ Some found → TypeStands name types before found
unfolding type_named
type_stands name [] before found e = absurd cc
type_stands name (ty ∷ types) before found e = by (bytes_eq ty.name name) refl e (type_stands name types (before + 1) found)
  where
    by : (b : Bool) → bytes_eq ty.name name ≡ b → cond b (Some (before, ty)) (type_named name types (before + 1)) ≡ Some found
        → (type_named name types (before + 1) ≡ Some found → TypeStands name types (before + 1) found) → TypeStands name (ty ∷ types) before found
    by true h k later = subst (λ (f : ℕ × TypeInfo). TypeStands name (ty ∷ types) before f) (some_is k) (0, omega arith, refl, (bytes_eq-Decides ty.name name).0 h)
    by false h k later = let f = later k in let e = f.1 in (suc f.0, omega arith, f.2, f.3)

pub type_found : (name : List ℕ) (types : List TypeInfo) (found : ℕ × TypeInfo) → type_named name types 0 ≡ Some found
    → (slice_get types found.0 ≡ Some found.1) × (found.1.name ≡ name)
type_found name types found e =
    let f = type_stands name types 0 found e in
    let k = f.1 in
    let same : found.0 ≡ f.0 = omega arith in
    (ap (slice_get types) same ∙ f.2, f.3)

-- a type whose name stands once is found
type_once : (types : List TypeInfo) (before k : ℕ) (ty : TypeInfo) → slice_get types k ≡ Some ty
    → ((j : ℕ) (other : TypeInfo) → slice_get types j ≡ Some other → ty.name ≡ other.name → k ≡ j)
    → type_named ty.name types before ≡ Some (before + k, ty)
unfolding type_named
type_once [] before k ty e once = absurd cc
type_once (x ∷ types) before zero ty e once =
    let same : x ≡ ty = some_is e in
    let here : before ≡ before + 0 = omega arith in
    ap (λ (b : Bool). cond b (Some (before, x)) (type_named ty.name types (before + 1))) ((bytes_eq-Decides x.name ty.name).1 (ap (λ (z : TypeInfo). z.name) same))
    ∙ ap₂ (λ (n : ℕ) (z : TypeInfo). Some (n, z)) here same
type_once (x ∷ types) before (suc k) ty e once =
    let there : before + 1 + k ≡ before + suc k = omega arith in
    by (bytes_eq x.name ty.name) refl
    (type_once types (before + 1) k ty e (λ j other at same. let n = once (suc j) other at same in omega arith) ∙ ap (λ (n : ℕ). Some (n, ty)) there)
  where
    by : (b : Bool) → bytes_eq x.name ty.name ≡ b → type_named ty.name types (before + 1) ≡ Some (before + suc k, ty)
        → cond b (Some (before, x)) (type_named ty.name types (before + 1)) ≡ Some (before + suc k, ty)
    by true h later = let n = once 0 x refl (sym ((bytes_eq-Decides x.name ty.name).0 h)) in absurd (omega arith)
    by false h later = later

-- a type is found by its name
pub type_back : (p : Program) → HaveNames p → (ty : ℕ) (t : TypeInfo) → slice_get p.types ty ≡ Some t → type_named t.name p.types 0 ≡ Some (ty, t)
type_back p names ty t e =
    let none : 0 + ty ≡ ty = omega arith in
    type_once p.types 0 ty t e (λ j other at same. names.types ty j t other e at same) ∙ ap (λ (n : ℕ). Some (n, t)) none

-- an entry point whose name stands once is found
entry_found : (entries : List EntryInfo) (before k : ℕ) (entry : EntryInfo) → slice_get entries k ≡ Some entry
    → ((j : ℕ) (other : EntryInfo) → slice_get entries j ≡ Some other → entry.name ≡ other.name → k ≡ j)
    → entry_named entry.name entries before ≡ Some (before + k)
unfolding entry_named
entry_found [] before k entry e once = absurd cc
entry_found (x ∷ entries) before zero entry e once =
    let same : x ≡ entry = some_is e in
    let here : before ≡ before + 0 = omega arith in
    ap (λ (b : Bool). cond b (Some before) (entry_named entry.name entries (before + 1))) ((bytes_eq-Decides x.name entry.name).1 (ap (λ (z : EntryInfo). z.name) same)) ∙ ap Some here
entry_found (x ∷ entries) before (suc k) entry e once =
    let there : before + 1 + k ≡ before + suc k = omega arith in
    by (bytes_eq x.name entry.name) refl
    (entry_found entries (before + 1) k entry e (λ j other at same. let n = once (suc j) other at same in omega arith) ∙ ap Some there)
  where
    by : (b : Bool) → bytes_eq x.name entry.name ≡ b → entry_named entry.name entries (before + 1) ≡ Some (before + suc k)
        → cond b (Some before) (entry_named entry.name entries (before + 1)) ≡ Some (before + suc k)
    by true h later = let n = once 0 x refl (sym ((bytes_eq-Decides x.name entry.name).0 h)) in absurd (omega arith)
    by false h later = later

-- ---- the new places

-- where types and entry points go
pub record Moves (p q : Program) : Type 0 where
  pub type_is : (ty : ℕ) (t : TypeInfo) → slice_get p.types ty ≡ Some t → (u : TypeInfo) × (slice_get q.types (new_type p q ty) ≡ Some u) × IsSameType t u
  pub entry_is : (entry : ℕ) (e : EntryInfo) → slice_get p.entries entry ≡ Some e → slice_get q.entries (new_entry p q entry) ≡ Some e
  pub types_apart : (a b : ℕ) → a < length p.types → b < length p.types → new_type p q a ≡ new_type p q b → a ≡ b
  pub entry_back : (entry : ℕ) → entry < length p.entries → entry_in q p (new_entry p q entry) ≡ Some entry

module _ (p q : Program) (names : HaveNames p) (types : HaveTypes p q) (entries : HaveEntries p q) where
  type_goes : (ty : ℕ) (t : TypeInfo) → slice_get p.types ty ≡ Some t → (u : TypeInfo) × (slice_get q.types (new_type p q ty) ≡ Some u) × IsSameType t u
  unfolding new_type
  type_goes ty t e =
      let h = types ty t e in
      let found : type_named t.name q.types 0 ≡ Some h.0 = sym (ap (option_and_then (λ (x : TypeInfo). type_named x.name q.types 0)) e) ∙ h.1 in
      let place : new_type p q ty ≡ h.0.0 = ap (λ (o : Option (ℕ × TypeInfo)). place_or_zero (option_map (λ (x : ℕ × TypeInfo). x.0) o)) h.1 in
      (h.0.1, ap (slice_get q.types) place ∙ (type_found t.name q.types h.0 found).0, h.2)

  entry_goes : (entry : ℕ) (e : EntryInfo) → slice_get p.entries entry ≡ Some e → slice_get q.entries (new_entry p q entry) ≡ Some e
  unfolding new_entry
  entry_goes entry e at = let h = entries entry e at in ap (λ (o : Option ℕ). slice_get q.entries (place_or_zero o)) h.1 ∙ h.2

  one_type : (a b : ℕ) → a < length p.types → b < length p.types → new_type p q a ≡ new_type p q b → a ≡ b
  one_type a b la lb e =
      let s = get-below p.types a la in
      let t = get-below p.types b lb in
      let u = type_goes a s.0 s.1 in
      let v = type_goes b t.0 t.1 in
      let same : u.0 ≡ v.0 = some_is (sym u.1 ∙ ap (slice_get q.types) e ∙ v.1) in
      names.types a b s.0 t.0 s.1 t.1 (u.2.name ∙ ap (λ (x : TypeInfo). x.name) same ∙ sym v.2.name)

  back : (entry : ℕ) → entry < length p.entries → entry_in q p (new_entry p q entry) ≡ Some entry
  back entry lt =
      let e = get-below p.entries entry lt in
      let none : 0 + entry ≡ entry = omega arith in
      ap (option_and_then (λ (x : EntryInfo). entry_named x.name p.entries 0)) (entry_goes entry e.0 e.1)
      ∙ entry_found p.entries 0 entry e.0 e.1 (λ j other at same. names.entries entry j e.0 other e.1 at same) ∙ ap Some none

  pub moves : Moves p q
  moves = record { type_is = type_goes; entry_is = entry_goes; types_apart = one_type; entry_back = back }

-- what the programs say of a place is the same
module _ (p q : Program) (m : Moves p q) where
  pub same_event : (ty : ℕ) → ty < length p.types → is_event q (new_type p q ty) ≡ is_event p ty
  unfolding is_event
  same_event ty lt =
      let t = get-below p.types ty lt in
      let u = m.type_is ty t.0 t.1 in
      ap is_event_type u.1 ∙ sym u.2.event ∙ sym (ap is_event_type t.1)

  pub same_reference : (ty : ℕ) → ty < length p.types → is_reference q (new_type p q ty) ≡ is_reference p ty
  unfolding is_reference
  same_reference ty lt =
      let t = get-below p.types ty lt in
      let u = m.type_is ty t.0 t.1 in
      ap is_reference_type u.1 ∙ sym u.2.reference ∙ sym (ap is_reference_type t.1)

  pub same_point : (ty : ℕ) → ty < length p.types → is_point q (new_type p q ty) ≡ is_point p ty
  unfolding is_point
  same_point ty lt =
      let t = get-below p.types ty lt in
      let u = m.type_is ty t.0 t.1 in
      ap is_point_type u.1 ∙ by t.0 u.0 u.2 ∙ sym (ap is_point_type t.1)
    where
      by : (a b : TypeInfo) → IsSameType a b → is_point_type (Some b) ≡ is_point_type (Some a)
      by a b s = ap (λ (o : Option ℕ). is_point_type (Some (record b { duration = o }))) (sym s.duration)

  pub same_expiry : (ty : ℕ) → ty < length p.types → expiry_of q (new_type p q ty) ≡ expiry_of p ty
  unfolding expiry_of
  same_expiry ty lt =
      let t = get-below p.types ty lt in
      let u = m.type_is ty t.0 t.1 in
      ap expiry_in u.1 ∙ sym u.2.expires ∙ sym (ap expiry_in t.1)

  pub same_lateness : (entry : ℕ) → entry < length p.entries → lateness_of q (new_entry p q entry) ≡ lateness_of p entry
  unfolding lateness_of
  same_lateness entry lt =
      let e = get-below p.entries entry lt in
      ap lateness_in (m.entry_is entry e.0 e.1) ∙ sym (ap lateness_in e.1)

  pub entries_apart : (a b : ℕ) → a < length p.entries → b < length p.entries → new_entry p q a ≡ new_entry p q b → a ≡ b
  entries_apart a b la lb e = some_is (sym (m.entry_back a la) ∙ ap (entry_in q p) e ∙ m.entry_back b lb)

  pub same_types : (a b : ℕ) → a < length p.types → b < length p.types → (new_type p q a == new_type p q b) ≡ (a == b)
  same_types a b la lb = same_test _ _ (λ e. eq-eqb a b (m.types_apart a b la lb (eqb-true _ _ e))) (λ e. eq-eqb _ _ (ap (new_type p q) (eqb-true a b e)))

  pub same_entries : (a b : ℕ) → a < length p.entries → b < length p.entries → (new_entry p q a == new_entry p q b) ≡ (a == b)
  same_entries a b la lb = same_test _ _ (λ e. eq-eqb a b (entries_apart a b la lb (eqb-true _ _ e))) (λ e. eq-eqb _ _ (ap (new_entry p q) (eqb-true a b e)))
