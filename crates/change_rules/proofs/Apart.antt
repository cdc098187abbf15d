-- Names that are apart, and patterns of types and entry points that are there.
use Rattle.change_rules.proofs.Common.{Option, Program, Some, TypeInfo, List, [], ap, arith, cases_lt, get_or, inl, inr, length, subst, sym, true, type_named}
use Rattle.change_rules.{proofs.Common.{ℕ, ◌+◌, ◌<◌, ◌∙◌, ◌∷◌, ◌≡◌}, specs.Checked.{AreFirstEntries, AreFirstTypes, HaveConditionPlaces}}
use Rattle.std.proofs.{Common.{Bool, cond, false, option_map, refl, slice_get, suc, zero}, lemmas.{Option.{get_or_from_slice_get}, Slice.Eq.{bytes_eq-Decides}}}
use Rattle.{std.specs.Str.{bytes_eq}, change_resolve.{specs.Changes.{entry_named}, proofs.Places.{some_is}}, fx_base.proofs.Sequences.{In-place}}
use Rattle.{rule_change.{proofs.Places.{type_back}, specs.Alike.{HaveNames, HavePlaces}}, rule_model.proofs.RuleOf.{in_place}}
use Rattle.rule_model.specs.declared.program.{EntryInfo.{EntryInfo}, Rule.{Rule}}

one_place : (a b : ℕ) (found : Option ℕ) → found ≡ Some a → found ≡ Some b → a ≡ b
one_place a b found e h = let both : Some a ≡ Some b = sym e ∙ h in cc

-- each is the first of its name, so no other one has it
pub names_apart : (p : Program) → AreFirstTypes p.types → AreFirstEntries p.entries → HaveNames p
names_apart p types entries = record {
  types = λ a b one other at there same.
      one_place a b (option_map (λ (t : ℕ × TypeInfo). t.0) (type_named one.name p.types 0)) (types a one at)
      (ap (λ (name : List ℕ). option_map (λ (t : ℕ × TypeInfo). t.0) (type_named name p.types 0)) same ∙ types b other there);
  entries = λ a b one other at there same.
      one_place a b (entry_named one.name p.entries 0) (entries a one at) (ap (λ (name : List ℕ). entry_named name p.entries 0) same ∙ entries b other there);
}

pub places_there : (p : Program) → ((place : ℕ) (rule : Rule) → slice_get p.rules place ≡ Some rule
    → HaveConditionPlaces (length p.types) (length p.entries) rule.conditions) → HavePlaces p
places_there p each rule i c j =
    let r = In-place rule p.rules i in
    let k = In-place c rule.conditions j in
    each r.0 rule r.1 k.0 c k.1

-- ---- the other way

pub first_types : (p : Program) → HaveNames p → AreFirstTypes p.types
first_types p names place ty at = ap (option_map (λ (t : ℕ × TypeInfo). t.0)) (type_back p names place ty at)

-- an entry point whose name stands once is found
entry_found : (entries : List EntryInfo) (before k : ℕ) (entry : EntryInfo) → slice_get entries k ≡ Some entry
    → ((j : ℕ) (other : EntryInfo) → slice_get entries j ≡ Some other → entry.name ≡ other.name → k ≡ j)
    → entry_named entry.name entries before ≡ Some (before + k)
unfolding entry_named
entry_found [] before k entry e once = absurd cc
entry_found (x ∷ entries) before zero entry e once =
    let same : x ≡ entry = some_is e in
    let here : before ≡ before + 0 = omega arith in
    ap (λ (b : Bool). cond b (Some before) (entry_named entry.name entries (before + 1)))
    ((bytes_eq-Decides x.name entry.name).1 (ap (λ (z : EntryInfo). z.name) same)) ∙ ap Some here
entry_found (x ∷ entries) before (suc k) entry e once =
    let there : before + 1 + k ≡ before + suc k = omega arith in
    by (bytes_eq x.name entry.name) refl
    (entry_found entries (before + 1) k entry e (λ j other at same. let n = once (suc j) other at same in omega arith) ∙ ap Some there)
  where
    by : (b : Bool) → bytes_eq x.name entry.name ≡ b → entry_named entry.name entries (before + 1) ≡ Some (before + suc k)
        → cond b (Some before) (entry_named entry.name entries (before + 1)) ≡ Some (before + suc k)
    by true h later = let n = once 0 x refl (sym ((bytes_eq-Decides x.name entry.name).0 h)) in absurd (omega arith)
    by false h later = later

pub first_entries : (p : Program) → HaveNames p → AreFirstEntries p.entries
first_entries p names place entry at =
    let none : 0 + place ≡ place = omega arith in
    entry_found p.entries 0 place entry at (λ j other there same. names.entries place j entry other at there same) ∙ ap Some none

pub places_each : (p : Program) → HavePlaces p → (place : ℕ) (rule : Rule) → slice_get p.rules place ≡ Some rule
    → HaveConditionPlaces (length p.types) (length p.entries) rule.conditions
places_each p all place rule at k c there = all rule (in_place p.rules place rule at) c (in_place rule.conditions k c there)

-- ---- one place more

abbrev FirstSoFar : List TypeInfo → ℕ → Type 0
FirstSoFar types place = (k : ℕ) (ty : TypeInfo) → k < place → slice_get types k ≡ Some ty
    → option_map (λ (there : ℕ × TypeInfo). there.0) (type_named ty.name types 0) ≡ Some k

pub one_type : (types : List TypeInfo) (place : ℕ) (info : TypeInfo)
    → option_map (λ (there : ℕ × TypeInfo). there.0) (type_named (get_or types place info).name types 0) ≡ Some place
    → FirstSoFar types place → FirstSoFar types (place + 1)
one_type types place info found so k ty less at = elim (cases_lt k place) [
  | inl low ↦ so k ty low at
  | inr high ↦
      (let here : place ≡ k = omega (arith, less, high) in
      let same : get_or types place info ≡ ty = get_or_from_slice_get types place ty info (ap (slice_get types) here ∙ at) in
      ap (λ (name : List ℕ). option_map (λ (there : ℕ × TypeInfo). there.0) (type_named name types 0))
      (ap (λ (t : TypeInfo). t.name) (sym same)) ∙ found ∙ ap Some here)
]

abbrev PlacesSoFar : (types entries : ℕ) → List Rule → ℕ → Type 0
PlacesSoFar types entries rules place = (k : ℕ) (rule : Rule) → k < place → slice_get rules k ≡ Some rule
    → HaveConditionPlaces types entries rule.conditions

pub one_rule : (types entries : ℕ) (rules : List Rule) (place : ℕ) (rule : Rule) → rule ≡ get_or rules place rule
    → HaveConditionPlaces types entries rule.conditions → PlacesSoFar types entries rules place → PlacesSoFar types entries rules (place + 1)
one_rule types entries rules place rule is found so k other less at = elim (cases_lt k place) [
  | inl low ↦ so k other low at
  | inr high ↦
      (let here : place ≡ k = omega (arith, less, high) in
      let same : rule ≡ other = is ∙ get_or_from_slice_get rules place other rule (ap (slice_get rules) here ∙ at) in
      subst (λ (r : Rule). HaveConditionPlaces types entries r.conditions) same found)
]
