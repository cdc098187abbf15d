-- The expressions of an action have in the program the kinds that the checks find.
use Rattle.drl_check.proofs.Common.{◌≡◌, ◌≤◌, ◌∷◌, ◌&&◌, ℕ, min, Bool, true, false, List, [], map, length, slice_get, Option, Some, None, option_map, refl, ap}
use Rattle.drl_check.proofs.Common.{◌∙◌, arith, list_all, list_any, option_and_then, slice_get-map, slice_get_within, Tree, lit, var, var_field, neg, add, sub}
use Rattle.drl_check.proofs.Common.{mul, TypeTree, Expression, is_kind, fields_in, bound_fields, kind_in, expression_kind, set_of_kind, place_of_name}
use Rattle.drl_check.proofs.Common.{field_names, kind_by_word, kind_at, Meaning, of_fact, of_field, of_result, Sight, meaning_of, small_place, field_place}
use Rattle.drl_check.proofs.Common.{kind_or_int, field_info, type_info, variable_value, variable_field_value, expression_in, set_in, is_number, number_where}
use Rattle.{drl_check.proofs.Common.{tree_kind, set_misfits, word_kind}, std.proofs.lemmas.Bool.{and_from}, fx_base.specs.declared.kind.Kind.{Kind}}
use Rattle.fx_base.specs.declared.kind.Kind.TheVariants as kind
use Rattle.drl_expr.specs.declared.literal.LitTree.TheVariants as literal
use Rattle.{rule_world.specs.Typed.{args_fit}, drl_scope.specs.Meanings.{field_kind, variable_kind, variable_field_kind}, drl_typing.specs.Kinds.{args_misfit}}
use Rattle.{drl_check.proofs.Places.{type_taken, Stands, got, taken_of}, fx_base.proofs.Tests.{or_first_false, or_second_false}}

-- ---- kinds

same_fits : (k : Kind) (given : Option (Option Kind)) → set_misfits (Some k) given ≡ false → given ≡ Some (Some k)
same_fits kind.Int None e = absurd cc
same_fits kind.Bool None e = absurd cc
same_fits kind.Text None e = absurd cc
same_fits kind.Int (Some None) e = absurd cc
same_fits kind.Bool (Some None) e = absurd cc
same_fits kind.Text (Some None) e = absurd cc
same_fits kind.Int (Some (Some kind.Int)) e = refl
same_fits kind.Int (Some (Some kind.Bool)) e = absurd cc
same_fits kind.Int (Some (Some kind.Text)) e = absurd cc
same_fits kind.Bool (Some (Some kind.Int)) e = absurd cc
same_fits kind.Bool (Some (Some kind.Bool)) e = refl
same_fits kind.Bool (Some (Some kind.Text)) e = absurd cc
same_fits kind.Text (Some (Some kind.Int)) e = absurd cc
same_fits kind.Text (Some (Some kind.Bool)) e = absurd cc
same_fits kind.Text (Some (Some kind.Text)) e = refl

own_kind : (k : Kind) → is_kind k (Some k) ≡ true
own_kind kind.Int = refl
own_kind kind.Bool = refl
own_kind kind.Text = refl

-- an operator gives a whole number
number_is : (b : Bool) (k : Kind) → number_where b ≡ Some (Some k) → Some kind.Int ≡ Some k
number_is true k e = cc
number_is false k e = absurd cc

-- ---- the expressions of an action, given the types of the bound facts and what is in sight

-- each type has at most 32 fields
abbrev pub HaveFewFields : List TypeTree → Type 0
HaveFewFields types = (ty : ℕ) (t : TypeTree) → slice_get types ty ≡ Some t → length t.fields ≤ 32

-- what a variable means stands
abbrev pub InSight : List TypeTree → List ℕ → Sight → Type 0
InSight types taken sight = (name : List ℕ) (m : Meaning) → meaning_of sight name ≡ Some m → Stands types taken m

pub fields_at : (names : List (List ℕ)) (types : List TypeTree) (ty : ℕ) (t : TypeTree) → slice_get types ty ≡ Some t → fields_in (slice_get (map (type_info names) types) ty) ≡ map field_info t.fields
fields_at names types ty t e = ap fields_in (slice_get-map (type_info names) types ty ∙ ap (option_map (type_info names)) e)

module _ (names : List (List ℕ)) (types : List TypeTree) (taken : List ℕ) (sight : Sight) (small : HaveFewFields types) (few : length taken ≤ 8) (seen : InSight types taken sight) where
  abbrev fields : ℕ → List (List ℕ × Kind)
  fields = bound_fields (map (type_info names) types) taken

  -- the number of a fact stands in 8 bits
  fact_kept : (fact : ℕ) (t : TypeTree) → type_taken types taken fact ≡ Some t → min fact 255 ≡ fact
  fact_kept fact t e = let h = taken_of types taken fact t e in let less = slice_get_within taken fact h.0 h.1 in omega (arith, less, few)

  fields_taken : (fact : ℕ) (t : TypeTree) → type_taken types taken fact ≡ Some t → fields (min fact 255) ≡ map field_info t.fields
  fields_taken fact t e =
      let h = taken_of types taken fact t e in
      ap fields (fact_kept fact t e) ∙ ap (λ o. fields_in (option_and_then (λ ty. slice_get (map (type_info names) types) ty) o)) h.1 ∙ fields_at names types h.0 t h.2

  -- a field that has a kind is there, and has it in the program
  field_there : (t : TypeTree) (k : ℕ) (found : Kind) → length t.fields ≤ 32 → kind_at t k ≡ Some found
      → (field : List ℕ × Kind) × (slice_get (map field_info t.fields) (min k 255) ≡ Some field) × (field.1 ≡ found)
  field_there t k found few e =
      let h = got (λ (field : List ℕ × List ℕ). kind_by_word field.1) (slice_get t.fields k) found e in
      let less = slice_get_within t.fields k h.0 h.1 in
      let same : min k 255 ≡ k = omega (arith, less, few) in
      (field_info h.0, ap (slice_get (map field_info t.fields)) same ∙ slice_get-map field_info t.fields k ∙ ap (option_map field_info) h.1, ap kind_or_int h.2)

  field_found : (fact : ℕ) (t : TypeTree) (k : ℕ) (found : Kind) → type_taken types taken fact ≡ Some t → kind_at t k ≡ Some found
      → (field : List ℕ × Kind) × (slice_get (fields (min fact 255)) (min k 255) ≡ Some field) × (field.1 ≡ found)
  field_found fact t k found e h =
      let of = taken_of types taken fact t e in
      let there = field_there t k found (small of.0 t of.2) h in
      (there.0, ap (λ (fs : List (List ℕ × Kind)). slice_get fs (min k 255)) (fields_taken fact t e) ∙ there.1, there.2)

  kind_found : (fact : ℕ) (t : TypeTree) (k : ℕ) (found : Kind) → type_taken types taken fact ≡ Some t → kind_at t k ≡ Some found → kind_in (slice_get (fields (min fact 255)) (min k 255)) ≡ Some found
  kind_found fact t k found e h = let there = field_found fact t k found e h in ap kind_in there.1 ∙ ap Some there.2

  variable_has : (o : Option Meaning) (found : Kind) → ((m : Meaning) → o ≡ Some m → Stands types taken m) → variable_kind o ≡ Some (Some found) → expression_kind fields (variable_value o) ≡ Some found
  variable_has None found stands e = absurd cc
  variable_has (Some (of_fact fact t)) found stands e = absurd cc
  variable_has (Some (of_result result)) found stands e = cc
  variable_has (Some (of_field fact field k)) found stands e =
      let same : k ≡ Some found = cc in
      let h = stands (of_field fact field k) refl in
      kind_found fact h.0 field found h.1 (h.2 ∙ same)

  named_has : (fact : ℕ) (t : TypeTree) (o : Option ℕ) (found : Kind) → type_taken types taken fact ≡ Some t → option_and_then (kind_at t) o ≡ Some found
      → kind_in (slice_get (fields (min fact 255)) (small_place o)) ≡ Some found
  named_has fact t None found h e = absurd cc
  named_has fact t (Some k) found h e = kind_found fact t k found h e

  variable_field_has : (o : Option Meaning) (f : List ℕ) (found : Kind) → ((m : Meaning) → o ≡ Some m → Stands types taken m) → variable_field_kind o f ≡ Some (Some found)
      → expression_kind fields (variable_field_value o f) ≡ Some found
  variable_field_has None f found stands e = absurd cc
  variable_field_has (Some (of_field fact field k)) f found stands e = absurd cc
  variable_field_has (Some (of_result result)) f found stands e = absurd cc
  variable_field_has (Some (of_fact fact t)) f found stands e =
      let same : field_kind t f ≡ Some found = cc in
      named_has fact t (place_of_name (field_names t) f) found (stands (of_fact fact t) refl) same

  -- an expression that has a kind has it in the program
  expression_has : (e : Tree) (found : Kind) → tree_kind sight e ≡ Some (Some found) → expression_kind fields (expression_in sight e) ≡ Some found
  expression_has (lit (literal.Int n)) found h = cc
  expression_has (lit (literal.Bool b)) found h = cc
  expression_has (lit (literal.Text s)) found h = cc
  expression_has (var v) found h = variable_has (meaning_of sight v) found (seen v) h
  expression_has (var_field v f) found h = variable_field_has (meaning_of sight v) f found (seen v) h
  expression_has (neg a) found h = number_is (is_number (tree_kind sight a)) found h
  expression_has (add a b) found h = number_is (is_number (tree_kind sight a) && is_number (tree_kind sight b)) found h
  expression_has (sub a b) found h = number_is (is_number (tree_kind sight a) && is_number (tree_kind sight b)) found h
  expression_has (mul a b) found h = number_is (is_number (tree_kind sight a) && is_number (tree_kind sight b)) found h

  given_fits : (k : Kind) (e : Tree) → set_misfits (Some k) (tree_kind sight e) ≡ false → is_kind k (expression_kind fields (expression_in sight e)) ≡ true
  given_fits k e h = ap (is_kind k) (expression_has e k (same_fits k (tree_kind sight e) h)) ∙ own_kind k

  arg_fits : (o : Option Kind) (e : Tree) → set_misfits o (tree_kind sight e) ≡ false → is_kind (kind_or_int o) (expression_kind fields (expression_in sight e)) ≡ true
  arg_fits None e h = absurd cc
  arg_fits (Some k) e h = given_fits k e h

  -- ---- actions

  pub args_are_fit : (fs : List (List ℕ × List ℕ)) (es : List Tree) → args_misfit sight (map word_kind fs) es ≡ false → args_fit fields (map field_info fs) (map (expression_in sight) es) ≡ true
  unfolding args_misfit args_fit
  args_are_fit [] [] h = refl
  args_are_fit [] (e ∷ es) h = absurd cc
  args_are_fit (f ∷ fs) [] h = absurd cc
  args_are_fit (f ∷ fs) (e ∷ es) h =
      and_from (is_kind (kind_or_int (kind_by_word f.1)) (expression_kind fields (expression_in sight e))) (args_fit fields (map field_info fs) (map (expression_in sight) es))
      (arg_fits (kind_by_word f.1) e (or_first_false (set_misfits (kind_by_word f.1) (tree_kind sight e)) (args_misfit sight (map word_kind fs) es) h))
      (args_are_fit fs es (or_second_false (set_misfits (kind_by_word f.1) (tree_kind sight e)) (args_misfit sight (map word_kind fs) es) h))

  assigned_fits : (fact : ℕ) (t : TypeTree) (o : Option ℕ) (e : Tree) → type_taken types taken fact ≡ Some t → set_misfits (option_and_then (kind_at t) o) (tree_kind sight e) ≡ false
      → set_of_kind (slice_get (fields (min fact 255)) (small_place o)) (expression_kind fields (expression_in sight e)) ≡ true
  assigned_fits fact t None e h m = absurd cc
  assigned_fits fact t (Some k) e h m = by (kind_at t k) refl m
    where
      by : (kd : Option Kind) → kind_at t k ≡ kd → set_misfits kd (tree_kind sight e) ≡ false → set_of_kind (slice_get (fields (min fact 255)) (min k 255)) (expression_kind fields (expression_in sight e)) ≡ true
      by None is m = absurd cc
      by (Some found) is m =
          let there = field_found fact t k found h is in
          ap (λ o. set_of_kind o (expression_kind fields (expression_in sight e))) there.1 ∙ ap (λ kd. is_kind kd (expression_kind fields (expression_in sight e))) there.2 ∙ given_fits found e m

  pub sets_are_fit : (fact : ℕ) (t : TypeTree) (sets : List (List ℕ × Tree)) → type_taken types taken fact ≡ Some t
      → list_any (λ (set : List ℕ × Tree). set_misfits (field_kind t set.0) (tree_kind sight set.1)) sets ≡ false
      → list_all (λ (set : ℕ × Expression). set_of_kind (slice_get (fields (min fact 255)) set.0) (expression_kind fields set.1)) (map (set_in t sight) sets) ≡ true
  sets_are_fit fact t [] h m = refl
  sets_are_fit fact t (set ∷ sets) h m =
      let one = set_misfits (field_kind t set.0) (tree_kind sight set.1) in
      let rest = list_any (λ (set : List ℕ × Tree). set_misfits (field_kind t set.0) (tree_kind sight set.1)) sets in
      and_from (set_of_kind (slice_get (fields (min fact 255)) (field_place t set.0)) (expression_kind fields (expression_in sight set.1)))
      (list_all (λ (set : ℕ × Expression). set_of_kind (slice_get (fields (min fact 255)) set.0) (expression_kind fields set.1)) (map (set_in t sight) sets))
      (assigned_fits fact t (place_of_name (field_names t) set.0) set.1 h (or_first_false one rest m))
      (sets_are_fit fact t sets h (or_second_false one rest m))
