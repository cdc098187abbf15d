-- What a variable means is a fact that the conditions of the program bind, or a field of such a fact.
use Rattle.drl_check.proofs.Common.{◌≡◌, ◌≤◌, ◌++◌, ◌∷◌, ℕ, min, Bool, true, false, List, [], length, slice_get, Option, Some, None, cond, refl, sym, ap, subst}
use Rattle.drl_check.proofs.Common.{◌∙◌, append_assoc, length-append, arith, flat_map, option_and_then, bytes_eq, slice_get_within, CondTree, Part, SourceTree}
use Rattle.drl_check.proofs.Common.{TypeTree, Condition, bound_types, place_of_name, type_names, type_tree_named, field_names, kind_at, Meaning, of_fact}
use Rattle.drl_check.proofs.Common.{of_field, of_result, Sight, seen_fact, seen_field, seen_in, seen_of, seen_result, Place, begin, behind, sight_of_actions}
use Rattle.{drl_check.proofs.Common.{type_place, condition_meant}, std.proofs.Common.{append-nil}}
use Rattle.drl_grammar.specs.declared.condition.CondTree.TheVariants as tree
use Rattle.drl_grammar.specs.declared.condition.Part.TheVariants as part
use Rattle.{rule_model.specs.declared.condition.Condition.TheVariants.{Plain, Negated, Existing, Folded}, drl_scope.specs.Sight.{meaning_of, behind_all}}
use Rattle.{drl_compile.specs.Programs.{conditions_meant}, fx_base.proofs.Sequences.{get-append_left, get-last}}

-- the type of the fact of this number, given the places of the types of the facts that are bound
abbrev pub type_taken : List TypeTree → List ℕ → ℕ → Option TypeTree
type_taken types taken fact = option_and_then (λ ty. slice_get types ty) (slice_get taken fact)

-- a variable means a fact that is bound, a field of one, or a result
abbrev pub Stands : List TypeTree → List ℕ → Meaning → Type 0
Stands types taken (of_fact fact t) = type_taken types taken fact ≡ Some t
Stands types taken (of_field fact field k) = (t : TypeTree) × (type_taken types taken fact ≡ Some t) × (kind_at t field ≡ k)
Stands types taken (of_result result) = Unit {0}

abbrev AllStand : List TypeTree → List ℕ → Sight → Type 0
AllStand types taken [] = Unit {0}
AllStand types taken (x ∷ sight) = Stands types taken x.1 × AllStand types taken sight

pub got : {A B : Type 0} (f : A → Option B) (o : Option A) (b : B) → option_and_then f o ≡ Some b → (a : A) × (o ≡ Some a) × (f a ≡ Some b)
got f None b e = absurd cc
got f (Some a) b e = (a, refl, e)

pub taken_of : (types : List TypeTree) (taken : List ℕ) (fact : ℕ) (t : TypeTree) → type_taken types taken fact ≡ Some t → (ty : ℕ) × (slice_get taken fact ≡ Some ty) × (slice_get types ty ≡ Some t)
taken_of types taken fact t e = got (λ ty. slice_get types ty) (slice_get taken fact) t e

module _ (types : List TypeTree) where
  -- ---- with more facts

  still_taken : (taken more : List ℕ) (fact : ℕ) (t : TypeTree) → type_taken types taken fact ≡ Some t → type_taken types (taken ++ more) fact ≡ Some t
  still_taken taken more fact t e =
      let h = taken_of types taken fact t e in
      ap (option_and_then (λ ty. slice_get types ty)) (get-append_left taken more fact h.0 h.1) ∙ h.2

  still_stands : (taken more : List ℕ) (m : Meaning) → Stands types taken m → Stands types (taken ++ more) m
  still_stands taken more (of_fact fact t) h = still_taken taken more fact t h
  still_stands taken more (of_field fact field k) h = (h.0, still_taken taken more fact h.0 h.1, h.2)
  still_stands taken more (of_result result) h = tt

  still_stand : (taken more : List ℕ) (sight : Sight) → AllStand types taken sight → AllStand types (taken ++ more) sight
  still_stand taken more [] h = tt
  still_stand taken more (x ∷ sight) h = (still_stands taken more x.1 h.0, still_stand taken more sight h.1)

  both_stand : (taken : List ℕ) (front back : Sight) → AllStand types taken front → AllStand types taken back → AllStand types taken (front ++ back)
  both_stand taken [] back h k = k
  both_stand taken (x ∷ front) back h k = (h.0, both_stand taken front back h.1 k)

  first_stands : (taken : List ℕ) (sight : Sight) (name : List ℕ) (m : Meaning) → AllStand types taken sight → meaning_of sight name ≡ Some m → Stands types taken m
  unfolding meaning_of
  first_stands taken [] name m h e = absurd cc
  first_stands taken (x ∷ sight) name m h e = by (bytes_eq x.0 name) e (first_stands taken sight name m h.1)
    where
      by : (b : Bool) → cond b (Some x.1) (meaning_of sight name) ≡ Some m → (meaning_of sight name ≡ Some m → Stands types taken m) → Stands types taken m
      by true e k = let same : x.1 ≡ m = cc in subst (Stands types taken) same h.0
      by false e k = k e

  -- ---- what a pattern brings into sight

  fact_stands : (taken : List ℕ) (fact : ℕ) (t : TypeTree) (var : Option (List ℕ)) → type_taken types taken fact ≡ Some t → AllStand types taken (seen_fact fact t var)
  fact_stands taken fact t None e = tt
  fact_stands taken fact t (Some v) e = (e, tt)

  field_stands : (taken : List ℕ) (fact : ℕ) (t : TypeTree) (v : List ℕ) (place : Option ℕ) → type_taken types taken fact ≡ Some t → AllStand types taken (seen_field fact t v place)
  field_stands taken fact t v None e = tt
  field_stands taken fact t v (Some k) e = ((t, e, refl), tt)

  part_stands : (taken : List ℕ) (fact : ℕ) (t : TypeTree) (p : Part) → type_taken types taken fact ≡ Some t → AllStand types taken (seen_in fact t p)
  part_stands taken fact t (part.Bind v f) e = field_stands taken fact t v (place_of_name (field_names t) f) e
  part_stands taken fact t (part.Temporal op params other) e = tt
  part_stands taken fact t (part.AnyOf groups) e = tt

  parts_stand : (taken : List ℕ) (fact : ℕ) (t : TypeTree) (parts : List Part) → type_taken types taken fact ≡ Some t → AllStand types taken (flat_map (seen_in fact t) parts)
  parts_stand taken fact t [] e = tt
  parts_stand taken fact t (p ∷ parts) e =
      both_stand taken (seen_in fact t p) (flat_map (seen_in fact t) parts) (part_stands taken fact t p e) (parts_stand taken fact t parts e)

  source_stands : (taken : List ℕ) (fact : ℕ) (s : SourceTree) (o : Option TypeTree) → ((t : TypeTree) → o ≡ Some t → type_taken types taken fact ≡ Some t) → AllStand types taken (seen_of fact s o)
  source_stands taken fact s None h = tt
  source_stands taken fact s (Some t) h =
      both_stand taken (seen_fact fact t s.var) (flat_map (seen_in fact t) s.parts) (fact_stands taken fact t s.var (h t refl)) (parts_stand taken fact t s.parts (h t refl))

  result_stands : (taken : List ℕ) (result : ℕ) (var : Option (List ℕ)) → AllStand types taken (seen_result result var)
  result_stands taken result None = tt
  result_stands taken result (Some v) = (tt, tt)

  -- ---- from condition to condition

  module _ (few : length types ≤ 128) (entries : List (List ℕ)) where
    -- the place of a type in the program is that of its first declaration
    placed_by : (o : Option ℕ) (t : TypeTree) → option_and_then (λ k. slice_get types k) o ≡ Some t → slice_get types (type_place o) ≡ Some t
    placed_by None t e = absurd cc
    placed_by (Some k) t e =
        let less = slice_get_within types k t e in
        let same : min k 65535 ≡ k = omega (arith, less, few) in
        ap (slice_get types) same ∙ e

    pub type_placed : (name : List ℕ) (t : TypeTree) → type_tree_named types name ≡ Some t → slice_get types (type_place (place_of_name (type_names types) name)) ≡ Some t
    type_placed name t e = placed_by (place_of_name (type_names types) name) t e

    last_taken : (taken : List ℕ) (name : List ℕ) (t : TypeTree) → type_tree_named types name ≡ Some t → type_taken types (taken ++ type_place (place_of_name (type_names types) name) ∷ []) (length taken) ≡ Some t
    last_taken taken name t e =
        ap (option_and_then (λ ty. slice_get types ty)) (get-last taken (type_place (place_of_name (type_names types) name))) ∙ type_placed name t e

    -- the next fact has the next number, and all that is in sight stands
    abbrev Agrees : List ℕ → Place → Type 0
    Agrees taken place = (place.facts ≡ length taken) × AllStand types taken place.sight

    unchanged : (taken : List ℕ) (place : Place) → Agrees taken place → Agrees (taken ++ []) place
    unchanged taken place h = subst (λ (ts : List ℕ). Agrees ts place) (sym (append-nil taken)) h

    agrees_behind : (taken : List ℕ) (place : Place) (c : CondTree) → Agrees taken place → Agrees (taken ++ bound_types (condition_meant types entries place c ∷ [])) (behind types place c)
    agrees_behind taken place (tree.Negated s) h = unchanged taken place h
    agrees_behind taken place (tree.Existing s) h = unchanged taken place h
    agrees_behind taken place (tree.Folded result s kind arg tests) h =
        unchanged taken (behind types place (tree.Folded result s kind arg tests))
        (h.0, both_stand taken place.sight (seen_result place.results result) h.1 (result_stands taken place.results result))
    agrees_behind taken place (tree.Plain s) h =
        let ty = type_place (place_of_name (type_names types) s.ty) in
        let stands = source_stands (taken ++ ty ∷ []) (length taken) s (type_tree_named types s.ty) (λ t e. last_taken taken s.ty t e) in (
          omega (arith, h.0, length-append taken (ty ∷ [])),
          both_stand (taken ++ ty ∷ []) place.sight (seen_of place.facts s (type_tree_named types s.ty)) (still_stand taken (ty ∷ []) place.sight h.1)
              (subst (λ (n : ℕ). AllStand types (taken ++ ty ∷ []) (seen_of n s (type_tree_named types s.ty))) (sym h.0) stands),
        )

    bound_both : (cs ds : List Condition) → bound_types (cs ++ ds) ≡ bound_types cs ++ bound_types ds
    bound_both [] ds = refl
    bound_both (Plain p ∷ cs) ds = ap (λ ts. p.ty.0 ∷ ts) (bound_both cs ds)
    bound_both (Negated p ∷ cs) ds = bound_both cs ds
    bound_both (Existing p ∷ cs) ds = bound_both cs ds
    bound_both (Folded a ∷ cs) ds = bound_both cs ds

    agrees_behind_all : (taken : List ℕ) (place : Place) (cs : List CondTree) → Agrees taken place → Agrees (taken ++ bound_types (conditions_meant types entries place cs)) (behind_all types place cs)
    unfolding conditions_meant behind_all
    agrees_behind_all taken place [] h = unchanged taken place h
    agrees_behind_all taken place (c ∷ cs) h =
        let here = condition_meant types entries place c ∷ [] in
        let rest = conditions_meant types entries (behind types place c) cs in
        let all : (taken ++ bound_types here) ++ bound_types rest ≡ taken ++ bound_types (here ++ rest) = append_assoc taken (bound_types here) (bound_types rest) ∙ ap (λ ts. taken ++ ts) (sym (bound_both here rest)) in
        subst (λ (ts : List ℕ). Agrees ts (behind_all types (behind types place c) cs)) all
        (agrees_behind_all (taken ++ bound_types here) (behind types place c) cs (agrees_behind taken place c h))

    few_at : (place : Place) (c : CondTree) → length (bound_types (condition_meant types entries place c ∷ [])) ≤ 1
    few_at place (tree.Plain s) = omega arith
    few_at place (tree.Negated s) = omega arith
    few_at place (tree.Existing s) = omega arith
    few_at place (tree.Folded a b c d e) = omega arith

    -- no more facts are bound than there are conditions
    pub few_bound : (place : Place) (cs : List CondTree) → length (bound_types (conditions_meant types entries place cs)) ≤ length cs
    unfolding conditions_meant
    few_bound place [] = omega arith
    few_bound place (c ∷ cs) =
        let here = condition_meant types entries place c ∷ [] in
        let rest = conditions_meant types entries (behind types place c) cs in
        omega (arith, few_at place c, few_bound (behind types place c) cs, ap length (bound_both here rest), length-append (bound_types here) (bound_types rest))

    -- what actions see stands
    pub sight_stands : (cs : List CondTree) (name : List ℕ) (m : Meaning) → meaning_of (sight_of_actions types cs) name ≡ Some m → Stands types (bound_types (conditions_meant types entries begin cs)) m
    sight_stands cs name m e =
        first_stands (bound_types (conditions_meant types entries begin cs)) (sight_of_actions types cs) name m (agrees_behind_all [] begin cs (refl, tt)).1 e
