-- The actions of the rules of an accepted file make values of the declared kinds.
use Rattle.drl_check.proofs.Common.{◌≡◌, ◌≤◌, ◌++◌, ◌∷◌, ◌&&◌, ℕ, zero, suc, min, Bool, true, false, not, List, [], map, length, nat_le, nat_lt, slice_get}
use Rattle.drl_check.proofs.Common.{Option, Some, None, is_some, option_map, refl, sym, ap, subst, ◌∙◌, arith, list_all, list_any, length-map, slice_get-map}
use Rattle.drl_check.proofs.Common.{slice_get_within, Tree, Body, File, Item, RuleTree, TypeTree, Expression, bound_types, fields_in, bound_fields}
use Rattle.drl_check.proofs.Common.{expression_kind, args_fit, set_of_kind, is_plain_type, is_plain_bound, action_fits, rule_fits, option_and_then}
use Rattle.drl_check.proofs.Common.{is_tree_of_events, is_name_short, place_of_name, types_of, rules_of, type_in, rule_in, type_names, type_tree_named}
use Rattle.drl_check.proofs.Common.{field_names, entry_names, Meaning, of_fact, of_field, of_result, Sight, meaning_of, begin, sight_of_actions, is_name}
use Rattle.drl_check.proofs.Common.{has_few_entries, attr_within, condition_within, meta_within, actions_within, exceeds_limit_behind, type_within, rule_within}
use Rattle.drl_check.proofs.Common.{observed_names, type_place, type_info, conditions_meant, expression_in, set_in, fact_meant, type_meant, action_of, rule_of}
use Rattle.drl_check.proofs.Common.{program_of, LimitPassed, UnknownType, UnknownVariable, WrongKind, EventFixed, lacks_type, lacks_variable, is_wrong_kind}
use Rattle.drl_check.proofs.Common.{fixes_event, AllPass, IsAcceptedFile, taken_by, args_misfit, insert_misfits, modify_misfits, has_wrong_kind, action_misfits}
use Rattle.drl_check.proofs.Common.{any_condition, has_unknown_type, has_unknown_variable, inserts_unknown_type, action_unseen, target_unseen, leaf_unseen}
use Rattle.{drl_check.proofs.Common.{is_event_meant, modifies_event}, std.proofs.lemmas.Bool.{and_from, leb-true, lt-ltb}}
use Rattle.drl_grammar.specs.declared.action.ActTree.{ActTree}
use Rattle.drl_grammar.specs.declared.action.ActTree.TheVariants as act
use Rattle.drl_grammar.specs.declared.file.Body.TheVariants as body
use Rattle.{rule_model.specs.declared.action.Action.TheVariants.{Modify}, rule_world.specs.Typed.{is_typed}, drl_scope.specs.Operands.{any_leaf_of}}
use Rattle.drl_check.proofs.{Fields.{HaveFieldsApart, kinds_taken, types_apart, apart_at}, Places.{type_taken, taken_of, type_placed, few_bound, sight_stands}}
use Rattle.drl_check.proofs.{Fitting.{HaveFewFields, InSight, fields_at, args_are_fit, sets_are_fit}, Sound.{not_and_right, few_types}}
use Rattle.fx_base.proofs.Tests.{and_first, and_second, or_first_false, or_second_false}

-- ---- types have few fields

has_few_fields : TypeTree → Bool
has_few_fields t = nat_le (length t.fields) 32

type_small : (types rules : ℕ) (known : List (List ℕ)) (b : Body) (rest : List TypeTree) → exceeds_limit_behind types rules known b ≡ false → list_all has_few_fields rest ≡ true
    → list_all has_few_fields (type_in b ++ rest) ≡ true
unfolding has_few_fields
type_small types rules known (body.Declare t) rest e h =
    let few = nat_le (length t.fields) 32 in
    let names = list_all is_name (field_names t) in
    let inside = not_and_right (nat_lt types 128) (type_within t) e in
    let front = and_first (is_name t.name && few) names (and_first (is_name t.name && few && names) (list_all meta_within t.metas) inside) in
    and_from few (list_all has_few_fields rest) (and_second (is_name t.name) few front) h
type_small types rules known (body.Rule r) rest e h = h
type_small types rules known (body.Package p) rest e h = h
type_small types rules known (body.Import p s) rest e h = h
type_small types rules known (body.Dialect d) rest e h = h
type_small types rules known (body.Entry n l) rest e h = h

types_small : (all before items : List Item) → AllPass all before items → list_all has_few_fields (types_of items) ≡ true
types_small all before [] p = refl
types_small all before (item ∷ items) p =
    type_small (length (types_of before)) (length (rules_of before)) (entry_names before) item.body (types_of items) (p.0 LimitPassed) (types_small all (before ++ item ∷ []) items p.1)

small_at : (types : List TypeTree) → list_all has_few_fields types ≡ true → HaveFewFields types
unfolding has_few_fields
small_at [] h ty t e = absurd cc
small_at (x ∷ types) h zero t e =
    let same : x ≡ t = cc in
    subst (λ (t : TypeTree). length t.fields ≤ 32) same (leb-true (length x.fields) 32 (and_first (has_few_fields x) (list_all has_few_fields types) h))
small_at (x ∷ types) h (suc ty) t e = small_at types (and_second (has_few_fields x) (list_all has_few_fields types) h) ty t e

-- ---- actions

module _ (names : List (List ℕ)) (types : List TypeTree) (few : length types ≤ 128) (small : HaveFewFields types) (apart : HaveFieldsApart types) (entries : List (List ℕ)) where
  module _ (taken : List ℕ) (sight : Sight) (bound : length taken ≤ 8) (seen : InSight types taken sight) where
    insert_typed : (ty : List ℕ) (args : List Tree) (o : Option TypeTree) → type_tree_named types ty ≡ o → not (is_some o) ≡ false → insert_misfits (option_map taken_by o) sight args ≡ false
        → action_fits (map (type_info names) types) taken (action_of types sight (act.Insert ty args)) ≡ true
    insert_typed ty args None is e m = absurd cc
    insert_typed ty args (Some t) is e m =
        let place = type_place (place_of_name (type_names types) ty) in
        let at = type_placed types few entries ty t is in
        let there = slice_get_within types place t at in
        let es = map (expression_in sight) args in
        let fields = bound_fields (map (type_info names) types) taken in
        let fit = sym (ap (λ kinds. args_misfit sight kinds args) (kinds_taken t (apart place t at))) ∙ m in
        and_from (nat_lt place (length (map (type_info names) types))) (args_fit fields (fields_in (slice_get (map (type_info names) types) place)) es)
        (lt-ltb place (length (map (type_info names) types)) (omega (arith, there, length-map types (type_info names))))
        (subst (λ fs. args_fit fields fs es ≡ true) (sym (fields_at names types place t at)) (args_are_fit names types taken sight small bound seen t.fields args fit))

    -- the type of a bound fact that no check finds to be an event
    plain_bound : (fact : ℕ) (t : TypeTree) → type_taken types taken fact ≡ Some t → is_tree_of_events t ≡ false → is_plain_bound (map (type_info names) types) taken (min fact 255) ≡ true
    plain_bound fact t h plain =
        let of = taken_of types taken fact t h in
        let there = slice_get_within taken fact of.0 of.1 in
        let same : min fact 255 ≡ fact = omega (arith, there, bound) in
        ap (is_plain_bound (map (type_info names) types) taken) same
        ∙ ap (λ o. is_plain_type (option_and_then (λ ty. slice_get (map (type_info names) types) ty) o)) of.1
        ∙ ap is_plain_type (slice_get-map (type_info names) types of.0 ∙ ap (option_map (type_info names)) of.2)
        ∙ ap not plain

    modify_typed : (v : List ℕ) (sets : List (List ℕ × Tree)) (o : Option Meaning) → meaning_of sight v ≡ o → not (is_some o) ≡ false → modify_misfits o sight sets ≡ false → is_event_meant o ≡ false
        → action_fits (map (type_info names) types) taken (Modify (fact_meant o) (map (set_in (type_meant o) sight) sets)) ≡ true
    modify_typed v sets None is e m plain = absurd cc
    modify_typed v sets (Some (of_field fact field k)) is e m plain = absurd cc
    modify_typed v sets (Some (of_result result)) is e m plain = absurd cc
    modify_typed v sets (Some (of_fact fact t)) is e m plain =
        let h = seen v (of_fact fact t) is in
        let of = taken_of types taken fact t h in
        let there = slice_get_within taken fact of.0 of.1 in
        let fields = bound_fields (map (type_info names) types) taken in
        let are = list_all (λ (set : ℕ × Expression). set_of_kind (slice_get (fields (min fact 255)) set.0) (expression_kind fields set.1)) (map (set_in t sight) sets) in
        and_from (nat_lt (min fact 255) (length taken))
        (is_plain_bound (map (type_info names) types) taken (min fact 255) && are)
        (lt-ltb (min fact 255) (length taken) (omega (arith, there, bound)))
        (and_from (is_plain_bound (map (type_info names) types) taken (min fact 255)) are (plain_bound fact t h plain)
        (sets_are_fit names types taken sight small bound seen fact t sets h m))

    action_typed : (a : ActTree) → inserts_unknown_type types a ≡ false → action_unseen sight a ≡ false → action_misfits types sight a ≡ false → modifies_event sight a ≡ false
        → action_fits (map (type_info names) types) taken (action_of types sight a) ≡ true
    action_typed (act.Insert ty args) t v m o = insert_typed ty args (type_tree_named types ty) refl t m
    action_typed (act.Modify x sets) t v m o =
        modify_typed x sets (meaning_of sight x) refl (or_first_false (target_unseen sight (act.Modify x sets)) (any_leaf_of (leaf_unseen sight) (act.Modify x sets)) v) m o
    action_typed (act.Retract x) t v m o = refl

    actions_typed : (actions : List ActTree) → list_any (inserts_unknown_type types) actions ≡ false → list_any (action_unseen sight) actions ≡ false → list_any (action_misfits types sight) actions ≡ false
        → list_any (modifies_event sight) actions ≡ false → list_all (action_fits (map (type_info names) types) taken) (map (action_of types sight) actions) ≡ true
    actions_typed [] t v m o = refl
    actions_typed (a ∷ actions) t v m o =
        and_from (action_fits (map (type_info names) types) taken (action_of types sight a)) (list_all (action_fits (map (type_info names) types) taken) (map (action_of types sight) actions))
        (action_typed a
        (or_first_false (inserts_unknown_type types a) (list_any (inserts_unknown_type types) actions) t)
        (or_first_false (action_unseen sight a) (list_any (action_unseen sight) actions) v)
        (or_first_false (action_misfits types sight a) (list_any (action_misfits types sight) actions) m)
        (or_first_false (modifies_event sight a) (list_any (modifies_event sight) actions) o))
        (actions_typed actions
        (or_second_false (inserts_unknown_type types a) (list_any (inserts_unknown_type types) actions) t)
        (or_second_false (action_unseen sight a) (list_any (action_unseen sight) actions) v)
        (or_second_false (action_misfits types sight a) (list_any (action_misfits types sight) actions) m)
        (or_second_false (modifies_event sight a) (list_any (modifies_event sight) actions) o))

  -- ---- rules

  few_conditions : (r : RuleTree) → rule_within r ≡ true → length r.conditions ≤ 8
  few_conditions r e =
      let n = length r.conditions in
      let tests = list_all condition_within r.conditions in
      let before = nat_lt 0 (length r.name) && is_name_short 256 r.name && list_all attr_within r.attrs && nat_lt 0 n in
      leb-true n 8 (and_second before (nat_le n 8) (and_first (before && nat_le n 8) tests (and_first (before && nat_le n 8 && tests) (actions_within r.actions) e)))

  rule_typed : (r : RuleTree) → rule_within r ≡ true → lacks_type types (body.Rule r) ≡ false → lacks_variable types (body.Rule r) ≡ false → is_wrong_kind types (body.Rule r) ≡ false → fixes_event types (body.Rule r) ≡ false
      → rule_fits (map (type_info names) types) (rule_of types entries r) ≡ true
  rule_typed r e t v m o =
      let taken = bound_types (conditions_meant types entries begin r.conditions) in
      let sight = sight_of_actions types r.conditions in
      let most : length taken ≤ 8 = omega (arith, few_bound types few entries begin r.conditions, few_conditions r e) in
      actions_typed taken sight most (sight_stands types few entries r.conditions) r.actions
      (or_second_false (has_unknown_type types r.conditions) (list_any (inserts_unknown_type types) r.actions) t)
      (or_second_false (any_condition has_unknown_variable types begin r.conditions) (list_any (action_unseen sight) r.actions) v)
      (or_second_false (any_condition (has_wrong_kind types) types begin r.conditions) (list_any (action_misfits types sight) r.actions) m) o

  body_typed : (n m : ℕ) (known : List (List ℕ)) (b : Body) (rest : List RuleTree) → exceeds_limit_behind n m known b ≡ false → lacks_type types b ≡ false → lacks_variable types b ≡ false
      → is_wrong_kind types b ≡ false → fixes_event types b ≡ false → list_all (rule_fits (map (type_info names) types)) (map (rule_of types entries) rest) ≡ true
      → list_all (rule_fits (map (type_info names) types)) (map (rule_of types entries) (rule_in b ++ rest)) ≡ true
  body_typed n m known (body.Rule r) rest e t v k o h =
      let inside = not_and_right (nat_lt m 256 && has_few_entries known (body.Rule r)) (rule_within r) e in
      and_from (rule_fits (map (type_info names) types) (rule_of types entries r)) (list_all (rule_fits (map (type_info names) types)) (map (rule_of types entries) rest)) (rule_typed r inside t v k o) h
  body_typed n m known (body.Declare d) rest e t v k o h = h
  body_typed n m known (body.Package p) rest e t v k o h = h
  body_typed n m known (body.Import p s) rest e t v k o h = h
  body_typed n m known (body.Dialect d) rest e t v k o h = h
  body_typed n m known (body.Entry a l) rest e t v k o h = h

rules_typed : (names : List (List ℕ)) (all : List Item) (entries : List (List ℕ)) → length (types_of all) ≤ 128 → HaveFewFields (types_of all) → HaveFieldsApart (types_of all) → (before items : List Item) → AllPass all before items
    → list_all (rule_fits (map (type_info names) (types_of all))) (map (rule_of (types_of all) entries) (rules_of items)) ≡ true
rules_typed names all entries few small apart before [] p = refl
rules_typed names all entries few small apart before (item ∷ items) p =
    body_typed names (types_of all) few small apart entries (length (types_of before)) (length (rules_of before)) (entry_names before) item.body (rules_of items)
    (p.0 LimitPassed) (p.0 UnknownType) (p.0 UnknownVariable) (p.0 WrongKind) (p.0 EventFixed) (rules_typed names all entries few small apart (before ++ item ∷ []) items p.1)

pub accepted_typed : (file : File) → IsAcceptedFile file → is_typed (program_of file) ≡ true
unfolding is_typed
accepted_typed file a =
    rules_typed (observed_names (rules_of file.items)) file.items (entry_names file.items) (few_types file.items [] file.items a (omega arith)) (small_at (types_of file.items) (types_small file.items [] file.items a))
    (apart_at (types_of file.items) (types_apart file.items [] file.items a)) [] file.items a
