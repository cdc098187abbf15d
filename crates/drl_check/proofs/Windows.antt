-- A window of an accepted file stands on a type of events, and is within its bounds.
use Rattle.drl_check.proofs.Common.{◌≡◌, ◌≤◌, ◌++◌, ◌∷◌, ◌&&◌, ◌||◌, ℕ, ℤ, pos, negsuc, Bool, true, false, not, nat_le, nat_lt, int_lt, unsigned_abs, length}
use Rattle.drl_check.proofs.Common.{sum_by, List, [], map, Option, Some, None, is_some, option_map, refl, sym, ap, subst, ◌∙◌, arith, list_all, list_any}
use Rattle.drl_check.proofs.Common.{nat_tests, ints, slice_get-map, CondTree, SourceTree, Body, File, Item, RuleTree, TypeTree, Program, is_event_type}
use Rattle.drl_check.proofs.Common.{is_window, has_window, has_windows, types_of, rules_of, rule_in, type_names, type_tree_named, source_of, entry_names}
use Rattle.drl_check.proofs.Common.{is_name_short, place_of_name, Sight, Place, begin, behind, is_name, has_few_entries, weight, part_within, variable_within}
use Rattle.drl_check.proofs.Common.{entry_within, window_within, source_within, tests_within, condition_within, attr_within, actions_within, rule_within}
use Rattle.drl_check.proofs.Common.{exceeds_limit_behind, observed_names, type_place, type_info, count_meant, window_meant, condition_meant, rule_of}
use Rattle.drl_check.proofs.Common.{program_of, is_type_unknown, has_unknown_type, inserts_unknown_type, LimitPassed, UnknownType, NotAnEvent, BadParams}
use Rattle.drl_check.proofs.Common.{lacks_type, needs_event, has_bad_params, AllPass, IsAcceptedFile, is_part_refused, is_empty_window, is_source_refused}
use Rattle.{drl_check.proofs.Common.{is_condition_refused}, std.proofs.lemmas.Bool.{and_from, or_right}}
use Rattle.drl_grammar.specs.declared.condition.CondTree.TheVariants as tree
use Rattle.drl_grammar.specs.declared.condition.WindowTree.{WindowTree}
use Rattle.drl_grammar.specs.declared.condition.WindowTree.TheVariants as window
use Rattle.drl_grammar.specs.declared.file.Body.TheVariants as body
use Rattle.rule_model.specs.{Simple.{is_whole}, Types.{is_event}}
use Rattle.drl_scope.specs.Annotations as annotation
use Rattle.{drl_compile.specs.Programs.{conditions_meant}, drl_typing.specs.{Times.{part_lacks_times, source_lacks_times, has_no_times}, Uses.{any_condition}}}
use Rattle.{drl_check.proofs.{Places.{type_placed}, Sound.{not_and_right, is_time, given_time, few_types}}, fx_base.proofs.Tests.{and_first, and_second}}
use Rattle.fx_base.proofs.Tests.{or_first_false, or_second_false}

-- ---- bounds

one_at_least : (n : ℕ) → int_lt (pos n) (pos 1) ≡ false → nat_le 1 n ≡ true
one_at_least n e = grind (arith, nat_tests, ints)

given_count : (n : ℤ) → int_lt n (pos 1) ≡ false → nat_le (unsigned_abs n) 1000000 ≡ true → (nat_le 1 (count_meant n) && nat_le (count_meant n) 1000000) ≡ true
given_count (pos n) e h = and_from (nat_le 1 n) (nat_le n 1000000) (one_at_least n e) h
given_count (negsuc n) e h = absurd cc

within_bounds : (w : Option WindowTree) → is_empty_window w ≡ false → window_within w ≡ true → is_window (window_meant w) ≡ true
unfolding is_time
within_bounds None e h = refl
within_bounds (Some (window.Time span)) e h = given_time span e h
within_bounds (Some (window.Length count)) e h = given_count count e h

on_events : (w : Option WindowTree) (event : Bool) → (is_some w && not event) ≡ false → is_empty_window w ≡ false → window_within w ≡ true → (is_whole (window_meant w) || event && is_window (window_meant w)) ≡ true
on_events None event e s h = refl
on_events (Some w) true e s h = or_right (is_whole (window_meant (Some w))) (is_window (window_meant (Some w))) (within_bounds (Some w) s h)
on_events (Some w) false e s h = absurd (let n : true ≡ false = e in cc)

-- ---- conditions within the limits

window_in : (s : SourceTree) → source_within s ≡ true → window_within s.window ≡ true
window_in s e =
    let front = variable_within s.var && is_name s.ty && nat_le (sum_by weight s.parts) 32 && list_all part_within s.parts in
    and_second front (window_within s.window) (and_first (front && window_within s.window) (entry_within s.entry) e)

source_in : (c : CondTree) → condition_within c ≡ true → source_within (source_of c) ≡ true
source_in (tree.Plain s) e = e
source_in (tree.Negated s) e = e
source_in (tree.Existing s) e = e
source_in (tree.Folded result s kind arg tests) e =
    let own = variable_within result in
    and_second own (source_within s) (and_first (own && source_within s) (is_name arg) (and_first (own && source_within s && is_name arg) (tests_within tests) e))

conditions_in : (r : RuleTree) → rule_within r ≡ true → list_all condition_within r.conditions ≡ true
conditions_in r e =
    let front = nat_lt 0 (length r.name) && is_name_short 256 r.name && list_all attr_within r.attrs && nat_lt 0 (length r.conditions) && nat_le (length r.conditions) 8 in
    let all = list_all condition_within r.conditions in
    and_second front all (and_first (front && all) (actions_within r.actions) e)

-- ---- windows, given of which types the program says that they are types of events

module _ (types : List TypeTree) (entries : List (List ℕ)) (p : Program)
    (events : (name : List ℕ) (t : TypeTree) → type_tree_named types name ≡ Some t → is_event p (type_place (place_of_name (type_names types) name)) ≡ annotation.is_tree_of_events t) where
  source_window : (sight : Sight) (s : SourceTree) (o : Option TypeTree) → type_tree_named types s.ty ≡ o → not (is_some o) ≡ false → source_lacks_times o sight s ≡ false → is_source_refused s ≡ false
      → source_within s ≡ true → (is_whole (window_meant s.window) || is_event p (type_place (place_of_name (type_names types) s.ty)) && is_window (window_meant s.window)) ≡ true
  source_window sight s None is d l r w = absurd (let n : true ≡ false = d in cc)
  source_window sight s (Some t) is d l r w =
      let timed = or_first_false (is_some s.window && not (annotation.is_tree_of_events t)) (list_any (part_lacks_times t sight) s.parts) l in
      let some = or_first_false (is_empty_window s.window) (list_any is_part_refused s.parts) r in
      subst (λ b. (is_whole (window_meant s.window) || b && is_window (window_meant s.window)) ≡ true) (sym (events s.ty t is))
      (on_events s.window (annotation.is_tree_of_events t) timed some (window_in s w))

  condition_window : (place : Place) (c : CondTree) → is_type_unknown types c ≡ false → has_no_times types place c ≡ false → is_condition_refused c ≡ false → condition_within c ≡ true
      → has_window p (condition_meant types entries place c) ≡ true
  condition_window place (tree.Plain s) d l r w = source_window place.sight s (type_tree_named types s.ty) refl d l r (source_in (tree.Plain s) w)
  condition_window place (tree.Negated s) d l r w = source_window place.sight s (type_tree_named types s.ty) refl d l r (source_in (tree.Negated s) w)
  condition_window place (tree.Existing s) d l r w = source_window place.sight s (type_tree_named types s.ty) refl d l r (source_in (tree.Existing s) w)
  condition_window place (tree.Folded result s kind arg tests) d l r w =
      source_window place.sight s (type_tree_named types s.ty) refl d l r (source_in (tree.Folded result s kind arg tests) w)

  condition_windows : (place : Place) (cs : List CondTree) → has_unknown_type types cs ≡ false → any_condition (has_no_times types) types place cs ≡ false → list_any is_condition_refused cs ≡ false
      → list_all condition_within cs ≡ true → list_all (has_window p) (conditions_meant types entries place cs) ≡ true
  unfolding conditions_meant any_condition
  condition_windows place [] d l r w = refl
  condition_windows place (c ∷ cs) d l r w =
      let next = behind types place c in
      let unknown = has_unknown_type types cs in
      let untimed = any_condition (has_no_times types) types next cs in
      let refused = list_any is_condition_refused cs in
      let rest = list_all condition_within cs in
      and_from (has_window p (condition_meant types entries place c)) (list_all (has_window p) (conditions_meant types entries next cs))
      (condition_window place c (or_first_false (is_type_unknown types c) unknown d) (or_first_false (has_no_times types place c) untimed l) (or_first_false (is_condition_refused c) refused r)
      (and_first (condition_within c) rest w))
      (condition_windows next cs (or_second_false (is_type_unknown types c) unknown d) (or_second_false (has_no_times types place c) untimed l) (or_second_false (is_condition_refused c) refused r)
      (and_second (condition_within c) rest w))

  body_windows : (n m : ℕ) (known : List (List ℕ)) (b : Body) (rest : List RuleTree) → exceeds_limit_behind n m known b ≡ false → lacks_type types b ≡ false → needs_event types b ≡ false
      → has_bad_params b ≡ false → list_all (has_windows p) (map (rule_of types entries) rest) ≡ true → list_all (has_windows p) (map (rule_of types entries) (rule_in b ++ rest)) ≡ true
  body_windows n m known (body.Rule r) rest e t l f h =
      let inside = not_and_right (nat_lt m 256 && has_few_entries known (body.Rule r)) (rule_within r) e in
      let declared = or_first_false (has_unknown_type types r.conditions) (list_any (inserts_unknown_type types) r.actions) t in
      and_from (has_windows p (rule_of types entries r)) (list_all (has_windows p) (map (rule_of types entries) rest)) (condition_windows begin r.conditions declared l f (conditions_in r inside)) h
  body_windows n m known (body.Declare d) rest e t l f h = h
  body_windows n m known (body.Package a) rest e t l f h = h
  body_windows n m known (body.Import a s) rest e t l f h = h
  body_windows n m known (body.Dialect d) rest e t l f h = h
  body_windows n m known (body.Entry a b) rest e t l f h = h

all_windows : (all : List Item) (entries : List (List ℕ)) (p : Program)
    → ((name : List ℕ) (t : TypeTree) → type_tree_named (types_of all) name ≡ Some t → is_event p (type_place (place_of_name (type_names (types_of all)) name)) ≡ annotation.is_tree_of_events t)
    → (before items : List Item) → AllPass all before items → list_all (has_windows p) (map (rule_of (types_of all) entries) (rules_of items)) ≡ true
all_windows all entries p events before [] a = refl
all_windows all entries p events before (item ∷ items) a =
    body_windows (types_of all) entries p events (length (types_of before)) (length (rules_of before)) (entry_names before) item.body (rules_of items)
    (a.0 LimitPassed) (a.0 UnknownType) (a.0 NotAnEvent) (a.0 BadParams) (all_windows all entries p events (before ++ item ∷ []) items a.1)

-- ---- the whole program

declared_events : (file : File) → length (types_of file.items) ≤ 128 → (name : List ℕ) (t : TypeTree) → type_tree_named (types_of file.items) name ≡ Some t
    → is_event (program_of file) (type_place (place_of_name (type_names (types_of file.items)) name)) ≡ annotation.is_tree_of_events t
unfolding is_event
declared_events file few name t e =
    let types = types_of file.items in
    let info = type_info (observed_names (rules_of file.items)) in
    let place = type_place (place_of_name (type_names types) name) in
    ap is_event_type (slice_get-map info types place ∙ ap (option_map info) (type_placed types few (entry_names file.items) name t e))

pub accepted_windows : (file : File) → IsAcceptedFile file → list_all (has_windows (program_of file)) (program_of file).rules ≡ true
accepted_windows file a =
    all_windows file.items (entry_names file.items) (program_of file) (declared_events file (few_types file.items [] file.items a (omega arith))) [] file.items a
