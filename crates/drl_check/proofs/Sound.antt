-- The program of an accepted file is within the limits.
use Rattle.drl_check.proofs.Common.{◌≡◌, ◌≤◌, ◌+◌, ◌&&◌, ◌||◌, ◌++◌, ◌∷◌, ℕ, ℤ, pos, negsuc, Bool, true, false, not, List, [], map, length, nat_le, nat_lt}
use Rattle.drl_check.proofs.Common.{int_le, int_lt, unsigned_abs, Option, Some, None, cond, refl, sym, ap, subst, append_assoc, length-append, arith, list_all}
use Rattle.drl_check.proofs.Common.{bytes_eq, nat_tests, ints, append-nil, length-map, Body, Item, TypeTree, RuleTree, Rule, has_conditions, has_few_actions}
use Rattle.drl_check.proofs.Common.{has_lateness, LimitPassed, BadParams, types_of, rules_of, type_in, rule_in, default_name, entries_named, with_entry_name}
use Rattle.drl_check.proofs.Common.{entry_names, lateness_or_zero, lateness_with, is_name_short, is_among, begin, sight_of_actions, is_entry_name}
use Rattle.drl_check.proofs.Common.{has_few_entries, lateness_within, exceeds_limit_behind, type_within, rule_within, attr_within, condition_within}
use Rattle.drl_check.proofs.Common.{action_within, actions_within, entry_info, rule_of, action_of, one_for_each, has_bad_params, AllPass, is_negative_number}
use Rattle.std.proofs.lemmas.Bool.{and_from, leb-true, ltb-true}
use Rattle.drl_grammar.specs.declared.file.Body.TheVariants as body
use Rattle.{rule_world.specs.Events.{most_millis}, drl_scope.specs.EntryPoints.{with_names, lateness_named}, drl_limits.specs.Limits.{span_limit}}
use Rattle.{drl_check.proofs.Failures.{types_next, rules_next, known_next}, fx_base.proofs.Tests.{and_first, and_second}}

pub not_and_left : (a b : Bool) → not (a && b) ≡ false → a ≡ true
not_and_left true b e = refl
not_and_left false b e = absurd cc

pub not_and_right : (a b : Bool) → not (a && b) ≡ false → b ≡ true
not_and_right true true e = refl
not_and_right true false e = absurd cc
not_and_right false b e = absurd cc

-- ---- types, entry points and rules are few

type_fits : (types rules : ℕ) (known : List (List ℕ)) (b : Body) → exceeds_limit_behind types rules known b ≡ false → types ≤ 128 → types + length (type_in b) ≤ 128
type_fits types rules known (body.Declare t) e h = let less = ltb-true types 128 (not_and_left (nat_lt types 128) (type_within t) e) in omega (arith, less)
type_fits types rules known (body.Rule r) e h = omega (arith, h)
type_fits types rules known (body.Package p) e h = omega (arith, h)
type_fits types rules known (body.Import p s) e h = omega (arith, h)
type_fits types rules known (body.Dialect d) e h = omega (arith, h)
type_fits types rules known (body.Entry n l) e h = omega (arith, h)

rule_fits : (types rules : ℕ) (known : List (List ℕ)) (b : Body) → exceeds_limit_behind types rules known b ≡ false → rules ≤ 256 → rules + length (rule_in b) ≤ 256
rule_fits types rules known (body.Rule r) e h =
    let few = has_few_entries known (body.Rule r) in
    let less = ltb-true rules 256 (and_first (nat_lt rules 256) few (not_and_left (nat_lt rules 256 && few) (rule_within r) e)) in
    omega (arith, less)
rule_fits types rules known (body.Declare t) e h = omega (arith, h)
rule_fits types rules known (body.Package p) e h = omega (arith, h)
rule_fits types rules known (body.Import p s) e h = omega (arith, h)
rule_fits types rules known (body.Dialect d) e h = omega (arith, h)
rule_fits types rules known (body.Entry n l) e h = omega (arith, h)

entries_fit : (types rules : ℕ) (known : List (List ℕ)) (b : Body) → exceeds_limit_behind types rules known b ≡ false → length known ≤ 64 → length (with_names known (entries_named b)) ≤ 64
unfolding with_names
entries_fit types rules known (body.Rule r) e h =
    let few = has_few_entries known (body.Rule r) in
    leb-true (length (with_names known (entries_named (body.Rule r)))) 64 (and_second (nat_lt rules 256) few (not_and_left (nat_lt rules 256 && few) (rule_within r) e))
entries_fit types rules known (body.Entry name lateness) e h =
    let few = has_few_entries known (body.Entry name lateness) in
    leb-true (length (with_names known (name ∷ []))) 64 (and_first few (is_entry_name name) (not_and_left (few && is_entry_name name) (lateness_within lateness) e))
entries_fit types rules known (body.Declare t) e h = h
entries_fit types rules known (body.Package p) e h = h
entries_fit types rules known (body.Import p s) e h = h
entries_fit types rules known (body.Dialect d) e h = h

pub few_types : (all before items : List Item) → AllPass all before items → length (types_of before) ≤ 128 → length (types_of (before ++ items)) ≤ 128
few_types all before [] p h = subst (λ (is : List Item). length (types_of is) ≤ 128) (sym (append-nil before)) h
few_types all before (item ∷ items) p h =
    let fits = type_fits (length (types_of before)) (length (rules_of before)) (entry_names before) item.body (p.0 LimitPassed) h in
    let more : length (types_of (before ++ item ∷ [])) ≤ 128 = omega (arith, fits, ap length (types_next before item), length-append (types_of before) (type_in item.body)) in
    subst (λ (is : List Item). length (types_of is) ≤ 128) (append_assoc before (item ∷ []) items) (few_types all (before ++ item ∷ []) items p.1 more)

pub few_rules : (all before items : List Item) → AllPass all before items → length (rules_of before) ≤ 256 → length (rules_of (before ++ items)) ≤ 256
few_rules all before [] p h = subst (λ (is : List Item). length (rules_of is) ≤ 256) (sym (append-nil before)) h
few_rules all before (item ∷ items) p h =
    let fits = rule_fits (length (types_of before)) (length (rules_of before)) (entry_names before) item.body (p.0 LimitPassed) h in
    let more : length (rules_of (before ++ item ∷ [])) ≤ 256 = omega (arith, fits, ap length (rules_next before item), length-append (rules_of before) (rule_in item.body)) in
    subst (λ (is : List Item). length (rules_of is) ≤ 256) (append_assoc before (item ∷ []) items) (few_rules all (before ++ item ∷ []) items p.1 more)

pub few_entries : (all before items : List Item) → AllPass all before items → length (entry_names before) ≤ 64 → length (entry_names (before ++ items)) ≤ 64
few_entries all before [] p h = subst (λ (is : List Item). length (entry_names is) ≤ 64) (sym (append-nil before)) h
few_entries all before (item ∷ items) p h =
    let fits = entries_fit (length (types_of before)) (length (rules_of before)) (entry_names before) item.body (p.0 LimitPassed) h in
    let more : length (entry_names (before ++ item ∷ [])) ≤ 64 = subst (λ (names : List (List ℕ)). length names ≤ 64) (sym (known_next before item)) fits in
    subst (λ (is : List Item). length (entry_names is) ≤ 64) (append_assoc before (item ∷ []) items) (few_entries all (before ++ item ∷ []) items p.1 more)

pub one_entry : length (entry_names []) ≤ 64
unfolding with_names
one_entry = omega arith

-- ---- there is an entry point

no_fewer_by : (b : Bool) (known : List (List ℕ)) (name : List ℕ) → length known ≤ length (cond b known (known ++ name ∷ []))
no_fewer_by true known name = omega arith
no_fewer_by false known name = omega (arith, length-append known (name ∷ []))

no_fewer : (known names : List (List ℕ)) → length known ≤ length (with_names known names)
unfolding with_names
no_fewer known [] = omega arith
no_fewer known (name ∷ names) =
    let one = no_fewer_by (is_among known name) known name in
    let rest = no_fewer (with_entry_name known name) names in
    omega (arith, one, rest)

pub some_entry : (names : List (List ℕ)) → 1 ≤ length (with_names (default_name ∷ []) names)
some_entry names = no_fewer (default_name ∷ []) names

-- ---- each lateness is from 0 to 2^53 ms

pub is_lateness : ℤ → Bool
is_lateness n = int_le (pos 0) n && int_le n most_millis

zero_late : is_lateness (pos 0) ≡ true
unfolding is_lateness most_millis
zero_late = refl

from_zero : (n : ℕ) → nat_le 0 n ≡ true
from_zero n = grind (arith, nat_tests)

given_late : (n : ℤ) → int_lt n (pos 0) ≡ false → nat_le (unsigned_abs n) span_limit ≡ true → is_lateness n ≡ true
unfolding is_lateness most_millis span_limit
given_late (pos n) e h = and_from (int_le (pos 0) (pos n)) (int_le (pos n) most_millis) (from_zero n) h
given_late (negsuc n) e h = absurd cc

entry_late : (lateness : Option ℤ) → is_negative_number lateness ≡ false → lateness_within lateness ≡ true → is_lateness (lateness_or_zero lateness) ≡ true
entry_late None e h = zero_late
entry_late (Some n) e h = given_late n e h

either_late : (b : Bool) (n m : ℤ) → is_lateness n ≡ true → is_lateness m ≡ true → is_lateness (cond b n m) ≡ true
either_late true n m h k = h
either_late false n m h k = k

body_late : (types rules : ℕ) (known : List (List ℕ)) (b : Body) (name : List ℕ) (others : ℤ) → exceeds_limit_behind types rules known b ≡ false → has_bad_params b ≡ false
    → is_lateness others ≡ true → is_lateness (lateness_with b name others) ≡ true
body_late types rules known (body.Entry declared lateness) name others e f h =
    let span = not_and_right (has_few_entries known (body.Entry declared lateness) && is_entry_name declared) (lateness_within lateness) e in
    either_late (bytes_eq declared name) (lateness_or_zero lateness) others (entry_late lateness f span) h
body_late types rules known (body.Rule r) name others e f h = h
body_late types rules known (body.Declare t) name others e f h = h
body_late types rules known (body.Package p) name others e f h = h
body_late types rules known (body.Import p s) name others e f h = h
body_late types rules known (body.Dialect d) name others e f h = h

pub late : (all before items : List Item) → AllPass all before items → (name : List ℕ) → is_lateness (lateness_named items name) ≡ true
unfolding lateness_named
late all before [] p name = zero_late
late all before (item ∷ items) p name =
    body_late (length (types_of before)) (length (rules_of before)) (entry_names before) item.body name (lateness_named items name) (p.0 LimitPassed) (p.0 BadParams) (late all (before ++ item ∷ []) items p.1 name)

pub all_late : (items : List Item) (names : List (List ℕ)) → ((name : List ℕ) → is_lateness (lateness_named items name) ≡ true) → list_all has_lateness (map (entry_info items) names) ≡ true
unfolding is_lateness
all_late items [] h = refl
all_late items (name ∷ names) h = and_from (is_lateness (lateness_named items name)) (list_all has_lateness (map (entry_info items) names)) (h name) (all_late items names h)

-- ---- times are from 1 to 2^53 ms

unfoldable pub is_time : ℤ → Bool
is_time n = int_le (pos 1) n && int_le n most_millis

from_one : (n : ℕ) → int_lt (pos n) (pos 1) ≡ false → int_le (pos 1) (pos n) ≡ true
from_one n e = grind (arith, nat_tests, ints)

pub given_time : (n : ℤ) → int_lt n (pos 1) ≡ false → nat_le (unsigned_abs n) span_limit ≡ true → is_time n ≡ true
unfolding is_time most_millis span_limit
given_time (pos n) e h = and_from (int_le (pos 1) (pos n)) (int_le (pos n) most_millis) (from_one n e) h
given_time (negsuc n) e h = absurd cc

-- ---- conditions are few, and there are some

some : (n : ℕ) → nat_lt 0 n ≡ true → nat_le 1 n ≡ true
some n e = grind (arith, nat_tests)

-- a rule within the limits has few conditions, and one at least
pub conditions_sound : (types : List TypeTree) (entries : List (List ℕ)) (r : RuleTree) → rule_within r ≡ true
    → has_conditions (rule_of types entries r) ≡ true
conditions_sound types entries r e =
    let n = length r.conditions in
    let tests = list_all condition_within r.conditions in
    let before = nat_lt 0 (length r.name) && is_name_short 256 r.name && list_all attr_within r.attrs in
    let all = and_first (before && nat_lt 0 n && nat_le n 8 && tests) (actions_within r.actions) e in
    let front = and_first (before && nat_lt 0 n && nat_le n 8) tests all in
    let few : nat_le n 8 ≡ true = and_second (before && nat_lt 0 n) (nat_le n 8) front in
    let one : nat_lt 0 n ≡ true = and_second before (nat_lt 0 n) (and_first (before && nat_lt 0 n) (nat_le n 8) front) in
    rw (one_for_each types entries begin r.conditions) (and_from (nat_le 1 n) (nat_le n 8) (some n one) few)

-- and few actions
pub actions_sound : (types : List TypeTree) (entries : List (List ℕ)) (r : RuleTree) → rule_within r ≡ true
    → has_few_actions (rule_of types entries r) ≡ true
actions_sound types entries r e =
    let n = length r.actions in
    let front = nat_lt 0 (length r.name) && is_name_short 256 r.name && list_all attr_within r.attrs && nat_lt 0 (length r.conditions) && nat_le (length r.conditions) 8 && list_all condition_within r.conditions in
    let few : nat_le n 16 ≡ true = and_first (nat_le n 16) (list_all action_within r.actions) (and_second front (actions_within r.actions) e) in
    rw (length-map r.actions (action_of types (sight_of_actions types r.conditions))) few

-- ---- what is so of each rule within the limits is so of all rules of an accepted file

module _ (types : List TypeTree) (entries : List (List ℕ)) (test : Rule → Bool) (sound : (r : RuleTree) → rule_within r ≡ true → test (rule_of types entries r) ≡ true) where
  body_sound : (n m : ℕ) (known : List (List ℕ)) (b : Body) (rest : List RuleTree) → exceeds_limit_behind n m known b ≡ false → list_all test (map (rule_of types entries) rest) ≡ true
      → list_all test (map (rule_of types entries) (rule_in b ++ rest)) ≡ true
  body_sound n m known (body.Rule r) rest e h =
      let inside = not_and_right (nat_lt m 256 && has_few_entries known (body.Rule r)) (rule_within r) e in
      and_from (test (rule_of types entries r)) (list_all test (map (rule_of types entries) rest)) (sound r inside) h
  body_sound n m known (body.Declare t) rest e h = h
  body_sound n m known (body.Package p) rest e h = h
  body_sound n m known (body.Import p s) rest e h = h
  body_sound n m known (body.Dialect d) rest e h = h
  body_sound n m known (body.Entry a l) rest e h = h

  pub all_sound : (all before items : List Item) → AllPass all before items → list_all test (map (rule_of types entries) (rules_of items)) ≡ true
  all_sound all before [] p = refl
  all_sound all before (item ∷ items) p =
      body_sound (length (types_of before)) (length (rules_of before)) (entry_names before) item.body (rules_of items) (p.0 LimitPassed) (all_sound all (before ++ item ∷ []) items p.1)
