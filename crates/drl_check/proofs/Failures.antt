-- The first failure of a list of items, read from its front.
use Rattle.drl_check.proofs.Common.{◌≡◌, ◌+◌, ◌++◌, ◌∷◌, ◌<◌, ◌≤◌, ℕ, zero, suc, List, [], length, get_or, take, drop, Some, None, refl, sym, ap, ◌∙◌}
use Rattle.drl_check.proofs.Common.{append_assoc, add-one, arith, flat_map, append-nil, length-map, length-take-le, map-append, Body, Item, TypeTree, RuleTree}
use Rattle.drl_check.proofs.Common.{Program, CheckCode, types_of, rules_of, type_in, rule_in, type_names, rule_names, entries_named, entries_declared}
use Rattle.drl_check.proofs.Common.{declared_entries, default_name, with_names, entry_names, types_alone, Failure, codes_in_order, first_code, failure_at}
use Rattle.{drl_check.{specs.{Checks.{failure_from}, Failing.{first_failing}}, proofs.Alone.{same_alone}}, drl_scope.specs.Observed.{watched_names}}
use Rattle.{drl_scope.proofs.EntryLemmas.{with_both}, fx_base.proofs.Sequences.{drop_at, drop_past}}

take_suc : {A : Type 0} (all : List A) (k : ℕ) (x : A) → k < length all → x ≡ get_or all k x → take (suc k) all ≡ take k all ++ x ∷ []
take_suc [] k x lt e = absurd (omega (arith, lt))
take_suc (y ∷ all) zero x lt e = ap (λ z. z ∷ []) (sym e)
take_suc (y ∷ all) (suc k) x lt e = let less : k < length all = omega (arith, lt) in ap (λ zs. y ∷ zs) (take_suc all k x less e)

pub take_next : {A : Type 0} (all : List A) (k : ℕ) (x : A) → k < length all → x ≡ get_or all k x → take (k + 1) all ≡ take k all ++ x ∷ []
take_next all k x lt e = rw add-one (take_suc all k x lt e)

pub types_next : (before : List Item) (item : Item) → types_of (before ++ item ∷ []) ≡ types_of before ++ type_in item.body
types_next [] item = append-nil (type_in item.body)
types_next (b ∷ before) item = ap (λ ts. type_in b.body ++ ts) (types_next before item) ∙ sym (append_assoc (type_in b.body) (types_of before) (type_in item.body))

pub rules_next : (before : List Item) (item : Item) → rules_of (before ++ item ∷ []) ≡ rules_of before ++ rule_in item.body
rules_next [] item = append-nil (rule_in item.body)
rules_next (b ∷ before) item = ap (λ rs. rule_in b.body ++ rs) (rules_next before item) ∙ sym (append_assoc (rule_in b.body) (rules_of before) (rule_in item.body))

pub type_names_next : (all : List Item) (k : ℕ) (item : Item) (names : List (List ℕ)) → k < length all → item ≡ get_or all k item → names ≡ type_names (types_of (take k all))
    → names ++ type_names (type_in item.body) ≡ type_names (types_of (take (k + 1) all))
type_names_next all k item names lt e is =
    ap (λ ns. ns ++ type_names (type_in item.body)) is ∙ sym (map-append (λ (t : TypeTree). t.name) (types_of (take k all)) (type_in item.body))
    ∙ ap type_names (sym (types_next (take k all) item)) ∙ ap (λ items. type_names (types_of items)) (sym (take_next all k item lt e))

pub rule_names_next : (all : List Item) (k : ℕ) (item : Item) (names : List (List ℕ)) → k < length all → item ≡ get_or all k item → names ≡ rule_names (rules_of (take k all))
    → names ++ rule_names (rule_in item.body) ≡ rule_names (rules_of (take (k + 1) all))
rule_names_next all k item names lt e is =
    ap (λ ns. ns ++ rule_names (rule_in item.body)) is ∙ sym (map-append (λ (r : RuleTree). r.name) (rules_of (take k all)) (rule_in item.body))
    ∙ ap rule_names (sym (rules_next (take k all) item)) ∙ ap (λ items. rule_names (rules_of items)) (sym (take_next all k item lt e))

pub declared_next : (before : List Item) (item : Item) → declared_entries (before ++ item ∷ []) ≡ declared_entries before ++ entries_declared item.body
declared_next [] item = append-nil (entries_declared item.body)
declared_next (b ∷ before) item = ap (λ ns. entries_declared b.body ++ ns) (declared_next before item) ∙ sym (append_assoc (entries_declared b.body) (declared_entries before) (entries_declared item.body))

pub entries_next : (all : List Item) (k : ℕ) (item : Item) (names : List (List ℕ)) → k < length all → item ≡ get_or all k item → names ≡ declared_entries (take k all)
    → names ++ entries_declared item.body ≡ declared_entries (take (k + 1) all)
entries_next all k item names lt e is =
    ap (λ ns. ns ++ entries_declared item.body) is ∙ sym (declared_next (take k all) item) ∙ ap declared_entries (sym (take_next all k item lt e))

-- ---- entry points that are known

all_named : List Item → List (List ℕ)
all_named items = flat_map (λ (item : Item). entries_named item.body) items

named_next : (before : List Item) (item : Item) → all_named (before ++ item ∷ []) ≡ all_named before ++ entries_named item.body
unfolding all_named
named_next [] item = append-nil (entries_named item.body)
named_next (b ∷ before) item = ap (λ ns. entries_named b.body ++ ns) (named_next before item) ∙ sym (append_assoc (entries_named b.body) (all_named before) (entries_named item.body))

pub known_next : (before : List Item) (item : Item) → entry_names (before ++ item ∷ []) ≡ with_names (entry_names before) (entries_named item.body)
unfolding all_named
known_next before item = ap (with_names (default_name ∷ [])) (named_next before item) ∙ with_both (default_name ∷ []) (all_named before) (entries_named item.body)

pub known_names_next : (all : List Item) (k : ℕ) (item : Item) (known more : List (List ℕ)) → k < length all → item ≡ get_or all k item → known ≡ entry_names (take k all)
    → more ≡ with_names known (entries_named item.body) → more ≡ entry_names (take (k + 1) all)
known_names_next all k item known more lt e is new =
    new ∙ ap (λ ns. with_names ns (entries_named item.body)) is ∙ sym (known_next (take k all) item) ∙ ap entry_names (sym (take_next all k item lt e))

-- ---- what an item fails

pub failing_is : (all before : List Item) (alone : Program) (declared : List TypeTree) (watched types entries rules known : List (List ℕ)) (b : Body) → alone ≡ types_alone (types_of all) → declared ≡ types_of all → watched ≡ watched_names all → types ≡ type_names (types_of before)
    → entries ≡ declared_entries before → rules ≡ rule_names (rules_of before) → known ≡ entry_names before → first_failing alone declared watched types entries rules known b ≡ first_code codes_in_order all before b
failing_is all before alone declared watched types entries rules known b a d w t e r k =
    rw (a, d, w, t, e, r, k, length-map (types_of before) (λ (t : TypeTree). t.name), length-map (rules_of before) (λ (r : RuleTree). r.name), same_alone all b) refl

-- ---- one item

abbrev failure : ℕ → ℕ → CheckCode → Failure
failure number line code = record { number = number; line = line; code = code }

pub loop_found : (all : List Item) (k : ℕ) (item : Item) (code : CheckCode) → k < length all → item ≡ get_or all k item → first_code codes_in_order all (take k all) item.body ≡ Some code
    → failure_from all (take k all) (drop k all) ≡ Some (failure (k + 1) item.line code)
unfolding failure_from
loop_found all k item code lt e h =
    let n : length (take k all) ≡ k = length-take-le k all (omega (arith, lt)) in
    ap (failure_from all (take k all)) (drop_at all k item lt e)
    ∙ ap (λ o. failure_at (length (take k all) + 1) item.line o (failure_from all (take k all ++ item ∷ []) (drop (k + 1) all))) h
    ∙ ap (λ j. Some (failure (j + 1) item.line code)) n

pub loop_passed : (all : List Item) (k : ℕ) (item : Item) → k < length all → item ≡ get_or all k item → first_code codes_in_order all (take k all) item.body ≡ None
    → failure_from all (take k all) (drop k all) ≡ failure_from all (take (k + 1) all) (drop (k + 1) all)
unfolding failure_from
loop_passed all k item lt e h =
    ap (failure_from all (take k all)) (drop_at all k item lt e)
    ∙ ap (λ o. failure_at (length (take k all) + 1) item.line o (failure_from all (take k all ++ item ∷ []) (drop (k + 1) all))) h
    ∙ ap (λ before. failure_from all before (drop (k + 1) all)) (sym (take_next all k item lt e))

pub loop_ended : (all before : List Item) (k : ℕ) → length all ≤ k → failure_from all before (drop k all) ≡ None
unfolding failure_from
loop_ended all before k le = ap (failure_from all before) (drop_past all k le)
