-- What earlier checks have told of a rule's network, and what an accepted file's rules have.
use Rattle.drl_check.proofs.Common.{◌≡◌, ◌≤◌, ◌++◌, ◌∷◌, ◌&&◌, ℕ, Bool, true, false, not, nat_le, nat_lt, length, List, [], map, ap, arith, All, list_all}
use Rattle.drl_check.proofs.Common.{map-append, All-nil, All-cons, All-same, Body, File, Item, RuleTree, TypeTree, Program, Rule, AreSolvable, HaveNetwork}
use Rattle.drl_check.proofs.Common.{types_of, rules_of, rule_in, entry_names, is_name_short, begin, rule_within, condition_within, actions_within, attr_within}
use Rattle.drl_check.proofs.Common.{has_few_entries, exceeds_limit_behind, conditions_meant, program_of, rule_of, each_has_operator, one_for_each}
use Rattle.drl_check.proofs.Common.{any_condition, has_unknown_type, has_unknown_variable, has_wrong_kind, CheckCode, LimitPassed, UnknownType, UnknownVariable}
use Rattle.drl_check.proofs.Common.{WrongKind, NeverMatches, lacks_type, lacks_variable, is_wrong_kind, fails, AllPass, IsAcceptedFile, HasFewConditions}
use Rattle.{drl_check.proofs.Common.{HasNetwork}, std.{proofs.lemmas.Bool.{leb-true}, specs.Bool.{Decides}}}
use Rattle.drl_grammar.specs.declared.file.Body.TheVariants as body
use Rattle.{expiry_infer.{specs.Solvable.{can_match}, proofs.Matching.{can_match_is_exact}}, drl_check.proofs.{Named.{rule_named}, Sound.{not_and_right}}}
use Rattle.fx_base.proofs.Tests.{and_first, and_second, or_first_false}

-- ---- what earlier checks have told

pub few_conditions : (types rules : ℕ) (known : List (List ℕ)) (b : Body) → exceeds_limit_behind types rules known b ≡ false → HasFewConditions b
few_conditions types rules known (body.Rule r) e =
    let n = length r.conditions in
    let tests = list_all condition_within r.conditions in
    let before = nat_lt 0 (length r.name) && is_name_short 256 r.name && list_all attr_within r.attrs in
    let inside = not_and_right (nat_lt rules 256 && has_few_entries known (body.Rule r)) (rule_within r) e in
    leb-true n 8 (and_second (before && nat_lt 0 n) (nat_le n 8) (and_first (before && nat_lt 0 n && nat_le n 8) tests (and_first (before && nat_lt 0 n && nat_le n 8 && tests) (actions_within r.actions) inside)))
few_conditions types rules known (body.Package p) e = tt
few_conditions types rules known (body.Import p s) e = tt
few_conditions types rules known (body.Dialect d) e = tt
few_conditions types rules known (body.Declare t) e = tt
few_conditions types rules known (body.Entry n l) e = tt

pub network_of_rule : (types : List TypeTree) (entries : List (List ℕ)) (r : RuleTree) → length r.conditions ≤ 8 → lacks_type types (body.Rule r) ≡ false → lacks_variable types (body.Rule r) ≡ false
    → is_wrong_kind types (body.Rule r) ≡ false → HaveNetwork (conditions_meant types entries begin r.conditions)
network_of_rule types entries r few u e k = record {
  few = omega (arith, few, one_for_each types entries begin r.conditions);
  operators = each_has_operator types entries begin r.conditions;
  named =
      rule_named types entries r.conditions (or_first_false (has_unknown_type types r.conditions) _ u) (or_first_false (any_condition has_unknown_variable types begin r.conditions) _ e)
      (or_first_false (any_condition (has_wrong_kind types) types begin r.conditions) _ k);
}

pub has_network : (types : List TypeTree) (b : Body) → HasFewConditions b → lacks_type types b ≡ false → lacks_variable types b ≡ false → is_wrong_kind types b ≡ false → HasNetwork types b
has_network types (body.Rule r) few u e k = network_of_rule types [] r few u e k
has_network types (body.Package p) few u e k = tt
has_network types (body.Import p s) few u e k = tt
has_network types (body.Dialect d) few u e k = tt
has_network types (body.Declare t) few u e k = tt
has_network types (body.Entry n l) few u e k = tt

-- ---- a rule that can match

turned : (b : Bool) {A : Type 0} → Decides b A → Decides (not (not b)) A
turned true d = d
turned false d = d

abbrev program : List Item → Program
program all = program_of (record { items = all })

abbrev rule : List Item → RuleTree → Rule
rule all r = rule_of (types_of all) (entry_names all) r

-- whether the tests of a rule's patterns contradict one another, where the checks of what they name are passed
pub never_matches_is_exact : (all before : List Item) (r : RuleTree) → fails LimitPassed all before (body.Rule r) ≡ false → fails UnknownType all before (body.Rule r) ≡ false
    → fails UnknownVariable all before (body.Rule r) ≡ false → fails WrongKind all before (body.Rule r) ≡ false
    → Decides (not (fails NeverMatches all before (body.Rule r))) (AreSolvable (program all) (rule all r).conditions)
never_matches_is_exact all before r l u v w =
    turned (can_match (program all) (rule all r).conditions)
    (can_match_is_exact (program all) (rule all r).conditions
    (network_of_rule (types_of all) (entry_names all) r (few_conditions (length (types_of before)) (length (rules_of before)) (entry_names before) (body.Rule r) l) u v w))

abbrev CanMatch : Program → Rule → Type 0
CanMatch p rule = AreSolvable p rule.conditions

body_matches : (all before : List Item) (b : Body) (rest : List Rule) → ((code : CheckCode) → fails code all before b ≡ false) → All (CanMatch (program all)) rest
    → All (CanMatch (program all)) (map (rule all) (rule_in b) ++ rest)
body_matches all before (body.Rule r) rest passes h =
    All-cons (CanMatch (program all)) (rule all r) rest
    ((never_matches_is_exact all before r (passes LimitPassed) (passes UnknownType) (passes UnknownVariable) (passes WrongKind)).0 (ap not (passes NeverMatches))) h
body_matches all before (body.Package p) rest passes h = h
body_matches all before (body.Import p s) rest passes h = h
body_matches all before (body.Dialect d) rest passes h = h
body_matches all before (body.Declare t) rest passes h = h
body_matches all before (body.Entry n l) rest passes h = h

all_match : (all before items : List Item) → AllPass all before items → All (CanMatch (program all)) (map (rule all) (rules_of items))
all_match all before [] p = All-nil (CanMatch (program all))
all_match all before (item ∷ items) p =
    All-same (CanMatch (program all)) (map (rule all) (rule_in item.body ++ rules_of items)) _ (map-append (rule all) (rule_in item.body) (rules_of items))
    (body_matches all before item.body (map (rule all) (rules_of items)) p.0 (all_match all (before ++ item ∷ []) items p.1))

pub accepted_match : (file : File) → IsAcceptedFile file → All (CanMatch (program_of file)) (program_of file).rules
accepted_match file a = all_match file.items [] file.items a
