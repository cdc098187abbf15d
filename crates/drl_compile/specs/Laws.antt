-- What the program of a file has, whatever the file is.
use Rattle.std.specs.{Prelude.{◌≡◌, ◌≤◌, ℕ, ◌&&◌, Bool, true, List, length, is_some}, List.{list_all}}
use Rattle.drl_grammar.specs.declared.{condition.CondTree.{CondTree}, file.{File.{File}, RuleTree.{RuleTree}, TypeTree.{TypeTree}}}
use Rattle.drl_scope.specs.{Declarations.{types_of, rules_of, type_names, type_tree_named}, EntryPoints.{source_of}, Names.{are_distinct}, Sight.{Place}}
use Rattle.rule_model.specs.{Rows.{HaveOperators}, Simple.{is_observed_in}, Types.{is_event, is_observed}}
use Rattle.drl_compile.specs.Programs.{conditions_meant, program_of}

-- the type of the pattern is declared
abbrev pub has_type : List TypeTree → CondTree → Bool
has_type types c = is_some (type_tree_named types (source_of c).ty)

abbrev pub has_types : List TypeTree → RuleTree → Bool
has_types types r = list_all (has_type types) r.conditions

-- each condition of a rule is one of the program
abbrev pub OneForEach : Type 0
OneForEach = (types : List TypeTree) (entries : List (List ℕ)) (place : Place) (cs : List CondTree)
    → length (conditions_meant types entries place cs) ≡ length cs

-- each temporal test of the program has the edges of an operator
abbrev pub EachHasOperator : Type 0
EachHasOperator = (types : List TypeTree) (entries : List (List ℕ)) (place : Place) (cs : List CondTree)
    → HaveOperators (conditions_meant types entries place cs)

-- Where each type is declared once, and each pattern names a declared type, as in every accepted file, a type is flagged as observed
-- exactly where it is one of events and some condition of the program observes its facts.
abbrev pub ObservedAreFlagged : Type 0
ObservedAreFlagged = (file : File) → length (types_of file.items) ≤ 65536 → are_distinct (type_names (types_of file.items)) ≡ true
    → list_all (has_types (types_of file.items)) (rules_of file.items) ≡ true
    → (ty : ℕ) → is_observed (program_of file) ty ≡ (is_event (program_of file) ty && is_observed_in (program_of file).rules ty)
