-- The names of the variables that conditions bind to facts and to results. A condition that binds a fact or a result without a variable has
-- its place among them, and no name.
use Rattle.std.specs.{Prelude.{ℕ, ◌++◌, List, [], ◌∷◌, map, Option, option_map, codes}, List.{flat_map}}
use Rattle.drl_grammar.specs.declared.{condition.CondTree.{CondTree, TheVariants.{Plain, Negated, Existing, Folded}}, file.{File.{File}, RuleTree.{RuleTree}}}
use Rattle.drl_scope.specs.Declarations.{rules_of}
use Rattle.drl_names.specs.declared.rule_names.RuleNames.{RuleNames}

-- a variable as a rule file writes it
abbrev pub written : List ℕ → List ℕ
written name = codes "$" ++ name

-- what a pattern binds its fact to; the other conditions bind no fact
abbrev pub fact_name : CondTree → List (Option (List ℕ))
fact_name (Plain s) = option_map written s.var ∷ []
fact_name (Negated s) = []
fact_name (Existing s) = []
fact_name (Folded result s kind arg tests) = []

-- what an accumulate binds its result to; the other conditions have no result
abbrev pub result_name : CondTree → List (Option (List ℕ))
result_name (Plain s) = []
result_name (Negated s) = []
result_name (Existing s) = []
result_name (Folded result s kind arg tests) = option_map written result ∷ []

abbrev pub names_of_rule : RuleTree → RuleNames
names_of_rule r = record { facts = flat_map fact_name r.conditions; results = flat_map result_name r.conditions }

-- of each rule of a file, in their order
abbrev pub names_of : File → List RuleNames
names_of file = map names_of_rule (rules_of file.items)
