-- The operands of a pattern, and the leaves of expressions.
use Rattle.std.specs.{Prelude.{ℕ, ◌||◌, Bool, false, List}, List.{list_any}}
use Rattle.drl_expr.specs.Tree.{Tree, lit, var, var_field, neg, add, sub, mul}
use Rattle.drl_grammar.specs.declared.action.ActTree.{ActTree}
use Rattle.drl_grammar.specs.declared.action.ActTree.TheVariants as action
use Rattle.drl_grammar.specs.declared.condition.Part.{Part}
use Rattle.drl_grammar.specs.declared.condition.Part.TheVariants as part
use Rattle.drl_grammar.specs.declared.condition.Cmp.{Cmp}
use Rattle.drl_grammar.specs.declared.condition.Cmp.TheVariants as cmp
use Rattle.drl_grammar.specs.declared.condition.Operand.{Operand}

-- whether one of the operands of a comparison, of a part of a pattern has this; a binding and a temporal test have none
abbrev pub any_of_cmp : (Operand → Bool) → Cmp → Bool
any_of_cmp test (cmp.Rel f r o) = test o
any_of_cmp test (cmp.OneOf f os) = list_any test os

abbrev pub any_of_part : (Operand → Bool) → Part → Bool
any_of_part test (part.Bind v f) = false
any_of_part test (part.Temporal op params other) = false
any_of_part test (part.AnyOf groups) = list_any (λ (group : List Cmp). list_any (any_of_cmp test) group) groups

-- whether one of the leaves of an expression, of the expressions of an action has this
abbrev pub any_leaf : (Tree → Bool) → Tree → Bool
any_leaf test (lit l) = test (lit l)
any_leaf test (var v) = test (var v)
any_leaf test (var_field v f) = test (var_field v f)
any_leaf test (neg a) = any_leaf test a
any_leaf test (add a b) = any_leaf test a || any_leaf test b
any_leaf test (sub a b) = any_leaf test a || any_leaf test b
any_leaf test (mul a b) = any_leaf test a || any_leaf test b

abbrev pub any_leaf_of : (Tree → Bool) → ActTree → Bool
any_leaf_of test (action.Insert ty args) = list_any (any_leaf test) args
any_leaf_of test (action.Modify v sets) = list_any (λ (set : List ℕ × Tree). any_leaf test set.1) sets
any_leaf_of test (action.Retract v) = false
