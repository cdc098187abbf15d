-- The node at the top of an expression, and the tree that it is.
use Rattle.drl_expr.specs.{Tree.{Tree, lit, var, var_field, neg, add, sub, mul}, declared.tree.Node.{Node, TheVariants.{Lit, Var, VarField, Neg, Add, Sub}}}
use Rattle.drl_expr.specs.declared.tree.Node.TheVariants.{Mul}

-- a node, whose children are trees already
abbrev pub tree_of : Node → Tree
tree_of (Lit v) = lit v
tree_of (Var s) = var s
tree_of (VarField s f) = var_field s f
tree_of (Neg a) = neg a.value
tree_of (Add a b) = add a.value b.value
tree_of (Sub a b) = sub a.value b.value
tree_of (Mul a b) = mul a.value b.value
