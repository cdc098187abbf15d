-- Expressions without their boxes.
use Rattle.std.specs.Prelude.{ℕ, ◌+◌, max, List}
use Rattle.drl_expr.specs.declared.literal.LitTree.{LitTree}

pub data Tree : Type 0 where
  lit : LitTree → Tree
  var : List ℕ → Tree
  var_field : List ℕ → List ℕ → Tree
  neg : Tree → Tree
  add : Tree → Tree → Tree
  sub : Tree → Tree → Tree
  mul : Tree → Tree → Tree

-- a literal or a variable has height 1, and each operator adds 1
abbrev pub height : Tree → ℕ
height (lit v) = 1
height (var s) = 1
height (var_field s f) = 1
height (neg a) = height a + 1
height (add a b) = max (height a) (height b) + 1
height (sub a b) = max (height a) (height b) + 1
height (mul a b) = max (height a) (height b) + 1
