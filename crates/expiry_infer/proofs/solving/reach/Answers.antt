use Rattle.expiry_infer.proofs.{Common.{◌∷◌, [], subst, edges_of_conditions, IsSolved, placed, reached}, Reaching.{unsolvable, bound_here}}
use Rattle.expiry_infer.proofs.solving.reach.Goals as goal

pub returns-in-Some-clause-reach : goal.returns-in-Some-clause-reach
returns-in-Some-clause-reach c first second at_i at_j =
    let p = c.args.program.now in
    let conditions = c.args.conditions.now in
    let edges = edges_of_conditions p conditions (c.args.i ∷ c.args.j ∷ []) 0 conditions in
    let solved = subst (IsSolved edges) c.in-Some.is c.in_ok-minimal.ensures in
    reached p conditions (placed c.args.i first) (placed c.args.j second) c.bound.result c.requires.network.named at_i at_j
    (bound_here edges c.in-Some.minimal _ _ _ _ c.bound.result solved c.start.ensures c.end.ensures c.bound.ensures.greatest)

pub returns-in-None-clause-reach : goal.returns-in-None-clause-reach
returns-in-None-clause-reach c first second at_i at_j =
    let p = c.args.program.now in
    let conditions = c.args.conditions.now in
    let edges = edges_of_conditions p conditions (c.args.i ∷ c.args.j ∷ []) 0 conditions in
    unsolvable p conditions (c.args.i ∷ c.args.j ∷ []) c.requires.network.few c.requires.network.named (subst (IsSolved edges) c.in-None.is c.in_ok-minimal.ensures)
