-- The function that tells whether patterns can match decides whether their network has a solution.
use Rattle.expiry_infer.proofs.Common.{◌≡◌, Bool, true, false, [], List, refl, sym, arith, Decides, Condition, Program, AreSolvable, edges_of_conditions}
use Rattle.expiry_infer.{proofs.{Common.{HaveNetwork, all_among}, Reaching.{solvable, numbered}}, specs.Solvable.{can_match}}
use Rattle.temporal_net.proofs.Potentials.{decided}

pub can_match_is_exact : (p : Program) (conditions : List Condition) → HaveNetwork conditions → Decides (can_match p conditions) (AreSolvable p conditions)
unfolding can_match
can_match_is_exact p conditions h =
    let edges = edges_of_conditions p conditions [] 0 conditions in
    let d = decided 16 edges (omega arith) (all_among p conditions [] h.few h.operators h.named) in
    (λ t. solvable p conditions h.named (d.0 t), λ s. d.1 (numbered p conditions [] h.few h.named s.0 s.1))

pub same_answer : (a b : Bool) {A : Type 0} → Decides a A → Decides b A → a ≡ b
same_answer true b d e = sym (e.1 (d.0 refl))
same_answer false true d e = d.1 (e.0 refl)
same_answer false false d e = refl
