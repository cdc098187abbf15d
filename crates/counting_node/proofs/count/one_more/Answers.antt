use Rattle.counting_node.proofs.{Common.{◌≡◌, subst, ◌+◌, arith, with_one, IsNumber}, Counting.{number_more}}
use Rattle.counting_node.proofs.count.one_more.Goals as goal

pub returns-in-Some : goal.returns-in-Some
returns-in-Some c set who is absent =
    let e : c.args.count + 1 ≡ c.in-Some.now = grind (arith, c.in-Some.ensures) in
    subst (IsNumber (with_one set who)) e (number_more set c.args.count who is absent)
