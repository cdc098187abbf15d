use Rattle.counting_node.proofs.{Common.{◌≡◌, ◌∙◌, sym, ap, arith, w64, to_z, of_z, ints, insert_rising, argument_given, argument_of}, Gathering.{gathers_more}}
use Rattle.counting_node.proofs.gathered.GatheredTally.add.Goals as goal

pub returns : goal.returns
returns g c world agree set is absent =
    let whole : to_z w64 (of_z w64 c.taken_of.result) ≡ c.taken_of.result = omega (arith, ints) in
    let same : c.taken_of.result ≡ argument_of c.args.plan.now world c.args.who = c.taken_of.ensures ∙ ap (argument_given c.args.plan.now.arg) (sym agree) in
    gathers_more c.args.plan.now world set c.args.self c.in_ok-now.now c.args.who is absent c.in_ok-now.ensures.kind (c.in_ok-now.ensures.values ∙ ap (λ v. insert_rising v c.args.self.values) (whole ∙ same))
