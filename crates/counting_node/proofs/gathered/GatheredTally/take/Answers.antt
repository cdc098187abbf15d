use Rattle.counting_node.proofs.{Common.{◌≡◌, ◌∙◌, sym, ap, arith, w64, to_z, of_z, ints, insert_rising, argument_given, argument_of}, Gathering.{gathers_less}}
use Rattle.counting_node.proofs.gathered.GatheredTally.take.Goals as goal

pub returns : goal.returns
returns g c world agree set is present =
    let whole : to_z w64 (of_z w64 c.taken_of.result) ≡ c.taken_of.result = omega (arith, ints) in
    let same : c.taken_of.result ≡ argument_of c.args.plan.now world c.args.who = c.taken_of.ensures ∙ ap (argument_given c.args.plan.now.arg) (sym agree) in
    gathers_less c.args.plan.now world set c.args.self c.without_value.result c.args.who is present c.without_value.ensures.kind
    (λ rest e. c.without_value.ensures.values rest (e ∙ ap (λ v. insert_rising v rest) (sym (whole ∙ same))))
