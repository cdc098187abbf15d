use Rattle.change_rules.proofs.{Common.{Life, LifeTable, List, ap, arith, length, ◌∙◌}, Longer.{carried_few, first_is}}
use Rattle.change_rules.proofs.lives.longer_type.Goals as goal

pub first_longer-requires : goal.first_longer-requires
first_longer-requires c =
    let few = carried_few c.args.old.now.types c.args.table.now c.args.new.now.types c.args.own.now.lives in
    let long = ap (λ (lives : List Life). length lives) (c.as_slice-2.ensures ∙ ap (λ (t : LifeTable). t.lives) c.in_ok-kept.ensures) in
    omega (arith, few, long)

pub returns : goal.returns
returns c =
    first_is c.args.old.now c.args.new.now c.args.table.now c.args.own.now c.as_slice.result.now c.as_slice-2.result.now c.as_slice.ensures
    (c.as_slice-2.ensures ∙ ap (λ (t : LifeTable). t.lives) c.in_ok-kept.ensures) c.first_longer.result c.first_longer.ensures
