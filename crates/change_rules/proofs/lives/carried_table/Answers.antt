use Rattle.change_rules.proofs.{Common.{Life, LifeTable, List, [], ap, ap₂, arith, ◌++◌, ◌∙◌, ◌∷◌}, Carried.{all_carried, one_carried}}
use Rattle.{rule_change.specs.Changed.{carried_lives}, rule_model.specs.declared.life.Life.TheVariants.{Plain}}
use Rattle.change_rules.proofs.lives.carried_table.Goals as goal

pub loop-place-preserved : goal.loop-place-preserved
loop-place-preserved c =
    let upto = c.min-place-end.ensures in
    one_carried c.args.old.now.types c.args.table.now c.as_slice-types.result.now c.as_slice-needs.result.now c.loop-place.lives.items c.loop-place.place
    c.index-types-place.result Plain c.push.new.self.items (omega (arith, upto)) (omega (arith, upto))
    (c.in_ok-push.ensures.items ∙ ap (λ (life : Life). c.loop-place.lives.items ++ life ∷ []) c.carried_life.ensures) c.loop-place.invariant

abbrev table_of : List Life → LifeTable
table_of lives = record { lives = lives }

pub returns : goal.returns
returns c =
    let upto = c.min-place-end.ensures in
    ap table_of (c.from_vec.ensures
    ∙ all_carried c.args.old.now.types c.args.table.now c.as_slice-types.result.now c.as_slice-needs.result.now c.loop-place.lives.items c.loop-place.place
    (omega (arith, upto)) c.loop-place.invariant
    ∙ ap₂ (carried_lives c.args.old.now.types c.args.table.now) c.as_slice-types.ensures c.as_slice-needs.ensures)
