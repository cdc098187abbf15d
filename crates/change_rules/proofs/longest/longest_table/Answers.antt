use Rattle.change_rules.proofs.{Common.{Life, LifeTable, List, [], ap, ap₂, arith, ◌++◌, ◌∙◌, ◌∷◌}, Lasting.{all_lasting, one_lasting}}
use Rattle.{change_rules.specs.Longest.{longest_lives}, rule_model.specs.declared.life.Life.TheVariants.{Plain}}
use Rattle.change_rules.proofs.longest.longest_table.Goals as goal

pub loop-place-preserved : goal.loop-place-preserved
loop-place-preserved c =
    let upto = c.min-place-end.ensures in
    one_lasting c.args.other.now.types c.args.needs.now c.as_slice-types.result.now c.as_slice-owns.result.now c.loop-place.lives.items c.loop-place.place
    c.index-types-place.result Plain c.push.new.self.items (omega (arith, upto)) (omega (arith, upto))
    (c.in_ok-push.ensures.items ∙ ap (λ (life : Life). c.loop-place.lives.items ++ life ∷ []) c.longest_life.ensures) c.loop-place.invariant

abbrev table_of : List Life → LifeTable
table_of lives = record { lives = lives }

pub returns : goal.returns
returns c =
    let upto = c.min-place-end.ensures in
    ap table_of (c.from_vec.ensures
    ∙ all_lasting c.args.other.now.types c.args.needs.now c.as_slice-types.result.now c.as_slice-owns.result.now c.loop-place.lives.items c.loop-place.place
    (omega (arith, upto)) c.loop-place.invariant
    ∙ ap₂ (longest_lives c.args.other.now.types c.args.needs.now) c.as_slice-types.ensures c.as_slice-owns.ensures)
