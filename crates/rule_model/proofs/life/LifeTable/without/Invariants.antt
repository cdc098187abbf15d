use Rattle.rule_model.{proofs.Common.{◌≡◌, map, take}, specs.Lives.{endless_life}}
use Rattle.rule_model.proofs.life.LifeTable.without.Given as goal

abbrev pub invariant-loop-ty : goal.invariant-loop-ty
invariant-loop-ty l = l.lives.items ≡ map endless_life (take l.ty-index l.ty-items)
