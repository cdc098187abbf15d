use Rattle.drl_scope.proofs.{Common.{◌∙◌, ap, is_some}, NameLemmas.{placed_among}}
use Rattle.drl_scope.proofs.places.Places.holds.Goals as goal

pub returns : goal.returns
returns c = c.is_some.ensures ∙ ap is_some c.find.ensures ∙ placed_among 0 c.args.self.now c.args.name.now
