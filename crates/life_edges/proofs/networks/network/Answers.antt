use Rattle.life_edges.proofs.{Common.{◌<◌, refl, subst, sym, All, Pattern, TimeTest, bindings, slice_get_read}, Places.{named_here}}
use Rattle.life_edges.proofs.networks.network.Goals as goal

pub add_pattern-requires-clause-named : goal.add_pattern-requires-clause-named
add_pattern-requires-clause-named c =
    let conditions = c.args.conditions.now in
    let here = slice_get_read conditions _ c.loop-place.place c.index-conditions-place.result refl c.loop-place-test.true c.index-conditions-place.is in
    subst (λ (pattern : Pattern). All (λ (test : TimeTest). test.fact < bindings conditions) pattern.times) (sym c.pattern.ensures)
    (named_here conditions c.loop-place.place c.index-conditions-place.result c.requires.named here)
