use Rattle.{expiry_infer.proofs.Common.{◌∙◌, edges_of_conditions, all_small}, std.proofs.lemmas.List.Elements.{All-same}}
use Rattle.temporal_net.specs.Networks.{IsSmallEdge}
use Rattle.expiry_infer.proofs.solving.solved.Goals as goal

pub solve-requires-clause-small : goal.solve-requires-clause-small
solve-requires-clause-small c =
    let p = c.args.program.now in
    let conditions = c.args.conditions.now in
    let places = c.args.places.now in
    All-same IsSmallEdge c.deref.result.now (edges_of_conditions p conditions places 0 conditions) (c.deref.ensures.value ∙ c.in_ok-edges.ensures) (all_small p conditions places c.requires.few c.requires.operators c.requires.named)
