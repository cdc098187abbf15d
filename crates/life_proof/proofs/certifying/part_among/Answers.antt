use Rattle.{life_proof.proofs.Common.{◌∙◌, ◌∷◌, [], All-same, edges_for, IsSmallEdge}, life_edges.proofs.Fitting.{all_small}}
use Rattle.life_proof.proofs.certifying.part_among.Goals as goal

pub solve-requires-clause-small : goal.solve-requires-clause-small
solve-requires-clause-small c =
    let p = c.args.program.now in
    let conditions = c.args.conditions.now in
    let asked = c.args.asked.now in
    All-same IsSmallEdge c.deref.result.now (edges_for p conditions asked.from asked.to) (c.deref.ensures.value ∙ c.in_ok-edges.ensures)
    (all_small p conditions (asked.from ∷ asked.to ∷ []) c.requires.network.few c.requires.network.operators c.requires.network.named)
