use Rattle.rete_net.proofs.{Common.{◌&&◌, take, unbound, compare_holds, compares_hold}, Ranged.{within_compares}}
use Rattle.rete_net.proofs.bounds.narrowed_by_compares.Goals as goal

pub loop-compare-preserved : goal.loop-compare-preserved
loop-compare-preserved c pass within =
    let compares = c.args.compares.now in let i = c.loop-compare.compare-index in let x = c.compare-item.result in
    within_compares c.both-narrowed.result pass compares i x c.loop-compare-test.true c.compare-item.is
    (c.both-narrowed.ensures (λ f. pass f && compares_hold unbound f (take i compares)) (λ f. compare_holds unbound f x) (c.loop-compare.invariant pass within) c.of_compare.ensures)
