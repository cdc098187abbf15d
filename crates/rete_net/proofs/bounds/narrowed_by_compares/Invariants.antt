use Rattle.rete_net.proofs.Common.{◌&&◌, Bool, Fact, take, unbound, compares_hold, AreWithin}
use Rattle.rete_net.proofs.bounds.narrowed_by_compares.Given as goal

abbrev pub invariant-loop-compare : goal.invariant-loop-compare
invariant-loop-compare l = (pass : Fact → Bool) → AreWithin l.fn.range pass → AreWithin l.narrowed (λ f. pass f && compares_hold unbound f (take l.compare-index l.compares))
