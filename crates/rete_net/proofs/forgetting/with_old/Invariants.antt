use Rattle.rete_net.proofs.Common.{◌≡◌, true, take, Some, In, Fact, Named, AreDue, has_place}
use Rattle.rete_net.proofs.forgetting.with_old.Given as goal

abbrev pub invariant-loop-named : goal.invariant-loop-named
invariant-loop-named g l = record {
  put : AreDue l.index l.types.keys l.due.keys;
  seen : (who : Named) (f : Fact) → In who (take l.named-index l.old) → g.F.Facts.map l.facts who.tag ≡ Some f → has_place l.types.keys f.ty.0 ≡ true;
}
