use Rattle.rete_net.proofs.{Common.{sym, subst, List, [], AreOwnedSoFar, Owner}, Owning.{none_owned}}
use Rattle.rete_net.proofs.build.Builder.new.Goals as goal

pub returns-clause-owned : goal.returns-clause-owned
returns-clause-owned c p = subst (λ (owners : List Owner). AreOwnedSoFar p [] owners 0 [] 0) (sym c.new-2.ensures.items) (none_owned p)
