use Rattle.kept_meaning.proofs.Versions.{lost, forgotten_fact}
use Rattle.kept_meaning.proofs.laws.what_is_not_kept_is_forgotten.Goals as goal

pub returns-clause-named : goal.returns-clause-named
returns-clause-named c p table w who e = let g = lost p table w who e in (g.fact, g.inside, g.named, g.not_kept)

pub returns-clause-fact : goal.returns-clause-fact
returns-clause-fact c = forgotten_fact
