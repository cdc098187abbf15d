use Rattle.candidate_source.proofs.{Common.{refl}, Growing.{node_put}}
use Rattle.candidate_source.proofs.sources.Sources.put_node.Goals as goal

pub returns-clause-apart : goal.returns-clause-apart
returns-clause-apart c apart there = node_put c.args.self.now _ c.args.source c.in_ok-push.ensures.items refl refl there apart
