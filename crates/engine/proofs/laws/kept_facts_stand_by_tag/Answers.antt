use Rattle.engine.proofs.Kept.{kept_sorted, kept_members}
use Rattle.engine.proofs.laws.kept_facts_stand_by_tag.Goals as goal

pub returns-clause-order : goal.returns-clause-order
returns-clause-order c p table w = kept_sorted p table w

pub returns-clause-facts : goal.returns-clause-facts
returns-clause-facts c p table w lawful f = kept_members p table w lawful f
