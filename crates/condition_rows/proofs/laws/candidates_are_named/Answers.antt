use Rattle.condition_rows.proofs.{Holding.{held_fact}, Joined.{candidate_named, candidates_named}}
use Rattle.condition_rows.proofs.laws.candidates_are_named.Goals as goal

pub returns-clause-held : goal.returns-clause-held
returns-clause-held c = held_fact

pub returns-clause-fact : goal.returns-clause-fact
returns-clause-fact c = candidate_named

pub returns-clause-names : goal.returns-clause-names
returns-clause-names c = candidates_named
