use Rattle.pattern_gate.proofs.Alike.{same_candidates, same_gate, same_meant, same_window}
use Rattle.pattern_gate.proofs.laws.patterns_that_take_alike_have_one_gate.Goals as goal

pub returns-clause-candidates : goal.returns-clause-candidates
returns-clause-candidates c = same_candidates

pub returns-clause-gate : goal.returns-clause-gate
returns-clause-gate c = same_gate

pub returns-clause-meant : goal.returns-clause-meant
returns-clause-meant c = same_meant

pub returns-clause-window : goal.returns-clause-window
returns-clause-window c = same_window
