use Rattle.pattern_gate.proofs.Fronts.{gate_of_all}
use Rattle.pattern_gate.proofs.laws.a_gate_needs_what_its_window_does_not_let_be.Goals as goal

pub returns : goal.returns
returns c p q gate s t is also has stands = gate_of_all p q s t is.in_order also.in_order has gate stands
