use Rattle.rete_net.proofs.Unmissed.{clean_rows_less}
use Rattle.rete_net.proofs.laws.no_clean_row_misses_a_forgotten_fact.Goals as goal

pub returns : goal.returns
returns c p s forgotten f tags unmissed rule in_rules row = clean_rows_less p s forgotten f tags unmissed rule in_rules row
