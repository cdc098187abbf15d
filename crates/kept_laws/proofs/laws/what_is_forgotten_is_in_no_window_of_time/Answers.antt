use Rattle.kept_laws.proofs.Windows.{in_no_window}
use Rattle.kept_laws.proofs.laws.what_is_forgotten_is_in_no_window_of_time.Goals as goal

pub returns : goal.returns
returns given p table w are law f inside lost rule in_rules c in_c span at s from = in_no_window p table w are law f inside lost rule in_rules c in_c span at s from
