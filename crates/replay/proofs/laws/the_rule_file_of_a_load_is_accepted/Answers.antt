use Rattle.replay.proofs.LoadFile.{load_file_accepted}
use Rattle.replay.proofs.laws.the_rule_file_of_a_load_is_accepted.Goals as goal

pub returns : goal.returns
returns c = load_file_accepted
