use Rattle.load_laws.proofs.Accepted.{accepted}
use Rattle.load_laws.proofs.the_rule_file_is_accepted.Goals as goal

pub returns : goal.returns
returns c = accepted
