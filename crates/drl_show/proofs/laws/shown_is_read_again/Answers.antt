use Rattle.drl_show.proofs.ReadAgain.{read_again}
use Rattle.drl_show.proofs.laws.shown_is_read_again.Goals as goal

pub returns : goal.returns
returns c = read_again c.args.file.now
