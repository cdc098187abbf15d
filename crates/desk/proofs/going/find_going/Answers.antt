use Rattle.desk.proofs.Goings.{goes_on_by}
use Rattle.desk.proofs.going.find_going.Goals as goal

pub returns-in-Ok-clause-goes : goal.returns-in-Ok-clause-goes
returns-in-Ok-clause-goes c = goes_on_by c.args.begun c.in-Ok.found c.in-Ok.ensures.found
