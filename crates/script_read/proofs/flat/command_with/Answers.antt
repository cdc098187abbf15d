use Rattle.script_read.proofs.{Common.{◌≡◌, Ok, asks, asked}, AskedLaws.{answer_ok}}
use Rattle.script_read.proofs.flat.command_with.Goals as goal

pub returns-in-Some-clause-ok : goal.returns-in-Some-clause-ok
returns-in-Some-clause-ok c =
    let says : asked c.args.line.now ≡ asks c.in-Some.found = rw c.in-Some.is at c.in_ok-found.ensures in answer_ok c.args.line.now (Ok c.in-Some.found) says
