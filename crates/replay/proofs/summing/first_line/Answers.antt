use Rattle.replay.proofs.{Common.{length, arith, drop_all, take_rest}, Counted.{line_at, one_line}}
use Rattle.replay.proofs.summing.first_line.Goals as goal

pub returns-in-Some-clause-lines : goal.returns-in-Some-clause-lines
returns-in-Some-clause-lines c = rw take_rest (line_at c.args.text.now c.in-Some.end (rw c.in-Some.is at c.memchr.ensures))

pub returns-in-None-clause-lines : goal.returns-in-None-clause-lines
returns-in-None-clause-lines c = rw (take_rest, drop_all (length c.args.text.now) c.args.text.now (omega arith)) (one_line c.args.text.now c.requires (rw c.in-None.is at c.memchr.ensures))
