use Rattle.desk.proofs.going.find_with.Goals as goal

pub returns-in-Some-clause-barred : goal.returns-in-Some-clause-barred
returns-in-Some-clause-barred c = rw (c.in-Some.is, c.in_ok-table.ensures) at c.in_ok-line.ensures.barred
