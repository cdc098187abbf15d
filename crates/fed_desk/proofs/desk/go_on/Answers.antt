use Rattle.fed_desk.proofs.desk.go_on.Goals as goal

pub returns-in-Some-clause-fed : goal.returns-in-Some-clause-fed
returns-in-Some-clause-fed g c = rw c.in-Some.is at c.in_ok-fed.ensures.fed

pub returns-in-None-clause-fed : goal.returns-in-None-clause-fed
returns-in-None-clause-fed g c = rw c.in-None.is at c.in_ok-fed.ensures.fed
