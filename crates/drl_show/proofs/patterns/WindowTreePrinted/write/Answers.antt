use Rattle.drl_show.proofs.patterns.WindowTreePrinted.write.Goals as goal

pub returns-in-Length : goal.returns-in-Length
returns-in-Length c = rw c.in-Length.is c.window-in-Length.ensures
