use Rattle.replay.proofs.Calls.{usage_done}
use Rattle.replay.proofs.top.do_asked.Goals as goal

pub returns-in-Some-RuleFile-clause-run : goal.returns-in-Some-RuleFile-clause-run
returns-in-Some-RuleFile-clause-run g c = rw (c.in-Some-RuleFile.is, c.in-Some-RuleFile.field-0-is) (rw (c.as_str.ensures, c.lent.ensures) at c.answer.ensures.run)

pub returns-in-Some-Load-clause-run : goal.returns-in-Some-Load-clause-run
returns-in-Some-Load-clause-run g c = rw (c.in-Some-Load.is, c.in-Some-Load.field-0-is) (c.run_load.ensures _ _ _ _ _)

pub returns-in-None-clause-run : goal.returns-in-None-clause-run
returns-in-None-clause-run g c = rw c.in-None.is (usage_done g.E.Engine.gives g.E.Engine.fires g.E.Engine.counts _ _ _ _ _ _ _ _ _ _ c.say.ensures.said c.say.ensures.front c.say.ensures.either c.say.ensures.cause)

pub returns-in-Some-RuleFile-clause-unread : goal.returns-in-Some-RuleFile-clause-unread
returns-in-Some-RuleFile-clause-unread g c files told refused =
    let read = rw (c.as_str.ensures, c.lent.ensures) at c.answer.ensures.unread in
    read files told (rw (c.in-Some-RuleFile.is, c.in-Some-RuleFile.field-0-is) at refused)

pub answer-requires-clause-prompt : goal.answer-requires-clause-prompt
answer-requires-clause-prompt g c bytes now h =
    c.requires.prompt bytes now (λ files told. rw (c.in-Some-RuleFile.is, c.in-Some-RuleFile.field-0-is) (rw (c.as_str.ensures, c.lent.ensures) at (h files told)))
