use Rattle.replay.proofs.{Common.{AppendsFront, lines_of, LifeTable, setting_of, whole_run, summary_text}, Tables.{by_table}}
use Rattle.replay.proofs.load.run_and_sum_up.Goals as goal

pub returns-in-Ok-clause-front : goal.returns-in-Ok-clause-front
returns-in-Ok-clause-front g c table are high =
    by_table c.args.program (λ (t : LifeTable). AppendsFront (g.K.Sink.written c.args.out.now) (g.K.Sink.written c.run_with_lives.new.out)
    (summary_text c.args.number (whole_run (setting_of g.E.Engine.gives g.E.Engine.fires g.E.Engine.counts c.args.limit c.args.program t) (lines_of c.args.script)).bytes))
    c.in-Ok.lives table c.in-Ok.ensures.lives are (c.run_with_lives.ensures.front high)
