use Rattle.replay.proofs.{Common.{inl, inr, refl, arith}, Calls.{nothing_done}}
use Rattle.replay.proofs.running.run_program.Goals as goal

pub returns-in-Err-clause-run : goal.returns-in-Err-clause-run
returns-in-Err-clause-run g c name image first last h = nothing_done g.E.Engine.gives g.E.Engine.fires g.E.Engine.counts _ _ first last _ _ _ _ _ 7 (inr (omega arith, omega arith)) (inl refl)

pub returns-in-Ok-clause-unread : goal.returns-in-Ok-clause-unread
returns-in-Ok-clause-unread g c never = c.run_with_lives.ensures.unread (never c.in-Ok.lives c.in-Ok.ensures.lives)
