use Rattle.{session.proofs.Common.{on_ok_weaker, Retract, stepped}, session_model.proofs.Retracting.{retracts_forgotten}}
use Rattle.session.proofs.state.State.take_away_forgotten.Goals as goal

pub returns-clause-stands : goal.returns-clause-stands
returns-clause-stands c =
    on_ok_weaker c.settle.result (λ settles w st none law.
    settles (stepped c.args.setting.now.program w (Retract c.args.ty c.args.id))
    (retracts_forgotten c.args.setting.now c.args.memory.now c.args.self.now w st c.requires.runs c.args.ty c.args.id none c.requires.absent law _)) c.settle.ensures.stands
