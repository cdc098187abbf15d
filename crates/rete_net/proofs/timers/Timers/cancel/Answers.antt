use Rattle.rete_net.proofs.{Common.{None}, Timing.{still_set}}
use Rattle.rete_net.proofs.timers.Timers.cancel.Goals as goal

pub returns : goal.returns
returns c = record { others = still_set c.args.self.now (record { waiting = c.cancel.new.self }) c.args.place None c.cancel.ensures.kept }
