use Rattle.rete_net.proofs.{Common.{on_ok_weaker}, Ranged.{looked_up_still}}
use Rattle.rete_net.proofs.alpha_index.AlphaIndex.settle.Goals as goal

pub returns : goal.returns
returns c = on_ok_weaker c.settle.result (looked_up_still c.args.self.now c.settle.new.self) c.settle.ensures
