-- A network that stands is that of its program, and answers the changes of each of its rules.
use Rattle.rete_net.{proofs.{Common.{◌≡◌, Bool, length, Named, Program, Snapshot, NetStands, Rete}, Fanwise.{net_under}}, specs.Doors.{IsNetwork, rule_count}}

pub network_of : (p : Program) (net : Rete) (s : Snapshot) (forgotten : Named → Bool) → NetStands p net s forgotten → IsNetwork p net
network_of p net s forgotten stands = net_under p net.nodes.items net.fans net.ends.items stands.nodes.shape

pub rules_counted : (p : Program) (net : Rete) → IsNetwork p net → rule_count net ≡ length p.rules
rules_counted p net is = is.count
