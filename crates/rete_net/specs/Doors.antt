-- What a network is to other crates, which look no further into it.
use Rattle.std.specs.Prelude.{ℕ, ℤ, length, Option}
use Rattle.rule_model.specs.declared.program.Program.{Program}
use Rattle.rete_net.specs.{declared.net.Rete.{Rete}, Shapes.{IsNetOf}}

-- it is the network of a program, whatever it stands for
abbrev pub IsNetwork : Program → Rete → Type 0
IsNetwork p net = IsNetOf p net.nodes.items net.ends.items

-- of how many rules it answers the changes
abbrev pub rule_count : Rete → ℕ
rule_count net = length net.ends.items

-- how many nodes it has
abbrev pub node_count : Rete → ℕ
node_count net = length net.nodes.items

-- until when a move of the clock alone changes nothing, in milliseconds; without such a moment it never does
abbrev pub quiet_time : Rete → Option ℤ
quiet_time net = net.quiet_until
