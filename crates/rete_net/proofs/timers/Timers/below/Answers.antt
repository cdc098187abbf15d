use Rattle.{std.proofs.lemmas.Int.{to_z-of_z}, rete_net.proofs.Timing.{all_from}}
use Rattle.rete_net.proofs.timers.Timers.below.Goals as goal

pub returns : goal.returns
returns c =
    let fits = c.ranges.bound in
    all_from c.args.self.now c.args.bound c.in_ok-places.places.items (simp to_z-of_z at c.in_ok-places.ensures)
