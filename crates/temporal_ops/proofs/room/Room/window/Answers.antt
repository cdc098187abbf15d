use Rattle.temporal_ops.proofs.{Common.{◌≡◌, false, arith, to_z, of_z, w128, ints, is_empty}, Rooms.{endless_starts, latest_start}}
use Rattle.temporal_ops.proofs.room.Room.window.Goals as goal

pub returns-in-None : goal.returns-in-None
returns-in-None c = endless_starts _ _ _ c.starts-starts.ensures c.in-None.is cc

pub returns-in-Some : goal.returns-in-Some
returns-in-Some c =
    let latest : to_z w128 (of_z w128 c.in-Some.latest) ≡ c.in-Some.latest = omega (arith, ints) in
    let starts = c.starts-starts.result in
    let some : is_empty starts.least starts.greatest ≡ false = cc in
    let room : is_empty c.args.self.now.end.least c.args.self.now.end.greatest ≡ false = cc in
    rw latest (latest_start _ _ _ c.starts-starts.ensures _ c.in-Some.is some room)
