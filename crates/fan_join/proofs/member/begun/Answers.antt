use Rattle.fan_join.proofs.{Common.{subst, List, Row}, Halves.{Leaves, Arrives, begun_by}}
use Rattle.fan_join.proofs.member.begun.Goals as goal

pub returns : goal.returns
returns c =
    begun_by c.args.so_far c.none-change.result c.leave.new.self c.arrive.new.self c.none-change.ensures
    (subst (λ (rows : List Row). Leaves rows c.none-change.result c.leave.new.self) c.into_vec.ensures c.in_ok-leave.ensures)
    (subst (λ (rows : List Row). Arrives rows c.leave.new.self c.arrive.new.self) c.into_vec-2.ensures c.in_ok-arrive.ensures)
