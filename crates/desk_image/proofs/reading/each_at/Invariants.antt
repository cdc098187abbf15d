use Rattle.{desk_image.{proofs.Common.{◌≡◌, ◌-◌, ◌≤◌}, specs.Reading.{life_at}}, std.proofs.Common.{vec_len, vec_capacity}}
use Rattle.checkpoint.{proofs.Loops.{with_front}, specs.Reading.{read_items}}
use Rattle.desk_image.proofs.reading.each_at.Given as goal

abbrev pub invariant-loop : goal.invariant-loop
invariant-loop l = record {
  read : with_front l.lives.items (read_items life_at (l.count - l.counter) l.rest) ≡ read_items life_at l.count l.from;
  filled : vec_len l.lives ≡ l.counter;
  room : l.count ≤ vec_capacity l.lives;
}
