use Rattle.{desk_image.proofs.Common.{◌++◌, ◌≡◌, IsImageLife, life_bytes}, checkpoint.specs.Bytes.{Each, each_bytes}, std.proofs.Common.{drop, take}}
use Rattle.desk_image.proofs.front.put_each.Given as goal

abbrev pub invariant-loop-life : goal.invariant-loop-life
invariant-loop-life l = record {
  appended : l.out.items ++ each_bytes life_bytes (drop l.life-index l.lives) ≡ l.fn.out.items ++ each_bytes life_bytes l.lives;
  fits : Each IsImageLife (take l.life-index l.lives);
}
