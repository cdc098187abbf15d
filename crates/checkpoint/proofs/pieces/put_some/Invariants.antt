use Rattle.checkpoint.proofs.Common.{◌≡◌, ◌++◌, drop, each_bytes, Each}
use Rattle.checkpoint.proofs.pieces.put_some.Given as goal

abbrev pub invariant-loop-place : goal.invariant-loop-place
invariant-loop-place g l = record {
  bytes : l.out.items ++ each_bytes g.T.Spelled.spelling (drop l.place l.items) ≡ l.fn.out.items ++ each_bytes g.T.Spelled.spelling (drop l.from l.items);
  fit : Each g.T.Spelled.is_fit (drop l.place l.items) → Each g.T.Spelled.is_fit (drop l.from l.items);
}
