use Rattle.fan_join.proofs.Common.{◌≡◌, ℕ, true, take, has_place, AreAmong}
use Rattle.fan_join.proofs.reach.add_reached.Given as goal

abbrev pub invariant-loop-row : goal.invariant-loop-row
invariant-loop-row g l = record {
  stays : (k : ℕ) → has_place l.initial.places.keys k ≡ true → has_place l.places.keys k ≡ true;
  among : AreAmong l.key l.reached (g.F.Facts.map l.facts) (take l.row-index l.rows) l.places.keys;
}
