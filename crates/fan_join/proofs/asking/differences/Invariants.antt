use Rattle.fan_join.proofs.Common.{◌≡◌, ℕ, true, false, Some, None, slice_get, get, nat_cmp, Candidates, nothing, has_place, AreKept, IsRowsDifference}
use Rattle.fan_join.proofs.asking.differences.Given as goal

-- all but those to come are asked
abbrev pub invariant-loop-place : goal.invariant-loop-place
invariant-loop-place g l = record {
  kept : AreKept l.turn (g.F.Facts.map l.facts) l.members l.deltas;
  unkept : (k : ℕ) (c : Candidates) → slice_get l.members k ≡ Some c → has_place l.places.keys k ≡ true → has_place l.place-iterator k ≡ false → get nat_cmp l.deltas k ≡ None
      → IsRowsDifference l.turn (g.F.Facts.map l.facts) c nothing;
}
