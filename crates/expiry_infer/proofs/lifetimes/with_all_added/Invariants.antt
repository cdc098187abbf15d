use Rattle.expiry_infer.proofs.Common.{limit_of, IsSmallLimit, lent, AddsAt, Among, IsTop}
use Rattle.expiry_infer.proofs.lifetimes.with_all_added.Given as goal

abbrev pub invariant-loop-place : goal.invariant-loop-place
invariant-loop-place l = record {
  top : IsTop (Among l.conditions (AddsAt l.program l.conditions (lent l.i)) l.place) (limit_of l.fn.most) (limit_of l.most);
  small : IsSmallLimit (limit_of l.fn.most) → IsSmallLimit (limit_of l.most);
}
