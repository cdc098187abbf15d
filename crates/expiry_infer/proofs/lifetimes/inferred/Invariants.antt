use Rattle.expiry_infer.proofs.Common.{pos, finite, limit_of, IsSmallLimit, GivesIn, Among, IsTop}
use Rattle.expiry_infer.proofs.lifetimes.inferred.Given as goal

abbrev pub invariant-loop-rule : goal.invariant-loop-rule
invariant-loop-rule l = record {
  top : IsTop (Among l.program.rules (GivesIn l.program l.ty) l.rule-index) (finite (pos 0)) (limit_of l.most);
  small : IsSmallLimit (limit_of l.most);
}
