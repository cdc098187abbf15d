use Rattle.alpha_memory.proofs.{Common.{sym, ap, Some, None, is_some}, Buckets.{one_kept}}
use Rattle.alpha_memory.proofs.join_index.JoinIndex.take_out.Goals as goal

pub returns-in-Some-clause-kept : goal.returns-in-Some-clause-kept
returns-in-Some-clause-kept g c =
    let here = sym c.in-Some.ensures.value in
    let written = ((c.get_mut.follows.holds c.take_from.new.bucket).3 (ap is_some here)).0 in
    one_kept g.met.J.Eq.laws c.args.self.now (record c.args.self.now { buckets = c.get_mut.follows.lender c.take_from.new.bucket }) c.args.join.now (Some c.in-Some.bucket.now) c.take_from.new.bucket
    here written g.K.Ord.cmp c.args.key.now None c.take_from.ensures.kept
