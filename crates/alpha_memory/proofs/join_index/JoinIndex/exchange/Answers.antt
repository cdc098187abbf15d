use Rattle.alpha_memory.proofs.{Common.{sym, ap, Some, is_some, on_ok_weaker, on_err_weaker}, Buckets.{one_kept, same_buckets}}
use Rattle.alpha_memory.proofs.join_index.JoinIndex.exchange.Goals as goal

pub returns-in-Some-clause-kept : goal.returns-in-Some-clause-kept
returns-in-Some-clause-kept g c =
    let here = sym c.in-Some.ensures.value in
    let written = ((c.get_mut.follows.holds c.exchange.new.self).3 (ap is_some here)).0 in
    on_ok_weaker c.exchange.result
    (one_kept g.met.J.Eq.laws c.args.self.now (record c.args.self.now { buckets = c.get_mut.follows.lender c.exchange.new.self }) c.args.join.now (Some c.in-Some.bucket.now) c.exchange.new.self
    here written g.K.Ord.cmp c.args.key.now (Some c.args.kept))
    c.exchange.ensures.kept

pub returns-in-Some-clause-err : goal.returns-in-Some-clause-err
returns-in-Some-clause-err g c =
    let here = sym c.in-Some.ensures.value in
    let written = ((c.get_mut.follows.holds c.exchange.new.self).3 (ap is_some here)).0 in
    on_err_weaker c.exchange.result
    (λ same. same_buckets g.met.J.Eq.laws c.args.self.now (record c.args.self.now { buckets = c.get_mut.follows.lender c.exchange.new.self }) c.args.join.now (Some c.in-Some.bucket.now) c.exchange.new.self
    here written (ap Some same))
    c.exchange.ensures.err
