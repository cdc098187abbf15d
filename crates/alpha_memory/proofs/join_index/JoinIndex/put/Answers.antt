use Rattle.alpha_memory.{proofs.Common.{sym, ap, cond, Some, None, is_some, on_ok_weaker, on_err_weaker}, specs.declared.bucket.Bucket.TheVariants.{One}}
use Rattle.{alpha_memory.proofs.Buckets.{one_kept, same_buckets}, std.proofs.lemmas.Cmp.{eq_by_cmp_equiv}}
use Rattle.alpha_memory.proofs.join_index.JoinIndex.put.Goals as goal

pub returns-in-Some-clause-kept : goal.returns-in-Some-clause-kept
returns-in-Some-clause-kept g c =
    let here = sym c.in-Some.ensures.value in
    let written = ((c.get_mut.follows.holds c.put_in.new.bucket).3 (ap is_some here)).0 in
    on_ok_weaker c.put_in.result
    (one_kept g.met.J.Eq.laws c.args.self.now (record c.args.self.now { buckets = c.get_mut.follows.lender c.put_in.new.bucket }) c.args.join (Some c.in-Some.bucket.now) c.put_in.new.bucket
    here written g.K.Ord.cmp c.args.key (Some c.args.kept))
    c.put_in.ensures.kept

pub returns-in-Some-clause-err : goal.returns-in-Some-clause-err
returns-in-Some-clause-err g c =
    let here = sym c.in-Some.ensures.value in
    let written = ((c.get_mut.follows.holds c.put_in.new.bucket).3 (ap is_some here)).0 in
    on_err_weaker c.put_in.result
    (λ same. same_buckets g.met.J.Eq.laws c.args.self.now (record c.args.self.now { buckets = c.get_mut.follows.lender c.put_in.new.bucket }) c.args.join (Some c.in-Some.bucket.now) c.put_in.new.bucket
    here written (ap Some same))
    c.put_in.ensures.err

pub returns-in_ok-insert-in-None-clause-kept : goal.returns-in_ok-insert-in-None-clause-kept
returns-in_ok-insert-in-None-clause-kept g c =
    one_kept g.met.J.Eq.laws c.args.self.now (record c.args.self.now { buckets = c.insert.new.self }) c.args.join None (One c.args.key c.args.kept)
    (sym c.in-None.ensures.value) (rw c.get_mut.follows.holds-at-none at c.in_ok-insert-in-None.ensures.updates.0) g.K.Ord.cmp c.args.key (Some c.args.kept)
    (λ k. ap (λ b. cond b (Some c.args.kept) None) ((eq_by_cmp_equiv g.met.K.Ord.total).symm k c.args.key))
