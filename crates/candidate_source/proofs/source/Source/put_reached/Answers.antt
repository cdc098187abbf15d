use Rattle.{candidate_source.proofs.Common.{◌∙◌, ap, is_some, ◌&&◌, eq_by_cmp, nat_cmp, same_value, at}, join_memory.proofs.Keeping.{some_put}}
use Rattle.candidate_source.proofs.source.Source.put_reached.Goals as goal

pub returns-clause-reached : goal.returns-clause-reached
returns-clause-reached c v k =
    ap is_some (c.in_ok-put.ensures.kept v k) ∙ some_put (same_value c.args.value v && eq_by_cmp nat_cmp c.args.place k) tt (at same_value nat_cmp c.args.self.now.reached v k)
