use Rattle.{candidate_source.proofs.Common.{◌∙◌, ap, is_some, ◌&&◌, eq_by_cmp, nat_cmp, same_value, at}, join_memory.proofs.Keeping.{some_taken}}
use Rattle.candidate_source.proofs.source.Source.take_reached.Goals as goal

pub returns-clause-reached : goal.returns-clause-reached
returns-clause-reached c v k =
    ap is_some (c.take.ensures.kept v k) ∙ some_taken (same_value c.args.value.now v && eq_by_cmp nat_cmp c.args.place k) (at same_value nat_cmp c.args.self.now.reached v k)
