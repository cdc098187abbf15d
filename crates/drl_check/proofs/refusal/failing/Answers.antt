use Rattle.drl_check.proofs.{Common.{length, sym, ap, ◌∙◌}, Solvable.{few_conditions}}
use Rattle.drl_check.proofs.refusal.failing.Goals as goal

pub failing_use-requires : goal.failing_use-requires
failing_use-requires c =
    let many = c.len-2.ensures ∙ ap length c.requires.1 in
    few_conditions c.len.result c.len-3.result c.requires.0 c.args.body.now (sym (c.exceeds_limits.ensures c.requires.0 many) ∙ c.if-exceeds_limits.false)
