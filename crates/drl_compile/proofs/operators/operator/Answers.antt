use Rattle.drl_compile.proofs.{Common.{sym, ◌∙◌}, Parameters.{spans_within, operator_found, operator_counted}}
use Rattle.drl_compile.proofs.operators.operator.Goals as goal

pub of-requires : goal.of-requires
of-requires c = spans_within c.args.params.now (sym c.are_within.ensures ∙ c.if-not-are_within.false)

pub returns-in-Ok : goal.returns-in-Ok
returns-in-Ok c =
    operator_found c.args.word c.args.params.now c.in-Ok.op (sym c.are_within.ensures ∙ c.if-not-are_within.false) c.in-Ok.ensures.edges
    (λ refused. let n = c.in-Ok.ensures.negative.1 refused in cc)

pub returns-in-Err-ParamCount : goal.returns-in-Err-ParamCount
returns-in-Err-ParamCount c = operator_counted c.args.word c.args.params.now (c.in-Err-ParamCount.ensures.param_count.0 cc)
