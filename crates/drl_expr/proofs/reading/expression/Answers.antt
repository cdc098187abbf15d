use Rattle.{drl_expr.{specs.Reading.{expression_at, expr_at}, proofs.Laws.{expression_found, expression_again}}, fx_base.proofs.Sequences.{map-none, map-some}}
use Rattle.drl_expr.proofs.reading.expression.Goals as goal

pub returns-in-Some-clause-found : goal.returns-in-Some-clause-found
unfolding expression_at expr_at
returns-in-Some-clause-found c = expression_found c.args.tokens.now _ _ (map-some _ _ _ _ c.in_ok-chain.ensures.reads c.in-Some.is)

pub returns-in-Some-clause-none_missed : goal.returns-in-Some-clause-none_missed
unfolding expression_at expr_at
returns-in-Some-clause-none_missed c = expression_again c.args.tokens.now _ (map-some _ _ _ _ c.in_ok-chain.ensures.reads c.in-Some.is)

pub returns-in-None-clause-none_missed : goal.returns-in-None-clause-none_missed
unfolding expression_at expr_at
returns-in-None-clause-none_missed c = expression_again c.args.tokens.now _ (map-none _ _ _ c.in_ok-chain.ensures.reads c.in-None.is)
