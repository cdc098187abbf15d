use Rattle.line_feed.proofs.{Common.{sym, subst}, Feeding.{fed_nothing}}
use Rattle.line_feed.proofs.fed.begin.Goals as goal

pub returns-clause-fed : goal.returns-clause-fed
returns-clause-fed g c w there =
    let stands = g.T.LineTaker.stands in
    fed_nothing stands (g.T.LineTaker.steps c.args.taker) w c.args.at c.new.result c.new.ensures.at c.new.ensures.front (subst (λ t. stands t w) (sym c.new.ensures.taker) there)
