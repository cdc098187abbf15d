use Rattle.session.proofs.Common.{one_more_held, on_ok_weaker}
use Rattle.session.proofs.restoring.Restored.put.Goals as goal

pub returns-clause-held : goal.returns-clause-held
returns-clause-held c =
    on_ok_weaker c.put_fact.result
    (λ put. one_more_held c.args.setting.now.program c.args.setting.now.lives c.args.self.now.facts c.put_fact.new.facts c.args.self.now.expiries c.put_timer.new.expiries c.args.self.now.retention c.hold.new.retention c.args.fact
    c.requires.held c.requires.fresh put c.in_ok-put_timer.ensures.ok c.life_end.result c.life_end.ensures c.in_ok-hold.ensures.due c.in_ok-hold.ensures.lingering)
    c.put_fact.ensures.ok
