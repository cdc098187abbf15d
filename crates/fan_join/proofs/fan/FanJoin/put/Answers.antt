use Rattle.fan_join.proofs.{Common.{◌∙◌, ap, refl, row_key, Pattern}, Whole.{put_beside, put_empty, put_reached}}
use Rattle.fan_join.proofs.fan.FanJoin.put.Goals as goal

pub returns-clause-empty : goal.returns-clause-empty
returns-clause-empty c = put_empty c.args.self.now (record c.args.self.now { members = c.push.new.self }) c.new-member.result c.in_ok-push.ensures.items refl c.new-member.ensures.nothing

pub returns-clause-beside : goal.returns-clause-beside
returns-clause-beside c =
    put_beside c.args.self.now (record c.args.self.now { members = c.push.new.self }) c.new-member.result c.in_ok-push.ensures.items refl c.new-member.ensures.nothing
    (ap (λ (p : Pattern). row_key p) c.new-member.ensures.pattern ∙ c.requires)

pub returns-clause-reached : goal.returns-clause-reached
returns-clause-reached c = put_reached c.args.self.now (record c.args.self.now { members = c.push.new.self }) c.new-member.result c.in_ok-push.ensures.items refl c.new-member.ensures.nothing refl

pub returns-clause-member : goal.returns-clause-member
returns-clause-member c = (c.new-member.result, c.in_ok-push.ensures.items, c.new-member.ensures.pattern)
