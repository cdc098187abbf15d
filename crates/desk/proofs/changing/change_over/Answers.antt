use Rattle.desk.proofs.Outcomes.{groundless}
use Rattle.desk.proofs.changing.change_over.Goals as goal

pub returns-else-branch : goal.returns-else-branch
returns-else-branch c =
    groundless c.args.changing c.in_ok-own.own c.in_ok-kept.kept c.in_ok-own.ensures.lives c.in_ok-kept.ensures (c.in_ok-has_ground.ensures.none c.if-branch.false)
