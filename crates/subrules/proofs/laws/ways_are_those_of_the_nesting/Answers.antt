use Rattle.subrules.proofs.NestingLaws.{walk_finds, all_have}
use Rattle.subrules.proofs.laws.ways_are_those_of_the_nesting.Goals as goal

pub returns-clause-walk : goal.returns-clause-walk
returns-clause-walk c types pieces ways h = walk_finds types pieces ways h

pub returns-clause-each : goal.returns-clause-each
returns-clause-each c types depth pieces ts rest h = all_have types h
