use Rattle.script_read.proofs.{Common.{◌≡◌, length, arith}, Forms.{fire_is}}
use Rattle.script_read.proofs.flat.fire.Goals as goal

pub returns-then-is_empty : goal.returns-then-is_empty
returns-then-is_empty c = let none : length c.args.members.now ≡ 0 = grind (arith, c.if-is_empty.ensures) in fire_is c.args.members.now none
