use Rattle.life_proof.proofs.{Common.{sym}, Loops.{unlike_parts}}
use Rattle.life_proof.proofs.confirming.are_good_parts.Goals as goal

pub returns-then-asked-parts : goal.returns-then-asked-parts
returns-then-asked-parts c = sym (unlike_parts c.args.program.now c.args.asked.now c.args.parts.now c.if-asked-parts.true)
