use Rattle.life_proof.proofs.{Common.{sym}, Loops.{unlike_lives}}
use Rattle.life_proof.proofs.tables.are_lives_of.Goals as goal

pub returns-then-types-lives : goal.returns-then-types-lives
returns-then-types-lives c = sym (unlike_lives c.args.types.now c.args.lives.now c.if-types-lives.true)
