use Rattle.life_meaning.proofs.Safe.{lives_are_safe, endless_are_safe}
use Rattle.life_meaning.proofs.tables_are_safe.Goals as goal

pub returns-clause-lives : goal.returns-clause-lives
returns-clause-lives c = lives_are_safe

pub returns-clause-endless : goal.returns-clause-endless
returns-clause-endless c = endless_are_safe
