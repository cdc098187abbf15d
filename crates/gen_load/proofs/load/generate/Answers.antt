use Rattle.gen_load.specs.Script.{turn_count, script_text}
use Rattle.gen_load.proofs.load.generate.Goals as goal

-- the number of turns stays a name, since a recursion over 20,000 would be computed
pub returns-clause-script : goal.returns-clause-script
unfolding turn_count script_text
returns-clause-script c = c.in_ok-script.ensures
