use Rattle.replay.proofs.{Common.{inl, refl, Run}, Calls.{written_told, long_told, stopped_told, refusal_told, read_of_file, completes_file, ends_of_file}}
use Rattle.replay.proofs.top.run_rules.Goals as goal

pub returns-clause-exact : goal.returns-clause-exact
returns-clause-exact g c files bytes told tells low = (written_told c.answer.ensures.run files bytes told tells).exact low

pub returns-clause-front : goal.returns-clause-front
returns-clause-front g c files bytes told tells high = (written_told c.answer.ensures.run files bytes told tells).front high

pub returns-clause-long : goal.returns-clause-long
returns-clause-long g c files bytes told tells eight = long_told c.answer.ensures.run files bytes told tells eight

pub returns-clause-stopped : goal.returns-clause-stopped
returns-clause-stopped g c files bytes told tells stop = stopped_told c.answer.ensures.run files bytes told tells stop

pub returns-clause-refusal : goal.returns-clause-refusal
returns-clause-refusal g c files told three = refusal_told c.answer.ensures.run files told three

pub returns-clause-completes : goal.returns-clause-completes
returns-clause-completes g c bytes tells short shelf read write = completes_file c.answer.ensures.run c.args.name.now c.args.limit refl bytes tells short shelf read write

pub returns-clause-answers : goal.returns-clause-answers
returns-clause-answers g c = ends_of_file c.answer.ensures.run c.args.name.now c.args.limit refl

pub returns-clause-file : goal.returns-clause-file
returns-clause-file g c = c.answer.ensures.run.file

pub returns-clause-read : goal.returns-clause-read
returns-clause-read g c five = read_of_file c.answer.ensures.run c.args.name.now Run c.args.limit refl five

pub returns-clause-write : goal.returns-clause-write
returns-clause-write g c = c.answer.ensures.run.write

pub returns-clause-taken : goal.returns-clause-taken
returns-clause-taken g c = c.answer.ensures.run.taken

pub returns-clause-nothing_left : goal.returns-clause-nothing_left
returns-clause-nothing_left g c low = c.answer.ensures.run.nothing_left low (inl refl)
