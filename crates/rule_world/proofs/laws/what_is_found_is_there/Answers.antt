use Rattle.rule_world.proofs.Found.{found_there, plain_found, found_fits}
use Rattle.rule_world.proofs.laws.what_is_found_is_there.Goals as goal

pub returns-clause-there : goal.returns-clause-there
returns-clause-there c p w id f o e = found_there p w id f o e

pub returns-clause-plain : goal.returns-clause-plain
returns-clause-plain c p w id f o e plain = plain_found p w id f o e plain

pub returns-clause-fits : goal.returns-clause-fits
returns-clause-fits c p w step o h = found_fits p w step o h
