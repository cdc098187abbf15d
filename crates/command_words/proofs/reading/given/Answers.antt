use Rattle.{command_words.proofs.Common.{◌∙◌, found_of}, clap.proofs.WalkLemmas.{first_value-rows}}
use Rattle.command_words.proofs.reading.given.Goals as goal

pub returns : goal.returns
returns c = c.get_str.ensures ∙ first_value-rows (found_of c.args.matches.now) c.args.name.now
