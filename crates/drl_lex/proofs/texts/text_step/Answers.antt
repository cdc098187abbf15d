use Rattle.drl_lex.proofs.{Common.{refl}, TextTurns.{plain_read, escape_read}}
use Rattle.drl_lex.proofs.texts.text_step.Goals as goal

pub returns-in-Plain-clause-read : goal.returns-in-Plain-clause-read
returns-in-Plain-clause-read c at place = plain_read at c.args.quote place c.args.bytes.now c.in-len1-up.len_at_least c.in-Plain.ensures

pub returns-in-Some-clause-read : goal.returns-in-Some-clause-read
returns-in-Some-clause-read c at place =
    escape_read at c.args.quote place c.in-Some.meant c.args.bytes.now _ c.in-len1-up.len_at_least c.in-len1-up-rest.len_at_least c.in-Backslash.ensures refl c.in-Some.ensures
