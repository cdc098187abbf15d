use Rattle.command_words.{proofs.Common.{refl}, specs.{Asked.{number_in_digits, limit_written, load_number_of, asked_rows, asked_words}, Command.{replay_app}}}
use Rattle.{command_words.specs.Command.{matched_by}, clap.proofs.OnLiterals.{clap_on_literals}}
use Rattle.command_words.proofs.laws.other_words_are_refused.Goals as goal

pub returns : goal.returns
unfolding clap_on_literals replay_app matched_by number_in_digits limit_written load_number_of asked_rows asked_words
returns c = record {
  no_words = refl;
  help = refl;
  other_mode = refl;
  zero = refl;
  above = refl;
  digits = refl;
  twice = refl;
  two = refl;
  load_and_rules = refl;
  load_checked = refl;
  load_above = refl;
  load_saved = refl;
  load_resumed = refl;
  resume_checked = refl;
  resume_alone = refl;
  load_digits = refl;
}
