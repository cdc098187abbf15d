use Rattle.command_words.{proofs.Common.{refl}, specs.{Asked.{number_in_digits, limit_written, load_number_of, asked_rows, asked_words}, Command.{replay_app}}}
use Rattle.{command_words.specs.Command.{matched_by}, clap.proofs.OnLiterals.{clap_on_literals}}
use Rattle.command_words.proofs.laws.words_ask_for_what_they_say.Goals as goal

pub returns : goal.returns
unfolding clap_on_literals replay_app matched_by number_in_digits limit_written load_number_of asked_rows asked_words
returns c = record {
  defaults = refl;
  options = refl;
  equals_signs = refl;
  after_dashes = refl;
  dash = refl;
  empty = refl;
  load = refl;
  load_with_options = refl;
  save = refl;
  resume = refl;
  resume_and_save = refl;
}
