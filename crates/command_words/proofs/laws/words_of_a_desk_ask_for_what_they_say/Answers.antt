use Rattle.command_words.{proofs.Common.{refl}, specs.{Asked.{number_in_digits, limit_written}, Command.{desk_app, matched_by}, Desk.{desk_rows, desk_words}}}
use Rattle.clap.proofs.OnLiterals.{clap_on_literals}
use Rattle.command_words.proofs.laws.words_of_a_desk_ask_for_what_they_say.Goals as goal

pub returns : goal.returns
unfolding clap_on_literals desk_app matched_by number_in_digits limit_written desk_rows desk_words
returns c = record {
  text = refl;
  all = refl;
  keep = refl;
  keep_with_image = refl;
  objects = refl;
  help = refl;
  version = refl;
  no_rules = refl;
  zero = refl;
  two = refl;
  keep_twice = refl;
  keep_alone = refl;
  keep_nothing = refl;
}
