use Rattle.drl_check.proofs.Checked.{given_program, given_accepted, given_refused, given_sound, given_solvable}
use Rattle.drl_check.proofs.checking.check.Goals as goal

pub returns : goal.returns
returns c =
    let r = c.checked_program.result in
    let file = c.args.file.now in
    let g = c.checked_program.ensures in
    record {
      program = given_program r file g;
      accepted = given_accepted r file g;
      refused = given_refused r file g;
      sound = given_sound r file g;
      solvable = given_solvable r file g;
      gives = g;
    }
