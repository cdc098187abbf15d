use Rattle.script_run.proofs.Joined.{whole_behind, script_joined, part_joined}
use Rattle.script_run.proofs.laws.a_run_goes_on_behind_its_first_lines.Goals as goal

pub returns : goal.returns
returns c = record {
  parts = script_joined;
  part = part_joined;
  whole = whole_behind;
}
