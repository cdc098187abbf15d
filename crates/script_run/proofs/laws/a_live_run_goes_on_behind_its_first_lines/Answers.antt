use Rattle.script_run.{specs.Live.{live_step}, proofs.{Joined.{parts_joined, scripts_joined}, LiveJoined.{live_within}}}
use Rattle.script_run.proofs.laws.a_live_run_goes_on_behind_its_first_lines.Goals as goal

pub returns : goal.returns
returns c = record {
  parts = λ live limit. scripts_joined (live_step live) (live_within live) limit;
  part = λ live limit. parts_joined (live_step live) (live_within live) limit;
}
