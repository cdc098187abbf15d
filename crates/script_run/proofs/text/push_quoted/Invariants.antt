use Rattle.script_run.proofs.Common.{◌≡◌, ◌++◌, take, flat_map, quoted_byte}
use Rattle.script_run.proofs.text.push_quoted.Given as goal

abbrev pub invariant-loop-b : goal.invariant-loop-b
invariant-loop-b l = l.text.items ≡ l.fn.text.items ++ flat_map quoted_byte (take l.b-index l.name)
