use Rattle.script_run.proofs.Common.{◌≡◌, ◌++◌, ◌||◌, take, drop, flat_map, written_line, has_fault}
use Rattle.script_run.proofs.written.push_lines.Given as goal

abbrev pub invariant-loop-line : goal.invariant-loop-line
invariant-loop-line l = record {
  text : l.text.items ≡ l.fn.text.items ++ flat_map (written_line l.form l.program l.number) (take l.line-index l.lines);
  faulty : (l.faulty || has_fault (drop l.line-index l.lines)) ≡ has_fault l.lines;
}
