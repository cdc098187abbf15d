use Rattle.script_run.proofs.Common.{◌≡◌, ◌++◌, take, flat_map, cell_text}
use Rattle.script_run.proofs.text.push_cells.Given as goal

abbrev pub invariant-loop-cell : goal.invariant-loop-cell
invariant-loop-cell l = l.text.items ≡ l.fn.text.items ++ flat_map cell_text (take l.cell-index l.cells)
