use Rattle.script_run.proofs.Common.{◌≡◌, ◌++◌, drop, written_held}
use Rattle.script_run.proofs.counting.push_numbers.Given as goal

-- the lines so far, and those of the types and numbers that are left
abbrev pub invariant-loop-ty : goal.invariant-loop-ty
invariant-loop-ty l = l.text.items ++ written_held l.form l.line (drop l.ty-index l.types) l.rest ≡ l.fn.text.items ++ written_held l.form l.line l.types l.numbers
