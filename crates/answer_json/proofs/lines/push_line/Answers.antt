use Rattle.{std.proofs.Common.{◌≡◌, ◌≤◌, false, sym, subst}, serde_json.specs.{Data.{Data, depth}, Read.{max_depth}, Written.{has_float}}}
use Rattle.answer_json.proofs.{Floats.{line_has_none}, Depths.{line_is_shallow}}
use Rattle.answer_json.proofs.lines.push_line.Goals as goal

pub push_value-requires-clause-exact : goal.push_value-requires-clause-exact
push_value-requires-clause-exact c = subst (λ (d : Data). has_float d ≡ false) (sym c.in_ok-value.ensures) (line_has_none c.args.program.now c.args.names.now c.args.number c.args.line.now)

pub push_value-requires-clause-shallow : goal.push_value-requires-clause-shallow
push_value-requires-clause-shallow c = subst (λ (d : Data). depth d ≤ max_depth) (sym c.in_ok-value.ensures) (line_is_shallow c.args.program.now c.args.names.now c.args.number c.args.line.now)
