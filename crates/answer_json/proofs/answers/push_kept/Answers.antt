use Rattle.{std.{proofs.Common.{◌≡◌, ◌≤◌, false, sym, subst}, specs.Prelude.{codes}}, serde_json.specs.{Data.{Data, depth}, Read.{max_depth}}}
use Rattle.{serde_json.specs.Written.{has_float}, answer_json.proofs.{Floats.{fact_has_none}, Depths.{fact_is_shallow}}}
use Rattle.answer_json.proofs.answers.push_kept.Goals as goal

pub push_value-requires-clause-exact : goal.push_value-requires-clause-exact
push_value-requires-clause-exact c = subst (λ (d : Data). has_float d ≡ false) (sym c.in_ok-value.ensures) (fact_has_none c.args.program.now c.args.number (codes "fact") c.args.fact.now)

pub push_value-requires-clause-shallow : goal.push_value-requires-clause-shallow
push_value-requires-clause-shallow c = subst (λ (d : Data). depth d ≤ max_depth) (sym c.in_ok-value.ensures) (fact_is_shallow c.args.program.now c.args.number (codes "fact") c.args.fact.now)
