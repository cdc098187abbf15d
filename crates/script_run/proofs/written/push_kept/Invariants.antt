use Rattle.{script_run.proofs.Common.{◌≡◌, ◌++◌, drop, written_kept}, rule_model.specs.Lent.{lent}}
use Rattle.script_run.proofs.written.push_kept.Given as goal

abbrev pub invariant-loop-fact : goal.invariant-loop-fact
invariant-loop-fact l =
    l.text.items ++ written_kept l.form l.program l.number (lent (drop l.fact-index l.facts)) ≡ l.fn.text.items ++ written_kept l.form l.program l.number (lent l.facts)
