use Rattle.{script_run.{proofs.Common.{◌≡◌, ◌++◌, drop, written_kept}, specs.Live.{of_type}}, rule_model.specs.Lent.{lent}}
use Rattle.script_run.proofs.live.push_kept_of.Given as goal

abbrev pub invariant-loop-fact : goal.invariant-loop-fact
invariant-loop-fact l =
    l.text.items ++ written_kept l.form l.program l.number (of_type l.place (lent (drop l.fact-index l.facts)))
    ≡ l.fn.text.items ++ written_kept l.form l.program l.number (of_type l.place (lent l.facts))
