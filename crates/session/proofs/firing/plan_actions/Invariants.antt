use Rattle.session.proofs.Common.{◌≡◌, ◌++◌, drop, planned}
use Rattle.session.proofs.firing.plan_actions.Given as goal

abbrev pub invariant-loop-action : goal.invariant-loop-action
invariant-loop-action l = l.plan.items ++ planned l.facts l.row (drop l.action-index l.actions) ≡ planned l.facts l.row l.actions
