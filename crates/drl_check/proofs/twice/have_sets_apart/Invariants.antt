use Rattle.drl_check.proofs.Common.{◌≡◌, drop, list_all, assigns_once}
use Rattle.drl_check.proofs.twice.have_sets_apart.Given as goal

abbrev pub invariant-loop-action : goal.invariant-loop-action
invariant-loop-action l = list_all assigns_once (drop l.action-index l.actions) ≡ list_all assigns_once l.actions
