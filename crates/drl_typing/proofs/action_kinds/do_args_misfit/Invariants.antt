use Rattle.drl_typing.proofs.Common.{◌≡◌, ◌≤◌, drop, length, args_misfit}
use Rattle.drl_typing.proofs.action_kinds.do_args_misfit.Given as goal

abbrev pub invariant-loop-k : goal.invariant-loop-k
invariant-loop-k l = record {
  same : args_misfit l.place.sight (drop l.k l.kinds) (drop l.k l.args) ≡ args_misfit l.place.sight l.kinds l.args;
  within : l.k ≤ length l.kinds;
}
