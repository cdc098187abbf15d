use Rattle.{session.proofs.Common.{◌≡◌, ◌++◌, IsStrictlySortedBy, match_cmp, match_fired}, std.proofs.Common.{map as list_map}}
use Rattle.session.proofs.saving.fired_of.Given as goal

abbrev pub invariant-loop-matched : goal.invariant-loop-matched
invariant-loop-matched l = record {
  all : list_map match_fired l.fired.items ++ l.matched-iterator.rest.items ≡ l.agenda.fired;
  order : IsStrictlySortedBy match_cmp l.agenda.fired;
}
