use Rattle.change_resolve.proofs.Common.{◌≡◌, drop, ◌++◌, option_map, sets_given}
use Rattle.change_resolve.proofs.fields.sets_for.Given as goal

abbrev pub invariant-loop-member : goal.invariant-loop-member
invariant-loop-member l = option_map (λ sets. l.sets.items ++ sets) (sets_given l.fields (drop l.member-index l.members)) ≡ sets_given l.fields l.members
