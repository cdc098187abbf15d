use Rattle.change_resolve.proofs.Common.{◌≡◌, List, ℕ, drop, ◌++◌, option_map, sets_given, Kind, fields_of}
use Rattle.change_resolve.proofs.merge.sets_named.Given as goal

abbrev pub invariant-loop-place : goal.invariant-loop-place
invariant-loop-place l = (fields : List (List ℕ × Kind)) → l.named ≡ fields_of fields l.members
    → option_map (λ sets. l.sets.items ++ sets) (sets_given fields (drop l.place l.members)) ≡ sets_given fields l.members
