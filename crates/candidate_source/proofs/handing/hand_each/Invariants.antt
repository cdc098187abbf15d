use Rattle.candidate_source.proofs.Common.{ℕ, ◌&&◌, not, option_map, nat_cmp, BTreeMap, Handed, IsHandedTo, has_place, is_under_given}
use Rattle.std.specs.{List.Sorted.{IsStrictlySortedBy}, Map.{keys_of}}
use Rattle.candidate_source.proofs.handing.hand_each.Given as goal

-- to whom the places that are left are handed, to them all are
abbrev pub invariant-loop-place : goal.invariant-loop-place
invariant-loop-place l = record {
  sorted : IsStrictlySortedBy nat_cmp l.place-iterator;
  handed : (after : BTreeMap ℕ Handed) → IsHandedTo l.turned (λ k. has_place l.place-iterator k && not (is_under_given l.reached (option_map (λ v. v.now) l.besides) k)) l.handed after
      → IsHandedTo l.turned (λ k. has_place (keys_of l.places.entries) k && not (is_under_given l.reached (option_map (λ v. v.now) l.besides) k)) l.initial.handed after;
}
