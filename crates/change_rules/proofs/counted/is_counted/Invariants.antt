use Rattle.{change_rules.proofs.Common.{None, Rule, Some, counts_type, place_in, true, ℕ, ◌<◌, ◌≡◌}, std.proofs.Common.{slice_get}}
use Rattle.change_rules.proofs.counted.is_counted.Given as goal

abbrev pub invariant-loop-place : goal.invariant-loop-place
invariant-loop-place l = (k : ℕ) (rule : Rule) → k < l.place → slice_get l.new.rules k ≡ Some rule → place_in l.places k ≡ None → counts_type l.ty rule ≡ true → ⊥
