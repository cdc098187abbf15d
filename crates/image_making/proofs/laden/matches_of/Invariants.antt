use Rattle.{std.proofs.Common.{◌||◌, ◌≡◌}, rule_model.specs.{declared.matched.Match.{Match}, Matches.{has_match}}, image_making.specs.Loads.{comes_by}}
use Rattle.image_making.proofs.laden.matches_of.Given as goal

abbrev pub invariant-loop-change : goal.invariant-loop-change
invariant-loop-change l = (m : Match) → (has_match l.matches.keys m || comes_by l.change-iterator.rest.items m) ≡ comes_by l.fn.changes.items m
