use Rattle.{std.proofs.Common.{map, take, ◌≡◌}, image_laws.specs.Images.{match_fired}, rule_model.specs.{declared.matched.Match.{Match}, Matches.{has_match}}}
use Rattle.image_making.proofs.fired.fired_set.Given as goal

abbrev pub invariant-loop-matched : goal.invariant-loop-matched
invariant-loop-matched l = (m : Match) → has_match l.set.keys m ≡ has_match (map match_fired (take l.matched-index l.fired)) m
