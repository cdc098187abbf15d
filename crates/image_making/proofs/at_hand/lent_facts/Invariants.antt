use Rattle.{std.proofs.Common.{take, ◌≡◌}, rule_model.specs.Lent.{lent}}
use Rattle.image_making.proofs.at_hand.lent_facts.Given as goal

abbrev pub invariant-loop-fact : goal.invariant-loop-fact
invariant-loop-fact l = lent l.kept.items ≡ take l.fact-index l.facts
