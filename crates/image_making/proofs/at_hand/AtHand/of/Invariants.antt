use Rattle.{std.proofs.Common.{Some, take, ◌≡◌}, fx_base.specs.{Lists.{In}, declared.fact.Fact.{Fact}}, image_making.specs.AtHand.{fact_in}}
use Rattle.image_making.proofs.at_hand.AtHand.of.Given as goal

abbrev pub invariant-loop-fact : goal.invariant-loop-fact
invariant-loop-fact l = (f : Fact) → In f (take l.fact-index l.facts) → fact_in l.by_tag f.tag ≡ Some f
