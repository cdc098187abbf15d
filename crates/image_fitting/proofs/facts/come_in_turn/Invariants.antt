use Rattle.image_fitting.proofs.Common.{◌≡◌, length, replicate, drop, pos, come_in_turn}
use Rattle.image_fitting.proofs.facts.come_in_turn.Given as goal

abbrev pub invariant-loop-fact : goal.invariant-loop-fact
invariant-loop-fact l = come_in_turn l.program l.latest.items (drop l.fact-index l.facts) ≡ come_in_turn l.program (replicate (length l.program.entries) (pos 0)) l.facts
