use Rattle.pattern_gate.proofs.Common.{◌≡◌, Bool, List, drop, Row, lent, WindowKind, Arrival, window_of, more_facts, LetsAllCome, ReachesArrivals}
use Rattle.pattern_gate.proofs.Turning.{IsExpected}
use Rattle.pattern_gate.proofs.gate.PatternGate.facts_come.Given as goal

abbrev pub invariant-loop-fact : goal.invariant-loop-fact
invariant-loop-fact l = record {
  window : window_of l.self.gate ≡ window_of l.initial.self.gate;
  left : (old : Row → Bool) (kind : WindowKind) (arrivals : List Arrival) → ReachesArrivals old kind l.initial.self l.initial.change arrivals l.clock → LetsAllCome kind l.pattern l.clock arrivals (lent l.come)
      → IsExpected old kind l.pattern l.clock l.self l.change (lent (drop l.fact-index l.come)) (more_facts l.pattern arrivals (lent l.come));
}
