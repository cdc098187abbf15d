use Rattle.pattern_gate.proofs.Common.{◌≡◌, Bool, List, drop, Row, lent, WindowKind, Arrival, window_of, less_facts, LetsAllGo, ReachesArrivals}
use Rattle.pattern_gate.proofs.Turning.{IsLeft}
use Rattle.pattern_gate.proofs.gate.PatternGate.facts_go.Given as goal

abbrev pub invariant-loop-fact : goal.invariant-loop-fact
invariant-loop-fact l = record {
  window : window_of l.self.gate ≡ window_of l.initial.self.gate;
  left : (old : Row → Bool) (kind : WindowKind) (arrivals : List Arrival) → ReachesArrivals old kind l.initial.self l.initial.change arrivals l.clock → LetsAllGo kind l.pattern l.clock arrivals (lent l.gone)
      → IsLeft old kind l.pattern l.clock l.self l.change (lent (drop l.fact-index l.gone)) (less_facts l.pattern arrivals (lent l.gone));
}
