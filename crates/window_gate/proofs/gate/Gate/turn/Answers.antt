use Rattle.window_gate.proofs.Common.{◌≡◌, sym, subst, ℤ, List, map, IsBetween, Kept, Arrival, named_of, after, rows_inside, TagsDiffer, KeepsWindow, MayChange}
use Rattle.window_gate.proofs.Common.{StandsForArrivals, TakesChange, window_kept, window_of, Delta, between_disjoint, GateChange, Whole}
use Rattle.window_gate.{specs.declared.gate.Gate.{Gate}, proofs.Insides.{differ_after}}
use Rattle.window_gate.specs.declared.gate.Kept.TheVariants as kept
use Rattle.window_gate.proofs.gate.Gate.turn.Goals as goal

-- ---- a whole window

stays : (gate : Gate) → gate.kept ≡ kept.Whole → (arrivals : List Arrival) (was now : ℤ) (change : GateChange) → StandsForArrivals gate arrivals was → TakesChange (window_of gate) arrivals was change now
    → StandsForArrivals gate (after arrivals change) now
stays gate is arrivals was now change stands takes = record {
  tags = differ_after (window_of gate) arrivals change stands.tags takes.changes;
  keeps = subst (λ k. KeepsWindow k (after arrivals change) now) (sym is) tt;
}

changes : (gate : Gate) → gate.kept ≡ kept.Whole → (arrivals : List Arrival) (was now : ℤ) (change : GateChange) (delta : Delta) → StandsForArrivals gate arrivals was → TakesChange (window_of gate) arrivals was change now
    → ((arrivals : List Arrival) (was now : ℤ) → TagsDiffer (map named_of arrivals) → MayChange Whole (map named_of arrivals) change → IsBetween (rows_inside Whole was arrivals) (rows_inside Whole now (after arrivals change)) delta)
    → IsBetween (rows_inside (window_of gate) was arrivals) (rows_inside (window_of gate) now (after arrivals change)) delta
changes gate is arrivals was now change delta stands takes whole =
    let P : Kept → Type 0 = λ k. MayChange (window_kept k) (map named_of arrivals) change → IsBetween (rows_inside (window_kept k) was arrivals) (rows_inside (window_kept k) now (after arrivals change)) delta in
    subst P (sym is) (whole arrivals was now stands.tags) takes.changes

pub returns-then-is_whole-clause-stands : goal.returns-then-is_whole-clause-stands
returns-then-is_whole-clause-stands c arrivals was stands takes = stays c.args.self.now (c.is_whole.ensures c.if-is_whole.true) arrivals was c.args.now c.args.change.now stands takes

between : (c : goal.In_ok-delta) (arrivals : List Arrival) (was : ℤ) → StandsForArrivals c.args.self.now arrivals was → TakesChange (window_of c.args.self.now) arrivals was c.args.change.now c.args.now
    → IsBetween (rows_inside (window_of c.args.self.now) was arrivals) (rows_inside (window_of c.args.self.now) c.args.now (after arrivals c.args.change.now)) c.in_ok-delta.delta
between c arrivals was stands takes =
    changes c.args.self.now (c.is_whole.ensures c.if-is_whole.true) arrivals was c.args.now c.args.change.now c.in_ok-delta.delta stands takes c.in_ok-delta.ensures

pub returns-then-is_whole-clause-between : goal.returns-then-is_whole-clause-between
returns-then-is_whole-clause-between c arrivals was stands takes = between c arrivals was stands takes

pub returns-then-is_whole-clause-disjoint : goal.returns-then-is_whole-clause-disjoint
returns-then-is_whole-clause-disjoint c arrivals was stands takes = between_disjoint (between c arrivals was stands takes)
