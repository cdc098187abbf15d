use Rattle.window_gate.proofs.{Common.{sym, subst, [], Kept, KeepsWindow}, gate.Gate.new.Goals.{in-Whole, in-Time, in-Length}}
use Rattle.window_gate.proofs.gate.Gate.new.Goals as goal

pub returns-clause-stands : goal.returns-clause-stands
returns-clause-stands c now = record {
  tags = tt;
  keeps = elim c.match-window.branch [
    | in-Whole w ↦ subst (λ (kept : Kept). KeepsWindow kept [] now) (sym w.kept-is) tt
    | in-Time w ↦ subst (λ (kept : Kept). KeepsWindow kept [] now) (sym w.kept-is) (w.new.ensures.keeps now)
    | in-Length w ↦ subst (λ (kept : Kept). KeepsWindow kept [] now) (sym w.kept-is) (w.new-in-Length.ensures.keeps now)
  ];
}
