use Rattle.not_node.proofs.{Common.{◌∙◌, sym, ap, not, to_z-of_z, waits, below}, Pairs.{first_out}}
use Rattle.not_node.proofs.ripening.Ripening.take_due.Goals as goal

pub returns-in_err-pair-clause-above : goal.returns-in_err-pair-clause-above
returns-in_err-pair-clause-above c =
    let fits = c.ranges.floor in
    rw c.from_residual.ensures (λ at r there. sym (below c.args.floor at) ∙ ap not (simp to_z-of_z at c.in_err-pair.ensures.none (at, r) there))

pub returns-clause-due : goal.returns-clause-due
returns-clause-due c =
    let fits = c.ranges.floor in
    (sym (below c.args.floor c.in_ok-pair.pair.0) ∙ ap not (simp to_z-of_z at c.in_ok-pair.ensures.due), c.in_ok-pair.ensures.there)

pub returns-clause-taken : goal.returns-clause-taken
returns-clause-taken c at r =
    first_out c.in_ok-pair.pair at r (waits c.args.self.now.waiting.keys at r) (waits c.take_first_due.new.pairs.keys at r) (c.in_ok-pair.ensures.taken (at, r))
