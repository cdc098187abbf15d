use Rattle.rete_net.proofs.Common.{◌≡◌, ◌∙◌, ◌<◌, sym, ap, subst, inl, inr, ℕ, true, Some, slice_get, length, arith, slice_get_within, slice_get-get_or}
use Rattle.{rete_net.proofs.Common.{is_changed_by_clock, IsScheduled, NetNode}, fx_base.proofs.Orders.{below_or_last}}
use Rattle.rete_net.proofs.schedule.Schedule.of.Goals as goal

pub loop-place-preserved : goal.loop-place-preserved
loop-place-preserved c k n lt e timed =
    elim (below_or_last k c.loop-place.place lt) [
      | inl below ↦ c.in_ok-put.ensures.others c.args.program.now c.args.sources.now k n (λ same. absurd (omega arith)) (c.loop-place.invariant k n below e timed)
      | inr at ↦
          let x = c.index-nodes-place.result in
          let found : slice_get c.args.nodes.now c.loop-place.place ≡ Some c.index-nodes-place.result =
          slice_get-get_or c.args.nodes.now c.loop-place.place x c.loop-place-test.true ∙ ap Some (sym c.index-nodes-place.is) in
          let both : Some c.index-nodes-place.result ≡ Some n = sym found ∙ ap (slice_get c.args.nodes.now) (sym at) ∙ e in
          let is : c.index-nodes-place.result ≡ n = cc in
          subst (λ (m : NetNode). IsScheduled c.args.program.now c.args.sources.now c.put.new.self k m) is
          (subst (λ (i : ℕ). IsScheduled c.args.program.now c.args.sources.now c.put.new.self i c.index-nodes-place.result) (sym at)
          (c.in_ok-put.ensures.put (subst (λ (m : NetNode). is_changed_by_clock m ≡ true) (sym is) timed)))
    ]

pub returns : goal.returns
returns c k n e timed =
    let within : k < length c.args.nodes.now = slice_get_within c.args.nodes.now k n e in
    c.loop-place.invariant k n (omega arith) e timed
