use Rattle.rete_net.proofs.Common.{◌≡◌, ◌∙◌, sym, ap, subst, ◌<◌, inl, inr, ℕ, Some, true, slice_get, length, arith, slice_get_within, slice_get-get_or}
use Rattle.{rete_net.proofs.Common.{NetNode, is_listed, seat_at}, fx_base.proofs.Orders.{below_or_last}}
use Rattle.rete_net.proofs.seating.lone_of.Goals as goal

pub loop-place-init : goal.loop-place-init
loop-place-init c k parent n lt e is free = absurd (omega arith)

pub loop-place-preserved : goal.loop-place-preserved
loop-place-preserved c k parent n lt e is free =
    elim (below_or_last k c.loop-place.place lt) [
      | inl below ↦ c.in_ok-put_lone.ensures.kept parent k (c.loop-place.invariant k parent n below e is free)
      | inr at ↦
          let x = c.index-nodes-place.result in
          let found : slice_get c.args.nodes.now c.loop-place.place ≡ Some c.index-nodes-place.result =
          slice_get-get_or c.args.nodes.now c.loop-place.place x c.loop-place-test.true ∙ ap Some (sym c.index-nodes-place.is) in
          let both : Some c.index-nodes-place.result ≡ Some n = sym found ∙ ap (slice_get c.args.nodes.now) (sym at) ∙ e in
          let same : c.index-nodes-place.result ≡ n = cc in
          subst (λ (i : ℕ). is_listed c.put_lone.new.lone parent i ≡ true) (sym at)
          (c.in_ok-put_lone.ensures.put parent (ap (λ (m : NetNode). m.parent) same ∙ is) (c.seat_in.ensures ∙ ap (seat_at c.args.seats.now) (sym at) ∙ free))
    ]

pub returns : goal.returns
returns c k parent n e is free =
    let within : k < length c.args.nodes.now = slice_get_within c.args.nodes.now k n e in
    c.loop-place.invariant k parent n (omega arith) e is free
