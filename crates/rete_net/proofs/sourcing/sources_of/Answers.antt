use Rattle.rete_net.proofs.Common.{◌∙◌, ◌≡◌, sym, ap, subst, ℕ, length, Option, Some, slice_get, arith, slice_get-get_or, seat_at, Pattern, Seat}
use Rattle.rete_net.{specs.Sourcing.{AreSourcesBelow, IsNodePut}, proofs.Kinship.{more_below, none_below}}
use Rattle.rete_net.proofs.sourcing.sources_of.Goals as goal

pub loop-place-init : goal.loop-place-init
loop-place-init c = none_below c.args.nodes.now c.args.fans.now.seats.items c.new-sources.result c.new-sources.ensures.of c.new-sources.ensures.apart

pub loop-place-preserved : goal.loop-place-preserved
loop-place-preserved c =
    let at : slice_get c.args.nodes.now c.loop-place.place ≡ Some c.index-nodes-place.result =
    slice_get-get_or c.args.nodes.now c.loop-place.place c.index-nodes-place.result c.loop-place-test.true ∙ ap Some (sym c.index-nodes-place.is) in
    more_below c.args.nodes.now c.args.fans.now.seats.items c.loop-place.sources c.put_node.new.sources c.loop-place.place c.index-nodes-place.result at
    (subst (λ (q : Pattern). IsNodePut q (seat_at c.args.fans.now.seats.items c.loop-place.place) c.loop-place.sources c.put_node.new.sources) c.pattern.ensures
    (subst (λ (seat : Option Seat). IsNodePut c.pattern.result.now seat c.loop-place.sources c.put_node.new.sources) c.seat-seat.ensures (c.in_ok-put_node.ensures c.loop-place.invariant.apart)))
    c.loop-place.invariant

pub returns : goal.returns
returns c =
    let past = c.loop-place-test.false in
    let most = c.loop-place.auto.place-end in
    subst (AreSourcesBelow c.args.nodes.now c.args.fans.now.seats.items c.loop-place.sources) (omega (arith, past, most)) c.loop-place.invariant
