use Rattle.rete_net.proofs.{Common.{◌∙◌, ap, ◌+◌, ◌∷◌, [], None, Option, List, length, length-append, Seat, seat_at}, Seated.{none_more}}
use Rattle.rete_net.proofs.fans.Fans.none.Goals as goal

pub loop-place-preserved : goal.loop-place-preserved
loop-place-preserved c = record {
  many = ap length c.in_ok-push.ensures.items ∙ length-append c.loop-place.seats.items (None ∷ []) ∙ ap (λ n. n + 1) c.loop-place.invariant.many;
  none = λ k. ap (λ (seats : List (Option Seat)). seat_at seats k) c.in_ok-push.ensures.items ∙ none_more c.loop-place.seats.items c.loop-place.invariant.none k;
}
