use Rattle.rete_net.proofs.Common.{◌≡◌, true, take, In, Extra, has, InOrder}
use Rattle.rete_net.proofs.pieces.have_rows.Given as goal

abbrev pub invariant-loop-extra : goal.invariant-loop-extra
invariant-loop-extra l = InOrder l.rows → (e : Extra) → In e (take l.extra-index l.extras) → has l.rows e.row ≡ true
