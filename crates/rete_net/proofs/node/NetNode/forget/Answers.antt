use Rattle.rete_net.proofs.{Common.{refl, has_name, node_moves}, Forgets.{node_forgets}}
use Rattle.rete_net.proofs.node.NetNode.forget.Goals as goal

pub returns : goal.returns
returns g c =
    let told = c.in_ok-gone.ensures in
    node_forgets c.args.program.now (g.F.Facts.map c.args.facts.now) (has_name c.args.old.now) c.args.self.now (record { parent = c.args.self.now.parent; gate = c.args.self.now.gate; node = c.forget.new.self }) c.args.rows.now c.in_ok-gone.gone
    (λ p node look other s rows forgotten known known_other named. node_moves p look other s rows forgotten known known_other named node) refl refl told.condition
    told.stands told.dropped told.dropped_alone told.in_order
