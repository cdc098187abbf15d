use Rattle.{rete_net.proofs.{Common.{ap}, Kinship.{node_alone}}, candidate_source.proofs.Moving.{ok_three}}
use Rattle.rete_net.proofs.sourcing.put_alone.Goals as goal

pub returns : goal.returns
returns c p seat apart =
    ok_three c.put_node.result (λ of list apart_now. node_alone p seat c.args.sources.now c.put_node.new.self apart apart_now of (ap (λ list. list.items) list)) c.put_node.ensures.of
    c.put_node.ensures.list (c.put_node.ensures.apart apart tt)
