use Rattle.{rete_net.proofs.{Common.{ap, refl, None}, Kinship.{node_follows}}, std.proofs.lemmas.Option.{slice_get_within}}
use Rattle.candidate_source.proofs.Moving.{ok_three}
use Rattle.rete_net.proofs.sourcing.put_follower.Goals as goal

pub returns-then-branch : goal.returns-then-branch
returns-then-branch c apart =
    let is = c.in_ok-is_alike.ensures c.if-branch.true in
    ok_three c.put_node.result (λ of list apart_now. node_follows c.args.pattern.now None c.args.sources.now c.put_node.new.self apart apart_now c.args.source is.0 is.1 is.2 refl of (ap (λ list. list.items) list))
    c.put_node.ensures.of c.put_node.ensures.list (c.put_node.ensures.apart apart (slice_get_within c.args.sources.now.list.items c.args.source is.0 is.1))
