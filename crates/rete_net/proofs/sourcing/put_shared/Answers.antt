use Rattle.{rete_net.proofs.{Common.{refl, None}, Kinship.{node_leads}}, candidate_source.proofs.Moving.{ok_three}}
use Rattle.rete_net.proofs.sourcing.put_shared.Goals as goal

pub returns-in_ok-own-in-None : goal.returns-in_ok-own-in-None
returns-in_ok-own-in-None c apart =
    ok_three c.put_lead.result
    (λ of list apart_now. node_leads c.args.pattern.now None c.args.sources.now c.put_lead.new.self apart apart_now c.in_ok-own-in-None.own list.0 c.in_ok-own-in-None.ensures list.1 refl of list.2) c.put_lead.ensures.of
    c.put_lead.ensures.list (c.put_lead.ensures.apart apart)
