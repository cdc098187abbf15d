use Rattle.rete_net.proofs.{Common.{◌∙◌, ap, grouped_facts_at}, Grouped.{one_empty}}
use Rattle.rete_net.proofs.pieces.reach.Goals as goal

pub reach-preserved : goal.reach-preserved
reach-preserved c ty = ap (λ groups. grouped_facts_at groups ty) c.in_ok-push.ensures.items ∙ one_empty c.reach.groups.items _ ty c.new.ensures.items ∙ c.reach.invariant ty
