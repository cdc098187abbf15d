use Rattle.{rete_net.proofs.{Common.{sym, subst, Node, IsStillAt}, Scheduling.{none_below}}, not_node.specs.Doors.{waiting_rows}}
use Rattle.rete_net.proofs.node.NetNode.waits_up_to.Goals as goal

pub returns-in-Not : goal.returns-in-Not
returns-in-Not c floor low =
    subst (λ (n : Node). IsStillAt n floor) (sym c.in-Not.is) (none_below (waiting_rows c.in-Not.waiting) c.next_moment.result floor c.next_moment.ensures.least low)

pub returns-in-Join : goal.returns-in-Join
returns-in-Join c floor low = subst (λ (n : Node). IsStillAt n floor) (sym c.in-Join.is) tt

pub returns-in-Exists : goal.returns-in-Exists
returns-in-Exists c floor low = subst (λ (n : Node). IsStillAt n floor) (sym c.in-Exists.is) tt

pub returns-in-Fold : goal.returns-in-Fold
returns-in-Fold c floor low = subst (λ (n : Node). IsStillAt n floor) (sym c.in-Fold.is) tt
