use Rattle.rete_net.proofs.Common.{◌∙◌}
use Rattle.rete_net.proofs.fans.Fans.put_fan.Goals as goal

pub returns-clause-list : goal.returns-clause-list
returns-clause-list c = (
  record { parent = c.len-parent.result; join = c.new.result; places = c.new-2.result },
  c.in_ok-push.ensures.items,
  record {
    behind = c.len-parent.ensures ∙ c.args.self.now.spans.ok.0;
    same = c.new.ensures.key;
    members = c.new.ensures.none;
    places = c.new-2.ensures.items;
    beside = c.new.ensures.beside;
    reached = c.new.ensures.reached;
    empty = c.new.ensures.empty;
  },
)
