use Rattle.rete_net.proofs.Common.{◌∙◌, sym, ap, subst, Pattern, pattern_of, held, empty_snapshot, GateStands}
use Rattle.rete_net.proofs.node.NetNode.new.Goals as goal

pub returns-clause-stands : goal.returns-clause-stands
returns-clause-stands c forgotten = record {
  gate = subst (λ (q : Pattern). GateStands c.args.program.now q c.new-gate.result empty_snapshot) (c.pattern.ensures ∙ ap pattern_of (sym c.in_ok-node.ensures.condition)) (c.new-gate.ensures c.args.program.now);
  node = c.in_ok-node.ensures.stands (held empty_snapshot) forgotten;
}
