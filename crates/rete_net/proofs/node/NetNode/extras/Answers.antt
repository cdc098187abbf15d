use Rattle.rete_net.proofs.{Common.{◌≡◌, ◌∙◌, sym, Plain, condition_of}, Siblings.{given_some, none_beside}}
use Rattle.rete_net.proofs.node.NetNode.extras.Goals as goal

pub returns-then-is_some : goal.returns-then-is_some
returns-then-is_some g c m p s rows forgotten tags known named stands =
    let q = given_some c.join_pattern.result (λ q. condition_of c.args.self.now.node ≡ Plain q.now) (sym c.is_some.ensures ∙ c.if-is_some.true) c.join_pattern.ensures.some in
    none_beside p (condition_of c.args.self.now.node) q.0.now q.1 s rows forgotten c.args.owner.rule c.args.owner.condition c.new.result.items c.new.ensures.items
