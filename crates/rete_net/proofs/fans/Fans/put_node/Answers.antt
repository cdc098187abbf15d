use Rattle.{rete_net.proofs.Common.{◌∙◌, sym, ap, subst, ◌≤◌, ℕ, length, Option, Some, AreGrowing}, std.specs.Option.{IfSome}}
use Rattle.rete_net.proofs.fans.Fans.put_node.Goals as goal

pub returns-in_ok-put_member-in-Some-2 : goal.returns-in_ok-put_member-in-Some-2
returns-in_ok-put_member-in-Some-2 c =
    let n = c.in-Some.ensures in
    let found = c.in_ok-fan-in-Some.ensures in
    let put = c.in_ok-put_member-in-Some-2.ensures in
    let from = c.args.from in
    record {
      spans = put.spans ∙ found.grows.spans;
      grows = λ was.
          let low = subst (λ (o : Option ℕ). IfSome o (λ f. AreGrowing c.args.nodes.now c.args.self.now c.args.from → c.args.from ≤ f)) c.in-Some-2.is found.low was in
          put.grown c.args.nodes.now from n.0 low n.1
          (n.2 ∙ ap Some (c.len.ensures ∙ c.args.self.now.spans.ok.0 ∙ ap (λ l. length l.items) (sym found.grows.spans))) n.3 (found.grows.grows was);
    }
