use Rattle.rete_net.proofs.{Common.{◌≡◌, ◌∙◌, sym, ap, refl, subst, ℕ, ◌++◌, ◌∷◌, [], length, AreGrowing}, Seated.{grows_not, grows_on, span_grows}}
use Rattle.rete_net.proofs.fans.Fans.put_behind.Goals as goal

pub loop-child-init : goal.loop-child-init
loop-child-init c = grows_not c.args.nodes.now c.len-from.result c.args.self.now

pub loop-child-preserved : goal.loop-child-preserved
loop-child-preserved c = grows_on c.args.nodes.now c.len-from.result c.args.self.now c.loop-child.self c.put_first.new.self c.loop-child.invariant c.in_ok-put_first.ensures

pub returns : goal.returns
returns c = record {
  grown = λ was.
      let from : length c.args.self.now.list.items ≡ c.len-from.result = sym (c.len-from.ensures ∙ c.args.self.now.list.ok.0) in
      let to : c.len-to.result ≡ length c.loop-child.self.list.items = c.len-to.ensures ∙ c.loop-child.self.list.ok.0 in
      let before = c.loop-child.self.spans.items in
      span_grows c.args.nodes.now c.len-from.result c.loop-child.self
      (record { list = c.loop-child.self.list; seats = c.loop-child.self.seats; spans = c.push.new.self; lone = c.loop-child.self.lone; halves = c.loop-child.self.halves }) refl refl
      (c.in_ok-push.ensures.items ∙ ap (λ (n : ℕ). before ++ record { from = c.len-from.result; to = n } ∷ []) to)
      (c.loop-child.invariant.grows (subst (AreGrowing c.args.nodes.now c.args.self.now) from was));
}
