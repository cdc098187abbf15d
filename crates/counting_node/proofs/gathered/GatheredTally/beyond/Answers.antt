use Rattle.counting_node.proofs.{Common.{◌≡◌, ◌∙◌, sym, ap, rules, length, Held}, Extras.{gathers_beyond}}
use Rattle.counting_node.proofs.gathered.GatheredTally.beyond.Goals as goal

pub returns : goal.returns
returns c world set others apart all part =
    let held : c.self.inside.fold.values ≡ c.args.self.now.values = ap (λ (h : Held). h.values) c.self.view_is in
    let kept : c.part.inside.fold.values ≡ c.args.part.now.values = ap (λ (h : Held). h.values) c.part.view_is in
    let values_are : c.as_slice.result.now ≡ c.args.self.now.values = c.as_slice.ensures ∙ c.in_ok-values.ensures.values ∙ held in
    let part_are : c.as_slice-2.result.now ≡ c.args.part.now.values = c.as_slice-2.ensures ∙ c.in_ok-kept.ensures.values ∙ kept in
    let counted : c.len.result ≡ length c.in_ok-rest.rest.items = search rules in
    gathers_beyond c.args._plan.now world set others apart c.args.self.now c.args.part.now all part c.from_vec.result c.len.result
    (λ xs ys e f. c.from_vec.ensures ∙ c.in_ok-rest.ensures xs ys (values_are ∙ e) (part_are ∙ f))
    (counted ∙ ap length (sym c.from_vec.ensures))
