use Rattle.counting_node.proofs.Common.{◌∙◌, refl, eq_by_cmp, name_cmp, name_equiv, has_right, keeps_then, less_more, any_name}
use Rattle.counting_node.proofs.node.TallyNode.names_drop.Goals as goal

pub loop-who-preserved : goal.loop-who-preserved
loop-who-preserved g c =
    let look = g.F.Facts.map c.args.facts.now in
    let m = c.args.self.now.memories in
    let n = c.loop-who.self.memories in
    let names = c.args.names.now in
    record {
      keeps = keeps_then m n c.take_right.new.self look _ _ _ _ _ _ c.loop-who.invariant.keeps c.take_right.ensures.keeps c.loop-who.invariant.keeps.rows
          (λ x. less_more (eq_by_cmp name_cmp) name_equiv.symm names c.loop-who.who-index c.loop-who-test.true any_name _ refl x (has_right m look x) (has_right n look x) (c.loop-who.invariant.keeps.names x));
      left = λ r. c.take_right.ensures.left r ∙ c.loop-who.invariant.left r;
    }
