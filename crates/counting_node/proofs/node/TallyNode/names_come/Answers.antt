use Rattle.counting_node.proofs.{Common.{refl, get_or, eq_by_cmp, name_cmp, name_equiv, has_name, has_right, more_more, any_name}, Following.{name_within}}
use Rattle.counting_node.proofs.Parts.{part_then, follow_all}
use Rattle.counting_node.proofs.node.TallyNode.names_come.Goals as goal

pub loop-who-preserved : goal.loop-who-preserved
loop-who-preserved g c =
    let look = g.F.Facts.map c.args.facts.now in
    let m = c.args.self.now.memories in
    let n = c.loop-who.self.memories in
    let z = c.name_comes.new.self.memories in
    let names = c.args.names.now in
    let i = c.loop-who.who-index in
    part_then _ _ _ m n z look _ _ _ _ _ _ _ _ _ c.loop-who.invariant c.in_ok-name_comes.ensures c.loop-who.invariant.keeps.rows
    (λ x. more_more (eq_by_cmp name_cmp) name_equiv.symm names i c.loop-who-test.true any_name _ refl x (has_right m look x) (has_right n look x) (c.loop-who.invariant.keeps.names x))
    (follow_all (g.T.Tally.holds c.args.plan.now) look m n z (has_name names) (eq_by_cmp name_cmp (get_or names i any_name)) c.loop-who.invariant.keeps.pattern (name_within names i c.loop-who-test.true))
