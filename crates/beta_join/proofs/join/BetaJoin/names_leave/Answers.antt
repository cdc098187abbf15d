use Rattle.beta_join.proofs.{Common.{refl, eq_by_cmp, name_cmp, name_equiv, has_right, less_more, any_name}, Turns.{turned_then}}
use Rattle.beta_join.proofs.join.BetaJoin.names_leave.Goals as goal

pub loop-who-preserved : goal.loop-who-preserved
loop-who-preserved g c =
    let look = g.F.Facts.map c.args.facts.now in
    turned_then c.args.self.now.memories c.loop-who.self.memories c.name_leaves.new.self.memories look _ _ _ _ _ _ c.args.change.now c.loop-who.change c.name_leaves.new.change
    c.loop-who.invariant c.in_ok-name_leaves.ensures c.loop-who.invariant.keeps.rows
    (λ k. less_more (eq_by_cmp name_cmp) name_equiv.symm c.args.names.now c.loop-who.who-index c.loop-who-test.true any_name _ refl k (has_right c.args.self.now.memories look k) (has_right c.loop-who.self.memories look k) (c.loop-who.invariant.keeps.names k))
