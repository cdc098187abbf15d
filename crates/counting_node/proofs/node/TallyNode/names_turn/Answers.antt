use Rattle.counting_node.proofs.{Common.{◌∙◌, refl, subst, List, [], Named, has_left, has_right, shown, PartStep, AllFollowMoved}, Following.{take_all}}
use Rattle.counting_node.proofs.{Handing.{none_moved, one_moved}, Parts.{unmoved, part_then}}
use Rattle.counting_node.proofs.node.TallyNode.names_turn.Goals as goal

pub loop-who-init : goal.loop-who-init
loop-who-init g c =
    let look = g.F.Facts.map c.args.facts.now in
    let m = c.args.self.now.memories in
    let holds = g.T.Tally.holds c.args.plan.now in
    record {
      turned = unmoved g.T.Tally.origin g.T.Tally.gives (g.T.Tally.output c.args.plan.now) (AllFollowMoved holds look c.args.comes c.args.names.now []) m m look (has_left m look) (has_right m look) c.args.change.now
          (record { pattern = refl; rows = λ r. refl; names = λ x. refl; agrees = λ before. before }) (λ r. refl) (none_moved holds look c.args.comes c.args.names.now m);
      right = refl;
    }

pub loop-who-preserved : goal.loop-who-preserved
loop-who-preserved g c =
    let look = g.F.Facts.map c.args.facts.now in
    let m = c.args.self.now.memories in
    let n = c.loop-who.self.memories in
    let z = c.name_turns.new.self.memories in
    let turned = c.loop-who.invariant.turned in
    record {
      turned = part_then _ _ _ m n z look _ _ _ _ _ _ _ _ _ turned c.in_ok-name_turns.ensures.turned turned.keeps.rows turned.keeps.names
          (one_moved (g.T.Tally.holds c.args.plan.now) look c.args.comes c.args.names.now c.loop-who.who-index c.loop-who-test.true m n z turned.keeps.pattern);
      right = c.in_ok-name_turns.ensures.right ∙ c.loop-who.invariant.right;
    }

pub returns-clause-turned : goal.returns-clause-turned
returns-clause-turned g c =
    let look = g.F.Facts.map c.args.facts.now in
    let m = c.args.self.now.memories in
    subst (λ (some : List Named). PartStep (shown g.T.Tally.origin g.T.Tally.gives (g.T.Tally.output c.args.plan.now)) (AllFollowMoved (g.T.Tally.holds c.args.plan.now) look c.args.comes c.args.names.now some) m c.loop-who.self.memories look
    (has_left m look) (has_right m look) c.args.change.now c.loop-who.change)
    (take_all c.args.names.now c.loop-who.who-index c.loop-who-test.false) c.loop-who.invariant.turned
