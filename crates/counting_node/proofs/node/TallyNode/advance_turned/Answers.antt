use Rattle.counting_node.proofs.{Common.{◌≡◌, ◌∙◌, ap, refl, cond, List, None, Named, Row, has, has_right, left_at, shown, keeps_then}, Handing.{stays_handed}}
use Rattle.{counting_node.proofs.Handing.{fresh_handed}, join_memory.proofs.Handed.{stepped_shared}}
use Rattle.counting_node.proofs.node.TallyNode.advance_turned.Goals as goal

pub returns-clause-kept : goal.returns-clause-kept
returns-clause-kept g c was right takes =
    let m = c.args.self.now.memories in
    let look = g.F.Facts.map c.args.facts.now in
    let n2 = c.names_turn-2.new.self.memories in
    let turned = keeps_then m c.names_turn.new.self.memories n2 look _ _ _ _ _ _ c.in_ok-names_turn.ensures.turned.keeps c.in_ok-names_turn-2.ensures.turned.keeps
    c.in_ok-names_turn.ensures.turned.keeps.rows c.in_ok-names_turn.ensures.turned.keeps.names in
    stepped_shared m n2 c.rows_leave.new.self.memories c.rows_come.new.self.memories was look c.args.left.now right _ _ _ _ c.as_slice.ensures c.as_slice-2.ensures takes
    turned c.in_ok-rows_leave.ensures.turned.keeps c.in_ok-rows_come.ensures.turned.keeps

pub returns-clause-tallies : goal.returns-clause-tallies
returns-clause-tallies g c was right takes =
    let look = g.F.Facts.map c.args.facts.now in
    let holds = g.T.Tally.holds c.args.plan.now in
    let m0 = c.args.self.now.memories in
    let m1 = c.names_turn.new.self.memories in
    let m2 = c.names_turn-2.new.self.memories in
    let m3 = c.rows_leave.new.self.memories in
    let m4 = c.rows_come.new.self.memories in
    let k1 = c.in_ok-names_turn.ensures.turned.keeps in
    let k2 = c.in_ok-names_turn-2.ensures.turned.keeps in
    let k3 = c.in_ok-rows_leave.ensures.turned.keeps in
    let k4 = c.in_ok-rows_come.ensures.turned.keeps in
    let n3 : (x : Named) → has_right m3 look x ≡ has_right m0 look x = λ x. k3.names x ∙ k2.names x ∙ k1.names x in
    let left : (r : Row) → left_at m3 look r ≡ cond (has c.args.left.now.gone r) None (left_at m2 look r) =
    λ r. c.in_ok-rows_leave.ensures.turned.tallies r ∙ ap (λ (rows : List Row). cond (has rows r) None (left_at m2 look r)) c.as_slice.ensures in
    record {
      stays = λ world scope alike goes comes r t there not_gone.
          stays_handed holds look m0 m1 m2 m3 m4 was right c.args.gone.now c.args.come.now takes k1.pattern (k3.pattern ∙ k2.pattern ∙ k1.pattern) n3 k4.names
          c.in_ok-names_turn.ensures.turned.tallies c.in_ok-names_turn-2.ensures.turned.tallies r (has c.args.left.now.gone r) (has c.as_slice-2.result.now r) (left r) _
          (c.in_ok-rows_come.ensures.turned.tallies look (λ x e. refl) r) world scope alike goes comes t there not_gone;
      fresh = λ world alike r absent comes.
          fresh_handed holds look m0 m1 m2 m3 m4 was right c.args.gone.now c.args.come.now takes k1.pattern (k3.pattern ∙ k2.pattern ∙ k1.pattern) n3 k4.names
          c.in_ok-names_turn.ensures.turned.tallies c.in_ok-names_turn-2.ensures.turned.tallies r (has c.args.left.now.gone r) (has c.as_slice-2.result.now r) (left r) world
          (c.in_ok-rows_come.ensures.turned.tallies world (λ x e. alike x (k4.names x ∙ e)) r) absent (ap (λ (rows : List Row). has rows r) c.as_slice-2.ensures ∙ comes);
    }

pub returns-clause-difference : goal.returns-clause-difference
returns-clause-difference g c =
    let rows = shown g.T.Tally.origin g.T.Tally.gives (g.T.Tally.output c.args.plan.now) in
    let look = g.F.Facts.map c.args.facts.now in
    let old = rows c.args.self.now.memories look in
    c.in_ok-delta.ensures old (rows c.rows_come.new.self.memories look)
    (c.in_ok-rows_come.ensures.turned.leads old (c.in_ok-rows_leave.ensures.turned.leads old (c.in_ok-names_turn-2.ensures.turned.leads old (c.in_ok-names_turn.ensures.turned.leads old (c.none-change.ensures old)))))
