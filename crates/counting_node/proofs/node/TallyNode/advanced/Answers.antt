use Rattle.counting_node.proofs.{Common.{◌∙◌, sym, ap, refl, cond, List, None, true, Named, Row, has, has_name, left_at, shown, row_naming}, Stepping.{stays}}
use Rattle.counting_node.proofs.Stepping.{fresh}
use Rattle.counting_node.proofs.node.TallyNode.advanced.Goals as goal

pub returns-clause-tallies : goal.returns-clause-tallies
returns-clause-tallies g c =
    let look = g.F.Facts.map c.args.facts.now in
    let m0 = c.args.self.now.memories in
    let m1 = c.rows_leave.new.self.memories in
    let m2 = c.names_leave.new.self.memories in
    let m3 = c.names_come.new.self.memories in
    let m4 = c.rows_come.new.self.memories in
    record {
      stays = λ world scope alike goes comes r t was not_gone.
          stays (g.T.Tally.holds c.args.plan.now) world look m0 m1 m2 m3 m4 c.in_ok-rows_leave.ensures.turned.keeps.pattern c.in_ok-names_leave.ensures.keeps.pattern c.in_ok-names_come.ensures.keeps.pattern
          c.in_ok-rows_leave.ensures.turned.keeps.names c.in_ok-rows_come.ensures.turned.keeps.names r (has c.args.left.now.gone r) (has c.as_slice-6.result.now r)
          (c.in_ok-rows_leave.ensures.turned.tallies r ∙ ap (λ (rows : List Row). cond (has rows r) None (left_at m0 look r)) c.as_slice-3.ensures)
          (c.in_ok-rows_come.ensures.turned.tallies look (λ x e. refl) r) scope t was not_gone
          (c.in_ok-names_leave.ensures.tallies world scope alike (λ x e. goes x (sym (ap (λ (names : List Named). has_name names x) c.as_slice-4.ensures.value ∙ c.in_ok-gone.ensures x ∙ ap (λ (rows : List Row). has rows (row_naming x)) c.as_slice.ensures) ∙ e)) r)
          (c.in_ok-names_come.ensures.tallies world scope alike (λ x e. comes x (sym (ap (λ (names : List Named). has_name names x) c.as_slice-5.ensures.value ∙ c.in_ok-come.ensures x ∙ ap (λ (rows : List Row). has rows (row_naming x)) c.as_slice-2.ensures) ∙ e)) r);
      fresh = λ world alike r absent comes.
          fresh (g.T.Tally.holds c.args.plan.now) world look m0 m1 m2 m3 m4 c.in_ok-rows_leave.ensures.turned.keeps.pattern c.in_ok-names_leave.ensures.keeps.pattern c.in_ok-names_come.ensures.keeps.pattern
          c.in_ok-rows_leave.ensures.turned.keeps.names c.in_ok-rows_come.ensures.turned.keeps.names r (has c.args.left.now.gone r) (has c.as_slice-6.result.now r)
          (c.in_ok-rows_leave.ensures.turned.tallies r ∙ ap (λ (rows : List Row). cond (has rows r) None (left_at m0 look r)) c.as_slice-3.ensures)
          (c.in_ok-rows_come.ensures.turned.tallies world (λ x e. alike x (c.in_ok-rows_come.ensures.turned.keeps.names x ∙ e)) r) _ _ absent (ap (λ (rows : List Row). has rows r) c.as_slice-6.ensures ∙ comes)
          (c.in_ok-names_leave.ensures.tallies look (λ x. true) (λ x e. refl) (λ x e. refl) r) (c.in_ok-names_come.ensures.tallies look (λ x. true) (λ x e. refl) (λ x e. refl) r);
    }

pub returns-clause-difference : goal.returns-clause-difference
returns-clause-difference g c =
    let old = shown g.T.Tally.origin g.T.Tally.gives (g.T.Tally.output c.args.plan.now) c.args.self.now.memories (g.F.Facts.map c.args.facts.now) in
    c.in_ok-delta.ensures old (shown g.T.Tally.origin g.T.Tally.gives (g.T.Tally.output c.args.plan.now) c.rows_come.new.self.memories (g.F.Facts.map c.args.facts.now))
    (c.in_ok-rows_come.ensures.turned.leads old (c.in_ok-names_come.ensures.leads old (c.in_ok-names_leave.ensures.leads old (c.in_ok-rows_leave.ensures.turned.leads old (c.none-change.ensures old)))))
