use Rattle.counting_node.proofs.Common.{◌≡◌, ◌∙◌, sym, ap, refl, subst, cond, List, Some, None, ◌||◌, true, Bool, Bor, fun_ext, option_map, eq_by_cmp, Extra}
use Rattle.counting_node.proofs.Common.{Named, Row, row_cmp, leads_alike, joins, has_name, left_at, has_left, has_right, KeepsMemories, row_decides}
use Rattle.counting_node.proofs.{Common.{row_present, IsTallyLaden, shown, passing, AllLoaded}, Following.{arrives_there, arrives_one}, Parts.{unmoved}}
use Rattle.{counting_node.proofs.Turning.{put_shown, shown_from, none_output}, fx_base.proofs.Tests.{and_first}}
use Rattle.counting_node.proofs.node.TallyNode.row_loads.Goals as goal

pub returns-then-has_left-clause-turned : goal.returns-then-has_left-clause-turned
returns-then-has_left-clause-turned g c =
    let look = g.F.Facts.map c.args.facts.now in
    let m = c.args.self.now.memories in
    let row = c.args.row.now in
    let o = option_map (λ (e : Bor Extra). e.now) c.args.extra in
    let holds = g.T.Tally.holds c.args.plan.now in
    let laden = g.T.Tally.laden c.args.plan.now in
    let there : has_left m look row ≡ true = sym c.has_left.ensures ∙ c.if-has_left.true in
    unmoved g.T.Tally.origin g.T.Tally.gives (g.T.Tally.output c.args.plan.now) (AllLoaded holds laden look (λ r. o) (eq_by_cmp row_cmp row)) m m look _ (has_right m look) c.args.change.now
    (record { pattern = refl; rows = row_present (has_left m look) row there; names = λ n. refl; agrees = λ before. before }) (λ r. refl)
    (λ world alike r. arrives_there (λ t world set. IsTallyLaden holds laden t world set o) world (eq_by_cmp row_cmp row r) _ (left_at m look r) (λ e. ap (has_left m look) (sym ((row_decides row r).0 e)) ∙ there))

pub returns-clause-turned : goal.returns-clause-turned
returns-clause-turned g c =
    let look = g.F.Facts.map c.args.facts.now in
    let m = c.args.self.now.memories in
    let n = c.put_left.new.self in
    let row = c.args.row.now in
    let tally = c.in_ok-tally.tally in
    let o = option_map (λ (e : Bor Extra). e.now) c.args.extra in
    let holds = g.T.Tally.holds c.args.plan.now in
    let laden = g.T.Tally.laden c.args.plan.now in
    let output = g.T.Tally.output c.args.plan.now in
    let absent = sym c.has_left.ensures ∙ c.if-has_left.false in
    let put : (r : Row) → left_at n look r ≡ cond (eq_by_cmp row_cmp row r) (Some tally) (left_at m look r) =
    λ r. c.in_ok-put_left.ensures.left r ∙ ap (λ (copy : Row). cond (eq_by_cmp row_cmp copy r) (Some tally) (left_at m look r)) c.in_ok-copy.ensures in
    let named : (x : Named) → has_name c.as_slice.result.now x ≡ passing m.pattern look (has_right m look) row x =
    λ x. ap (λ (names : List Named). has_name names x) c.as_slice.ensures.value ∙ c.in_ok-names.ensures.names x in
    record {
      keeps = subst (λ (copy : Row). KeepsMemories m n look (λ r. has_left m look r || eq_by_cmp row_cmp copy r) (has_right m look)) c.in_ok-copy.ensures c.in_ok-put_left.ensures.keeps;
      tallies = λ world alike r.
          arrives_one (λ t world set. IsTallyLaden holds laden t world set o) world (eq_by_cmp row_cmp row r) (passing m.pattern look (has_right m look) r) (left_at m look r) (left_at n look r) tally (λ e. ap (has_left m look) (sym ((row_decides row r).0 e)) ∙ absent) (put r)
          (λ e. subst (λ (set : Named → Bool). IsTallyLaden holds laden tally world set o) (fun_ext (λ x. named x ∙ ap (λ (l : Row). passing m.pattern look (has_right m look) l x) ((row_decides row r).0 e)))
          (c.in_ok-tally.ensures world (λ x f. alike x (and_first (has_right m look x) (joins m.pattern look row x) (sym (named x) ∙ f)))));
      leads = λ old leads.
          leads_alike old _ _ _ _
          (c.in_ok-note.ensures old (shown g.T.Tally.origin g.T.Tally.gives output m look) leads
          (shown_from g.T.Tally.origin g.T.Tally.gives output m look row None (none_output (output look row) (left_at m look row) absent)))
          (put_shown m n look row tally g.T.Tally.origin g.T.Tally.gives output put c.output-is.result c.output-is.ensures);
    }
