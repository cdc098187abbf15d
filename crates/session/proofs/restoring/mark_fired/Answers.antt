use Rattle.session.proofs.Common.{◌≡◌, ◌==◌, ◌&&◌, ◌||◌, not, true, false, take, sym, subst, rules, eq_by_cmp, Row, row_cmp, FiredMatch, Match, has_match}
use Rattle.session.proofs.Common.{AreMarking, in_at, next_taken, one_marked}
use Rattle.session.proofs.restoring.mark_fired.Goals as goal

pub returns-then-not-contains-clause-unfit : goal.returns-then-not-contains-clause-unfit
returns-then-not-contains-clause-unfit c unfit =
    let f : FiredMatch = c.matched-item.result in
    let came = c.args.came.now.keys in
    let out : has_match came (record { rule = f.rule; row = c.in_ok-copy.copy }) ≡ false = search rules in (
      f,
      in_at c.args.fired.now c.loop-matched.matched-index f c.loop-matched-test.true c.matched-item.is,
      subst (λ (r : Row). has_match came (record { rule = f.rule; row = r }) ≡ false) c.in_ok-copy.ensures out,
    )

pub loop-matched-preserved : goal.loop-matched-preserved
loop-matched-preserved c =
    let f : FiredMatch = c.matched-item.result in
    let came = c.args.came.now.keys in
    let now = c.loop-matched.agenda in
    let next = c.mark.new.self in
    let there : has_match came (record { rule = f.rule; row = c.in_ok-copy.copy }) ≡ true = search rules in
    subst (AreMarking came c.args.agenda.now next) (sym (next_taken c.args.fired.now c.loop-matched.matched-index f c.loop-matched-test.true c.matched-item.is))
    (one_marked came c.args.agenda.now now next (take c.loop-matched.matched-index c.args.fired.now) f c.loop-matched.invariant
    (subst (λ (r : Row). has_match came (record { rule = f.rule; row = r }) ≡ true) c.in_ok-copy.ensures there) c.in_ok-mark.ensures.saliences
    (subst (λ (r : Row). (m : Match) → has_match next.pending m ≡ (has_match now.pending m && not (f.rule.0 == m.rule.0 && eq_by_cmp row_cmp r m.row))) c.in_ok-copy.ensures c.in_ok-mark.ensures.pending)
    (subst (λ (r : Row). (m : Match) → has_match next.fired m ≡ (has_match now.fired m || (f.rule.0 == m.rule.0 && eq_by_cmp row_cmp r m.row))) c.in_ok-copy.ensures c.in_ok-mark.ensures.fired))
