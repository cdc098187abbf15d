use Rattle.std.{proofs.Common.{List, map, subst, sym, take, true, cond, ◌≡◌}, specs.Ordering.{eq_by_cmp}}
use Rattle.{checkpoint.specs.declared.image.FiredMatch.{FiredMatch}, image_laws.specs.Images.{match_fired}, row_delta.specs.declared.row.Row.{Row}}
use Rattle.{rule_model.specs.{declared.matched.Match.{Match}, Matches.{has_match, match_cmp}}, image_making.proofs.{Adding.{next_taken}, Marking.{one_fired}}}
use Rattle.image_making.proofs.fired.fired_set.Goals as goal

pub loop-matched-preserved : goal.loop-matched-preserved
loop-matched-preserved c =
    let f : FiredMatch = c.matched-item.result in
    subst (λ (fs : List FiredMatch). (m : Match) → has_match c.insert.new.self.keys m ≡ has_match (map match_fired fs) m)
    (sym (next_taken c.args.fired.now c.loop-matched.matched-index f c.loop-matched-test.true c.matched-item.is))
    (one_fired c.loop-matched.set.keys c.insert.new.self.keys (take c.loop-matched.matched-index c.args.fired.now) f
    (subst (λ (row : Row). (q : Match) → has_match c.insert.new.self.keys q ≡ cond (eq_by_cmp match_cmp (record { rule = f.rule; row = row }) q) true (has_match c.loop-matched.set.keys q))
    c.in_ok-row.ensures c.in_ok-insert.ensures.updates.0) c.loop-matched.invariant)
