use Rattle.{std.proofs.Common.{List, ap, sym, ◌&&◌, ◌==◌, ◌||◌, ◌∙◌}, row_delta.specs.{declared.row.Row.{Row}, Rows.{has}}}
use Rattle.{rule_model.specs.{declared.matched.Match.{Match}, Matches.{has_match}}, image_making.proofs.Adding.{one_added}}
use Rattle.image_making.proofs.laden.add_matches.Goals as goal

pub loop-row-preserved : goal.loop-row-preserved
loop-row-preserved c m =
    let n : Match = record { rule = c.args.rule; row = c.in-Some.row } in
    one_added c.loop-row.matches.keys c.insert.new.self.keys n c.next.new.self.rest.items c.in_ok-insert.ensures.updates.0 m
    ∙ ap (λ (rows : List Row). has_match c.loop-row.matches.keys m || (c.args.rule.0 == m.rule.0 && has rows m.row)) (sym c.in-Some.ensures.steps.0)
    ∙ c.loop-row.invariant m
