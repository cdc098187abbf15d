use Rattle.not_node.proofs.{Common.{◌∙◌, sym, ap, int_lt, not, ◌&&◌, left_at, moment_at, is_that_moment, no_names}, Lawful.{none_shown}}
use Rattle.not_node.proofs.node.NotNode.new.Goals as goal

pub returns-clause-in_step : goal.returns-clause-in_step
returns-clause-in_step c program look at row =
    let m = c.new.result.memories in
    c.new-2.ensures.none at row
    ∙ ap (λ b. (b && is_that_moment (moment_at program m.pattern look row) at) && not (int_lt at c.new-2.result.floor)) (sym (none_shown look row (left_at m look row) ((c.new.ensures.nothing look no_names).rows row)))
