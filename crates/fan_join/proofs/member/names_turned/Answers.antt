use Rattle.fan_join.proofs.{Common.{sym, ap, ◌&&◌, is_some, at, same_value, name_cmp, candidate_value, has_name, Pattern}, Halves.{names_turn, under_turned}}
use Rattle.fan_join.proofs.member.names_turned.Goals as goal

pub returns-clause-turned : goal.returns-clause-turned
returns-clause-turned g c =
    let look = g.F.Facts.map c.args.facts.now in
    names_turn c.args.left.now look c.args.member.now c.leave.new.self c.come.new.self c.args.gone.now c.args.come.now c.in_ok-rows_gone.rows_gone.items c.in_ok-rows_come.rows_come.items
    c.in_ok-change.change c.leave-2.new.self c.arrive.new.self c.args.so_far c.in_ok-delta.delta c.in_ok-rows_gone.ensures.pattern c.in_ok-rows_come.ensures.pattern
    c.in_ok-rows_gone.ensures.keeps c.in_ok-rows_come.ensures.keeps c.in_ok-rows_gone.ensures.rows c.in_ok-rows_come.ensures.rows
    c.in_ok-change.ensures c.in_ok-leave.ensures c.in_ok-arrive.ensures c.in_ok-delta.ensures

pub returns-clause-under : goal.returns-clause-under
returns-clause-under g c value who kept =
    let look = g.F.Facts.map c.args.facts.now in
    under_turned (is_some (at same_value name_cmp c.args.member.now.names value who)) (is_some (at same_value name_cmp c.leave.new.self.names value who)) (is_some (at same_value name_cmp c.come.new.self.names value who)) _ _
    (c.in_ok-rows_gone.ensures.under value who) (c.in_ok-rows_come.ensures.under value who)
    (ap (λ (p : Pattern). has_name c.args.come.now who && same_value (candidate_value p look who) value) (sym c.in_ok-rows_come.ensures.pattern)) kept
