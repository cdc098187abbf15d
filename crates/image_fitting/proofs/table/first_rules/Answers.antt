use Rattle.image_fitting.proofs.{Common.{◌+◌, ◌≤◌, List, ℕ, length, sym, ap, subst, arith}, Tabling.{IsTableOf, one_rule_more, whole_table}}
use Rattle.image_fitting.proofs.table.first_rules.Goals as goal

pub loop-place-preserved : goal.loop-place-preserved
loop-place-preserved c =
    subst (λ (rows : List (List ℕ)). IsTableOf c.args.program.now rows (c.loop-place.place + 1)) (sym c.in_ok-push.ensures.items)
    (one_rule_more c.args.program.now c.loop-place.table.items c.loop-place.place c.in_ok-firsts.field-0 c.in_ok-firsts.ensures c.loop-place.invariant)

pub returns : goal.returns
returns c =
    let rules = ap length c.as_slice-place-end.ensures in
    let over : length c.args.program.now.rules ≤ c.loop-place.place = omega (arith, rules) in
    whole_table c.args.program.now c.loop-place.table.items c.loop-place.place over c.loop-place.invariant
