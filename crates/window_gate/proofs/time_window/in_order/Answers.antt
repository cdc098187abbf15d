use Rattle.window_gate.proofs.{Common.{◌∙◌, ◌||◌, sym, ap, rules, get_or, list_any_more, eq_by_cmp, name_cmp}, Names.{same_name}, Wholes.{short_in_order}}
use Rattle.window_gate.proofs.Holding.{one_name_more}
use Rattle.window_gate.proofs.time_window.in_order.Goals as goal

pub returns-then-len-lt2-clause-in_order : goal.returns-then-len-lt2-clause-in_order
returns-then-len-lt2-clause-in_order c = short_in_order c.args.versions.items (search rules)

pub loop-named-preserved : goal.loop-named-preserved
loop-named-preserved c named =
    let one = get_or c.deref-named-items.result.now c.loop-named.named-index (record { id = record { 0 = 0 }; tag = record { 0 = 0 } }) in
    one_name_more named one _ _ (c.in_ok-insert.ensures.updates.0 named) ∙ ap (λ b. b || same_name named one) (c.loop-named.invariant named)
    ∙ sym (list_any_more (eq_by_cmp name_cmp named) c.deref-named-items.result.now c.loop-named.named-index _ c.loop-named-test.true)
