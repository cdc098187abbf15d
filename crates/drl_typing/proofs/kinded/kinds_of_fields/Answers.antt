use Rattle.drl_typing.proofs.Once.{one_field_more}
use Rattle.drl_typing.proofs.kinded.kinds_of_fields.Goals as goal

pub loop-field-preserved : goal.loop-field-preserved
loop-field-preserved c =
    let next = one_field_more _ _ _ _ _ _ _ c.loop-field-test.true c.field-item.is c.loop-field.invariant.names c.loop-field.invariant.kinds c.in_ok-before.ensures c.in_ok-add_kind.ensures in
    record { names = next.0; kinds = next.1 }
