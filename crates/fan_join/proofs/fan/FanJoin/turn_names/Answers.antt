use Rattle.fan_join.proofs.{Common.{◌≡◌, ◌∙◌, ap, sym, refl, Some, is_some, slice_get, slice_get-get_or, LeftRows}, Reaches.{names_reached, names_timed}}
use Rattle.join_tests.specs.declared.row_key.RowKey.{RowKey}
use Rattle.fan_join.proofs.fan.FanJoin.turn_names.Goals as goal

pub returns-then-is_timed : goal.returns-then-is_timed
returns-then-is_timed g c =
    let members = c.args.self.now.members.items in
    let at : slice_get members c.args.place ≡ Some c.index_mut-member.result.now =
    slice_get-get_or members c.args.place c.index_mut-member.result.now c.requires ∙ ap Some (sym c.index_mut-member.ensures.value) in
    names_timed c.args.self.now _ (g.F.Facts.map c.args.facts.now) c.args.place c.args.gone.now c.args.come.now c.args.so_far c.in_ok-delta.delta c.index_mut-member.result.now c.names_turned.new.member at refl
    (ap (λ (key : RowKey). is_some key.time) (sym c.key.ensures) ∙ sym c.is_timed.ensures ∙ c.if-is_timed.true) c.in_ok-delta.ensures.turned refl

pub returns : goal.returns
returns g c =
    let members = c.args.self.now.members.items in
    let at : slice_get members c.args.place ≡ Some c.index_mut-member.result.now =
    slice_get-get_or members c.args.place c.index_mut-member.result.now c.requires ∙ ap Some (sym c.index_mut-member.ensures.value) in
    names_reached c.args.self.now _ c.take_values.new.reached (g.F.Facts.map c.args.facts.now) c.args.place c.args.come.now c.index_mut-member.result.now c.names_turned.new.member at refl
    c.in_ok-delta.ensures.under c.take_values.ensures c.in_ok-put_values.ensures.stays c.in_ok-put_values.ensures.put c.args.gone.now c.args.so_far c.in_ok-delta.delta c.in_ok-delta.ensures.turned refl
