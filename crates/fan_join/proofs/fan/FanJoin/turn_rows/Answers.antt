use Rattle.fan_join.proofs.{Common.{◌∙◌, subst, List, Candidates, RowTurn, AreDifferences}, Whole.{all_turned}}
use Rattle.fan_join.proofs.fan.FanJoin.turn_rows.Goals as goal

pub returns-clause-turned : goal.returns-clause-turned
returns-clause-turned g c all reached =
    let look = g.F.Facts.map c.args.facts.now in
    let turn : RowTurn = record { went = c.in_ok-went.went; came = c.in_ok-came.came } in
    all_turned c.args.self.now c.leave.new.self c.come.new.self look c.args.gone.now c.args.come.now turn c.in_ok-places.places.keys c.in_ok-deltas.deltas
    (record { key = c.in_ok-went.ensures.key; key_now = c.in_ok-came.ensures.key ∙ c.in_ok-went.ensures.key; leaves = c.in_ok-went.ensures.keeps; comes = c.in_ok-came.ensures.keeps; went = c.in_ok-went.ensures.went; came = c.in_ok-came.ensures.came })
    c.in_ok-places.ensures
    (subst (λ (members : List Candidates). AreDifferences turn look members c.in_ok-places.places.keys c.in_ok-deltas.deltas) c.deref.ensures.value c.in_ok-deltas.ensures) all reached
