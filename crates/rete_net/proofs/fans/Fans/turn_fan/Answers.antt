use Rattle.rete_net.proofs.Common.{◌≡◌, ◌∙◌, sym, ap, refl, ◌<◌, arith, length, None, Some, slice_get, length-set, slice_get-get_or, get, nat_cmp, half_in}
use Rattle.rete_net.proofs.{Fanned.{each_like, fan_turned, half_other, half_there, member_other, none_past, rows_like}, Fanning.{laid_same}}
use Rattle.{rete_net.proofs.fans.Fans.turn_fan.Given.{Over}, fx_base.proofs.Sequences.{one_value}}
use Rattle.rete_net.proofs.fans.Fans.turn_fan.Goals as goal

at : (g : Over) (c : goal.Joined-branch-3 g) → slice_get c.args.self.now.list.items c.args.fan ≡ Some c.index_mut.result.now
at g c =
    let len = c.len.ensures ∙ c.args.self.now.list.ok.0 in
    let lt = c.if-fan-len.false in
    let within : c.args.fan < length c.args.self.now.list.items = omega (arith, len, lt) in
    slice_get-get_or c.args.self.now.list.items c.args.fan c.index_mut.result.now within ∙ ap Some (sym c.index_mut.ensures.value)

pub returns-clause-laid : goal.returns-clause-laid
returns-clause-laid g c =
    let told = c.in_ok-halves.ensures in
    let was = c.index_mut.result.now in
    record {
      seats = refl;
      spans = refl;
      lone = refl;
      many = length-set c.args.self.now.list.items c.args.fan c.turn_rows.new.self;
      each = each_like c.args.self.now.list.items c.args.fan was c.turn_rows.new.self (at g c) (rows_like was c.turn_rows.new.self told.parent told.places told.key told.members told.reached);
    }

pub returns-clause-others : goal.returns-clause-others
returns-clause-others g c seat other = (
  member_other c.args.self.now.list.items c.args.fan c.index_mut.result.now c.turn_rows.new.self (at g c) seat other,
  half_other c.args.self.now (record c.args.self.now { halves = c.insert.new.self }) c.args.fan c.in_ok-halves.halves c.in_ok-insert.ensures.updates seat other,
)

pub returns-clause-turned : goal.returns-clause-turned
returns-clause-turned g c seat f same e beside reached =
    fan_turned (g.F.Facts.map c.args.facts.now) c.args.gone.now c.args.come.now c.args.self.now.list.items c.args.fan c.index_mut.result.now c.turn_rows.new.self (at g c) c.in_ok-halves.halves
    c.in_ok-halves.ensures.members c.in_ok-halves.ensures.turned seat f (get nat_cmp c.insert.new.self seat.fan) same e beside reached (half_there c.args.self.now (record c.args.self.now { halves = c.insert.new.self }) c.args.fan c.in_ok-halves.halves c.in_ok-insert.ensures.updates seat same)

pub returns-clause-woken : goal.returns-clause-woken
returns-clause-woken g c seat f k same e there out =
    let is : c.index_mut.result.now ≡ f = one_value (slice_get c.args.self.now.list.items c.args.fan) c.index_mut.result.now f (at g c) e in
    ap (half_in seat.member) (half_there c.args.self.now (record c.args.self.now { halves = c.insert.new.self }) c.args.fan c.in_ok-halves.halves c.in_ok-insert.ensures.updates seat same)
    ∙ c.in_ok-halves.ensures.woken seat.member k (ap (λ x. slice_get x.places.items seat.member) is ∙ there) out

pub returns-then-fan-len-clause-laid : goal.returns-then-fan-len-clause-laid
returns-then-fan-len-clause-laid g c = laid_same c.args.self.now c.args.self.now refl refl refl refl

-- there is no fan in the place
past : (g : Over) (c : goal.Then-fan-len g) → slice_get c.args.self.now.list.items c.args.fan ≡ None
past g c =
    let len = c.len.ensures ∙ c.args.self.now.list.ok.0 in
    let ge = c.if-fan-len.true in
    none_past c.args.self.now.list.items c.args.fan (omega (arith, len, ge))

pub returns-then-fan-len-clause-turned : goal.returns-then-fan-len-clause-turned
returns-then-fan-len-clause-turned g c seat f same e beside reached = absurd (let no : None ≡ Some f = sym (past g c) ∙ e in cc)

pub returns-then-fan-len-clause-woken : goal.returns-then-fan-len-clause-woken
returns-then-fan-len-clause-woken g c seat f k same e there out = absurd (let no : None ≡ Some f = sym (past g c) ∙ e in cc)
