use Rattle.rete_net.proofs.{Common.{◌≡◌, ◌∙◌, sym, ap, refl, ◌<◌, arith, length, ℕ, Some, slice_get, set, slice_get-get_or, Fan}, Seated.{member_grows}}
use Rattle.fx_base.proofs.Sequences.{one_value}
use Rattle.rete_net.proofs.fans.Fans.put_member.Goals as goal

pub returns-clause-grown : goal.returns-clause-grown
returns-clause-grown c nodes from n low e parent condition was =
    let list = c.args.self.now.list.items in
    let fan = c.args.fan in
    let len = c.len.ensures ∙ c.args.self.now.list.ok.0 in
    let lt = c.if-fan-len.false in
    let within : c.args.fan < length c.args.self.now.list.items = omega (arith, len, lt) in
    let at : slice_get c.args.self.now.list.items c.args.fan ≡ Some c.index_mut.result.now = slice_get-get_or list fan c.index_mut.result.now within ∙ ap Some (sym c.index_mut.ensures.value) in
    let seen : slice_get c.args.self.now.list.items c.args.fan ≡ Some c.index.result.now = slice_get-get_or list fan c.index.result.now within ∙ ap Some (sym c.index.ensures) in
    let same : c.index.result.now ≡ c.index_mut.result.now = one_value (slice_get list fan) c.index.result.now c.index_mut.result.now seen at in
    let member : c.len-member.result ≡ length c.index_mut.result.now.places.items = c.len-member.ensures ∙ c.index.result.now.places.ok.0 ∙ ap (λ (f : Fan). length f.places.items) same in
    let seats = c.args.self.now.seats.items in
    let place = c.args.place in
    member_grows nodes from c.args.self.now _ fan low c.index_mut.result.now c.put.new.self at refl place c.args.pattern.now c.in_ok-put.ensures (c.is_free.ensures c.if-not-is_free.false)
    (ap (λ (m : ℕ). set seats place (Some (record { fan = fan; member = m }))) member) refl n e parent condition was
