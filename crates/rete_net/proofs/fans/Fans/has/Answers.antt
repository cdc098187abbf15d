use Rattle.rete_net.proofs.Common.{◌≡◌, ◌∙◌, sym, ap, subst, ◌<◌, ◌≤◌, length, List, Some, slice_get, option_map, slice_get-get_or, Candidates, Fan, in_fan}
use Rattle.{rete_net.proofs.Fanned.{none_past}, std.proofs.lemmas.Bool.{ltb-false, ltb-true}}
use Rattle.rete_net.proofs.fans.Fans.has.Goals as goal

at : (c : goal.After-struct_known-1) → slice_get c.args.self.now.list.items c.args.seat.fan ≡ Some c.in-Some.fan.now
at c =
    let within = ltb-true c.args.seat.fan (length c.deref.result.now) (sym c.in-Some.ensures.lookup.0) in
    ap (λ (l : List Fan). slice_get l c.args.seat.fan) (sym c.deref.ensures.value)
    ∙ slice_get-get_or c.deref.result.now c.args.seat.fan c.in-Some.fan.now within ∙ ap Some (sym c.in-Some.ensures.lookup.1)

pub returns-in-Some-clause-there : goal.returns-in-Some-clause-there
returns-in-Some-clause-there c lt = (
  c.in-Some.fan.now,
  at c,
  subst (λ n. c.args.seat.member < n) c.count.ensures (ltb-true c.args.seat.member c.count.result lt),
)

pub returns-in-Some-clause-missing : goal.returns-in-Some-clause-missing
returns-in-Some-clause-missing c out =
    let le : length c.in-Some.fan.now.join.members.items ≤ c.args.seat.member = subst (λ n. n ≤ c.args.seat.member) c.count.ensures (ltb-false c.args.seat.member c.count.result out) in
    ap (in_fan c.args.seat.member) (at c) ∙ ap (option_map (λ (x : Candidates). record { left = c.in-Some.fan.now.join.left; own = x })) (none_past c.in-Some.fan.now.join.members.items c.args.seat.member le)

pub returns-in-None-clause-missing : goal.returns-in-None-clause-missing
returns-in-None-clause-missing c same =
    let le = ltb-false c.args.seat.fan (length c.deref.result.now) (sym c.in-None.ensures.lookup.0) in
    ap (in_fan c.args.seat.member) (ap (λ (l : List Fan). slice_get l c.args.seat.fan) (sym c.deref.ensures.value) ∙ none_past c.deref.result.now c.args.seat.fan le)
