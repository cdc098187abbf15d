use Rattle.rete_net.proofs.{Common.{◌≡◌, ◌∙◌, sym, ap, rules, Some, FitsSigned, w128}, Timing.{set_already, set_there, still_set}}
use Rattle.std.proofs.{lemmas.Int.{to_z-of_z}, Common.{to_z}}
use Rattle.rete_net.proofs.timers.Timers.put_at.Goals as goal

pub returns-in-Some-clause-put : goal.returns-in-Some-clause-put
returns-in-Some-clause-put c =
    let fits = c.ranges.at in
    let was_fits : FitsSigned w128 c.in-Some.was = search rules in
    let same : c.in-Some.was ≡ c.args.at = simp to_z-of_z at (ap (to_z w128) c.if-was-at.true) in
    set_already _ c.args.at (sym c.in-Some.ensures ∙ ap (λ z. Some z) same)

pub returns-in_ok-put-in_default-clause-put : goal.returns-in_ok-put-in_default-clause-put
returns-in_ok-put-in_default-clause-put c =
    let fits = c.ranges.at in
    set_there c.args.self.now (record { waiting = c.put.new.self }) c.args.place (Some (c.args.at, tt)) (simp to_z-of_z at c.in_ok-put-in_default.ensures.kept)

pub returns-in_ok-put-in_default-clause-others : goal.returns-in_ok-put-in_default-clause-others
returns-in_ok-put-in_default-clause-others c =
    let fits = c.ranges.at in
    still_set c.args.self.now (record { waiting = c.put.new.self }) c.args.place (Some (c.args.at, tt)) (simp to_z-of_z at c.in_ok-put-in_default.ensures.kept)
