use Rattle.rule_eval.proofs.Common.{◌≡◌, to_z, of_z, true, false, Some, None, sym, ◌∙◌, ap, arith, w128, ints, bounds_of, bound_by, is_event, is_point}
use Rattle.rule_eval.proofs.{Common.{none_told, some_told, floor}, Ripe.{plain_mature, unbound_mature, event_mature}}
use Rattle.rule_model.specs.Maturity.{is_past as is_past_of}
use Rattle.rule_eval.proofs.finder.Finder.is_mature.Goals as goal
use Rattle.rule_model.specs.Moments.{snapshot_at}

pub returns-then-not-is_event : goal.returns-then-not-is_event
returns-then-not-is_event c =
    let p = c.args.self.now.program.now in
    let q = c.args.pattern.now in
    let plain : is_event p q.ty.0 ≡ false = cc in
    sym (plain_mature p q (bound_by c.args.bindings.now) (floor p (snapshot_at c.args.self.now.moment.now) q.entry.0) plain)

pub returns-in-None : goal.returns-in-None
returns-in-None c =
    let p = c.args.self.now.program.now in
    let q = c.args.pattern.now in
    let event : is_event p q.ty.0 ≡ true = cc in
    let none : bounds_of (bound_by c.args.bindings.now) q.times ≡ None =
    sym (ap (bounds_of (bound_by c.args.bindings.now)) c.as_slice.ensures) ∙ none_told _ c.in_ok-bounds.ensures c.in-None.is in
    sym (unbound_mature p q (bound_by c.args.bindings.now) (floor p (snapshot_at c.args.self.now.moment.now) q.entry.0) event none)

pub returns : goal.returns
returns c =
    let p = c.args.self.now.program.now in
    let q = c.args.pattern.now in
    let event : is_event p q.ty.0 ≡ true = cc in
    let some : bounds_of (bound_by c.args.bindings.now) q.times ≡ Some c.deref.result.now =
    sym (ap (bounds_of (bound_by c.args.bindings.now)) c.as_slice.ensures) ∙ some_told _ c.in_ok-bounds.ensures c.in-Some.is ∙ ap Some (sym c.deref.ensures.value) in
    let point : c.is_point.result ≡ is_point p q.ty.0 = c.is_point.ensures in
    let moment : to_z w128 (of_z w128 c.floor-floor.result) ≡ floor p (snapshot_at c.args.self.now.moment.now) q.entry.0 = omega (arith, ints, c.floor-floor.ensures) in
    c.is_past.ensures ∙ ap (is_past_of c.possible_start-starts.result) moment
    ∙ sym (event_mature p q (bound_by c.args.bindings.now) (floor p (snapshot_at c.args.self.now.moment.now) q.entry.0) c.deref.result.now c.is_point.result c.possible_start-starts.result
    c.requires event some point c.possible_start-starts.ensures.window)
