use Rattle.not_node.proofs.Common.{◌≡◌, ◌∙◌, sym, ap, subst, true, false, Some, None, bound_in, bounds_of, AreOperators, is_event, none_told, some_told}
use Rattle.not_node.proofs.Maturing.{plain_moment, unbound_moment, event_moment}
use Rattle.not_node.proofs.moments.moment_of.Goals as goal

pub returns-then-not-is_event : goal.returns-then-not-is_event
returns-then-not-is_event g c =
    let p = c.args.program.now in
    let q = c.args.pattern.now in
    let plain : is_event p q.ty.0 ≡ false = sym c.is_event.ensures ∙ c.if-not-is_event.true in
    sym (plain_moment p q (g.F.Facts.map c.args.facts.now) c.args.row.now plain)

pub returns-in-None : goal.returns-in-None
returns-in-None g c =
    let p = c.args.program.now in
    let q = c.args.pattern.now in
    let look = g.F.Facts.map c.args.facts.now in
    let event : is_event p q.ty.0 ≡ true = sym c.is_event.ensures ∙ c.if-not-is_event.false in
    let none : bounds_of (bound_in look c.args.row.now) q.times ≡ None =
    sym (ap (bounds_of (bound_in look c.args.row.now)) c.as_slice.ensures) ∙ none_told _ c.in_ok-bounds.ensures c.in-None.is in
    sym (unbound_moment p q look c.args.row.now event none)

pub returns-in-Some : goal.returns-in-Some
returns-in-Some g c =
    let p = c.args.program.now in
    let q = c.args.pattern.now in
    let look = g.F.Facts.map c.args.facts.now in
    let event : is_event p q.ty.0 ≡ true = sym c.is_event.ensures ∙ c.if-not-is_event.false in
    let some : bounds_of (bound_in look c.args.row.now) q.times ≡ Some c.deref.result.now =
    sym (ap (bounds_of (bound_in look c.args.row.now)) c.as_slice.ensures) ∙ some_told _ c.in_ok-bounds.ensures c.in-Some.is ∙ ap Some (sym c.deref.ensures.value) in
    c.latest_of.ensures
    ∙ sym (event_moment p q look c.args.row.now c.deref.result.now c.is_point.result c.possible_start-starts.result (subst AreOperators c.as_slice-in-Some.ensures c.read_operators.ensures) event some c.is_point.ensures c.possible_start-starts.ensures.window)
