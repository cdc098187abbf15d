use Rattle.not_node.proofs.Common.{◌≡◌, ◌∙◌, ap, ℤ, int_lt, List, true, not, ◌&&◌, ◌||◌, SFits, to_z, of_z, to_z-of_z, w128, Row, has, without, along}
use Rattle.not_node.proofs.{Common.{moment_at, waits, waits_at, is_that_moment, mature, ripe}, Ripe.{below_later, awaits_now, own, leaves, comes, ripens}}
use Rattle.{not_node.proofs.Ripe.{after}, row_change.proofs.Alike.{leads_alike}}
use Rattle.not_node.proofs.ripening.Ripening.advance.Goals as goal

pub returns-clause-awaits : goal.returns-clause-awaits
returns-clause-awaits g c rows rows_now awaits leads =
    let moment = moment_at c.args.program.now c.args.pattern.now (g.F.Facts.map c.args.facts.now) in
    let old = c.args.self.now.floor in
    let next = to_z w128 (of_z w128 c.later-next.result) in
    let gone = c.args.delta.now.gone in
    let come = c.args.delta.now.come in
    let leave = c.in_ok-leave.leave.items in
    let fresh = c.in_ok-come.come.items in
    let ripened = c.in_ok-ripened.ripened.items in
    let w0 = c.args.self.now.waiting.keys in
    let w1 = c.drop_rows.new.self.waiting.keys in
    let w2 = c.add_rows.new.self.waiting.keys in
    let w3 = c.ripen.new.self.waiting.keys in
    let fits : SFits w128 c.later-next.result = search in
    let fits_old : SFits w128 c.args.self.now.floor = search in
    let fits_floor : SFits w128 c.args.floor = c.ranges.floor in
    let same : next ≡ c.later-next.result = simp to_z-of_z in
    let is_later = simp to_z-of_z at c.later-next.ensures in
    let rises : (at : ℤ) → int_lt at old ≡ true → int_lt at next ≡ true = λ at e. ap (int_lt at) (same ∙ is_later) ∙ below_later old c.args.floor at e in
    let left : (r : Row) → has leave r ≡ (has gone r && not (waits_at w0 (moment r) r)) = λ r. c.in_ok-leave.ensures r ∙ ap (λ (xs : List Row). has xs r && not (waits_at w0 (moment r) r)) c.as_slice.ensures in
    let came : (r : Row) → has fresh r ≡ (has come r && mature next (moment r)) = λ r. c.in_ok-come.ensures r ∙ ap (λ (xs : List Row). has xs r && mature next (moment r)) c.as_slice-2.ensures in
    let less : (at : ℤ) (r : Row) → waits w1 at r ≡ (waits w0 at r && not (has gone r && is_that_moment (moment r) at)) = λ at r. c.in_ok-drop_rows.ensures at r ∙ ap (λ (xs : List Row). waits w0 at r && not (has xs r && is_that_moment (moment r) at)) c.as_slice-3.ensures in
    let more : (at : ℤ) (r : Row) → waits w2 at r ≡ (waits w1 at r || ((has come r && is_that_moment (moment r) at) && not (int_lt at next))) = λ at r. c.in_ok-add_rows.ensures at r ∙ ap (λ (xs : List Row). waits w1 at r || ((has xs r && is_that_moment (moment r) at) && not (int_lt at next))) c.as_slice-4.ensures in
    let rest : (at : ℤ) (r : Row) → waits w3 at r ≡ (waits w2 at r && not (int_lt at next)) = c.in_ok-ripened.ensures.waits in
    awaits_now moment old next rises rows rows_now gone come leave fresh ripened w0 w1 w2 w3 awaits leads left came less more rest

pub returns-clause-difference : goal.returns-clause-difference
returns-clause-difference g c rows rows_now awaits leads =
    let moment = moment_at c.args.program.now c.args.pattern.now (g.F.Facts.map c.args.facts.now) in
    let old = c.args.self.now.floor in
    let next = to_z w128 (of_z w128 c.later-next.result) in
    let gone = c.args.delta.now.gone in
    let come = c.args.delta.now.come in
    let leave = c.in_ok-leave.leave.items in
    let fresh = c.in_ok-come.come.items in
    let ripened = c.in_ok-ripened.ripened.items in
    let w0 = c.args.self.now.waiting.keys in
    let w1 = c.drop_rows.new.self.waiting.keys in
    let w2 = c.add_rows.new.self.waiting.keys in
    let w3 = c.ripen.new.self.waiting.keys in
    let fits : SFits w128 c.later-next.result = search in
    let fits_old : SFits w128 c.args.self.now.floor = search in
    let fits_floor : SFits w128 c.args.floor = c.ranges.floor in
    let same : next ≡ c.later-next.result = simp to_z-of_z in
    let is_later = simp to_z-of_z at c.later-next.ensures in
    let rises : (at : ℤ) → int_lt at old ≡ true → int_lt at next ≡ true = λ at e. ap (int_lt at) (same ∙ is_later) ∙ below_later old c.args.floor at e in
    let left : (r : Row) → has leave r ≡ (has gone r && not (waits_at w0 (moment r) r)) = λ r. c.in_ok-leave.ensures r ∙ ap (λ (xs : List Row). has xs r && not (waits_at w0 (moment r) r)) c.as_slice.ensures in
    let came : (r : Row) → has fresh r ≡ (has come r && mature next (moment r)) = λ r. c.in_ok-come.ensures r ∙ ap (λ (xs : List Row). has xs r && mature next (moment r)) c.as_slice-2.ensures in
    let less : (at : ℤ) (r : Row) → waits w1 at r ≡ (waits w0 at r && not (has gone r && is_that_moment (moment r) at)) = λ at r. c.in_ok-drop_rows.ensures at r ∙ ap (λ (xs : List Row). waits w0 at r && not (has xs r && is_that_moment (moment r) at)) c.as_slice-3.ensures in
    let more : (at : ℤ) (r : Row) → waits w2 at r ≡ (waits w1 at r || ((has come r && is_that_moment (moment r) at) && not (int_lt at next))) = λ at r. c.in_ok-add_rows.ensures at r ∙ ap (λ (xs : List Row). waits w1 at r || ((has xs r && is_that_moment (moment r) at) && not (int_lt at next))) c.as_slice-4.ensures in
    let rest : (at : ℤ) (r : Row) → waits w3 at r ≡ (waits w2 at r && not (int_lt at next)) = c.in_ok-ripened.ensures.waits in
    let due : (r : Row) → has ripened r ≡ (waits_at w2 (moment r) r && mature next (moment r)) = c.in_ok-ripened.ensures.found moment (own moment old next rises rows rows_now gone come leave fresh ripened w0 w1 w2 w3 awaits leads left came less more rest) in
    let was = ripe moment old rows in
    c.in_ok-changed.ensures was (ripe moment next rows_now)
    (leads_alike was (along (along (without was leave) fresh) ripened) _ _ _
    (c.in_ok-arrive-2.ensures was (along (without was leave) fresh)
    (c.in_ok-arrive.ensures was (without was leave)
    (c.in_ok-leave-2.ensures was was (c.none-change.ensures was) (leaves moment old next rises rows rows_now gone come leave fresh ripened w0 w1 w2 w3 awaits leads left came less more rest))
    (comes moment old next rises rows rows_now gone come leave fresh ripened w0 w1 w2 w3 awaits leads left came less more rest))
    (ripens moment old next rises rows rows_now gone come leave fresh ripened w0 w1 w2 w3 awaits leads left came less more rest due))
    (after moment old next rises rows rows_now gone come leave fresh ripened w0 w1 w2 w3 awaits leads left came less more rest due))
