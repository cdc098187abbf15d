-- With a later floor that no row's moment is below, the same rows wait, and the same rows are mature.
use Rattle.not_node.proofs.Common.{◌≡◌, ◌∙◌, sym, ap, refl, ℤ, ◌≤ℤ◌, int_lt, arith, cond, Bool, true, false, not, ◌&&◌, Option, Some, None, List, ints, Row}
use Rattle.not_node.proofs.Common.{has, Pattern, Program, Look, left_at, moment_at, unblocked, IsInStep, waits, is_that_moment, mature, ripe, AwaitsMoments}
use Rattle.not_node.proofs.{Common.{NoneDue, QuietLaw, and_parts, not-true}, Lawful.{none_comes}, Pairs.{int_itself, int_same}}
use Rattle.not_node.specs.{declared.node.NotNode.{NotNode}, Doors.{blocking_pattern}}

below_too : (at old floor : ℤ) → old ≤ℤ floor → int_lt at old ≡ true → int_lt at floor ≡ true
below_too at old floor h e = grind (arith, ints)

-- kernels: w that the pair waits, x that the row is there with this moment, b and c that it is below the old and the new floor
waits_on : (w x b c : Bool) → w ≡ (x && not b) → (w ≡ true → c ≡ false) → (b ≡ true → c ≡ true) → w ≡ (x && not c)
waits_on w false b c h k l = h
waits_on w true true c h k l = h ∙ ap not (sym (l refl))
waits_on w true false c h k l = h ∙ ap not (sym (k h))

below_alike : (r i w b c : Bool) → i ≡ true → w ≡ ((r && i) && not b) → (w ≡ true → c ≡ false) → (b ≡ true → c ≡ true) → (r && c) ≡ (r && b)
below_alike false i w b c e h k l = refl
below_alike true i w true c e h k l = l refl
below_alike true i w false c e h k l = k (h ∙ ap (λ x. x && true) e)

module _ (moment : Row → Option ℤ) (old floor : ℤ) (rows : Row → Bool) (pairs : List (ℤ × Row)) (awaits : AwaitsMoments moment old rows pairs) (later : old ≤ℤ floor) (quiet : (at : ℤ) (row : Row) → waits pairs at row ≡ true → int_lt at floor ≡ false) where
  awaits_on : AwaitsMoments moment floor rows pairs
  awaits_on at row = waits_on (waits pairs at row) (rows row && is_that_moment (moment row) at) (int_lt at old) (int_lt at floor) (awaits at row) (quiet at row) (below_too at old floor later)

  ripe_alike : (row : Row) → ripe moment floor rows row ≡ ripe moment old rows row
  ripe_alike row = by (moment row) refl
    where
      by : (o : Option ℤ) → moment row ≡ o → (rows row && mature floor (moment row)) ≡ (rows row && mature old (moment row))
      by None e = ap (λ o. rows row && mature floor o) e ∙ sym (ap (λ o. rows row && mature old o) e)
      by (Some at) e =
          ap (λ o. rows row && mature floor o) e
          ∙ below_alike (rows row) (is_that_moment (moment row) at) (waits pairs at row) (int_lt at old) (int_lt at floor) (ap (λ o. is_that_moment o at) e ∙ int_itself at) (awaits at row) (quiet at row) (below_too at old floor later)
          ∙ sym (ap (λ o. rows row && mature old o) e)

pub quiet_law : QuietLaw
quiet_law p node look floor awaits later quiet =
    let moment = moment_at p (blocking_pattern node) look in
    let rows = unblocked node.tally.memories look in
    let old = node.ripening.floor in
    let pairs = node.ripening.waiting.keys in
    (awaits_on moment old floor rows pairs awaits later quiet, ripe_alike moment old floor rows pairs awaits later quiet)

-- ---- what is not due

own_moment : (at : ℤ) (o : Option ℤ) → is_that_moment o at ≡ true → o ≡ Some at
own_moment at None e = absurd (let n : false ≡ true = e in cc)
own_moment at (Some x) e = ap Some (int_same x at e)

-- for a row that waits no candidate passes, the moment is its own, and not below the floor
pub waits_own : (p : Program) (node : NotNode) (look : Look) → IsInStep p look node → (at : ℤ) (row : Row) → waits node.ripening.waiting.keys at row ≡ true
    → (unblocked node.tally.memories look row ≡ true) × (moment_at p (blocking_pattern node) look row ≡ Some at) × (int_lt at node.ripening.floor ≡ false)
waits_own p node look awaits at row there =
    let free = unblocked node.tally.memories look row in
    let moment = moment_at p (blocking_pattern node) look row in
    let is = and_parts (free && is_that_moment moment at) (not (int_lt at node.ripening.floor)) (sym (awaits at row) ∙ there) in
    let own = and_parts free (is_that_moment moment at) is.0 in
    (own.0, own_moment at moment own.1, not-true (int_lt at node.ripening.floor) is.1)

-- no row that waits has its moment below the node's own floor
pub none_due : (p : Program) (node : NotNode) (look : Look) (floor : ℤ) → IsInStep p look node → node.ripening.floor ≡ floor → NoneDue node.ripening.waiting.keys floor
none_due p node look floor awaits is at row e = ap (int_lt at) (sym is) ∙ (waits_own p node look awaits at row e).2

-- u and v that the row is there before and after, i that the moment is its own, b that it is below the floor
waits_before : (u v i b : Bool) → false ≡ (v && not u) → ((v && i) && not b) ≡ true → ((u && i) && not b) ≡ true
waits_before true true i b h e = e
waits_before false true i b h e = absurd (let n : false ≡ true = h in cc)
waits_before u false i b h e = absurd (let n : false ≡ true = e in cc)

-- where left rows are dropped, no other row waits than before
pub dropped_none_due : (p : Program) (m n : NotNode) (look : Look) (dropped : List Row) (floor : ℤ) → IsInStep p look m → IsInStep p look n → blocking_pattern n ≡ blocking_pattern m → n.ripening.floor ≡ m.ripening.floor
    → ((row : Row) → left_at n.tally.memories look row ≡ cond (has dropped row) None (left_at m.tally.memories look row)) → NoneDue m.ripening.waiting.keys floor → NoneDue n.ripening.waiting.keys floor
dropped_none_due p m n look dropped floor awaits awaits_now same_pattern same_floor left quiet at row e =
    let there = unblocked m.tally.memories look row in
    let there_now = unblocked n.tally.memories look row in
    let own = is_that_moment (moment_at p (blocking_pattern m) look row) at in
    let was : waits n.ripening.waiting.keys at row ≡ ((there_now && own) && not (int_lt at m.ripening.floor)) =
    awaits_now at row ∙ ap (λ (q : Pattern). (there_now && is_that_moment (moment_at p q look row) at) && not (int_lt at n.ripening.floor)) same_pattern
    ∙ ap (λ now. (there_now && own) && not (int_lt at now)) same_floor in
    quiet at row (awaits at row ∙ waits_before there there_now own (int_lt at m.ripening.floor) (none_comes m.tally.memories n.tally.memories look (has dropped) left row) (sym was ∙ e))
