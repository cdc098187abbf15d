-- What matches that come name is kept, and what is kept behind a step was kept before it.
use Rattle.life_laws.proofs.Common.{◌≡◌, not, ◌+ℤ◌, ◌≤ℤ◌, Bool, true, false, refl, sym, ◌∙◌, ap, Match, Program, Step, Insert, Modify, Retract, Advance, At}
use Rattle.life_laws.proofs.Common.{Promise, Begin, matches, has_match, World, snapshot, was_present, IsKept, plain, unexpired, endless, living, pending}
use Rattle.life_laws.proofs.{Common.{settled, still_fired, named, MatchNamesKept, KeptBefore}, Keeps.{tuple_names_kept}, Matched.{names_of, is_match, own_fact}}
use Rattle.{life_laws.proofs.Moves.{clock_on}, std.proofs.lemmas.Bool.{and_from, and_parts, false_from_ne_true, not-true}, rule_world.specs.Worlds.{moved}}
use Rattle.{rule_world.{specs.Worlds.{stepped}, proofs.Pending.{has_pending, has_still}}, fx_base.proofs.Orders.{≤ℤ_trans}}

pub match_names_kept : MatchNamesKept
match_names_kept p table w step flagged ops are law none m is was_not f own inside =
    let n = names_of p (snapshot (moved p w step)) m ops is in
    tuple_names_kept p table w step flagged are law none n.rule n.in_rules n.tuple
    (n.made, λ h. let e : true ≡ false = sym (is_match p (snapshot (moved p w step)) (snapshot w) m ops n h) ∙ was_not in absurd cc)
    f (own_fact p w step m n f law own inside) inside

-- ---- marks

-- a move leaves the marks
same_marks : (p : Program) (w : World) (step : Step) → (moved p w step).fired ≡ w.fired
unfolding moved
same_marks p w (Insert ty entry fields) = refl
same_marks p w (Modify id sets) = refl
same_marks p w (Retract ty id) = refl
same_marks p w (Advance by) = refl
same_marks p w (At moment) = refl
same_marks p w (Promise entry from) = refl
same_marks p w Begin = refl

-- a match that is pending behind the step is one there
pending_match : (p : Program) (w : World) (step : Step) (m : Match) → has_match (pending p (stepped p w step)) m ≡ true → has_match (matches p (snapshot (moved p w step))) m ≡ true
unfolding stepped
pending_match p w step m e =
    (and_parts (has_match (matches p (snapshot (moved p w step))) m) (not (has_match (settled p (moved p w step)).fired m)) (sym (has_pending p (stepped p w step) m) ∙ e)).0

-- and was not fired before the step
was_unfired : (p : Program) (w : World) (step : Step) (m : Match) → has_match (pending p (stepped p w step)) m ≡ true → has_match w.fired m ≡ false
unfolding stepped
was_unfired p w step m e =
    let next = snapshot (moved p w step) in
    let parts = and_parts (has_match (matches p next) m) (not (has_match (settled p (moved p w step)).fired m)) (sym (has_pending p (stepped p w step) m) ∙ e) in
    false_from_ne_true (has_match w.fired m) (λ fired.
    let still : has_match (still_fired p next (moved p w step).fired) m ≡ true =
    has_still p next (moved p w step).fired m ∙ and_from _ _ (ap (λ ms. has_match ms m) (same_marks p w step) ∙ fired) parts.0 in
    let not_still = not-true (has_match (still_fired p next (moved p w step).fired) m) parts.1 in
    let e : true ≡ false = sym still ∙ not_still in
    absurd cc)

was_pending : (p : Program) (w : World) (step : Step) (m : Match) → has_match (pending p (stepped p w step)) m ≡ true → has_match (matches p (snapshot w)) m ≡ true
    → has_match (pending p w) m ≡ true
was_pending p w step m e is = has_pending p w m ∙ and_from _ _ is (ap not (was_unfired p w step m e))

-- ---- what is kept

pub kept_before : KeptBefore
unfolding stepped
kept_before p table w step flagged ops are law none f (plain there e) inside = plain inside e
kept_before p table w step flagged ops are law none f (unexpired expiry there event expires present) inside =
    unexpired expiry inside event expires (was_present p f w.clock (moved p w step).clock (clock_on p w step none) present)
kept_before p table w step flagged ops are law none f (endless there e) inside = endless inside e
kept_before p table w step flagged ops are law none f (living n there e le) inside =
    living n inside e (≤ℤ_trans w.clock (moved p w step).clock (f.times.end +ℤ n) (clock_on p w step none) le)
kept_before p table w step flagged ops are law none f (named m there is_pending own) inside = by (has_match (matches p (snapshot w)) m) refl
  where
    by : (b : Bool) → has_match (matches p (snapshot w)) m ≡ b → IsKept p table w f
    by true e = named m inside (was_pending p w step m is_pending e) own
    by false e = match_names_kept p table w step flagged ops are law none m (pending_match p w step m is_pending) e f own inside
