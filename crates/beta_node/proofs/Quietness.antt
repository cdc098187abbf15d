-- How long the nodes of each kind are quiet.
use Rattle.beta_node.proofs.Common.{◌≡◌, ℕ, ℤ, pos, ◌+ℤ◌, ◌-ℤ◌, ◌≤ℤ◌, ◌<ℤ◌, ◌^◌, int_lt, arith, true, false, Option, Some, None, IfSome, ints, clamps, Row}
use Rattle.beta_node.proofs.Common.{Program, Snapshot, lateness_of, BetaJoin, Witnesses, TallyNode, NotNode, waits, FoldNode, at_clock, IsBefore, IsQuiet}
use Rattle.beta_node.proofs.Common.{IsDue, clock_below_floor, floor_on, ≤ℤ_refl, int_lt-le, ≤ℤ_trans, awaited_entry, reached_floor, waiting_rows}
use Rattle.{beta_node.proofs.Staying.{join_stays, exists_stays, fold_stays, not_stays, not_ripens}, rule_model.specs.Snapshots.{floor}}
use Rattle.beta_node.specs.declared.node.Node.TheVariants as node

least_low : (least c l : ℤ) → int_lt least (c -ℤ l) ≡ false → pos 0 ≤ℤ c → pos 0 ≤ℤ (least +ℤ l)
least_low least c l e h = grind (arith, ints)

-- the floor at a later clock is not before
floor_later : (p : Program) (s : Snapshot) (clock : ℤ) (entry : ℕ) → s.clock ≤ℤ clock → floor p s entry ≤ℤ floor p (at_clock s clock) entry
floor_later p s clock entry h = floor_on p s (at_clock s clock) entry h (≤ℤ_refl (s.reached.last_start entry)) (≤ℤ_refl (s.reached.promise entry))

-- and not beyond what neither it was before nor the clock less the lateness is
floor_within : (p : Program) (s : Snapshot) (clock least : ℤ) (entry : ℕ) → int_lt least (floor p s entry) ≡ false → (clock -ℤ lateness_of p entry) ≤ℤ least → floor p (at_clock s clock) entry ≤ℤ least
unfolding floor
floor_within p s clock least entry e h = grind (arith, ints, clamps)

-- what is not before the floor is not before the clock less the lateness
not_late : (p : Program) (s : Snapshot) (least : ℤ) (entry : ℕ) → int_lt least (floor p s entry) ≡ false → int_lt least (s.clock -ℤ lateness_of p entry) ≡ false
not_late p s least entry e = let below = clock_below_floor p s entry in grind (arith, ints, below)

past_floor : (p : Program) (s : Snapshot) (moment least : ℤ) (entry : ℕ) → moment ≡ (least +ℤ lateness_of p entry) +ℤ pos 1 → int_lt least (floor p (at_clock s moment) entry) ≡ true
past_floor p s moment least entry e = let below = clock_below_floor p (at_clock s moment) entry in grind (arith, ints, below)

pub join_quiet : (p : Program) (join : BetaJoin) (until : Option ℤ) → IsQuiet p (node.Join join) until
join_quiet p join until look s rows forgotten clock tags known named stands begun later low before same = join_stays p look s rows forgotten clock tags known named join same stands

pub exists_quiet : (p : Program) (tally : TallyNode Witnesses) (until : Option ℤ) → IsQuiet p (node.Exists tally) until
exists_quiet p tally until look s rows forgotten clock tags known named stands begun later low before same = exists_stays p look s rows forgotten clock tags known named tally same stands

pub fold_quiet : (p : Program) (fold : FoldNode) (until : Option ℤ) → IsQuiet p (node.Fold fold) until
fold_quiet p fold until look s rows forgotten clock tags known named stands begun later low before same = fold_stays p look s rows forgotten clock tags known named fold same stands

module _ (p : Program) (waiting : NotNode) where
  pub none_due : ((at : ℤ) (row : Row) → waits (waiting_rows waiting) at row ≡ true → ⊥) → IsQuiet p (node.Not waiting) None
  none_due none look s rows forgotten clock tags known named stands begun later low before same =
      let entry = awaited_entry waiting in
      not_stays p look s rows forgotten clock tags known named waiting same stands
      (≤ℤ_trans (reached_floor waiting) (floor p s entry) (floor p (at_clock s clock) entry) stands.floor (floor_later p s clock entry later)) (λ at row e. absurd (none at row e))

  pub due_at : (until : Option ℤ) (least : ℤ) (first : Row) → waits (waiting_rows waiting) least first ≡ true → ((at : ℤ) (row : Row) → waits (waiting_rows waiting) at row ≡ true → int_lt at least ≡ false)
      → ((clock : ℤ) → pos 0 ≤ℤ (least +ℤ lateness_of p (awaited_entry waiting)) → clock <ℤ pos (2 ^ 63) → IsBefore until clock → (clock -ℤ lateness_of p (awaited_entry waiting)) ≤ℤ least)
      → IsQuiet p (node.Not waiting) until
  due_at until least first there over reaches look s rows forgotten clock tags known named stands begun later low before same =
      let entry = awaited_entry waiting in
      let due = stands.none_due least first there in
      let reached = reaches clock (least_low least s.clock (lateness_of p entry) (not_late p s least entry due) begun) low before in
      not_stays p look s rows forgotten clock tags known named waiting same stands
      (≤ℤ_trans (reached_floor waiting) (floor p s entry) (floor p (at_clock s clock) entry) stands.floor (floor_later p s clock entry later))
      (λ at row e. int_lt-le at least (floor p (at_clock s clock) entry) (over at row e) (floor_within p s clock least entry due reached))

  -- from the least moment on a row that waits for it is there
  pub comes_then : (moment least : ℤ) (first : Row) → waits (waiting_rows waiting) least first ≡ true → moment ≡ (least +ℤ lateness_of p (awaited_entry waiting)) +ℤ pos 1
      → IsDue p (node.Not waiting) moment
  comes_then moment least first there is look s rows forgotten tags known named stands same =
      let made = not_ripens p look s rows forgotten moment tags known named waiting same stands least first there (past_floor p s moment least (awaited_entry waiting) is) in
      (first, made.0, made.1)

  pub if_due : (least : ℤ) (first : Row) → waits (waiting_rows waiting) least first ≡ true → (until : Option ℤ)
      → IfSome until (λ moment. moment ≡ (least +ℤ lateness_of p (awaited_entry waiting)) +ℤ pos 1) → IfSome until (λ moment. IsDue p (node.Not waiting) moment)
  if_due least first there None is = tt
  if_due least first there (Some moment) is = comes_then moment least first there is
