-- Where the clock alone changes neither the candidates nor what is mature, the line of a condition stays as it is.
use Rattle.beta_node.proofs.Common.{◌≡◌, ◌∙◌, sym, ap, refl, subst, ℤ, ◌≤ℤ◌, int_lt, Bool, true, false, fun_ext, is_some, Named, Row, Negated, Pattern, Program}
use Rattle.beta_node.proofs.Common.{HaveDistinctTags, Snapshot, floor, Look, versions_at, joins, Memories, cleaned, StandsFor, BetaJoin, Witnesses, TallyNode}
use Rattle.beta_node.proofs.Common.{counts_blockers, counts_witnesses, gathers, StandsCounted, NotNode, NoneDue, waits, line, HasAllOf, NameHeld, candidates_of}
use Rattle.beta_node.proofs.Common.{FoldNode, Node, condition_of, CountsPartners, WaitsFor, FoldsFor, NodeStands, at_clock, awaited_entry, blocker_tallies}
use Rattle.beta_node.proofs.{Common.{blocking_pattern, joined_pattern, reached_floor, tallied_pattern, waiting_rows}, Folding.{fold_shown}, Shown.{join_shown}}
use Rattle.{beta_node.proofs.Shown.{exists_shown, not_shown, not_early, not_ripe}, condition_rows.specs.Sets.{held}}
use Rattle.beta_node.specs.declared.node.Node.TheVariants as node

-- a snapshot holds the same versions at another clock
held_alike : (s : Snapshot) (clock : ℤ) → held s ≡ held (at_clock s clock)
unfolding held
held_alike s clock = refl

module _ (p : Program) (look : Look) (s : Snapshot) (rows : Row → Bool) (forgotten : Named → Bool) (clock : ℤ) (tags : HaveDistinctTags s.facts) (known : HasAllOf look s forgotten) (named : NameHeld s rows) where
  abbrev next : Snapshot
  next = at_clock s clock

  known_next : HasAllOf look next forgotten
  known_next tag f e clean = known tag f (ap (λ (h : Look). h tag) (held_alike s clock) ∙ e) clean

  named_next : NameHeld next rows
  named_next row e = subst (λ (h : Look). is_some (versions_at h row.facts) ≡ true) (held_alike s clock) (named row e)

  abbrev SameCandidates : Pattern → Type 0
  SameCandidates q = (who : Named) → candidates_of p q next who ≡ candidates_of p q s who

  stands_on : {T : Type 0} (m : Memories T) → SameCandidates m.pattern → StandsFor m look rows (candidates_of p m.pattern s) forgotten → StandsFor m look rows (candidates_of p m.pattern next) forgotten
  stands_on m same stands = subst (λ (names : Named → Bool). StandsFor m look rows names forgotten) (fun_ext (λ who. sym (same who))) stands

  counts_on : {T : Type 0} (holds : T → Look → (Named → Bool) → Type 0) (m : Memories T) → SameCandidates m.pattern → CountsPartners holds p m look s rows forgotten → CountsPartners holds p m look next rows forgotten
  counts_on holds m same counts =
      subst (λ (names : Named → Bool). StandsCounted holds m look (held next) (joins m.pattern (held next)) rows names forgotten) (fun_ext (λ who. sym (same who)))
      (subst (λ (h : Look). StandsCounted holds m look h (joins m.pattern h) rows (candidates_of p m.pattern s) forgotten) (held_alike s clock) counts)

  abbrev LineStays : Node → Type 0
  LineStays n = (row : Row) → cleaned (line p next (condition_of n) rows) forgotten row ≡ cleaned (line p s (condition_of n) rows) forgotten row

  pub join_stays : (join : BetaJoin) → SameCandidates (joined_pattern join) → NodeStands p (node.Join join) look s rows forgotten → LineStays (node.Join join)
  join_stays join same stands row =
      let m = join.memories in
      sym (join_shown p look next rows forgotten known_next named_next m (stands_on m same stands) row) ∙ join_shown p look s rows forgotten known named m stands row

  pub exists_stays : (tally : TallyNode Witnesses) → SameCandidates (tallied_pattern tally) → NodeStands p (node.Exists tally) look s rows forgotten → LineStays (node.Exists tally)
  exists_stays tally same counts row =
      let m = tally.memories in
      sym (exists_shown p look next rows forgotten known_next named_next tags m (counts_on counts_witnesses m same counts) row) ∙ exists_shown p look s rows forgotten known named tags m counts row

  pub fold_stays : (fold : FoldNode) → SameCandidates fold.accumulate.pattern → NodeStands p (node.Fold fold) look s rows forgotten → LineStays (node.Fold fold)
  fold_stays fold same folds row =
      let m = fold.tally.memories in
      let here = subst SameCandidates (sym folds.pattern) same in
      let folds_next : FoldsFor p fold look next rows forgotten = record { counts = counts_on (gathers fold.accumulate) m here folds.counts; pattern = folds.pattern } in
      sym (fold_shown p look next rows forgotten known_next named_next tags fold folds_next row) ∙ fold_shown p look s rows forgotten known named tags fold folds row

  pub not_stays : (waiting : NotNode) → SameCandidates (blocking_pattern waiting) → NodeStands p (node.Not waiting) look s rows forgotten
      → reached_floor waiting ≤ℤ floor p next (awaited_entry waiting) → NoneDue (waiting_rows waiting) (floor p next (awaited_entry waiting)) → LineStays (node.Not waiting)
  not_stays waiting same stands later quiet row =
      let still : WaitsFor p waiting look next rows forgotten =
      record { counts = counts_on counts_blockers (blocker_tallies waiting) same stands.counts; in_step = stands.in_step; none_due = quiet; floor = later } in
      sym (not_shown p look next rows forgotten known_next named_next tags waiting still row) ∙ not_shown p look s rows forgotten known named tags waiting stands row

  -- a row that waits comes where its moment is past
  pub not_ripens : (waiting : NotNode) → SameCandidates (blocking_pattern waiting) → NodeStands p (node.Not waiting) look s rows forgotten
      → (at : ℤ) (row : Row) → waits (waiting_rows waiting) at row ≡ true → int_lt at (floor p next (awaited_entry waiting)) ≡ true
      → (cleaned (line p s (Negated (blocking_pattern waiting)) rows) forgotten row ≡ false) × (cleaned (line p next (Negated (blocking_pattern waiting)) rows) forgotten row ≡ true)
  not_ripens waiting same stands at row there past = (
    not_early p look s rows forgotten known named tags waiting stands at row there,
    not_ripe p look next rows forgotten known_next named_next tags waiting stands.in_step (counts_on counts_blockers (blocker_tallies waiting) same stands.counts) at row there past,
  )
