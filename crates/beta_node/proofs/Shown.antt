-- The rows of a node are what the line of its condition makes of the rows before it, without those that name a forgotten fact.
use Rattle.beta_node.proofs.Common.{◌≡◌, ◌∙◌, sym, ap, refl, subst, ℤ, int_lt, Bool, true, false, not, ◌&&◌, fun_ext, list_any, Named, Row, Plain, Negated}
use Rattle.beta_node.proofs.Common.{Existing, Pattern, Program, HaveDistinctTags, bound_in, Snapshot, floor, Look, joins, Memories, has_name, made, clean}
use Rattle.beta_node.proofs.Common.{cleaned, StandsFor, Witnesses, counts_blockers, counts_witnesses, where_witnessed, StandsCounted, itself, shows_any, shown}
use Rattle.beta_node.proofs.Common.{NotNode, IsInStep, not_rows, waits, mature, line, HasAllOf, NameHeld, held, candidates_of, candidate_names}
use Rattle.beta_node.proofs.Common.{candidates_named, CountsPartners, WaitsFor, witnesses_shown, quiet_law, waits_own, moment_at, not_law, row_mature}
use Rattle.beta_node.proofs.Common.{moment_alike, held_known, row_alike, joining_alike, asked_first, awaited_entry, blocker_tallies, reached_floor}
use Rattle.{beta_node.proofs.Common.{waiting_rows, blocking_pattern}, condition_rows.specs.{Lines.{is_ripe}, Sets.{has_partner}}}
use Rattle.{std.proofs.Math.Bool.{and_assoc}, rule_model.specs.Maturity.{is_mature}, join_memory.proofs.Worlds.{made_clean}, not_node.specs.Laws.{with_floor}}

module _ (p : Program) (look : Look) (s : Snapshot) (rows : Row → Bool) (forgotten : Named → Bool) (known : HasAllOf look s forgotten) (named : NameHeld s rows) where
  pub join_shown : {T : Type 0} (m : Memories T) → StandsFor m look rows (candidates_of p m.pattern s) forgotten → (row : Row) → made m look row ≡ cleaned (line p s (Plain m.pattern) rows) forgotten row
  join_shown m stands row =
      made_clean m look (joins m.pattern (held s)) rows (candidates_of p m.pattern s) forgotten stands
      (joining_alike look (held s) s forgotten known (held_known s forgotten) p m.pattern rows named) row

  module _ (tags : HaveDistinctTags s.facts) where
    -- the candidates are those of the list of their names
    listed : {T : Type 0} (holds : T → Look → (Named → Bool) → Type 0) (m : Memories T) → CountsPartners holds p m look s rows forgotten
        → StandsCounted holds m look (held s) (joins m.pattern (held s)) rows (has_name (candidate_names p m.pattern s)) forgotten
    listed holds m counts =
        subst (λ (names : Named → Bool). StandsCounted holds m look (held s) (joins m.pattern (held s)) rows names forgotten) (fun_ext (λ who. sym (candidates_named p s tags m.pattern who))) counts

    pub exists_shown : (m : Memories Witnesses) → CountsPartners counts_witnesses p m look s rows forgotten
        → (row : Row) → shown itself shows_any where_witnessed m look row ≡ cleaned (line p s (Existing m.pattern) rows) forgotten row
    unfolding has_partner
    exists_shown m counts row =
        let names = candidate_names p m.pattern s in
        let pass = joins m.pattern (held s) in
        witnesses_shown m look (held s) pass rows names forgotten (listed counts_witnesses m counts) row
        ∙ asked_first (rows row) (clean forgotten row) (list_any (pass row) names) (list_any (pass row) names) (λ e. refl)

    -- a row that names no forgotten fact is mature by the store where it is by the snapshot
    ripe_alike : (q : Pattern) (now : ℤ) → now ≡ floor p s q.entry.0 → (row : Row) → cleaned rows forgotten row ≡ true → is_mature p q (bound_in look row) now ≡ is_ripe p q s row
    unfolding is_ripe
    ripe_alike q now is row e =
        sym (row_mature p q look row now)
        ∙ ap (mature now) (sym (moment_alike p q look (held s) row (row_alike look (held s) s forgotten known (held_known s forgotten) p q rows named row e)))
        ∙ row_mature p q (held s) row now
        ∙ ap (is_mature p q (bound_in (held s) row)) is

    pub not_shown_at : (waiting : NotNode) → CountsPartners counts_blockers p (blocker_tallies waiting) look s rows forgotten → reached_floor waiting ≡ floor p s (awaited_entry waiting)
        → (row : Row) → not_rows p look waiting row ≡ cleaned (line p s (Negated (blocking_pattern waiting)) rows) forgotten row
    unfolding has_partner
    not_shown_at waiting counts told row =
        let m = blocker_tallies waiting in
        let q = m.pattern in
        let now = reached_floor waiting in
        let names = candidate_names p q s in
        let pass = joins q (held s) in
        not_law p waiting look (held s) pass rows names forgotten (listed counts_blockers m counts) row
        ∙ and_assoc (cleaned rows forgotten row) (not (list_any (pass row) names)) (is_mature p q (bound_in look row) now)
        ∙ asked_first (rows row) (clean forgotten row) (not (list_any (pass row) names) && is_mature p q (bound_in look row) now) (not (list_any (pass row) names) && is_ripe p q s row)
        (λ e. ap (λ b. not (list_any (pass row) names) && b) (ripe_alike q now told row e))

    pub not_shown : (waiting : NotNode) → WaitsFor p waiting look s rows forgotten → (row : Row) → not_rows p look waiting row ≡ cleaned (line p s (Negated (blocking_pattern waiting)) rows) forgotten row
    not_shown waiting waits row =
        let now = floor p s (awaited_entry waiting) in
        sym ((quiet_law p waiting look now waits.in_step waits.floor waits.none_due).1 row) ∙ not_shown_at (with_floor waiting now) waits.counts refl row

    -- a row that waits for a moment is not there
    pub not_early : (waiting : NotNode) → WaitsFor p waiting look s rows forgotten → (at : ℤ) (row : Row) → waits (waiting_rows waiting) at row ≡ true
        → cleaned (line p s (Negated (blocking_pattern waiting)) rows) forgotten row ≡ false
    not_early waiting stands at row there =
        let is = waits_own p waiting look stands.in_step at row there in
        sym (not_shown waiting stands row) ∙ ap (λ b. b && mature (reached_floor waiting) (moment_at p (blocking_pattern waiting) look row)) is.0 ∙ ap (mature (reached_floor waiting)) is.1 ∙ is.2

    -- and is there once the floor is beyond it
    pub not_ripe : (waiting : NotNode) → IsInStep p look waiting → CountsPartners counts_blockers p (blocker_tallies waiting) look s rows forgotten → (at : ℤ) (row : Row) → waits (waiting_rows waiting) at row ≡ true
        → int_lt at (floor p s (awaited_entry waiting)) ≡ true → cleaned (line p s (Negated (blocking_pattern waiting)) rows) forgotten row ≡ true
    not_ripe waiting in_step counts at row there due =
        let now = floor p s (awaited_entry waiting) in
        let is = waits_own p waiting look in_step at row there in
        sym (not_shown_at (with_floor waiting now) counts refl row) ∙ ap (λ b. b && mature now (moment_at p (blocking_pattern waiting) look row)) is.0 ∙ ap (mature now) is.1 ∙ due
