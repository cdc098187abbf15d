-- A node to which nothing is handed of the candidates that have turned stays as it is.
use Rattle.beta_node.proofs.Common.{◌≡◌, ◌∙◌, sym, refl, subst, ℤ, [], Bool, true, false, Delta, Named, Row, has, Negated, Program, Snapshot, floor, Look}
use Rattle.beta_node.proofs.Common.{joins, Memories, IsStepped, has_name, has_left, has_right, made, cleaned, without_value, shows_value, BetaJoin}
use Rattle.beta_node.proofs.Common.{counts_blockers, counts_witnesses, gathers, result_for, Witnesses, TallyNode, NotNode, NoneDue, line, FoldNode, Node}
use Rattle.beta_node.proofs.Common.{condition_of, NodeStands, IsConditionTurn, IsAt, Moment, ≤ℤ_trans, awaited_entry, blocker_tallies, reached_floor}
use Rattle.beta_node.{proofs.Common.{waiting_rows, changes_nothing}, specs.Lending.{with_candidates, NodeTakes}}
use Rattle.join_memory.specs.{declared.candidates.Candidates.{Candidates}, Handed.{moved}, Shared.{sharing, TakesOver}}
use Rattle.beta_node.specs.declared.node.Node.TheVariants as node
use Rattle.{join_memory.proofs.{Handed.{keeps_shared, handed_joined, moved_none}, Joining.{joined_alike}}, counting_node.proofs.Handing.{no_turn}}
use Rattle.{counting_node.proofs.Turning.{shown_alike}, beta_node.proofs.{Folding.{fold_shown}, Knowing.{blockers_ask}, Lending.{join_with, exists_with}}}
use Rattle.beta_node.proofs.{Lending.{not_with, fold_with}, Shown.{join_shown, exists_shown, not_shown}, Still.{neither, same}, Telling.{join_turns}}
use Rattle.beta_node.proofs.{Telling.{exists_turns, fold_turns}, Turning.{counts_next}}

module _ {S : Type 0} (m : Memories S) (was : Candidates) (look : Look) (left right : Delta) (takes : TakesOver m was look right [] []) where
  untouched_step : changes_nothing left ≡ true → IsStepped (sharing m was) m look left right
  untouched_step none = keeps_shared m m was look _ _ takes.agrees takes.names (record {
    pattern = refl;
    rows = λ row. let no = neither left.gone left.come none row in same (has_left m look row) (has left.gone row) (has left.come row) no.0 no.1;
    names = λ who. refl;
    agrees = λ agrees. agrees;
  })

  -- it makes the same rows
  untouched_made : (row : Row) → made m look row ≡ made (sharing m was) look row
  untouched_made row =
      let before = has_right (sharing m was) look in
      sym (joined_alike (joins m.pattern look) (has_left m look) (has_left m look) before (moved true (has_name []) (moved false (has_name []) before)) (λ l. refl)
      (λ c. sym (moved_none true (moved false (has_name []) before) c ∙ moved_none false before c)) row ∙ handed_joined m look before (has_right m look) [] [] takes.handed row)

module _ (p : Program) (moment : Moment) where
  -- for each step at this moment in which nothing changes before the node, and nothing is handed to it
  abbrev WhereUntouched : Node → (Look → Snapshot → Snapshot → (Row → Bool) → (Row → Bool) → (Named → Bool) → Type 0) → Type 0
  WhereUntouched n claim = (was : Candidates) (look world : Look) (s next : Snapshot) (rows rows_now : Row → Bool) (forgotten : Named → Bool) (left right : Delta)
      → NodeTakes n was look right [] [] → changes_nothing left ≡ true
      → NodeStands p (with_candidates was n) look s rows forgotten → IsAt next moment → IsConditionTurn p (condition_of n) look world s next rows rows_now forgotten left right → claim look s next rows rows_now forgotten

  -- the node stands for the next snapshot
  abbrev pub StaysUntouched : Node → Type 0
  StaysUntouched n = WhereUntouched n (λ look s next rows rows_now forgotten. NodeStands p n look next rows_now forgotten)

  -- its condition makes the same rows
  abbrev pub TellsUntouched : Node → Type 0
  TellsUntouched n = WhereUntouched n (λ look s next rows rows_now forgotten. (row : Row) → cleaned (line p next (condition_of n) rows_now) forgotten row ≡ cleaned (line p s (condition_of n) rows) forgotten row)

  pub join_untouched : (m : BetaJoin) → StaysUntouched (node.Join m)
  join_untouched m was look world s next rows rows_now forgotten left right takes none stands at turn =
      join_turns p (λ next. Unit {0}) look left right (join_with m was) m (untouched_step m.memories was look left right takes none) world s next rows rows_now forgotten stands tt turn

  pub join_tells_untouched : (m : BetaJoin) → TellsUntouched (node.Join m)
  join_tells_untouched m was look world s next rows rows_now forgotten left right takes none stands at turn row =
      sym (join_shown p look next rows_now forgotten turn.at_hand_now turn.named_now m.memories (join_untouched m was look world s next rows rows_now forgotten left right takes none stands at turn) row)
      ∙ untouched_made m.memories was look left right takes row ∙ join_shown p look s rows forgotten turn.at_hand turn.named (sharing m.memories was) stands row

  pub exists_untouched : (m : TallyNode Witnesses) → StaysUntouched (node.Exists m)
  exists_untouched m was look world s next rows rows_now forgotten left right takes none stands at turn =
      let t = m.memories in
      exists_turns p (λ next. Unit {0}) look left right (exists_with m was) m (untouched_step t was look left right takes none) (no_turn counts_witnesses look t was left right takes none) world s next rows rows_now forgotten stands tt turn

  pub exists_tells_untouched : (m : TallyNode Witnesses) → TellsUntouched (node.Exists m)
  exists_tells_untouched m was look world s next rows rows_now forgotten left right takes none stands at turn row =
      sym (exists_shown p look next rows_now forgotten turn.at_hand_now turn.named_now turn.tags_now m.memories (exists_untouched m was look world s next rows rows_now forgotten left right takes none stands at turn) row)
      ∙ exists_shown p look s rows forgotten turn.at_hand turn.named turn.tags (sharing m.memories was) stands row

  pub fold_untouched : (m : FoldNode) → StaysUntouched (node.Fold m)
  fold_untouched m was look world s next rows rows_now forgotten left right takes none stands at turn =
      let t = m.tally.memories in
      fold_turns p (λ next. Unit {0}) look left right (fold_with m was) m refl (untouched_step t was look left right takes none) (no_turn (gathers m.accumulate) look t was left right takes none) world s next rows rows_now forgotten stands tt turn

  pub fold_tells_untouched : (m : FoldNode) → TellsUntouched (node.Fold m)
  fold_tells_untouched m was look world s next rows rows_now forgotten left right takes none stands at turn row =
      sym (fold_shown p look next rows_now forgotten turn.at_hand_now turn.named_now turn.tags_now m (fold_untouched m was look world s next rows rows_now forgotten left right takes none stands at turn) row)
      ∙ shown_alike without_value shows_value (result_for m.accumulate) m.tally.memories (sharing m.tally.memories was) look (λ r. refl) row
      ∙ fold_shown p look s rows forgotten turn.at_hand turn.named turn.tags (fold_with m was) stands row

  -- a `not` by this floor, which is that of the moment
  module _ (m : NotNode) (told : ℤ) (told_is : (next : Snapshot) → IsAt next moment → told ≡ floor p next (awaited_entry m)) (quiet : NoneDue (waiting_rows m) told) where
    pub not_untouched : StaysUntouched (node.Not m)
    not_untouched was look world s next rows rows_now forgotten left right takes none stands at turn =
        let t = blocker_tallies m in
        let entry = awaited_entry m in
        record {
          counts =
              counts_next p (sharing t was) t look world s next rows rows_now forgotten left right (Negated t.pattern) turn (untouched_step t was look left right takes none) refl counts_blockers blockers_ask turn.stay stands.counts
              (no_turn counts_blockers look t was left right takes none);
          in_step = stands.in_step;
          none_due = subst (NoneDue (waiting_rows m)) (told_is next at) quiet;
          floor = ≤ℤ_trans (reached_floor m) (floor p s entry) (floor p next entry) stands.floor (turn.floors entry);
        }

    pub not_tells_untouched : TellsUntouched (node.Not m)
    not_tells_untouched was look world s next rows rows_now forgotten left right takes none stands at turn row =
        sym (not_shown p look next rows_now forgotten turn.at_hand_now turn.named_now turn.tags_now m (not_untouched was look world s next rows rows_now forgotten left right takes none stands at turn) row)
        ∙ not_shown p look s rows forgotten turn.at_hand turn.named turn.tags (not_with m was) stands row
