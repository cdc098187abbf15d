-- A turn of the node of each kind: what it then stands for, and that it tells the difference of its line.
use Rattle.beta_node.proofs.Common.{◌≡◌, ◌∙◌, sym, ap, refl, subst, ℤ, Bool, Delta, Named, Row, IsDifference, Accumulate, Plain, Negated, Existing, Folded}
use Rattle.beta_node.proofs.Common.{Pattern, Program, Snapshot, floor, Look, IsStepped, made, cleaned, without_value, shows_value, BetaJoin, counts_blockers}
use Rattle.beta_node.proofs.Common.{counts_witnesses, where_witnessed, gathers, result_for, itself, shows_any, TallyStep, shown, Witnesses, TallyNode, NotNode}
use Rattle.beta_node.proofs.Common.{IsInStep, not_rows, later, line, FoldNode, Node, condition_of, CountsPartners, NodeStands, IsConditionTurn, ≤ℤ_trans}
use Rattle.beta_node.proofs.{Common.{awaited_entry, blocker_tallies, reached_floor, tallied_pattern, joined_pattern, blocking_pattern}, Folding.{fold_shown}}
use Rattle.beta_node.proofs.{Knowing.{blockers_ask, witnesses_ask, gathers_ask}, Shown.{join_shown, exists_shown, not_shown}, Turning.{stands_next}}
use Rattle.{beta_node.proofs.Turning.{counts_next, later_is, waits_on_time}, row_change.proofs.Alike.{difference_alike}}
use Rattle.beta_node.specs.declared.node.Node.TheVariants as node

-- from rows and candidates for which the one node stands it turns to the other, for each turn with these differences
abbrev pub TurnsTo : Program → (Snapshot → Type 0) → Look → Node → Node → Delta → Delta → Type 0
TurnsTo p At look old new left right = (world : Look) (s next : Snapshot) (rows rows_now : Row → Bool) (forgotten : Named → Bool)
    → NodeStands p old look s rows forgotten → At next → IsConditionTurn p (condition_of old) look world s next rows rows_now forgotten left right
    → NodeStands p new look next rows_now forgotten

-- and it tells this difference
abbrev pub Tells : Program → (Snapshot → Type 0) → Look → Node → Delta → Delta → Delta → Type 0
Tells p At look old left right delta = (world : Look) (s next : Snapshot) (rows rows_now : Row → Bool) (forgotten : Named → Bool)
    → NodeStands p old look s rows forgotten → At next → IsConditionTurn p (condition_of old) look world s next rows rows_now forgotten left right
    → IsDifference (cleaned (line p s (condition_of old) rows) forgotten) (cleaned (line p next (condition_of old) rows_now) forgotten) delta

module _ (p : Program) (At : Snapshot → Type 0) (look : Look) (left right : Delta) where
  module _ (m n : BetaJoin) (stepped : IsStepped m.memories n.memories look left right) where
    pub join_turns : TurnsTo p At look (node.Join m) (node.Join n) left right
    join_turns world s next rows rows_now forgotten stands at turn = stands_next p m.memories n.memories look world s next rows rows_now forgotten left right (Plain (joined_pattern m)) turn stepped refl stands

    pub join_tells : (delta : Delta) → IsDifference (made m.memories look) (made n.memories look) delta → Tells p At look (node.Join m) left right delta
    join_tells delta is world s next rows rows_now forgotten stands at turn =
        difference_alike (made m.memories look) (cleaned (line p s (Plain (joined_pattern m)) rows) forgotten) (made n.memories look) (cleaned (line p next (Plain (joined_pattern m)) rows_now) forgotten) delta
        (join_shown p look s rows forgotten turn.at_hand turn.named m.memories stands)
        (λ row. join_shown p look next rows_now forgotten turn.at_hand_now turn.named_now n.memories (join_turns world s next rows rows_now forgotten stands at turn) row
        ∙ ap (λ (q : Pattern). cleaned (line p next (Plain q) rows_now) forgotten row) stepped.pattern) is

  module _ (m n : TallyNode Witnesses) (stepped : IsStepped m.memories n.memories look left right) (step : TallyStep counts_witnesses look m.memories n.memories left right) where
    pub exists_turns : TurnsTo p At look (node.Exists m) (node.Exists n) left right
    exists_turns world s next rows rows_now forgotten stands at turn =
        counts_next p m.memories n.memories look world s next rows rows_now forgotten left right (Existing (tallied_pattern m)) turn stepped refl counts_witnesses witnesses_ask turn.stay stands step

    pub exists_tells : (delta : Delta) → IsDifference (shown itself shows_any where_witnessed m.memories look) (shown itself shows_any where_witnessed n.memories look) delta → Tells p At look (node.Exists m) left right delta
    exists_tells delta is world s next rows rows_now forgotten stands at turn =
        difference_alike (shown itself shows_any where_witnessed m.memories look) (cleaned (line p s (Existing (tallied_pattern m)) rows) forgotten)
        (shown itself shows_any where_witnessed n.memories look) (cleaned (line p next (Existing (tallied_pattern m)) rows_now) forgotten) delta
        (exists_shown p look s rows forgotten turn.at_hand turn.named turn.tags m.memories stands)
        (λ row. exists_shown p look next rows_now forgotten turn.at_hand_now turn.named_now turn.tags_now n.memories (exists_turns world s next rows rows_now forgotten stands at turn) row
        ∙ ap (λ (q : Pattern). cleaned (line p next (Existing q) rows_now) forgotten row) stepped.pattern) is

  module _ (m n : NotNode) (stepped : IsStepped (blocker_tallies m) (blocker_tallies n) look left right) (step : TallyStep counts_blockers look (blocker_tallies m) (blocker_tallies n) left right)
      (told : ℤ) (told_is : (next : Snapshot) → At next → told ≡ floor p next (awaited_entry m)) (risen : reached_floor n ≡ later (reached_floor m) told) (in_step : IsInStep p look m → IsInStep p look n) where
    pub not_turns : TurnsTo p At look (node.Not m) (node.Not n) left right
    not_turns world s next rows rows_now forgotten waits at turn =
        let entry = awaited_entry m in
        waits_on_time p n look next rows_now forgotten
        (counts_next p (blocker_tallies m) (blocker_tallies n) look world s next rows rows_now forgotten left right (Negated (blocking_pattern m)) turn stepped refl counts_blockers blockers_ask turn.stay waits.counts step)
        (in_step waits.in_step)
        (risen ∙ ap (later (reached_floor m)) (told_is next at)
        ∙ later_is (reached_floor m) (floor p next entry) (≤ℤ_trans (reached_floor m) (floor p s entry) (floor p next entry) waits.floor (turn.floors entry))
        ∙ ap (λ (q : Pattern). floor p next q.entry.0) (sym stepped.pattern))

    pub not_tells : (delta : Delta) → (IsInStep p look m → IsDifference (not_rows p look m) (not_rows p look n) delta) → Tells p At look (node.Not m) left right delta
    not_tells delta is world s next rows rows_now forgotten waits at turn =
        difference_alike (not_rows p look m) (cleaned (line p s (Negated (blocking_pattern m)) rows) forgotten)
        (not_rows p look n) (cleaned (line p next (Negated (blocking_pattern m)) rows_now) forgotten) delta
        (not_shown p look s rows forgotten turn.at_hand turn.named turn.tags m waits)
        (λ row. not_shown p look next rows_now forgotten turn.at_hand_now turn.named_now turn.tags_now n (not_turns world s next rows rows_now forgotten waits at turn) row
        ∙ ap (λ (q : Pattern). cleaned (line p next (Negated q) rows_now) forgotten row) stepped.pattern) (is waits.in_step)

  module _ (m n : FoldNode) (same : n.accumulate ≡ m.accumulate) (stepped : IsStepped m.tally.memories n.tally.memories look left right) (step : TallyStep (gathers m.accumulate) look m.tally.memories n.tally.memories left right) where
    pub fold_turns : TurnsTo p At look (node.Fold m) (node.Fold n) left right
    fold_turns world s next rows rows_now forgotten folds at turn =
        record {
          counts = subst (λ (a : Accumulate). CountsPartners (gathers a) p n.tally.memories look next rows_now forgotten) (sym same)
              (counts_next p m.tally.memories n.tally.memories look world s next rows rows_now forgotten left right (Folded m.accumulate) turn stepped folds.pattern (gathers m.accumulate) (gathers_ask m.accumulate) turn.stay folds.counts step);
          pattern = stepped.pattern ∙ folds.pattern ∙ ap (λ (a : Accumulate). a.pattern) (sym same);
        }

    pub fold_tells : (delta : Delta) → IsDifference (shown without_value shows_value (result_for m.accumulate) m.tally.memories look) (shown without_value shows_value (result_for m.accumulate) n.tally.memories look) delta
        → Tells p At look (node.Fold m) left right delta
    fold_tells delta is world s next rows rows_now forgotten folds at turn =
        difference_alike (shown without_value shows_value (result_for m.accumulate) m.tally.memories look) (cleaned (line p s (Folded m.accumulate) rows) forgotten)
        (shown without_value shows_value (result_for m.accumulate) n.tally.memories look) (cleaned (line p next (Folded m.accumulate) rows_now) forgotten) delta
        (fold_shown p look s rows forgotten turn.at_hand turn.named turn.tags m folds)
        (λ row. ap (λ (a : Accumulate). shown without_value shows_value (result_for a) n.tally.memories look row) (sym same)
        ∙ fold_shown p look next rows_now forgotten turn.at_hand_now turn.named_now turn.tags_now n (fold_turns world s next rows rows_now forgotten folds at turn) row
        ∙ ap (λ (a : Accumulate). cleaned (line p next (Folded a) rows_now) forgotten row) same) is
