-- Where nothing changes in the rows before it and in its candidates, the node of a condition stays as it is; that of a `not` as long as no
-- row is due.
use Rattle.beta_node.proofs.Common.{◌≡◌, ◌∙◌, sym, ap, refl, subst, ℤ, int_lt, Bool, true, false, not, ◌&&◌, ◌||◌, List, [], ◌∷◌, Delta, Named, Row, has}
use Rattle.beta_node.proofs.Common.{Program, Negated, Moment, IsAt, Snapshot, floor, Look, Memories, row_naming, IsStepped, has_left, has_right, cleaned}
use Rattle.beta_node.proofs.Common.{BetaJoin, counts_blockers, counts_witnesses, gathers, Witnesses, TallyNode, NotNode, NoneDue, waits, line, FoldNode, Node}
use Rattle.beta_node.proofs.Common.{condition_of, CountsPartners, NodeStands, IsConditionTurn, are_none, changes_nothing, ≤ℤ_trans, awaited_entry}
use Rattle.beta_node.proofs.{Common.{blocker_tallies, reached_floor, waiting_rows}, Folding.{fold_shown}, Knowing.{blockers_ask}, Shown.{join_shown}}
use Rattle.beta_node.proofs.{Shown.{exists_shown, not_shown, not_early, not_ripe}, Telling.{join_turns, exists_turns, fold_turns}, Turning.{counts_next}}
use Rattle.counting_node.proofs.Stepping.{no_step}
use Rattle.beta_node.specs.declared.node.Node.TheVariants as node

pub neither : (gone come : List Row) → are_none gone come ≡ true → (row : Row) → (has gone row ≡ false) × (has come row ≡ false)
neither [] [] e row = (refl, refl)
neither (r ∷ gone) come e row = absurd (let n : false ≡ true = e in cc)
neither [] (r ∷ come) e row = absurd (let n : false ≡ true = e in cc)

pub same : (b gone come : Bool) → gone ≡ false → come ≡ false → b ≡ ((b && not gone) || come)
same true gone come e f = ap (λ g. not g || come) (sym e)
same false gone come e f = sym f

kept_still : {S : Type 0} (m : Memories S) (look : Look) (left right : Delta) → changes_nothing left ≡ true → changes_nothing right ≡ true → IsStepped m m look left right
kept_still m look left right e f = record {
  pattern = refl;
  rows = λ row. let none = neither left.gone left.come e row in same (has_left m look row) (has left.gone row) (has left.come row) none.0 none.1;
  names = λ who. let none = neither right.gone right.come f (row_naming who) in same (has_right m look who) (has right.gone (row_naming who)) (has right.come (row_naming who)) none.0 none.1;
  agrees = λ agrees. agrees;
}

module _ (p : Program) (moment : Moment) where
  -- for each step at this moment in which nothing changes before the node
  abbrev WhereNothingChanges : Node → (Look → Snapshot → Snapshot → (Row → Bool) → (Row → Bool) → (Named → Bool) → Type 0) → Type 0
  WhereNothingChanges n claim = (look world : Look) (s next : Snapshot) (rows rows_now : Row → Bool) (forgotten : Named → Bool) (left right : Delta) → changes_nothing left ≡ true → changes_nothing right ≡ true
      → NodeStands p n look s rows forgotten → IsAt next moment → IsConditionTurn p (condition_of n) look world s next rows rows_now forgotten left right → claim look s next rows rows_now forgotten

  -- the node stays as it is
  abbrev pub Stays : Node → Type 0
  Stays n = WhereNothingChanges n (λ look s next rows rows_now forgotten. NodeStands p n look next rows_now forgotten)

  -- its condition makes the same rows
  abbrev pub TellsNothing : Node → Type 0
  TellsNothing n = WhereNothingChanges n (λ look s next rows rows_now forgotten. (row : Row) → cleaned (line p next (condition_of n) rows_now) forgotten row ≡ cleaned (line p s (condition_of n) rows) forgotten row)

  -- it makes one more
  abbrev pub TellsOne : Node → Type 0
  TellsOne n = WhereNothingChanges n (λ look s next rows rows_now forgotten. (row : Row) × (cleaned (line p s (condition_of n) rows) forgotten row ≡ false) × (cleaned (line p next (condition_of n) rows_now) forgotten row ≡ true))

  pub join_still : (m : BetaJoin) → Stays (node.Join m)
  join_still m look world s next rows rows_now forgotten left right none none_right stands at turn =
      join_turns p (λ next. Unit {0}) look left right m m (kept_still m.memories look left right none none_right) world s next rows rows_now forgotten stands tt turn

  pub join_tells_nothing : (m : BetaJoin) → TellsNothing (node.Join m)
  join_tells_nothing m look world s next rows rows_now forgotten left right none none_right stands at turn row =
      sym (join_shown p look next rows_now forgotten turn.at_hand_now turn.named_now m.memories (join_still m look world s next rows rows_now forgotten left right none none_right stands at turn) row)
      ∙ join_shown p look s rows forgotten turn.at_hand turn.named m.memories stands row

  pub exists_still : (m : TallyNode Witnesses) → Stays (node.Exists m)
  exists_still m look world s next rows rows_now forgotten left right none none_right stands at turn =
      exists_turns p (λ next. Unit {0}) look left right m m (kept_still m.memories look left right none none_right) (no_step counts_witnesses look m.memories left right none) world s next rows rows_now forgotten stands tt turn

  pub exists_tells_nothing : (m : TallyNode Witnesses) → TellsNothing (node.Exists m)
  exists_tells_nothing m look world s next rows rows_now forgotten left right none none_right stands at turn row =
      sym (exists_shown p look next rows_now forgotten turn.at_hand_now turn.named_now turn.tags_now m.memories (exists_still m look world s next rows rows_now forgotten left right none none_right stands at turn) row)
      ∙ exists_shown p look s rows forgotten turn.at_hand turn.named turn.tags m.memories stands row

  pub fold_still : (m : FoldNode) → Stays (node.Fold m)
  fold_still m look world s next rows rows_now forgotten left right none none_right stands at turn =
      let t = m.tally.memories in
      fold_turns p (λ next. Unit {0}) look left right m m refl (kept_still t look left right none none_right) (no_step (gathers m.accumulate) look t left right none) world s next rows rows_now forgotten stands tt turn

  pub fold_tells_nothing : (m : FoldNode) → TellsNothing (node.Fold m)
  fold_tells_nothing m look world s next rows rows_now forgotten left right none none_right stands at turn row =
      sym (fold_shown p look next rows_now forgotten turn.at_hand_now turn.named_now turn.tags_now m (fold_still m look world s next rows rows_now forgotten left right none none_right stands at turn) row)
      ∙ fold_shown p look s rows forgotten turn.at_hand turn.named turn.tags m stands row

  -- a `not` by this floor, which is that of the moment
  module _ (m : NotNode) (told : ℤ) (told_is : (next : Snapshot) → IsAt next moment → told ≡ floor p next (awaited_entry m)) where
    counts_still : WhereNothingChanges (node.Not m) (λ look s next rows rows_now forgotten. CountsPartners counts_blockers p (blocker_tallies m) look next rows_now forgotten)
    counts_still look world s next rows rows_now forgotten left right none none_right stands at turn =
        let t = blocker_tallies m in
        counts_next p t t look world s next rows rows_now forgotten left right (Negated t.pattern) turn (kept_still t look left right none none_right) refl counts_blockers blockers_ask turn.stay stands.counts
        (no_step counts_blockers look t left right none)

    pub not_still : NoneDue (waiting_rows m) told → Stays (node.Not m)
    not_still quiet look world s next rows rows_now forgotten left right none none_right stands at turn =
        let entry = awaited_entry m in
        record {
          counts = counts_still look world s next rows rows_now forgotten left right none none_right stands at turn;
          in_step = stands.in_step;
          none_due = subst (NoneDue (waiting_rows m)) (told_is next at) quiet;
          floor = ≤ℤ_trans (reached_floor m) (floor p s entry) (floor p next entry) stands.floor (turn.floors entry);
        }

    pub not_tells_nothing : NoneDue (waiting_rows m) told → TellsNothing (node.Not m)
    not_tells_nothing quiet look world s next rows rows_now forgotten left right none none_right stands at turn row =
        sym (not_shown p look next rows_now forgotten turn.at_hand_now turn.named_now turn.tags_now m (not_still quiet look world s next rows rows_now forgotten left right none none_right stands at turn) row)
        ∙ not_shown p look s rows forgotten turn.at_hand turn.named turn.tags m stands row

    -- where a row is due it comes
    pub not_tells_one : (at : ℤ) (row : Row) → waits (waiting_rows m) at row ≡ true → int_lt at told ≡ true → TellsOne (node.Not m)
    not_tells_one moment row there due look world s next rows rows_now forgotten left right none none_right stands at turn = (
      row,
      not_early p look s rows forgotten turn.at_hand turn.named turn.tags m stands moment row there,
      not_ripe p look next rows_now forgotten turn.at_hand_now turn.named_now turn.tags_now m stands.in_step
          (counts_still look world s next rows rows_now forgotten left right none none_right stands at turn) moment row there (sym (ap (int_lt moment) (told_is next at)) ∙ due),
    )
