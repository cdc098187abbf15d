-- A node of a source that is passed over: nothing has changed before it, nothing is handed to it, and no row of it becomes mature.
use Rattle.rete_net.proofs.Common.{◌≡◌, sym, refl, subst, ℕ, ℤ, Bool, true, false, List, [], Option, Some, Fact, Delta, Row, IsDifference, changes_nothing}
use Rattle.rete_net.proofs.Common.{fun_ext, Condition, Moment, Program, IsAt, pattern_of, Snapshot, snapshot_at, floor, Look, Candidates, cleaned, line, Node}
use Rattle.rete_net.proofs.Common.{condition_of, NodeStands, IsConditionTurn, NetNode, IsStillAt, no_change, Value, blocking_pattern, TurnStep}
use Rattle.{join_tests.specs.NameKeys.{name_key}, not_node.specs.{Doors.{awaited_entry}, declared.node.NotNode.{NotNode}}}
use Rattle.{pattern_gate.specs.Alike.{TakesAlike}, candidate_source.specs.{declared.source.Source.{Source}, Doors.{source_candidates, source_pattern}}}
use Rattle.{candidate_source.specs.Doors.{is_reached}, beta_node.proofs.{Lending.{exists_with, fold_with, join_with, not_with}, Turning.{floor_told}}}
use Rattle.beta_node.proofs.Untouched.{StaysUntouched, TellsUntouched, exists_tells_untouched, exists_untouched, fold_tells_untouched, fold_untouched}
use Rattle.beta_node.{proofs.Untouched.{join_tells_untouched, join_untouched, not_tells_untouched, not_untouched}, specs.Lending.{with_candidates}}
use Rattle.beta_node.specs.declared.node.Node.TheVariants as node
use Rattle.rete_net.{specs.Lending.{IsFoundAnew, TurnsAt}, proofs.{Fanned.{none_of}, Lending.{turn_step}, Lent.{condition_lent, lent_last}}}
use Rattle.rete_net.proofs.Skipping.{no_difference}

-- where no row came, and nothing has changed, a node is found as it was
pub anew_still : (n : Node) (look : Look) (k : ℕ) (come : List Row) (source : Source) → come ≡ [] → IsFoundAnew n look k come source source
anew_still n look k come source none = subst (λ (rows : List Row). IsFoundAnew n look k rows source source) (sym none) (record {
  gate = refl;
  candidates = refl;
  came = λ row e. absurd (let no : false ≡ true = e in cc);
  kept = λ value row e kept. e;
  others = λ value j other. refl;
})

module _ (p : Program) (look : Look) (gone : List Fact) (come : Option Fact) (moment : Moment) (n : NetNode) (was source : Source) (k : ℕ) (left : Delta) (none : changes_nothing left ≡ true)
    (alike : TakesAlike (pattern_of (condition_of n.node)) (source_pattern was)) (keeps : name_key (pattern_of (condition_of n.node)) ≡ name_key (source_pattern was))
    (turned : TurnsAt p gone come moment.clock look was source k [] []) (reached : (value : Value) → is_reached source value k ≡ is_reached was value k)
    (stays : StaysUntouched p moment (with_candidates (source_candidates source) n.node)) (tells : TellsUntouched p moment (with_candidates (source_candidates source) n.node)) where
  abbrev lent : Node
  lent = with_candidates (source_candidates source) n.node

  abbrev c : Condition
  c = condition_of n.node

  same : condition_of lent ≡ c
  same = condition_lent (source_candidates source) n.node

  pub passed_by : TurnStep p look gone come moment (Some was) (Some source) k n n left no_change
  passed_by =
      turn_step p look gone come moment n n was source source k left no_change [] [] refl refl alike keeps turned reached
      (anew_still n.node look k left.come source (none_of left.gone left.come none).1)
      (λ right takes world s next rows rows_now forgotten stands at turn.
      stays (source_candidates was) look world s next rows rows_now forgotten left right takes none
      (subst (λ (m : Node). NodeStands p m look s rows forgotten) (sym (lent_last (source_candidates was) (source_candidates source) n.node)) stands) at
      (subst (λ (d : Condition). IsConditionTurn p d look world s next rows rows_now forgotten left right) (sym same) turn))
      (λ right takes world s next rows rows_now forgotten stands at turn.
      let told =
      tells (source_candidates was) look world s next rows rows_now forgotten left right takes none
      (subst (λ (m : Node). NodeStands p m look s rows forgotten) (sym (lent_last (source_candidates was) (source_candidates source) n.node)) stands) at
      (subst (λ (d : Condition). IsConditionTurn p d look world s next rows rows_now forgotten left right) (sym same) turn) in
      subst (λ (d : Condition). IsDifference (cleaned (line p s d rows) forgotten) (cleaned (line p next d rows_now) forgotten) no_change) same
      (subst (λ (set : Row → Bool). IsDifference (cleaned (line p s (condition_of lent) rows) forgotten) set no_change) (sym (fun_ext told))
      (no_difference (cleaned (line p s (condition_of lent) rows) forgotten))))

-- ---- nodes of any kind by a floor

module _ (p : Program) (moment : Moment) (c : Candidates) where
  abbrev told : Node → ℤ
  told n = floor p (snapshot_at moment) (pattern_of (condition_of n)).entry.0

  told_is : (waiting : NotNode) (next : Snapshot) → IsAt next moment → told (node.Not waiting) ≡ floor p next (awaited_entry waiting)
  told_is waiting next at = floor_told p moment (blocking_pattern waiting) (blocking_pattern waiting) (told (node.Not waiting)) refl refl next at

  stays_untouched : (n : Node) → IsStillAt n (told n) → StaysUntouched p moment (with_candidates c n)
  stays_untouched (node.Join join) still = join_untouched p moment (join_with join c)
  stays_untouched (node.Not waiting) still = not_untouched p moment (not_with waiting c) (told (node.Not waiting)) (told_is waiting) still
  stays_untouched (node.Exists tally) still = exists_untouched p moment (exists_with tally c)
  stays_untouched (node.Fold fold) still = fold_untouched p moment (fold_with fold c)

  tells_untouched : (n : Node) → IsStillAt n (told n) → TellsUntouched p moment (with_candidates c n)
  tells_untouched (node.Join join) still = join_tells_untouched p moment (join_with join c)
  tells_untouched (node.Not waiting) still = not_tells_untouched p moment (not_with waiting c) (told (node.Not waiting)) (told_is waiting) still
  tells_untouched (node.Exists tally) still = exists_tells_untouched p moment (exists_with tally c)
  tells_untouched (node.Fold fold) still = fold_tells_untouched p moment (fold_with fold c)

module _ (p : Program) (look : Look) (gone : List Fact) (come : Option Fact) (moment : Moment) (n : NetNode) (was source : Source) (k : ℕ)
    (alike : TakesAlike (pattern_of (condition_of n.node)) (source_pattern was)) (keeps : name_key (pattern_of (condition_of n.node)) ≡ name_key (source_pattern was))
    (turned : TurnsAt p gone come moment.clock look was source k [] []) (reached : (value : Value) → is_reached source value k ≡ is_reached was value k)
    (still : IsStillAt n.node (floor p (snapshot_at moment) (pattern_of (condition_of n.node)).entry.0)) where
  -- a node that the walk does not come to takes its turn
  pub passed_over : TurnStep p look gone come moment (Some was) (Some source) k n n no_change no_change
  passed_over =
      passed_by p look gone come moment n was source k no_change refl alike keeps turned reached
      (stays_untouched p moment (source_candidates source) n.node still) (tells_untouched p moment (source_candidates source) n.node still)
