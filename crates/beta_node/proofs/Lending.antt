-- What the node of each kind does with candidates that are lent to it.
use Rattle.beta_node.proofs.Common.{◌≡◌, ◌∙◌, sym, ap, refl, subst, cond, List, [], map, Bool, true, false, not, ◌&&◌, ◌||◌, None, Extra, Named, Row, has}
use Rattle.beta_node.proofs.Common.{InOrder, Condition, Program, Snapshot, Look, Delta, Memories, IsDifference, KeepsMemories, has_left, has_right, has_name}
use Rattle.beta_node.proofs.Common.{left_at, made, row_naming, clean, cleaned, either, no_rows, no_names, StandsFor, BetaJoin, TallyNode, Witnesses}
use Rattle.beta_node.proofs.Common.{where_witnessed, result_for, without_value, shows_value, itself, shows_any, shown, NotNode, IsInStep, not_rows}
use Rattle.beta_node.proofs.Common.{empty_snapshot, line, extra_for, FoldNode, Node, IsLoad, Laden, condition_of, NodeStands, IsConditionTurn, node_rows}
use Rattle.beta_node.{proofs.Common.{blocker_tallies, reached_floor}, specs.{Forgetting.{ForgetsIn}, Lending.{with_candidates, NodeTakes, NodeForgoes}}}
use Rattle.{beta_node.specs.Lending.{HasCandidates, NodeHas}, join_memory.specs.{declared.candidates.Candidates.{Candidates}, Shared.{sharing, ForgoesOld}}}
use Rattle.{join_memory.specs.Shared.{TakesOver}, not_node.specs.Doors.{with_tallies}}
use Rattle.beta_node.specs.declared.node.Node.TheVariants as node
use Rattle.{join_memory.proofs.Handed.{keeps_shared}, counting_node.proofs.Turning.{shown_alike}, row_change.proofs.Alike.{difference_alike}}
use Rattle.beta_node.proofs.{Forgetting.{Forgets, join_forgot, exists_forgot, not_forgot, fold_forgot}, Loading.{has_naming}}

-- the nodes with these candidates
abbrev pub join_with : BetaJoin → Candidates → BetaJoin
join_with m was = record { memories = sharing m.memories was }

abbrev pub exists_with : TallyNode Witnesses → Candidates → TallyNode Witnesses
exists_with m was = record { memories = sharing m.memories was }

abbrev pub not_with : NotNode → Candidates → NotNode
not_with m was = with_tallies (sharing (blocker_tallies m) was) m

abbrev pub fold_with : FoldNode → Candidates → FoldNode
fold_with m was = record { accumulate = m.accumulate; tally = record { memories = sharing m.tally.memories was } }

same_condition : (was : Candidates) (n : Node) → condition_of (with_candidates was n) ≡ condition_of n
same_condition was (node.Join m) = refl
same_condition was (node.Not m) = refl
same_condition was (node.Exists m) = refl
same_condition was (node.Fold m) = refl

-- the rows of an accumulate do not tell of its candidates
pub fold_difference : (m n : FoldNode) (was : Candidates) (look : Look) (delta : Delta)
    → IsDifference (shown without_value shows_value (result_for m.accumulate) m.tally.memories look) (shown without_value shows_value (result_for m.accumulate) n.tally.memories look) delta
    → IsDifference (shown without_value shows_value (result_for m.accumulate) (sharing m.tally.memories was) look) (shown without_value shows_value (result_for m.accumulate) n.tally.memories look) delta
fold_difference m n was look delta =
    let rows = shown without_value shows_value (result_for m.accumulate) in
    difference_alike (rows m.tally.memories look) (rows (sharing m.tally.memories was) look) (rows n.tally.memories look) (rows n.tally.memories look) delta
    (shown_alike without_value shows_value (result_for m.accumulate) m.tally.memories (sharing m.tally.memories was) look (λ r. refl)) (λ r. refl)

-- ---- turns

-- from the candidates before, the one node turns to the other, for each turn of the rows and of all candidates
abbrev pub TurnsFrom : Program → (Snapshot → Type 0) → Look → Delta → List Named → List Named → Node → Node → Type 0
TurnsFrom p At look left gone come old new = (was : Candidates) (right : Delta) → NodeTakes old was look right gone come
    → (world : Look) (s next : Snapshot) (rows rows_now : Row → Bool) (forgotten : Named → Bool)
    → NodeStands p (with_candidates was old) look s rows forgotten → At next → IsConditionTurn p (condition_of old) look world s next rows rows_now forgotten left right
    → NodeStands p new look next rows_now forgotten

-- and it tells this difference
abbrev pub TellsFrom : Program → (Snapshot → Type 0) → Look → Delta → List Named → List Named → Node → Delta → Type 0
TellsFrom p At look left gone come old delta = (was : Candidates) (right : Delta) → NodeTakes old was look right gone come
    → (world : Look) (s next : Snapshot) (rows rows_now : Row → Bool) (forgotten : Named → Bool)
    → NodeStands p (with_candidates was old) look s rows forgotten → At next → IsConditionTurn p (condition_of old) look world s next rows rows_now forgotten left right
    → IsDifference (cleaned (line p s (condition_of old) rows) forgotten) (cleaned (line p next (condition_of old) rows_now) forgotten) delta

-- ---- forgetting

module _ (p : Program) (look : Look) (rows dropped : List Row) (gone : List Named) where
  -- for all candidates before, and old ones of them, these rows go
  abbrev Where : Node → ((Named → Bool) → Snapshot → (Row → Bool) → (Named → Bool) → Type 0) → Type 0
  Where m claim = (was : Candidates) (old : Named → Bool) → NodeForgoes m was look old gone
      → (s : Snapshot) (left : Row → Bool) (forgotten : Named → Bool) → ForgetsIn p (with_candidates was m) look s left forgotten old rows → claim old s left forgotten

  pub record ForgetsFrom (m n : Node) : Type 0 where
    pub stands : Where m (λ old s left forgotten. NodeStands p n look s left (either forgotten old))
    pub drops : Where m (λ old s left forgotten. (row : Row) → cleaned (line p s (condition_of m) left) forgotten row ≡ true → has dropped row ≡ not (clean old row))
    pub alone : Where m (λ old s left forgotten. (row : Row) → has dropped row ≡ true → cleaned (line p s (condition_of m) left) forgotten row ≡ true)
    pub ordered : Where m (λ old s left forgotten. InOrder dropped)

  from_each : (m n : Node) → ((was : Candidates) (old : Named → Bool) → NodeForgoes m was look old gone → Forgets p look old rows dropped (with_candidates was m) n) → ForgetsFrom m n
  from_each m n f = record {
    stands = λ was old forgoes. (f was old forgoes).stands;
    drops = λ was old forgoes s left forgotten is row e.
        (f was old forgoes).drops s left forgotten is row (ap (λ (c : Condition). cleaned (line p s c left) forgotten row) (same_condition was m) ∙ e);
    alone = λ was old forgoes s left forgotten is row e.
        ap (λ (c : Condition). cleaned (line p s c left) forgotten row) (sym (same_condition was m)) ∙ (f was old forgoes).alone s left forgotten is row e;
    ordered = λ was old forgoes. (f was old forgoes).ordered;
  }

  -- what the memories keep without these rows, and without the old candidates, which went before
  abbrev Less : {T : Type 0} → Memories T → Memories T → Type 0
  Less m n = KeepsMemories m n look (λ row. has_left m look row && not (has rows row)) (has_right m look)

  lessened : {T : Type 0} (m n : Memories T) (was : Candidates) (old : Named → Bool) → Less m n → ForgoesOld m was look old gone
      → KeepsMemories (sharing m was) n look (λ row. has_left (sharing m was) look row && not (has rows row)) (λ who. has_right (sharing m was) look who && not (old who))
  lessened m n was old kept forgoes = keeps_shared m n was look _ _ forgoes.agrees forgoes.names kept

  abbrev Alone : {T : Type 0} → Memories T → Memories T → Type 0
  Alone m n = (row : Row) → left_at n look row ≡ cond (has rows row) None (left_at m look row)

  abbrev Went : (Row → Bool) → (Row → Bool) → Type 0
  Went was is = (row : Row) → has dropped row ≡ (was row && not (is row))

  pub join_forgets_from : (m n : BetaJoin)
      → ((was : Candidates) (old : Named → Bool) → ForgoesOld m.memories was look old gone → KeepsMemories (sharing m.memories was) n.memories look (λ row. has_left (sharing m.memories was) look row && not (has rows row)) (λ who. has_right (sharing m.memories was) look who && not (old who)))
      → ((was : Candidates) (old : Named → Bool) → ForgoesOld m.memories was look old gone → Went (made (sharing m.memories was) look) (made n.memories look))
      → ((was : Candidates) (old : Named → Bool) → ForgoesOld m.memories was look old gone → InOrder dropped) → (before : Node) → before ≡ node.Join m → ForgetsFrom before (node.Join n)
  join_forgets_from m n kept told ordered before same =
      from_each before (node.Join n) (λ was old forgoes.
      let is : ForgoesOld m.memories was look old gone = subst (λ (b : Node). NodeForgoes b was look old gone) same forgoes in
      join_forgot p look old rows dropped (join_with m was) n (kept was old is) (told was old is) (ordered was old is) (with_candidates was before) (ap (with_candidates was) same))

  pub exists_forgets_from : (m n : TallyNode Witnesses) → Less m.memories n.memories → Alone m.memories n.memories → Went (shown itself shows_any where_witnessed m.memories look) (shown itself shows_any where_witnessed n.memories look) → InOrder dropped
      → (before : Node) → before ≡ node.Exists m → ForgetsFrom before (node.Exists n)
  exists_forgets_from m n kept alone told ordered before same =
      from_each before (node.Exists n) (λ was old forgoes.
      let is : ForgoesOld m.memories was look old gone = subst (λ (b : Node). NodeForgoes b was look old gone) same forgoes in
      exists_forgot p look old rows dropped (exists_with m was) n (lessened m.memories n.memories was old kept is) alone told ordered (with_candidates was before) (ap (with_candidates was) same))

  pub not_forgets_from : (m n : NotNode) → Less (blocker_tallies m) (blocker_tallies n) → Alone (blocker_tallies m) (blocker_tallies n) → reached_floor n ≡ reached_floor m → (IsInStep p look m → IsInStep p look n)
      → (IsInStep p look m → Went (not_rows p look m) (not_rows p look n)) → (IsInStep p look m → InOrder dropped) → (before : Node) → before ≡ node.Not m → ForgetsFrom before (node.Not n)
  not_forgets_from m n kept alone same_floor in_step told ordered before same =
      from_each before (node.Not n) (λ was old forgoes.
      let is : ForgoesOld (blocker_tallies m) was look old gone = subst (λ (b : Node). NodeForgoes b was look old gone) same forgoes in
      not_forgot p look old rows dropped (not_with m was) n (lessened (blocker_tallies m) (blocker_tallies n) was old kept is) alone same_floor in_step told ordered (with_candidates was before) (ap (with_candidates was) same))

  pub fold_forgets_from : (m n : FoldNode) → n.accumulate ≡ m.accumulate → Less m.tally.memories n.tally.memories → Alone m.tally.memories n.tally.memories
      → Went (shown without_value shows_value (result_for m.accumulate) m.tally.memories look) (shown without_value shows_value (result_for m.accumulate) n.tally.memories look) → InOrder dropped
      → (before : Node) → before ≡ node.Fold m → ForgetsFrom before (node.Fold n)
  fold_forgets_from m n still kept alone told ordered before same =
      from_each before (node.Fold n) (λ was old forgoes.
      let t = m.tally.memories in
      let is : ForgoesOld t was look old gone = subst (λ (b : Node). NodeForgoes b was look old gone) same forgoes in
      fold_forgot p look old rows dropped (fold_with m was) n still (lessened t n.tally.memories was old kept is) alone
      (λ row. told row ∙ ap (λ b. b && not (shown without_value shows_value (result_for m.accumulate) n.tally.memories look row)) (shown_alike without_value shows_value (result_for m.accumulate) t (sharing t was) look (λ r. refl) row))
      ordered (with_candidates was before) (ap (with_candidates was) same))

-- ---- loads

-- from a node that keeps no rows, and has the candidates that were loaded, a load leads to the other
abbrev pub LoadsFrom : Program → (Snapshot → Type 0) → Look → List Row → List Extra → Node → Node → Type 0
LoadsFrom p At look left extras old new = (own : Candidates) (right : List Named) → NodeHas old look right → (world : Look) (s : Snapshot) (rows : Row → Bool)
    → NodeStands p (with_candidates own old) look empty_snapshot no_rows no_names → At s → IsLoad p (condition_of old) look world s rows left right extras → Laden p new look world s rows (extra_for extras)

-- and these rows come
abbrev pub LoadTells : Program → Look → Node → Node → Delta → Type 0
LoadTells p look old new delta = (own : Candidates) (right : List Named) → NodeHas old look right
    → NodeStands p (with_candidates own old) look empty_snapshot no_rows no_names → IsDifference (node_rows p look (with_candidates own old)) (node_rows p look new) delta

-- the candidates that are lent are those that were loaded
module _ {T : Type 0} (m : Memories T) (own : Candidates) (look : Look) (right : List Named) (lent : HasCandidates m look right) (nothing : StandsFor (sharing m own) look no_rows no_names no_names) where
  pub loaded_keeps : (n : Memories T) (left : List Row) → KeepsMemories m n look (λ r. has_left m look r || has left r) (has_right m look)
      → KeepsMemories (sharing m own) n look (λ r. has_left (sharing m own) look r || has left r) (λ who. has_right (sharing m own) look who || has_name right who)
  loaded_keeps n left keeps = keeps_shared m n own look _ _ (λ agrees. lent.agrees) (λ who. lent.exact who ∙ sym (ap (λ b. b || has_name right who) (nothing.names who))) keeps

  -- where no rows are kept, nothing is handed
  pub takes_loaded : TakesOver m own look (record { gone = []; come = map row_naming right }) [] []
  takes_loaded = record {
    handed = record {
      once_gone = tt;
      once_come = tt;
      went = λ who e. let f : false ≡ true = e in cc;
      came = λ who e. let f : false ≡ true = e in cc;
      left_out_gone = λ who row e f there. let g : false ≡ true = sym (nothing.rows row) ∙ there in cc;
      left_out_come = λ who row e f there. let g : false ≡ true = sym (nothing.rows row) ∙ there in cc;
    };
    names = λ who. lent.exact who ∙ sym (has_naming right who) ∙ sym (ap (λ b. (b && not false) || has (map row_naming right) (row_naming who)) (nothing.names who));
    gone = λ who e. let f : false ≡ true = e in cc;
    come = λ who e. let f : false ≡ true = e in cc;
    agrees = λ agrees. lent.agrees;
  }
