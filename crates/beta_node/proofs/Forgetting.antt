-- A node that has dropped what is old stands for the same with more facts forgotten, and what it dropped names an old fact.
use Rattle.beta_node.proofs.Common.{◌≡◌, ◌∙◌, sym, ap, refl, subst, cond, ℤ, ◌≤ℤ◌, Bool, true, false, not, ◌&&◌, ◌||◌, List, [], ◌∷◌, length, ◌==◌, None, arith}
use Rattle.beta_node.proofs.Common.{fun_ext, list_any, Held, Named, Row, has, InOrder, Accumulate, Pattern, Program, Snapshot, floor, Look, joins, Memories}
use Rattle.beta_node.proofs.Common.{has_name, has_left, has_right, made, KeepsMemories, left_at, clean, cleaned, either, StandsFor, without_value, shows_value}
use Rattle.beta_node.proofs.Common.{BetaJoin, counts_blockers, counts_witnesses, where_witnessed, gathers, result_for, StandsCounted, itself, shows_any, shown}
use Rattle.beta_node.proofs.Common.{Witnesses, TallyNode, NotNode, IsInStep, not_rows, NoneDue, line, held, candidates_of, FoldNode, Node, condition_of}
use Rattle.beta_node.proofs.Common.{CountsPartners, NodeStands, Decides-eqb, drop_law, itself_facts, without_value_facts, dropped_none_due, and_parts}
use Rattle.beta_node.proofs.Common.{held_known, joining_alike, awaited_entry, blocker_tallies, blocking_pattern, joined_pattern, reached_floor, tallied_pattern}
use Rattle.beta_node.{proofs.{Common.{waiting_rows}, Folding.{fold_shown}, Shown.{join_shown, exists_shown, not_shown}}, specs.Forgetting.{ForgetsIn}}
use Rattle.{counting_node.proofs.Lawful.{forget_law as tally_forgets}, std.specs.List.Sorted.{IsStrictlySortedBy}}
use Rattle.{beta_join.proofs.Lawful.{forget_law as join_forgets}, not_node.proofs.Lawful.{drop_law as not_drops}}
use Rattle.beta_node.specs.declared.node.Node.TheVariants as node

-- what goes of the rows of a node was one of them
went : (a b gone : Bool) → gone ≡ (a && not b) → gone ≡ true → a ≡ true
went a b gone e f = (and_parts a (not b) (sym e ∙ f)).0

module _ (p : Program) (look : Look) (old : Named → Bool) (dropped gone : List Row) where
  -- for each snapshot and rows for which the node stands, where these rows are those that name an old fact
  abbrev pub In : Node → (Snapshot → (Row → Bool) → (Named → Bool) → Type 0) → Type 0
  In m claim = (s : Snapshot) (left : Row → Bool) (forgotten : Named → Bool) → ForgetsIn p m look s left forgotten old dropped → claim s left forgotten

  -- the one node becomes the other, and these rows go
  pub record Forgets (m n : Node) : Type 0 where
    pub stands : In m (λ s left forgotten. NodeStands p n look s left (either forgotten old))
    pub drops : In m (λ s left forgotten. (row : Row) → cleaned (line p s (condition_of m) left) forgotten row ≡ true → has gone row ≡ not (clean old row))
    pub alone : In m (λ s left forgotten. (row : Row) → has gone row ≡ true → cleaned (line p s (condition_of m) left) forgotten row ≡ true)
    pub ordered : In m (λ s left forgotten. InOrder gone)

  -- the memories without the rows that are dropped and without the old candidates
  abbrev Lessened : {T : Type 0} → Memories T → Memories T → Type 0
  Lessened m n = KeepsMemories m n look (λ row. has_left m look row && not (has dropped row)) (λ who. has_right m look who && not (old who))

  -- what went is what the one shows and the other does not
  abbrev Went : (Row → Bool) → (Row → Bool) → Type 0
  Went rows rows_now = (row : Row) → has gone row ≡ (rows row && not (rows_now row))

  module _ (m n : BetaJoin) (kept : Lessened m.memories n.memories) (told : Went (made m.memories look) (made n.memories look)) (ordered : InOrder gone) where
    law : In (node.Join m) (λ s left forgotten. StandsFor n.memories look left (candidates_of p (joined_pattern m) s) (either forgotten old)
        × ((row : Row) → cleaned (line p s (condition_of (node.Join m)) left) forgotten row ≡ true → has gone row ≡ not (clean old row)))
    law s left forgotten is =
        let q = joined_pattern m in
        join_forgets (Unit {0}) m.memories n.memories look (joins q (held s)) left (candidates_of p q s) forgotten old dropped gone is.stands
        (joining_alike look (held s) s forgotten is.at_hand (held_known s forgotten) p q left is.named) is.rows kept told

    pub join_forgot : (before : Node) → before ≡ node.Join m → Forgets before (node.Join n)
    join_forgot before same = subst (λ (b : Node). Forgets b (node.Join n)) (sym same) (record {
      stands = λ s left forgotten is. subst (λ (q : Pattern). StandsFor n.memories look left (candidates_of p q s) (either forgotten old)) (sym kept.pattern) (law s left forgotten is).0;
      drops = λ s left forgotten is. (law s left forgotten is).1;
      alone = λ s left forgotten is row e.
          sym (join_shown p look s left forgotten is.at_hand is.named m.memories is.stands row) ∙ went (made m.memories look row) (made n.memories look row) (has gone row) (told row) e;
      ordered = λ s left forgotten is. ordered;
    })

  -- the tallies of the rows that stay are left as they are
  abbrev LeftAlone : {T : Type 0} → Memories T → Memories T → Type 0
  LeftAlone m n = (row : Row) → left_at n look row ≡ cond (has dropped row) None (left_at m look row)

  counts_on : {T : Type 0} (holds : T → Look → (Named → Bool) → Type 0) (m n : Memories T) → Lessened m n → LeftAlone m n → (s : Snapshot) (left : Row → Bool) (forgotten : Named → Bool)
      → ((row : Row) → cleaned left forgotten row ≡ true → has dropped row ≡ not (clean old row)) → CountsPartners holds p m look s left forgotten → CountsPartners holds p n look s left (either forgotten old)
  counts_on {T} holds m n kept alone s left forgotten rows counts =
      subst (λ (q : Pattern). StandsCounted holds n look (held s) (joins q (held s)) left (candidates_of p q s) (either forgotten old)) (sym kept.pattern)
      (tally_forgets T holds m n look (held s) (joins m.pattern (held s)) left (candidates_of p m.pattern s) forgotten old dropped counts rows kept alone)

  module _ (m n : TallyNode Witnesses) (kept : Lessened m.memories n.memories) (alone : LeftAlone m.memories n.memories)
      (told : Went (shown itself shows_any where_witnessed m.memories look) (shown itself shows_any where_witnessed n.memories look)) (ordered : InOrder gone) where
    pub exists_forgot : (before : Node) → before ≡ node.Exists m → Forgets before (node.Exists n)
    exists_forgot before same = subst (λ (b : Node). Forgets b (node.Exists n)) (sym same) (record {
      stands = λ s left forgotten is. counts_on counts_witnesses m.memories n.memories kept alone s left forgotten is.rows is.stands;
      drops = λ s left forgotten is row e.
          drop_law Witnesses itself shows_any where_witnessed itself_facts m.memories n.memories look left (candidates_of p (tallied_pattern m) s) forgotten old dropped gone is.stands.stands is.rows alone told row
          (exists_shown p look s left forgotten is.at_hand is.named is.tags m.memories is.stands row ∙ e);
      alone = λ s left forgotten is row e.
          sym (exists_shown p look s left forgotten is.at_hand is.named is.tags m.memories is.stands row)
          ∙ went (shown itself shows_any where_witnessed m.memories look row) (shown itself shows_any where_witnessed n.memories look row) (has gone row) (told row) e;
      ordered = λ s left forgotten is. ordered;
    })

  module _ (m n : NotNode) (kept : Lessened (blocker_tallies m) (blocker_tallies n)) (alone : LeftAlone (blocker_tallies m) (blocker_tallies n)) (same_floor : reached_floor n ≡ reached_floor m)
      (in_step : IsInStep p look m → IsInStep p look n) (told : IsInStep p look m → Went (not_rows p look m) (not_rows p look n)) (ordered : IsInStep p look m → InOrder gone) where
    pub not_forgot : (before : Node) → before ≡ node.Not m → Forgets before (node.Not n)
    not_forgot before same = subst (λ (b : Node). Forgets b (node.Not n)) (sym same) (record {
      stands = λ s left forgotten is. record {
        counts = counts_on counts_blockers (blocker_tallies m) (blocker_tallies n) kept alone s left forgotten is.rows is.stands.counts;
        in_step = in_step is.stands.in_step;
        none_due = subst (λ (q : Pattern). NoneDue (waiting_rows n) (floor p s q.entry.0)) (sym kept.pattern)
            (dropped_none_due p m n look dropped (floor p s (awaited_entry m)) is.stands.in_step (in_step is.stands.in_step) kept.pattern same_floor alone is.stands.none_due);
        floor = subst (λ (q : Pattern). reached_floor n ≤ℤ floor p s q.entry.0) (sym kept.pattern)
            (subst (λ (now : ℤ). now ≤ℤ floor p s (awaited_entry m)) (sym same_floor) is.stands.floor);
      };
      drops = λ s left forgotten is row e.
          not_drops p m n look left (candidates_of p (blocking_pattern m) s) forgotten old dropped gone is.stands.counts.stands is.rows kept.pattern same_floor alone (told is.stands.in_step) row
          (not_shown p look s left forgotten is.at_hand is.named is.tags m is.stands row ∙ e);
      alone = λ s left forgotten is row e.
          sym (not_shown p look s left forgotten is.at_hand is.named is.tags m is.stands row) ∙ went (not_rows p look m row) (not_rows p look n row) (has gone row) (told is.stands.in_step row) e;
      ordered = λ s left forgotten is. ordered is.stands.in_step;
    })

  module _ (m n : FoldNode) (still : n.accumulate ≡ m.accumulate) (kept : Lessened m.tally.memories n.tally.memories) (alone : LeftAlone m.tally.memories n.tally.memories)
      (told : Went (shown without_value shows_value (result_for m.accumulate) m.tally.memories look) (shown without_value shows_value (result_for m.accumulate) n.tally.memories look)) (ordered : InOrder gone) where
    pub fold_forgot : (before : Node) → before ≡ node.Fold m → Forgets before (node.Fold n)
    fold_forgot before same =
        let t = m.tally.memories in
        let u = n.tally.memories in
        subst (λ (b : Node). Forgets b (node.Fold n)) (sym same) (record {
          stands = λ s left forgotten is. record {
            counts = subst (λ (a : Accumulate). CountsPartners (gathers a) p u look s left (either forgotten old)) (sym still)
                (counts_on (gathers m.accumulate) t u kept alone s left forgotten is.rows is.stands.counts);
            pattern = kept.pattern ∙ is.stands.pattern ∙ ap (λ (a : Accumulate). a.pattern) (sym still);
          };
          drops = λ s left forgotten is row e.
              drop_law Held without_value shows_value (result_for m.accumulate) without_value_facts t u look left (candidates_of p t.pattern s) forgotten old dropped gone is.stands.counts.stands is.rows alone told row
              (fold_shown p look s left forgotten is.at_hand is.named is.tags m is.stands row ∙ e);
          alone = λ s left forgotten is row e.
              sym (fold_shown p look s left forgotten is.at_hand is.named is.tags m is.stands row)
              ∙ went (shown without_value shows_value (result_for m.accumulate) t look row) (shown without_value shows_value (result_for m.accumulate) u look row) (has gone row) (told row) e;
          ordered = λ s left forgotten is. ordered;
        })

-- ---- nothing is old

pub none_there : {A : Type 0} (xs : List A) (b : Bool) → b ≡ (length xs == 0) → b ≡ true → xs ≡ []
none_there [] b e f = refl
none_there (x ∷ xs) b e f = let n : length (x ∷ xs) ≡ 0 = (Decides-eqb (length (x ∷ xs)) 0).0 (sym e ∙ f) in absurd (omega (arith, n))

none_old : (names : List Named) → list_any (has_name []) names ≡ false
none_old [] = refl
none_old (n ∷ names) = none_old names

or_none : (b : Bool) → b ≡ (b || false)
or_none true = refl
or_none false = refl

-- where nothing is dropped and nothing is old, the node stays as it is and nothing goes
pub nothing_forgot : (p : Program) (look : Look) (n : Node) (rows : List Row) (names : List Named) → names ≡ [] → (gone : List Row) → gone ≡ [] → Forgets p look (has_name names) rows gone n n
unfolding IsStrictlySortedBy
nothing_forgot p look n rows names no_names gone no_rows = record {
  stands = λ s left forgotten is.
      subst (λ (facts : Named → Bool). NodeStands p n look s left facts) (fun_ext (λ who. or_none (forgotten who) ∙ ap (λ (ns : List Named). forgotten who || has_name ns who) (sym no_names))) is.stands;
  drops = λ s left forgotten is row e.
      ap (λ (rs : List Row). has rs row) no_rows ∙ sym (ap (λ (ns : List Named). not (clean (has_name ns) row)) no_names ∙ ap (λ b. not (not b)) (none_old row.facts));
  alone = λ s left forgotten is row e. absurd (let torn : false ≡ true = sym (ap (λ (rs : List Row). has rs row) no_rows) ∙ e in cc);
  ordered = λ s left forgotten is. subst (λ (rs : List Row). InOrder rs) (sym no_rows) tt;
}
