-- What a new node stands for, and what a node stands for by another store.
use Rattle.beta_node.proofs.Common.{◌≡◌, ◌∙◌, ap, refl, subst, Bool, fun_ext, is_some, Named, Row, Pattern, Program, Snapshot, Look, joins, Memories, no_rows}
use Rattle.beta_node.proofs.Common.{no_names, StandsFor, LooksAlike, counts_blockers, counts_witnesses, gathers, StandsCounted, empty_snapshot, HasAllOf}
use Rattle.beta_node.proofs.Common.{NameHeld, Node, CountsPartners, NodeStands, start_law, looks_alike, blocker_tallies, joined_pattern}
use Rattle.{counting_node.proofs.Lawful.{move_law as tallies_move}, join_memory.proofs.Moving.{move_law as memories_move}}
use Rattle.{not_node.proofs.Lawful.{move_law as not_moves}, condition_rows.specs.Sets.{held, candidates_of}}
use Rattle.beta_node.specs.declared.node.Node.TheVariants as node

-- ---- a new node
pub no_candidates : (p : Program) (q : Pattern) (who : Named) → no_names who ≡ candidates_of p q empty_snapshot who
unfolding candidates_of held
no_candidates p q who = refl

pub stands_empty : {T : Type 0} (p : Program) (m : Memories T) (look : Look) (forgotten : Named → Bool) → StandsFor m look no_rows no_names forgotten → StandsFor m look no_rows (candidates_of p m.pattern empty_snapshot) forgotten
stands_empty p m look forgotten stands = subst (λ (names : Named → Bool). StandsFor m look no_rows names forgotten) (fun_ext (no_candidates p m.pattern)) stands

pub counts_empty : {T : Type 0} (holds : T → Look → (Named → Bool) → Type 0) (p : Program) (m : Memories T) (look : Look) (forgotten : Named → Bool) → StandsFor m look no_rows no_names forgotten → CountsPartners holds p m look empty_snapshot no_rows forgotten
counts_empty {T} holds p m look forgotten stands =
    subst (λ (names : Named → Bool). StandsCounted holds m look (held empty_snapshot) (joins m.pattern (held empty_snapshot)) no_rows names forgotten) (fun_ext (no_candidates p m.pattern))
    (start_law T holds m look (held empty_snapshot) (joins m.pattern (held empty_snapshot)) forgotten stands)

-- ---- another store
stands_move : {T : Type 0} (m : Memories T) (look other : Look) (rows : Row → Bool) (names forgotten : Named → Bool) → StandsFor m look rows names forgotten → LooksAlike m look other → StandsFor m other rows names forgotten
stands_move {T} m look other rows names forgotten stands alike =
    let moved = memories_move T m look other stands.agrees alike in
    record { rows = λ row. ap is_some (moved.1 row) ∙ stands.rows row; names = λ who. moved.2 who ∙ stands.names who; agrees = moved.0 }

module _ (p : Program) (look other : Look) (s : Snapshot) (rows : Row → Bool) (forgotten : Named → Bool) (known : HasAllOf look s forgotten) (known_other : HasAllOf other s forgotten) (named : NameHeld s rows) where
  kept_alike : {T : Type 0} (m : Memories T) → StandsFor m look rows (candidates_of p m.pattern s) forgotten → LooksAlike m look other
  kept_alike m stands = looks_alike look other s forgotten known known_other p m.pattern rows named m stands

  counts_move : {T : Type 0} (holds : T → Look → (Named → Bool) → Type 0) (m : Memories T) → CountsPartners holds p m look s rows forgotten → CountsPartners holds p m other s rows forgotten
  counts_move {T} holds m counts =
      tallies_move T holds m look other (held s) (joins m.pattern (held s)) rows (candidates_of p m.pattern s) forgotten counts (kept_alike m counts.stands)

  pub node_moves : (n : Node) → NodeStands p n look s rows forgotten → NodeStands p n other s rows forgotten
  node_moves (node.Join join) stands = stands_move join.memories look other rows (candidates_of p (joined_pattern join) s) forgotten stands (kept_alike join.memories stands)
  node_moves (node.Not waiting) waits =
      let m = blocker_tallies waiting in
      record {
        counts = counts_move counts_blockers m waits.counts;
        in_step = (not_moves p waiting look other waits.counts.stands.agrees (kept_alike m waits.counts.stands)).1 waits.in_step;
        none_due = waits.none_due;
        floor = waits.floor;
      }
  node_moves (node.Exists tally) counts = counts_move counts_witnesses tally.memories counts
  node_moves (node.Fold fold) folds = record { counts = counts_move (gathers fold.accumulate) fold.tally.memories folds.counts; pattern = folds.pattern }
