-- What the node of each kind stands for after a load.
use Rattle.beta_node.proofs.Common.{◌≡◌, ◌∙◌, sym, ap, refl, subst, ℤ, ◌≤ℤ◌, List, [], ◌∷◌, map, Bool, true, false, not, ◌&&◌, ◌||◌, fun_ext, ≤ℤ_refl, list_any}
use Rattle.beta_node.proofs.Common.{eq_by_cmp, Delta, Extra, Named, Row, name_cmp, has, row_cmp, Accumulate, Condition, Negated, Existing, Folded, Pattern}
use Rattle.beta_node.proofs.Common.{Program, pattern_of, Snapshot, floor, Look, joins, Memories, IsStepped, row_naming, has_name, has_left, has_right}
use Rattle.beta_node.proofs.Common.{KeepsMemories, row_decides, name_decides, cleaned, no_rows, no_names, StandsFor, BetaJoin, Witnesses, TallyNode}
use Rattle.beta_node.proofs.Common.{counts_blockers, counts_witnesses, extra_for, blockers_laden, witnesses_laden, gathered_laden, AllLaden, gathers, NotNode}
use Rattle.beta_node.proofs.Common.{IsInStep, later, none_due, empty_snapshot, held, candidates_of, FoldNode, Node, CountsLaden, IsLoad, Laden, condition_of}
use Rattle.beta_node.proofs.Common.{NodeStands, same_from_decides, StandsLaden, load_law, held_known, joining_alike, candidate_alike, ≤ℤ_trans, awaited_entry}
use Rattle.beta_node.proofs.{Common.{blocker_tallies, joined_pattern, reached_floor, tallied_pattern, blocking_pattern}, Moved.{no_candidates}}
use Rattle.beta_node.proofs.Turning.{later_is}
use Rattle.beta_node.specs.declared.node.Node.TheVariants as node

-- from a node that keeps nothing a load leads to the other, whatever is loaded so
abbrev pub LoadsTo : Program → (Snapshot → Type 0) → Look → List Row → List Named → List Extra → Node → Node → Type 0
LoadsTo p At look left right extras old new = (world : Look) (s : Snapshot) (rows : Row → Bool)
    → NodeStands p old look empty_snapshot no_rows no_names → At s → IsLoad p (condition_of old) look world s rows left right extras → Laden p new look world s rows (extra_for extras)

pub nothing_kept : {T : Type 0} (p : Program) (m : Memories T) (look : Look) → StandsFor m look no_rows (candidates_of p m.pattern empty_snapshot) no_names → StandsFor m look no_rows no_names no_names
nothing_kept p m look stands = subst (λ (names : Named → Bool). StandsFor m look no_rows names no_names) (fun_ext (λ who. sym (no_candidates p m.pattern who))) stands

pub all_clean : (rows : Row → Bool) (row : Row) → rows row ≡ cleaned rows no_names row
all_clean rows row = sym (and_true (rows row)) ∙ ap (λ b. rows row && not b) (sym (none row.facts))
  where
    and_true : (b : Bool) → (b && true) ≡ b
    and_true true = refl
    and_true false = refl

    none : (names : List Named) → list_any no_names names ≡ false
    none [] = refl
    none (n ∷ names) = none names

pub all_remembered : (b : Bool) → b ≡ (b && not false)
all_remembered true = refl
all_remembered false = refl

-- rows that name candidates alone are the same where the candidates are
named_same : (a b : Named) → eq_by_cmp row_cmp (row_naming a) (row_naming b) ≡ eq_by_cmp name_cmp a b
named_same a b = same_from_decides _ _ (row_decides (row_naming a) (row_naming b)) (λ e. ap (λ (n : Named). row_naming n) ((name_decides a b).0 e), λ e. (name_decides a b).1 (first_same e))
  where
    first : List Named → Named
    first [] = b
    first (n ∷ names) = n

    first_same : row_naming a ≡ row_naming b → a ≡ b
    first_same e = ap (λ (row : Row). first row.facts) e

pub has_naming : (names : List Named) (who : Named) → has (map row_naming names) (row_naming who) ≡ has_name names who
has_naming [] who = refl
has_naming (n ∷ names) who = ap (λ b. b || has (map row_naming names) (row_naming who)) (named_same who n) ∙ ap (λ b. eq_by_cmp name_cmp who n || b) (has_naming names who)

module _ (p : Program) (At : Snapshot → Type 0) (look : Look) (left : List Row) (right : List Named) (extras : List Extra) where
  counts_loaded : {T : Type 0} (holds : T → Look → (Named → Bool) → Type 0) (laden : T → Look → (Named → Bool) → Extra → Type 0) (m n : Memories T) (c : Condition) → m.pattern ≡ pattern_of c
      → KeepsMemories m n look (λ row. has_left m look row || has left row) (λ who. has_right m look who || has_name right who) → AllLaden holds laden look extras (has left) m n
      → (world : Look) (s : Snapshot) (rows : Row → Bool) → StandsFor m look no_rows (candidates_of p m.pattern empty_snapshot) no_names → IsLoad p c look world s rows left right extras
      → CountsLaden holds laden p n look world s rows (extra_for extras)
  counts_loaded holds laden m n c meant keeps loaded world s rows stands load =
      let q = m.pattern in
      subst (λ (r : Pattern). StandsLaden holds laden n look world (joins r (held s)) rows (candidates_of p r s) (extra_for extras)) (sym keeps.pattern)
      (load_law holds laden m n look world (joins q (held s)) rows (candidates_of p q s) left right extras (nothing_kept p m look stands)
      (joining_alike look (held s) s no_names load.at_hand (held_known s no_names) p q rows load.named)
      (λ who e. candidate_alike world look s no_names load.known load.at_hand p q who e refl)
      load.rows (λ who. load.candidates who ∙ ap (λ (r : Pattern). candidates_of p r s who) (sym meant)) load.in_order keeps loaded)

  pub join_loads : (m n : BetaJoin) (rows_in names_in : Delta) → rows_in.come ≡ left → names_in.come ≡ map row_naming right → IsStepped m.memories n.memories look rows_in names_in
      → LoadsTo p At look left right extras (node.Join m) (node.Join n)
  join_loads m n rows_in names_in rows_are names_are stepped world s rows stands at load =
      let nothing = nothing_kept p m.memories look stands in
      subst (λ (q : Pattern). StandsFor n.memories look rows (candidates_of p q s) no_names) (sym stepped.pattern)
      (record {
        rows = λ row.
            stepped.rows row ∙ ap (λ b. (b && not (has rows_in.gone row)) || has rows_in.come row) (nothing.rows row) ∙ ap (λ (rs : List Row). has rs row) rows_are ∙ load.rows row ∙ all_clean rows row;
        names = λ who.
            stepped.names who ∙ ap (λ b. (b && not (has names_in.gone (row_naming who))) || has names_in.come (row_naming who)) (nothing.names who) ∙ ap (λ (rs : List Row). has rs (row_naming who)) names_are ∙ has_naming right who ∙ load.candidates who
            ∙ all_remembered (candidates_of p (joined_pattern m) s who);
        agrees = stepped.agrees nothing.agrees;
      })

  pub exists_loads : (m n : TallyNode Witnesses) → KeepsMemories m.memories n.memories look (λ row. has_left m.memories look row || has left row) (λ who. has_right m.memories look who || has_name right who)
      → AllLaden counts_witnesses witnesses_laden look extras (has left) m.memories n.memories → LoadsTo p At look left right extras (node.Exists m) (node.Exists n)
  exists_loads m n keeps loaded world s rows counts at load =
      counts_loaded counts_witnesses witnesses_laden m.memories n.memories (Existing (tallied_pattern m)) refl keeps loaded world s rows counts.stands load

  pub not_loads : (m n : NotNode) → KeepsMemories (blocker_tallies m) (blocker_tallies n) look (λ row. has_left (blocker_tallies m) look row || has left row) (λ who. has_right (blocker_tallies m) look who || has_name right who)
      → AllLaden counts_blockers blockers_laden look extras (has left) (blocker_tallies m) (blocker_tallies n)
      → (told : ℤ) → ((s : Snapshot) → At s → told ≡ floor p s (awaited_entry m)) → reached_floor n ≡ later (reached_floor m) told → (IsInStep p look m → IsInStep p look n)
      → LoadsTo p At look left right extras (node.Not m) (node.Not n)
  not_loads m n keeps loaded told told_is risen in_step world s rows waits at load =
      let entry = awaited_entry m in
      let floor_is : reached_floor n ≡ floor p s (awaited_entry n) =
      risen ∙ ap (later (reached_floor m)) (told_is s at)
      ∙ later_is (reached_floor m) (floor p s entry) (≤ℤ_trans (reached_floor m) (floor p empty_snapshot entry) (floor p s entry) waits.floor (load.floors entry))
      ∙ ap (λ (q : Pattern). floor p s q.entry.0) (sym keeps.pattern) in
      let now = floor p s (awaited_entry n) in
      record {
        counts = counts_loaded counts_blockers blockers_laden (blocker_tallies m) (blocker_tallies n) (Negated (blocking_pattern m)) refl keeps loaded world s rows waits.counts.stands load;
        in_step = in_step waits.in_step;
        none_due = none_due p n look now (in_step waits.in_step) floor_is;
        floor = subst (λ (z : ℤ). z ≤ℤ now) (sym floor_is) (≤ℤ_refl now);
      }

  pub fold_loads : (m n : FoldNode) → n.accumulate ≡ m.accumulate → KeepsMemories m.tally.memories n.tally.memories look (λ row. has_left m.tally.memories look row || has left row) (λ who. has_right m.tally.memories look who || has_name right who)
      → AllLaden (gathers m.accumulate) (gathered_laden m.accumulate) look extras (has left) m.tally.memories n.tally.memories → LoadsTo p At look left right extras (node.Fold m) (node.Fold n)
  fold_loads m n same keeps loaded world s rows folds at load = record {
    counts =
        subst (λ (a : Accumulate). CountsLaden (gathers a) (gathered_laden a) p n.tally.memories look world s rows (extra_for extras)) (sym same)
        (counts_loaded (gathers m.accumulate) (gathered_laden m.accumulate) m.tally.memories n.tally.memories (Folded m.accumulate) folds.pattern keeps loaded world s rows folds.counts.stands load);
    pattern = keeps.pattern ∙ folds.pattern ∙ ap (λ (a : Accumulate). a.pattern) (sym same);
  }
