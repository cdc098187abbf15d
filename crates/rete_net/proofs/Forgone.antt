-- A node of a source forgets, out of what both answer; and where nothing is handed to it, and no row before it goes, it stays as it is.
use Rattle.rete_net.proofs.Common.{gathered_tallies, ◌≡◌, ◌∙◌, sym, ap, refl, subst, ℕ, ◌&&◌, not, Bool, true, false, List, [], Some, Named, Row, has, InOrder}
use Rattle.rete_net.proofs.Common.{Condition, Program, pattern_of, Snapshot, Look, Candidates, Memories, clean, cleaned, either, line, has_left, has_right}
use Rattle.rete_net.proofs.Common.{has_name, made, joins, held, GateStands, PatternGate, Node, condition_of, NodeStands, node_moves, NetNode, IsForgetting}
use Rattle.{rete_net.proofs.Common.{StandsIn, TurnForgets, AreOld, Value, blocker_tallies}, std.specs.List.Sorted.{IsStrictlySortedBy}}
use Rattle.{fx_base.proofs.Tests.{and_not_self}, join_tests.specs.{Kept.{row_value}, NameKeys.{name_key}}, join_memory.proofs.Handed.{forgone_handed}}
use Rattle.join_memory.{proofs.{Handed.{handed_joined, keeps_shared, moved_none}, Joining.{joined_alike}}, specs.{Handed.{moved}, Memories.{KeepsMemories}}}
use Rattle.{join_memory.specs.Shared.{sharing, ForgoesOld}, candidate_source.specs.{declared.source.Source.{Source}, Doors.{source_candidates, source_gate}}}
use Rattle.{candidate_source.specs.{Doors.{source_pattern, is_reached}, Sources.{HaveLeftAt}}, beta_node.proofs.Lending.{ForgetsFrom, exists_forgets_from}}
use Rattle.beta_node.{proofs.Lending.{fold_forgets_from, join_forgets_from, not_forgets_from}, specs.{Forgetting.{ForgetsIn}, Lending.{with_candidates}}}
use Rattle.beta_node.specs.Lending.{NodeForgoes}
use Rattle.beta_node.specs.declared.node.Node.TheVariants as node
use Rattle.rete_net.{specs.Lending.{ForgetsAt, IsFoundAnew}, proofs.{Cleaning.{cleaned_either}, Forgets.{exactly, known_still}, Lent.{condition_lent}}}
use Rattle.rete_net.proofs.{Lent.{lent_alike, lent_kept, lent_last, node_forgoes, value_before}, Reached.{found_still}, Turning.{held_has}}

-- ---- nothing goes

unless_nothing : (b : Bool) → b ≡ (b && not false)
unless_nothing true = refl
unless_nothing false = refl

none_in_order : InOrder []
unfolding IsStrictlySortedBy
none_in_order = tt

module _ (p : Program) (look : Look) where
  nothing_goes : {T : Type 0} (m : Memories T) → KeepsMemories m m look (λ row. has_left m look row && not (has [] row)) (has_right m look)
  nothing_goes m = record { pattern = refl; rows = λ row. unless_nothing (has_left m look row); names = λ who. refl; agrees = λ agrees. agrees }

  -- the rows that are made are the same
  made_same : {S : Type 0} (m : Memories S) (was : Candidates) (old : Named → Bool) → ForgoesOld m was look old [] → (row : Row) → made m look row ≡ made (sharing m was) look row
  made_same m was old forgoes row =
      let before = has_right (sharing m was) look in
      sym (joined_alike (joins m.pattern look) (has_left m look) (has_left m look) before (moved true (has_name []) (moved false (has_name []) before)) (λ l. refl)
      (λ c. sym (moved_none true (moved false (has_name []) before) c ∙ moved_none false before c)) row ∙ handed_joined m look before (has_right m look) [] [] (forgone_handed m was look old [] forgoes) row)

  pub forgets_nothing : (n : Node) → ForgetsFrom p look [] [] [] n n
  forgets_nothing (node.Join join) =
      join_forgets_from p look [] [] [] join join (λ was old forgoes. keeps_shared join.memories join.memories was look _ _ forgoes.agrees forgoes.names (nothing_goes join.memories))
      (λ was old forgoes row. and_not_self (made (sharing join.memories was) look row) ∙ ap (λ b. made (sharing join.memories was) look row && not b) (sym (made_same join.memories was old forgoes row)))
      (λ was old forgoes. none_in_order) (node.Join join) refl
  forgets_nothing (node.Not waiting) =
      not_forgets_from p look [] [] [] waiting waiting (nothing_goes (blocker_tallies waiting)) (λ row. refl) refl (λ in_step. in_step) (λ in_step row. and_not_self _) (λ in_step. none_in_order) (node.Not waiting) refl
  forgets_nothing (node.Exists tally) = exists_forgets_from p look [] [] [] tally tally (nothing_goes tally.memories) (λ row. refl) (λ row. and_not_self _) none_in_order (node.Exists tally) refl
  forgets_nothing (node.Fold fold) = fold_forgets_from p look [] [] [] fold fold refl (nothing_goes (gathered_tallies fold)) (λ row. refl) (λ row. and_not_self _) none_in_order (node.Fold fold) refl

-- ---- a turn

first_clean : (a b c : Bool) → (a && b) ≡ true → (a ≡ true → c ≡ true) → c ≡ true
first_clean true b c e h = h refl
first_clean false b c e h = absurd (let no : false ≡ true = e in cc)

module _ (p : Program) (look : Look) (names : List Named) (old new : NetNode) (was source after : Source) (k : ℕ) (dropped gone : List Row) (leaving : List Named)
    (parent : new.parent ≡ old.parent) (condition : condition_of new.node ≡ condition_of old.node) (keeps : name_key (pattern_of (condition_of old.node)) ≡ name_key (source_pattern was))
    (left : ForgetsAt p look names was source k old leaving) (reached : (value : Value) → is_reached source value k ≡ is_reached was value k) (anew : IsFoundAnew new.node look k [] source after)
    (forgets : ForgetsFrom p look dropped gone leaving (with_candidates (source_candidates source) old.node) (with_candidates (source_candidates source) new.node)) where
  abbrev lent : Node
  lent = with_candidates (source_candidates source) old.node

  module _ (s : Snapshot) (rows : Row → Bool) (forgotten : Named → Bool) (standing : StandsIn p (Some was) k old s rows forgotten) (is : IsForgetting look s rows forgotten (has_name names) dropped) where
    here : NodeStands p (with_candidates (source_candidates was) old.node) look s rows forgotten
    here = node_moves p (held s) look s rows forgotten (held_has s forgotten) is.at_hand is.named (with_candidates (source_candidates was) old.node) standing.stands.node

    found : (row : Row) → cleaned rows forgotten row ≡ true → is_reached was (value_before old.node look row) k ≡ true
    found row e =
        subst (λ (v : Value). is_reached was v k ≡ true) (lent_alike p s rows forgotten (source_candidates was) (held s) look old.node standing.stands.node here row e) (standing.found row e)

    leaves : HaveLeftAt was source look names k leaving
    leaves = left s rows forgotten standing is.tags is.at_hand is.named

    forgoes : NodeForgoes lent (source_candidates was) look (has_name names) leaving
    forgoes = node_forgoes p s rows forgotten look was source k names leaving leaves old.node here found keeps

    in_turn : ForgetsIn p (with_candidates (source_candidates was) lent) look s rows forgotten (has_name names) dropped
    in_turn = record {
      tags = is.tags;
      at_hand = is.at_hand;
      named = is.named;
      stands = subst (λ (n : Node). NodeStands p n look s rows forgotten) (sym (lent_last (source_candidates was) (source_candidates source) old.node)) here;
      rows = λ row e. is.rows_old.exact row ∙ ap (λ b. b && not (clean (has_name names) row)) e;
    }

    now : NodeStands p (with_candidates (source_candidates after) new.node) look s rows (either forgotten (has_name names))
    now =
        subst (λ (c : Candidates). NodeStands p (with_candidates c new.node) look s rows (either forgotten (has_name names))) (sym anew.candidates)
        (forgets.stands (source_candidates was) (has_name names) forgoes s rows forgotten in_turn)

    now_held : NodeStands p (with_candidates (source_candidates after) new.node) (held s) s rows (either forgotten (has_name names))
    now_held =
        node_moves p look (held s) s rows (either forgotten (has_name names)) (known_still look s forgotten (has_name names) is.at_hand) (held_has s (either forgotten (has_name names))) is.named
        (with_candidates (source_candidates after) new.node) now

    finds : (row : Row) → cleaned rows (either forgotten (has_name names)) row ≡ true → is_reached after (value_before new.node (held s) row) k ≡ true
    finds row e =
        let before : cleaned rows forgotten row ≡ true =
        first_clean (cleaned rows forgotten row) (clean (has_name names) row) (cleaned rows forgotten row) (ap (λ (set : Row → Bool). set row) (sym (cleaned_either rows forgotten (has_name names))) ∙ e) (λ h. h) in
        subst (λ (v : Value). is_reached after v k ≡ true) (lent_alike p s rows (either forgotten (has_name names)) (source_candidates after) look (held s) new.node now now_held row e)
        (anew.kept (value_before new.node look row) row
        (reached (value_before new.node look row) ∙ subst (λ (c : Condition). is_reached was (row_value (pattern_of c) look row) k ≡ true) (sym condition) (found row before))
        (lent_kept p s rows (either forgotten (has_name names)) (source_candidates after) look new.node now row e))

    stands_now : StandsIn p (Some after) k new s rows (either forgotten (has_name names))
    stands_now = record {
      stands = record {
        gate =
            subst (λ (c : Condition). GateStands p (pattern_of c) (source_gate after) s) (sym (condition_lent (source_candidates after) new.node ∙ condition))
            (subst (λ (g : PatternGate). GateStands p (pattern_of (condition_of old.node)) g s) (sym (anew.gate ∙ leaves.gate))
            (subst (λ (c : Condition). GateStands p (pattern_of c) (source_gate was) s) (condition_lent (source_candidates was) old.node) standing.stands.gate));
        node = now_held;
      };
      found = finds;
    }

    drops_now : AreOld (cleaned (line p s (condition_of old.node) rows) forgotten) (has_name names) gone
    drops_now =
        subst (λ (c : Condition). AreOld (cleaned (line p s c rows) forgotten) (has_name names) gone) (condition_lent (source_candidates source) old.node) (record {
          in_order = forgets.ordered (source_candidates was) (has_name names) forgoes s rows forgotten in_turn;
          exact = λ row.
              exactly (cleaned (line p s (condition_of lent) rows) forgotten row) (has gone row) (not (clean (has_name names) row))
              (forgets.drops (source_candidates was) (has_name names) forgoes s rows forgotten in_turn row) (forgets.alone (source_candidates was) (has_name names) forgoes s rows forgotten in_turn row);
        })

  pub turn_forgets : TurnForgets p look (has_name names) (Some was) (Some after) k old new dropped gone
  turn_forgets = record { parent = parent; condition = condition; stands = stands_now; drops = drops_now }

-- a node that the walk does not come to
pub passed_forgetting : (p : Program) (look : Look) (names : List Named) (n : NetNode) (was source : Source) (k : ℕ) → name_key (pattern_of (condition_of n.node)) ≡ name_key (source_pattern was) → ForgetsAt p look names was source k n []
    → ((value : Value) → is_reached source value k ≡ is_reached was value k) → TurnForgets p look (has_name names) (Some was) (Some source) k n n [] []
passed_forgetting p look names n was source k keeps left reached =
    turn_forgets p look names n n was source source k [] [] [] refl refl keeps left reached (found_still n.node look k source) (forgets_nothing p look (with_candidates (source_candidates source) n.node))
