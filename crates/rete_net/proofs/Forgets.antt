-- A node of the network forgets, out of what the node of its condition answers.
use Rattle.rete_net.proofs.Common.{◌≡◌, ◌∙◌, sym, ap, refl, subst, ◌&&◌, not, Bool, true, false, List, Named, Row, has, InOrder, Condition, Program, pattern_of}
use Rattle.rete_net.proofs.Common.{Snapshot, name_of, Look, clean, cleaned, either, line, HasAllOf, held, GateStands, condition_of, NodeStands, NetNode}
use Rattle.{rete_net.proofs.{Common.{IsForgetting, NodeForgets, NetNodeStands}, Turning.{MoveLaw, held_has}}, beta_node.specs.Forgetting.{ForgetsIn}}
use Rattle.fx_base.proofs.Tests.{or_first_false}

pub exactly : (a g o : Bool) → (a ≡ true → g ≡ o) → (g ≡ true → a ≡ true) → g ≡ (a && o)
exactly true g o h k = h refl
exactly false true o h k = sym (k refl)
exactly false false o h k = refl

-- a store that has what was remembered has what still is
pub known_still : (look : Look) (s : Snapshot) (forgotten old : Named → Bool) → HasAllOf look s forgotten → HasAllOf look s (either forgotten old)
known_still look s forgotten old known tag f e clean = known tag f e (or_first_false (forgotten (name_of f)) (old (name_of f)) clean)

module _ (p : Program) (look : Look) (old : Named → Bool) (before after : NetNode) (dropped gone : List Row) where
  abbrev Claims : (Snapshot → (Row → Bool) → (Named → Bool) → Type 0) → Type 0
  Claims claim = (s : Snapshot) (rows : Row → Bool) (forgotten : Named → Bool) → ForgetsIn p before.node look s rows forgotten old dropped → claim s rows forgotten

  pub node_forgets : MoveLaw → after.parent ≡ before.parent → after.gate ≡ before.gate → condition_of after.node ≡ condition_of before.node
      → Claims (λ s rows forgotten. NodeStands p after.node look s rows (either forgotten old))
      → Claims (λ s rows forgotten. (row : Row) → cleaned (line p s (condition_of before.node) rows) forgotten row ≡ true → has gone row ≡ not (clean old row))
      → Claims (λ s rows forgotten. (row : Row) → has gone row ≡ true → cleaned (line p s (condition_of before.node) rows) forgotten row ≡ true)
      → Claims (λ s rows forgotten. InOrder gone)
      → NodeForgets p look old before after dropped gone
  node_forgets law parent gate same stands drops alone in_order = record {
    parent = parent;
    condition = same;
    stands = λ s rows forgotten standing is. record {
      gate = subst (λ g. GateStands p (pattern_of (condition_of after.node)) g s) (sym gate) (subst (λ (c : Condition). GateStands p (pattern_of c) before.gate s) (sym same) standing.gate);
      node = law p after.node look (held s) s rows (either forgotten old) (known_still look s forgotten old is.at_hand) (held_has s (either forgotten old)) is.named (stands s rows forgotten (asked s rows forgotten standing is));
    };
    drops = λ s rows forgotten standing is.
        let in_turn = asked s rows forgotten standing is in
        record {
          in_order = in_order s rows forgotten in_turn;
          exact = λ row.
              exactly (cleaned (line p s (condition_of before.node) rows) forgotten row) (has gone row) (not (clean old row)) (drops s rows forgotten in_turn row) (alone s rows forgotten in_turn row);
        };
  }
    where
      asked : (s : Snapshot) (rows : Row → Bool) (forgotten : Named → Bool) → NetNodeStands p before s rows forgotten → IsForgetting look s rows forgotten old dropped → ForgetsIn p before.node look s rows forgotten old dropped
      asked s rows forgotten standing is = record {
        tags = is.tags;
        at_hand = is.at_hand;
        named = is.named;
        stands = law p before.node (held s) look s rows forgotten (held_has s forgotten) is.at_hand is.named standing.node;
        rows = λ row e. is.rows_old.exact row ∙ ap (λ b. b && not (clean old row)) e;
      }
