-- How long the nodes of a network are quiet, and the network with them.
use Rattle.rete_net.proofs.Common.{◌≡◌, ◌∙◌, sym, ap, refl, subst, ℕ, zero, suc, ℤ, pos, ◌<◌, ◌≤ℤ◌, ◌<ℤ◌, ◌^◌, arith, Bool, List, length, get_or, Option, Some}
use Rattle.rete_net.proofs.Common.{None, slice_get, fun_ext, ≤ℤ_refl, slice_get_within, slice_get-get_or, Named, Row, Condition, Program, pattern_of, Snapshot}
use Rattle.rete_net.proofs.Common.{cleaned, line, rows_of, IsOrderly, at_clock, condition_of, IsBefore, shown_nodes, Rete, NetNode, HaveSameFronts, NodesStand}
use Rattle.rete_net.proofs.{Common.{NetStands, StaysAt, AreQuiet, before}, Advancing.{same_first, rows_made}, Chaining.{AreMade}, Cleaning.{line_cleaned}}
use Rattle.{rete_net.proofs.{Stillness.{stays_taking}, Turning.{rising}}, candidate_source.specs.Sources.{source_at}}

-- ---- all nodes

module _ (p : Program) (net : Rete) (s : Snapshot) (forgotten : Named → Bool) (nodes : NodesStand p net s forgotten) (kept : IsOrderly p s) (begun : pos 0 ≤ℤ s.clock) (quiet : AreQuiet p net.sources (shown_nodes net) net.quiet_until) where
  module _ (clock : ℤ) (later : s.clock ≤ℤ clock) (low : clock <ℤ pos (2 ^ 63)) (before_due : IsBefore net.quiet_until clock) (kept_now : IsOrderly p (at_clock s clock)) where
    abbrev next : Snapshot
    next = at_clock s clock

    made : AreMade p s (rows_of p s)
    made = rows_made p s (rising s.facts kept.in_order)

    made_now : AreMade p next (rows_of p next)
    made_now = rows_made p next (rising s.facts kept.in_order)

    -- the conditions have the same rows at the clock, of those that name no forgotten fact
    abbrev Stay : List Condition → Type 0
    Stay cs = cleaned (rows_of p next cs) forgotten ≡ cleaned (rows_of p s cs) forgotten

    stays_at : (k : ℕ) (n : NetNode) → slice_get (shown_nodes net) k ≡ Some n → StaysAt p n s (rows_of p s (before nodes.shape.conditions n.parent)) forgotten clock
    stays_at k n e =
        let behind = before nodes.shape.conditions n.parent in
        stays_taking p (source_at net.sources k) n s (rows_of p s behind) forgotten clock (quiet k n e s (rows_of p s behind) forgotten clock (nodes.nodes k n e).stands (made.named behind) kept kept_now begun later low before_due)

    from_parent : (k : ℕ) (n : NetNode) → slice_get (shown_nodes net) k ≡ Some n → ((q : ℕ) → q < k → Stay (nodes.shape.conditions q)) → (parent : Option ℕ) → n.parent ≡ parent → Stay (before nodes.shape.conditions parent)
    from_parent k n e rest None at = ap (λ (set : Row → Bool). cleaned set forgotten) (same_first p next s)
    from_parent k n e rest (Some q) at = rest q (nodes.shape.shaped.parents k q n e at)

    one : (k : ℕ) (n : NetNode) → slice_get (shown_nodes net) k ≡ Some n → ((q : ℕ) → q < k → Stay (nodes.shape.conditions q)) → Stay (nodes.shape.conditions k)
    one k n e rest =
        let behind = before nodes.shape.conditions n.parent in
        let c = condition_of n.node in
        subst Stay (sym (nodes.shape.shaped.own k n e))
        (ap (λ (set : Row → Bool). cleaned set forgotten) (made_now.more behind c)
        ∙ sym (line_cleaned p next forgotten (rows_of p next behind) c)
        ∙ ap (λ (set : Row → Bool). cleaned (line p next c set) forgotten) (from_parent k n e rest n.parent refl)
        ∙ line_cleaned p next forgotten (rows_of p s behind) c
        ∙ fun_ext (stays_at k n e).same_line
        ∙ ap (λ (set : Row → Bool). cleaned set forgotten) (sym (made.more behind c)))

    all_below : (b k : ℕ) (some : NetNode) → k < b → k < length (shown_nodes net) → Stay (nodes.shape.conditions k)
    all_below zero k some h l = absurd (omega arith)
    all_below (suc b) k some h l = one k (get_or (shown_nodes net) k some) (slice_get-get_or (shown_nodes net) k some l) (λ q lt. all_below b q some (omega arith) (omega arith))

    stay : HaveSameFronts p (shown_nodes net) nodes.shape.conditions forgotten next s
    stay = record {
      same_rows = λ k n e. all_below (suc k) k n (omega arith) (slice_get_within (shown_nodes net) k n e);
      same_candidates = λ k n e. (stays_at k n e).same_candidates;
    }

  -- the network has seen the clock of the snapshot
  pub seen_now : NetStands p net s forgotten
  seen_now = record {
    seen = s.clock;
    begun = begun;
    later = ≤ℤ_refl s.clock;
    kept = kept;
    nodes = nodes;
    unchanged = record { same_rows = λ k n e. refl; same_candidates = λ k n e who. refl };
    quiet = stay;
  }
