-- Nodes with what they keep as members of fans: they stand where they stood, for the same conditions.
use Rattle.rete_net.proofs.Common.{◌≡◌, ◌∙◌, sym, ap, refl, subst, ℕ, zero, suc, ℤ, ◌≤ℤ◌, ◌++◌, ◌||◌, not, Bool, true, false, List, [], ◌∷◌, length, Option}
use Rattle.rete_net.proofs.Common.{Some, None, slice_get, ≤ℤ_refl, filter, Fact, Delta, Moment, Program, Condition, snapshot_at, pattern_of, is_whole, Snapshot}
use Rattle.rete_net.proofs.Common.{floor, floor_on, held, IsOrderly, MovesSnapshot, at_clock, shares_tag, PatternGate, is_one_meant, BetaJoin, Node}
use Rattle.rete_net.proofs.Common.{condition_of, is_negated, IsBefore, join_quiet, NetNode, Schedule, Member, shown, showing, with_member, is_changed_by_clock}
use Rattle.rete_net.proofs.Common.{AreQuiet, IsNodeQuiet, AreScheduled, IsGateStill, IsScheduled, IsStillAt, IsReplaced, joined_pattern}
use Rattle.beta_node.specs.declared.node.Node.TheVariants as node
use Rattle.{rete_net.proofs.{Lone.{IsAlone}, Turning.{held_has, rising}}, fx_base.proofs.Sequences.{one_value}}

-- ---- lists

pub shown_length : (members : ℕ → Option Member) (nodes : List NetNode) → length (shown members nodes) ≡ length nodes
shown_length members [] = refl
shown_length members (n ∷ nodes) = ap suc (shown_length (λ k. members (suc k)) nodes)

pub shown_at : (members : ℕ → Option Member) (nodes : List NetNode) (k : ℕ) (n : NetNode) → slice_get nodes k ≡ Some n → slice_get (shown members nodes) k ≡ Some (showing (members k) n)
shown_at members [] k n e = absurd (let no : None ≡ Some n = e in cc)
shown_at members (x ∷ nodes) zero n e = let is : x ≡ n = cc in ap (λ y. Some (showing (members 0) y)) is
shown_at members (x ∷ nodes) (suc k) n e = shown_at (λ i. members (suc i)) nodes k n e

pub shown_none : (members : ℕ → Option Member) (nodes : List NetNode) (k : ℕ) → slice_get nodes k ≡ None → slice_get (shown members nodes) k ≡ None
shown_none members [] k e = refl
shown_none members (x ∷ nodes) zero e = absurd (let no : Some x ≡ None = e in cc)
shown_none members (x ∷ nodes) (suc k) e = shown_none (λ i. members (suc i)) nodes k e

-- of a shown node the node is there
pub shown_from : (members : ℕ → Option Member) (nodes : List NetNode) (k : ℕ) (x : NetNode) → slice_get (shown members nodes) k ≡ Some x → (n : NetNode) × (slice_get nodes k ≡ Some n) × (showing (members k) n ≡ x)
shown_from members nodes k x e = by (slice_get nodes k) refl
  where
    by : (o : Option NetNode) → slice_get nodes k ≡ o → (n : NetNode) × (slice_get nodes k ≡ Some n) × (showing (members k) n ≡ x)
    by None none = absurd (let no : None ≡ Some x = sym (shown_none members nodes k none) ∙ e in cc)
    by (Some n) there = (n, there, one_value (slice_get (shown members nodes) k) (showing (members k) n) x (shown_at members nodes k n there) e)

pub same_lists : {A : Type 0} (xs ys : List A) → ((k : ℕ) → slice_get xs k ≡ slice_get ys k) → xs ≡ ys
same_lists [] [] h = refl
same_lists [] (y ∷ ys) h = absurd (let no : None ≡ Some y = h 0 in cc)
same_lists (x ∷ xs) [] h = absurd (let no : Some x ≡ None = h 0 in cc)
same_lists (x ∷ xs) (y ∷ ys) h = let is : x ≡ y = (let e : Some x ≡ Some y = h 0 in cc) in let rest : xs ≡ ys = same_lists xs ys (λ k. h (suc k)) in ap (λ z. z ∷ xs) is ∙ ap (λ zs. y ∷ zs) rest

-- ---- one node

condition_with : (m : Member) (x : Node) → condition_of (with_member m x) ≡ condition_of x
condition_with m (node.Join join) = refl
condition_with m (node.Not waiting) = refl
condition_with m (node.Exists tally) = refl
condition_with m (node.Fold fold) = refl

pub condition_shown : (o : Option Member) (n : NetNode) → condition_of (showing o n).node ≡ condition_of n.node
condition_shown None n = refl
condition_shown (Some m) n = condition_with m n.node

pub parent_shown : (o : Option Member) (n : NetNode) → (showing o n).parent ≡ n.parent
parent_shown None n = refl
parent_shown (Some m) n = refl

-- ---- all nodes

pub replaced_shown : (members : ℕ → Option Member) (nodes : List NetNode) → IsReplaced nodes (shown members nodes)
replaced_shown members nodes = record {
  many = shown_length members nodes;
  parent = λ k a b e f. ap (λ (n : NetNode). n.parent) (sym (is k a b e f)) ∙ parent_shown (members k) a;
  condition = λ k a b e f. ap (λ (n : NetNode). condition_of n.node) (sym (is k a b e f)) ∙ condition_shown (members k) a;
}
  where
    is : (k : ℕ) (a b : NetNode) → slice_get nodes k ≡ Some a → slice_get (shown members nodes) k ≡ Some b → showing (members k) a ≡ b
    is k a b e f = one_value (slice_get (shown members nodes) k) (showing (members k) a) b (shown_at members nodes k a e) f

pub replaced_back : (old new : List NetNode) → IsReplaced old new → IsReplaced new old
replaced_back old new is = record {
  many = sym is.many;
  parent = λ k a b e f. sym (is.parent k b a f e);
  condition = λ k a b e f. sym (is.condition k b a f e);
}

-- nodes that are replaced are so whatever they and the others keep as members
pub replaced_both : (members members_now : ℕ → Option Member) (old new : List NetNode) → IsReplaced old new → IsReplaced (shown members old) (shown members_now new)
replaced_both members members_now old new is = record {
  many = shown_length members_now new ∙ is.many ∙ sym (shown_length members old);
  parent = λ k a b e f.
      let x = shown_from members old k a e in
      let y = shown_from members_now new k b f in
      ap (λ (n : NetNode). n.parent) (sym y.2) ∙ parent_shown (members_now k) y.0 ∙ is.parent k x.0 y.0 x.1 y.1 ∙ sym (parent_shown (members k) x.0) ∙ ap (λ (n : NetNode). n.parent) x.2;
  condition = λ k a b e f.
      let x = shown_from members old k a e in
      let y = shown_from members_now new k b f in
      ap (λ (n : NetNode). condition_of n.node) (sym y.2) ∙ condition_shown (members_now k) y.0 ∙ is.condition k x.0 y.0 x.1 y.1 ∙ sym (condition_shown (members k) x.0) ∙ ap (λ (n : NetNode). condition_of n.node) x.2;
}

-- ---- time

-- whether the clock alone may change a node of a condition
abbrev timed_by : Condition → Bool
timed_by c = is_negated c || not (is_whole (pattern_of c).window)

still_with : (m : Member) (x : Node) (at : ℤ) → IsStillAt x at → IsStillAt (with_member m x) at
still_with m (node.Join join) at still = tt
still_with m (node.Not waiting) at still = still
still_with m (node.Exists tally) at still = tt
still_with m (node.Fold fold) at still = tt

-- what a step leaves alone it does as a member too
pub alone_shown : (p : Program) (o : Option Member) (n : NetNode) (first : Delta) (gone : List Fact) (come : Option Fact) (moment : Moment) → IsAlone p n first gone come moment → IsAlone p (showing o n) first gone come moment
alone_shown p None n first gone come moment alone = alone
alone_shown p (Some m) n first gone come moment alone = record {
  unmeant = subst (λ (c : Condition). is_one_meant (pattern_of c) gone come ≡ false) (sym same) alone.unmeant;
  begun = alone.begun;
  undue = λ timed.
      let was = alone.undue (sym (ap timed_by same) ∙ timed) in
      record {
        gate = was.gate;
        node = subst (λ (c : Condition). IsStillAt (with_member m n.node) (floor p (snapshot_at moment) (pattern_of c).entry.0)) (sym same) (still_with m n.node _ was.node);
      };
}
  where
    same : condition_of (with_member m n.node) ≡ condition_of n.node
    same = condition_with m n.node

-- what no row waits for it does not as a member either
pub still_shown : (o : Option Member) (n : NetNode) (at : ℤ) → IsStillAt n.node at → IsStillAt (showing o n).node at
still_shown None n at still = still
still_shown (Some m) n at still = still_with m n.node at still
