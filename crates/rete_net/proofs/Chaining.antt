-- A step of all nodes, one after those before it, over the rows that conditions have before the step and behind it, where some facts have
-- been forgotten.
use Rattle.rete_net.proofs.Common.{◌≡◌, ◌∙◌, sym, refl, subst, ℕ, zero, suc, ◌<◌, List, [], ◌∷◌, ◌++◌, take, get_or, length, arith, Bool, true, Option, Some}
use Rattle.rete_net.proofs.Common.{None, slice_get, get_or-take, slice_get_within, slice_get-get_or, Fact, Delta, Named, Row, LeadsRows, IsDifference}
use Rattle.rete_net.proofs.Common.{Condition, Program, Rule, pattern_of, Snapshot, Look, cleaned, no_names, line, HasAllOf, NameHeld, candidates_of}
use Rattle.rete_net.proofs.Common.{has_good_window, MovesSnapshot, condition_of, CountedStay, NetNode, StandsIn, before, IsShaped, EndsRule, delta_at}
use Rattle.{rete_net.proofs.Common.{left_delta, IsNodeTurn, TurnStep, SteppedBelow, Moment, IsAt}, candidate_source.specs.declared.source.Source.{Source}}

-- the rows of conditions in a snapshot, as the lines make them, name versions of the snapshot alone
pub record AreMade (p : Program) (s : Snapshot) (sets : List Condition → Row → Bool) : Type 0 where
  pub more : (front : List Condition) (c : Condition) → sets (front ++ c ∷ []) ≡ line p s c (sets front)
  pub named : (conditions : List Condition) → NameHeld s (sets conditions)

-- what leads from the one snapshot to the other, a store that has at hand what is remembered of both, and a world that has all of both
pub record IsGiven (p : Program) (look : Look) (s next : Snapshot) (gone : List Fact) (come : Option Fact) (moment : Moment) (forgotten : Named → Bool) : Type 0 where
  pub moves : MovesSnapshot p s next gone come
  pub is_at : IsAt next moment
  pub at_hand : HasAllOf look s forgotten
  pub at_hand_now : HasAllOf look next forgotten
  pub world : Look
  pub known : HasAllOf world s no_names
  pub known_now : HasAllOf world next no_names

-- nodes that stand for these rows of the conditions before them, each in its place by its source
pub record AreStanding (p : Program) (s : Snapshot) (sets : List Condition → Row → Bool) (forgotten : Named → Bool) (of : ℕ → Option Source) (nodes : List NetNode) (conditions : ℕ → List Condition) : Type 0 where
  pub shaped : IsShaped nodes conditions
  pub windows : (k : ℕ) (n : NetNode) → slice_get nodes k ≡ Some n → has_good_window p (pattern_of (condition_of n.node)) ≡ true
  pub stand : (k : ℕ) (n : NetNode) → slice_get nodes k ≡ Some n → StandsIn p (of k) k n s (sets (before conditions n.parent)) forgotten

-- of forgotten facts nothing changes for a node: they are candidates as they were, and what its condition counts of them stays
pub record StaysBeside (p : Program) (world : Look) (s next : Snapshot) (condition : Condition) (rows rows_now : Row → Bool) (forgotten : Named → Bool) : Type 0 where
  pub same : (who : Named) → forgotten who ≡ true → candidates_of p (pattern_of condition) s who ≡ candidates_of p (pattern_of condition) next who
  pub stay : (left : Delta) → LeadsRows (cleaned rows forgotten) (cleaned rows_now forgotten) left.gone left.come → CountedStay condition p world s next rows rows_now forgotten left

module _ (p : Program) (look : Look) (s next : Snapshot) (gone : List Fact) (come : Option Fact) (moment : Moment) (forgotten : Named → Bool) (first : Delta) (was is : List Condition → Row → Bool)
    (of of_now : ℕ → Option Source) (nodes nodes_now : List NetNode) (conditions : ℕ → List Condition) (deltas : List Delta)
    (given : IsGiven p look s next gone come moment forgotten) (made : AreMade p s was) (made_now : AreMade p next is) (leads : LeadsRows (cleaned (was []) forgotten) (cleaned (is []) forgotten) first.gone first.come)
    (standing : AreStanding p s was forgotten of nodes conditions)
    (beside : (k : ℕ) (n : NetNode) → slice_get nodes k ≡ Some n → StaysBeside p given.world s next (condition_of n.node) (was (before conditions n.parent)) (is (before conditions n.parent)) forgotten)
    (same : length nodes_now ≡ length nodes) (stepped : SteppedBelow p look gone come moment first of of_now nodes nodes_now deltas (length nodes)) where
  -- the node of a place answers the true difference of the rows of its conditions, of those that name no forgotten fact
  abbrev Answers : ℕ → Type 0
  Answers k = IsDifference (cleaned (was (conditions k)) forgotten) (cleaned (is (conditions k)) forgotten) (delta_at first deltas k)

  -- what comes to a node is the difference of the rows of the conditions before it
  from_parent : (k : ℕ) (old : NetNode) → slice_get nodes k ≡ Some old → ((q : ℕ) → q < k → Answers q) → (parent : Option ℕ) → old.parent ≡ parent
      → LeadsRows (cleaned (was (before conditions parent)) forgotten) (cleaned (is (before conditions parent)) forgotten) (left_delta first (take k deltas) parent).gone (left_delta first (take k deltas) parent).come
  from_parent k old e answers None at = leads
  from_parent k old e answers (Some q) at =
      let lt : q < k = standing.shaped.parents k q old e at in
      subst (λ (d : Delta). LeadsRows (cleaned (was (conditions q)) forgotten) (cleaned (is (conditions q)) forgotten) d.gone d.come) (sym (get_or-take k deltas q first lt)) (answers q lt).leads

  turn : (k : ℕ) (old : NetNode) → slice_get nodes k ≡ Some old → ((q : ℕ) → q < k → Answers q)
      → IsNodeTurn p look s next gone come (condition_of old.node) (was (before conditions old.parent)) (is (before conditions old.parent)) forgotten (left_delta first (take k deltas) old.parent)
  turn k old e answers = record {
    window = standing.windows k old e;
    moves = given.moves;
    at_hand = given.at_hand;
    at_hand_now = given.at_hand_now;
    world = given.world;
    known = given.known;
    known_now = given.known_now;
    named = made.named (before conditions old.parent);
    named_now = made_now.named (before conditions old.parent);
    leads = from_parent k old e answers old.parent refl;
    same = (beside k old e).same;
    stay = (beside k old e).stay (left_delta first (take k deltas) old.parent) (from_parent k old e answers old.parent refl);
  }

  -- the node of a place, behind the step
  now_at : (k : ℕ) (old : NetNode) → slice_get nodes k ≡ Some old → (new : NetNode) × (slice_get nodes_now k ≡ Some new)
  now_at k old e =
      let within : k < length nodes = slice_get_within nodes k old e in
      let lt : k < length nodes_now = omega arith in
      (get_or nodes_now k old, slice_get-get_or nodes_now k old lt)

  step_at : (k : ℕ) (old new : NetNode) → slice_get nodes k ≡ Some old → slice_get nodes_now k ≡ Some new
      → TurnStep p look gone come moment (of k) (of_now k) k old new (left_delta first (take k deltas) old.parent) (delta_at first deltas k)
  step_at k old new e f = stepped k (slice_get_within nodes k old e) old new e f

  one : (k : ℕ) (old : NetNode) → slice_get nodes k ≡ Some old → ((q : ℕ) → q < k → Answers q) → Answers k
  one k old e answers =
      let new = now_at k old e in
      let behind = before conditions old.parent in
      let c = condition_of old.node in
      let d = (step_at k old new.0 e new.1).difference s next (was behind) (is behind) forgotten (standing.stand k old e) given.is_at (turn k old e answers) in
      subst (λ (cs : List Condition). IsDifference (cleaned (was cs) forgotten) (cleaned (is cs) forgotten) (delta_at first deltas k)) (sym (standing.shaped.own k old e))
      (subst (λ (set : Row → Bool). IsDifference (cleaned set forgotten) (cleaned (is (behind ++ c ∷ [])) forgotten) (delta_at first deltas k)) (sym (made.more behind c))
      (subst (λ (set : Row → Bool). IsDifference (cleaned (line p s c (was behind)) forgotten) (cleaned set forgotten) (delta_at first deltas k)) (sym (made_now.more behind c)) d))

  all_below : (b k : ℕ) (some : NetNode) → k < b → k < length nodes → Answers k
  all_below zero k some h l = absurd (omega arith)
  all_below (suc b) k some h l = one k (get_or nodes k some) (slice_get-get_or nodes k some l) (λ q lt. all_below b q some (omega arith) (omega arith))

  pub answered : (k : ℕ) (old : NetNode) → slice_get nodes k ≡ Some old → Answers k
  answered k old e = all_below (suc k) k old (omega arith) (slice_get_within nodes k old e)

  -- the nodes behind the step, and what they were before it
  pub old_at : (k : ℕ) (new : NetNode) → slice_get nodes_now k ≡ Some new → (old : NetNode) × (slice_get nodes k ≡ Some old)
  old_at k new f =
      let within : k < length nodes_now = slice_get_within nodes_now k new f in
      let lt : k < length nodes = omega arith in
      (get_or nodes k new, slice_get-get_or nodes k new lt)

  stands_at : (k : ℕ) (old new : NetNode) → slice_get nodes k ≡ Some old → slice_get nodes_now k ≡ Some new → StandsIn p (of_now k) k new next (is (before conditions old.parent)) forgotten
  stands_at k old new e f =
      let behind = before conditions old.parent in
      (step_at k old new e f).stands s next (was behind) (is behind) forgotten (standing.stand k old e) given.is_at
      (turn k old e (λ q lt. let w : k < length nodes = slice_get_within nodes k old e in all_below (suc q) q old (omega arith) (omega arith)))

  pub standing_now : AreStanding p next is forgotten of_now nodes_now conditions
  standing_now = record {
    shaped = record {
      parents = λ k parent new f at.
          let old = old_at k new f in
          standing.shaped.parents k parent old.0 old.1 (sym (step_at k old.0 new old.1 f).parent ∙ at);
      own = λ k new f.
          let old = old_at k new f in
          let step = step_at k old.0 new old.1 f in
          subst (λ (c : Condition). conditions k ≡ before conditions new.parent ++ c ∷ []) (sym step.condition)
          (subst (λ (parent : Option ℕ). conditions k ≡ before conditions parent ++ condition_of old.0.node ∷ []) (sym step.parent) (standing.shaped.own k old.0 old.1));
    };
    windows = λ k new f.
        let old = old_at k new f in
        subst (λ (c : Condition). has_good_window p (pattern_of c) ≡ true) (sym (step_at k old.0 new old.1 f).condition) (standing.windows k old.0 old.1);
    stand = λ k new f.
        let old = old_at k new f in
        subst (λ (parent : Option ℕ). StandsIn p (of_now k) k new next (is (before conditions parent)) forgotten) (sym (step_at k old.0 new old.1 f).parent) (stands_at k old.0 new old.1 f);
  }

  -- the last node of a rule is where it was, and answered the difference of the rows of the rule
  pub ends_now : (ends : List ℕ) (place : ℕ) (rule : Rule) → EndsRule nodes conditions ends place rule → EndsRule nodes_now conditions ends place rule
  ends_now ends place rule at =
      let new = now_at at.last at.node at.there in
      record { last = at.last; node = new.0; found = at.found; there = new.1; all = at.all }

  pub answer_at : (ends : List ℕ) (place : ℕ) (rule : Rule) (at : EndsRule nodes conditions ends place rule)
      → IsDifference (cleaned (was rule.conditions) forgotten) (cleaned (is rule.conditions) forgotten) (delta_at first deltas at.last)
  answer_at ends place rule at =
      subst (λ (cs : List Condition). IsDifference (cleaned (was cs) forgotten) (cleaned (is cs) forgotten) (delta_at first deltas at.last)) at.all (answered at.last at.node at.there)
