-- The nodes of a network forget, one after those before it.
use Rattle.rete_net.proofs.Common.{◌≡◌, ◌∙◌, sym, ap, refl, subst, inl, inr, ℕ, zero, suc, ℤ, ◌<◌, ◌&&◌, not, Bool, true, false, List, [], ◌∷◌, ◌++◌, take}
use Rattle.rete_net.proofs.Common.{length, arith, Option, Some, None, slice_get, get_or-take, slice_get_within, In, Named, Row, has, Condition, Program, Rule}
use Rattle.rete_net.proofs.Common.{HaveDistinctTags, pattern_of, Snapshot, Look, clean, cleaned, either, empty_row, HasAllOf, candidates_of, rows_of, has_in}
use Rattle.rete_net.proofs.Common.{has_good_window, at_clock, condition_of, IsBefore, AreFans, shown_nodes, RuleRows, Rete, NetNode, AreOld, IsForgetting}
use Rattle.rete_net.proofs.Common.{TurnForgets, dropped_at, dropped_before, ForgotBelow, rows_for, AreDropped, Answered, some_answer, answer_in, IsIndexOf}
use Rattle.rete_net.proofs.Common.{AreNodeOwners, AreSources, HaveSameFronts, NodesStand, NetStands, StandsIn, AreScheduled, before}
use Rattle.rete_net.{specs.Answers.{given as kept}, proofs.{Advancing.{first_row, rows_made}, Chaining.{AreMade, AreStanding}, Cleaning.{cleaned_either}}}
use Rattle.{rete_net.proofs.{Frames.{forgetting_nodes, net_again, wired_of}, Seen.{at_hand_at}, Turning.{rising}}, std.specs.List.Sorted.{IsStrictlySortedBy}}
use Rattle.{candidate_source.specs.{declared.source.Source.{Source}, Sources.{source_at}}, fx_base.proofs.Sequences.{get-below}}

module _ (p : Program) (look : Look) (s : Snapshot) (sets : List Condition → Row → Bool) (forgotten old : Named → Bool) (of of_now : ℕ → Option Source) (nodes nodes_now : List NetNode) (conditions : ℕ → List Condition) (dropped : List (List Row))
    (tags : HaveDistinctTags s.facts) (at_hand : HasAllOf look s forgotten) (made : AreMade p s sets) (none : AreOld (cleaned (sets []) forgotten) old [])
    (standing : AreStanding p s sets forgotten of nodes conditions) (same : length nodes_now ≡ length nodes) (forgot : ForgotBelow p look old of of_now nodes nodes_now dropped (length nodes)) where
  -- the node of a place drops the rows of its conditions that name an old fact
  abbrev Drops : ℕ → Type 0
  Drops k = AreOld (cleaned (sets (conditions k)) forgotten) old (dropped_at dropped k)

  from_parent : (k : ℕ) (was : NetNode) → slice_get nodes k ≡ Some was → ((q : ℕ) → q < k → Drops q) → (parent : Option ℕ) → was.parent ≡ parent
      → AreOld (cleaned (sets (before conditions parent)) forgotten) old (dropped_before (take k dropped) parent)
  from_parent k was e drops None at = none
  from_parent k was e drops (Some q) at =
      let lt : q < k = standing.shaped.parents k q was e at in
      subst (AreOld (cleaned (sets (conditions q)) forgotten) old) (sym (get_or-take k dropped q [] lt)) (drops q lt)

  given : (k : ℕ) (was : NetNode) → slice_get nodes k ≡ Some was → ((q : ℕ) → q < k → Drops q) → IsForgetting look s (sets (before conditions was.parent)) forgotten old (dropped_before (take k dropped) was.parent)
  given k was e drops = record { tags = tags; at_hand = at_hand; named = made.named (before conditions was.parent); rows_old = from_parent k was e drops was.parent refl }

  forgot_at : (k : ℕ) (was is : NetNode) → slice_get nodes k ≡ Some was → slice_get nodes_now k ≡ Some is → TurnForgets p look old (of k) (of_now k) k was is (dropped_before (take k dropped) was.parent) (dropped_at dropped k)
  forgot_at k was is e f = forgot k (slice_get_within nodes k was e) was is e f

  now_at : (k : ℕ) (was : NetNode) → slice_get nodes k ≡ Some was → (is : NetNode) × (slice_get nodes_now k ≡ Some is)
  now_at k was e = let within : k < length nodes = slice_get_within nodes k was e in get-below nodes_now k (omega arith)

  one : (k : ℕ) (was : NetNode) → slice_get nodes k ≡ Some was → ((q : ℕ) → q < k → Drops q) → Drops k
  one k was e drops =
      let is = now_at k was e in
      let behind = before conditions was.parent in
      let d = (forgot_at k was is.0 e is.1).drops s (sets behind) forgotten (standing.stand k was e) (given k was e drops) in
      subst (λ (cs : List Condition). AreOld (cleaned (sets cs) forgotten) old (dropped_at dropped k)) (sym (standing.shaped.own k was e))
      (subst (λ (set : Row → Bool). AreOld (cleaned set forgotten) old (dropped_at dropped k)) (sym (made.more behind (condition_of was.node))) d)

  all_below : (b k : ℕ) (some : NetNode) → k < b → k < length nodes → Drops k
  all_below zero k some h l = absurd (omega arith)
  all_below (suc b) k some h l = let was = get-below nodes k l in one k was.0 was.1 (λ q lt. all_below b q some (omega arith) (omega arith))

  pub drops_at : (k : ℕ) (was : NetNode) → slice_get nodes k ≡ Some was → Drops k
  drops_at k was e = all_below (suc k) k was (omega arith) (slice_get_within nodes k was e)

  pub was_at : (k : ℕ) (is : NetNode) → slice_get nodes_now k ≡ Some is → (was : NetNode) × (slice_get nodes k ≡ Some was)
  was_at k is f = let within : k < length nodes_now = slice_get_within nodes_now k is f in get-below nodes k (omega arith)

  pub condition_same : (k : ℕ) (was is : NetNode) → slice_get nodes k ≡ Some was → slice_get nodes_now k ≡ Some is → condition_of is.node ≡ condition_of was.node
  condition_same k was is e f = (forgot_at k was is e f).condition

  pub forgets : AreStanding p s sets (either forgotten old) of_now nodes_now conditions
  forgets = record {
    shaped = record {
      parents = λ k parent is f at.
          let was = was_at k is f in
          standing.shaped.parents k parent was.0 was.1 (sym (forgot_at k was.0 is was.1 f).parent ∙ at);
      own = λ k is f.
          let was = was_at k is f in
          let step = forgot_at k was.0 is was.1 f in
          subst (λ (c : Condition). conditions k ≡ before conditions is.parent ++ c ∷ []) (sym step.condition)
          (subst (λ (parent : Option ℕ). conditions k ≡ before conditions parent ++ condition_of was.0.node ∷ []) (sym step.parent) (standing.shaped.own k was.0 was.1));
    };
    windows = λ k is f.
        let was = was_at k is f in
        subst (λ (c : Condition). has_good_window p (pattern_of c) ≡ true) (sym (condition_same k was.0 is was.1 f)) (standing.windows k was.0 was.1);
    stand = λ k is f.
        let was = was_at k is f in
        let step = forgot_at k was.0 is was.1 f in
        subst (λ (parent : Option ℕ). StandsIn p (of_now k) k is s (sets (before conditions parent)) (either forgotten old)) (sym step.parent)
        (step.stands s (sets (before conditions was.0.parent)) forgotten (standing.stand k was.0 was.1) (given k was.0 was.1 (λ q lt. let w : k < length nodes = slice_get_within nodes k was.0 was.1 in all_below (suc q) q was.0 (omega arith) (omega arith))));
  }

-- ---- a network

gone_no_more : (a k c : Bool) → (a ≡ true → c ≡ true) → false ≡ ((a && k) && not c)
gone_no_more true true c h = ap not (sym (h refl))
gone_no_more true false c h = refl
gone_no_more false k c h = refl

names_nothing : (old : Named → Bool) (row : Row) → In row (empty_row ∷ []) → clean old row ≡ true
names_nothing old row (inl e) = ap (clean old) e
names_nothing old row (inr i) = absurd i

-- before the first condition nothing is old
none_old : (p : Program) (s : Snapshot) (forgotten old : Named → Bool) → AreOld (cleaned (rows_of p s []) forgotten) old []
unfolding IsStrictlySortedBy
none_old p s forgotten old = record {
  in_order = tt;
  exact = λ row.
      subst (λ (rs : List Row). false ≡ ((has rs row && clean forgotten row) && not (clean old row))) (sym (first_row p s))
      (gone_no_more (has (empty_row ∷ []) row) (clean forgotten row) (clean old row) (λ e. names_nothing old row (has_in row (empty_row ∷ []) e)));
}

module _ (p : Program) (look : Look) (s : Snapshot) (forgotten old : Named → Bool) (net new : Rete) (dropped : List (List Row)) (stands : NetStands p net s forgotten) (has_all : HasAllOf look s forgotten)
    (ends : new.ends.items ≡ net.ends.items) (until : new.quiet_until ≡ net.quiet_until) (same : length (shown_nodes new) ≡ length (shown_nodes net))
    (forgot : ForgotBelow p look old (source_at net.sources) (source_at new.sources) (shown_nodes net) (shown_nodes new) dropped (length (shown_nodes net))) where
  abbrev was : Snapshot
  was = at_clock s stands.seen

  known : HasAllOf look was forgotten
  known = at_hand_at look s stands.seen forgotten has_all

  tags : HaveDistinctTags s.facts
  tags = rising s.facts stands.kept.in_order

  standing : AreStanding p was (rows_of p was) forgotten (source_at net.sources) (shown_nodes net) stands.nodes.shape.conditions
  standing = record { shaped = stands.nodes.shape.shaped; windows = stands.nodes.shape.windows; stand = stands.nodes.nodes }

  now : AreStanding p was (rows_of p was) (either forgotten old) (source_at new.sources) (shown_nodes new) stands.nodes.shape.conditions
  now = forgets p look was (rows_of p was) forgotten old (source_at net.sources) (source_at new.sources) (shown_nodes net) (shown_nodes new) stands.nodes.shape.conditions dropped tags known (rows_made p was tags) (none_old p was forgotten old) standing same forgot

  node_was : (k : ℕ) (is : NetNode) → slice_get (shown_nodes new) k ≡ Some is → (n : NetNode) × (slice_get (shown_nodes net) k ≡ Some n) × (condition_of is.node ≡ condition_of n.node)
  node_was k is f =
      let n = was_at p look was (rows_of p was) forgotten old (source_at net.sources) (source_at new.sources) (shown_nodes net) (shown_nodes new) stands.nodes.shape.conditions dropped tags known (rows_made p was tags) (none_old p was forgotten old) standing same forgot k is f in
      (n.0, n.1, condition_same p look was (rows_of p was) forgotten old (source_at net.sources) (source_at new.sources) (shown_nodes net) (shown_nodes new) stands.nodes.shape.conditions dropped tags known (rows_made p was tags) (none_old p was forgotten old) standing same forgot k n.0 is n.1 f)

  -- what was the same is so where more is forgotten
  still_same : (a b : Snapshot) → HaveSameFronts p (shown_nodes net) stands.nodes.shape.conditions forgotten a b → HaveSameFronts p (shown_nodes new) stands.nodes.shape.conditions (either forgotten old) a b
  still_same a b is = record {
    same_rows = λ k n f.
        let o = node_was k n f in
        cleaned_either (rows_of p a (stands.nodes.shape.conditions k)) forgotten old ∙ ap (λ (set : Row → Bool). cleaned set old) (is.same_rows k o.0 o.1) ∙ sym (cleaned_either (rows_of p b (stands.nodes.shape.conditions k)) forgotten old);
    same_candidates = λ k n f who.
        let o = node_was k n f in
        subst (λ (c : Condition). candidates_of p (pattern_of c) a who ≡ candidates_of p (pattern_of c) b who) (sym o.2) (is.same_candidates k o.0 o.1 who);
  }

  abbrev nodes_now : IsIndexOf new.sources (shown_nodes new) new.ends.items new.index → AreScheduled p new.sources new.nodes.items new.schedule → AreFans new.nodes.items new.fans → AreSources new.nodes.items new.fans new.sources
      → AreNodeOwners p stands.nodes.shape.conditions (length (shown_nodes new)) new.owners.items → NodesStand p new was (either forgotten old)
  nodes_now indexed scheduled fans sources owned = record {
    shape = net_again p (shown_nodes net) (shown_nodes new) net.ends.items new.ends.items ends (forgetting_nodes p look old (source_at net.sources) (source_at new.sources) (shown_nodes net) (shown_nodes new) dropped same forgot) stands.nodes.shape;
    indexed = indexed;
    scheduled = scheduled;
    fans = fans;
    sources = sources;
    owned = owned;
    nodes = now.stand;
  }

  pub net_forgets : IsIndexOf new.sources (shown_nodes new) new.ends.items new.index → AreScheduled p new.sources new.nodes.items new.schedule → AreFans new.nodes.items new.fans → AreSources new.nodes.items new.fans new.sources
      → AreNodeOwners p stands.nodes.shape.conditions (length (shown_nodes new)) new.owners.items → NetStands p new s (either forgotten old)
  net_forgets indexed scheduled fans sources owned = record {
    seen = stands.seen;
    begun = stands.begun;
    later = stands.later;
    kept = stands.kept;
    nodes = nodes_now indexed scheduled fans sources owned;
    unchanged = still_same s was stands.unchanged;
    quiet = λ clock later low before kept. still_same (at_clock s clock) was (stands.quiet clock later low (subst (λ (at : Option ℤ). IsBefore at clock) until before) kept);
  }

  -- the last node of a rule drops its rows that name an old fact
  pub rule_drops : (place : ℕ) (rule : Rule) → slice_get p.rules place ≡ Some rule
      → (end : ℕ) × (slice_get net.ends.items place ≡ Some end) × AreOld (cleaned (rows_of p s rule.conditions) forgotten) old (dropped_at dropped end)
  rule_drops place rule e =
      let end = stands.nodes.shape.lasts place rule e in
      let d = drops_at p look was (rows_of p was) forgotten old (source_at net.sources) (source_at new.sources) (shown_nodes net) (shown_nodes new) stands.nodes.shape.conditions dropped tags known (rows_made p was tags) (none_old p was forgotten old) standing same forgot end.last end.node end.there in (
        end.last,
        end.found,
        subst (λ (cs : List Condition). AreOld (cleaned (rows_of p s cs) forgotten) old (dropped_at dropped end.last)) end.all
            (subst (λ (set : Row → Bool). AreOld set old (dropped_at dropped end.last)) (sym (stands.unchanged.same_rows end.last end.node end.there)) d),
      )

  -- what the entries say where they have for each rule what its last node dropped
  pub rules_drop : (answers : List RuleRows) (a : Answered (List Row)) (lent_ends : List ℕ) → a.none ≡ [] → ((k : ℕ) → k < length (shown_nodes net) → dropped_at dropped k ≡ kept [] (some_answer a k)) → lent_ends ≡ net.ends.items
      → ((place end : ℕ) → slice_get lent_ends place ≡ Some end → rows_for answers place ≡ answer_in a end) → AreDropped p s forgotten old answers
  rules_drop answers a lent_ends none known same_ends told place rule e =
      let drops = rule_drops place rule e in
      let within = (wired_of p net.sources (shown_nodes net) net.ends.items net.index stands.nodes.shape stands.nodes.indexed).lasts place drops.0 drops.1 in
      subst (AreOld (cleaned (rows_of p s rule.conditions) forgotten) old)
      (known drops.0 within ∙ ap (λ rows. kept rows (some_answer a drops.0)) (sym none) ∙ sym (told place drops.0 (ap (λ (places : List ℕ). slice_get places place) same_ends ∙ drops.1))) drops.2
