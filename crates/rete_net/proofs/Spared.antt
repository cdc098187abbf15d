-- Nodes that a forgetting walk passes over, and turns as they are told by sources that change for others.
use Rattle.rete_net.proofs.Common.{gathered_tallies, ◌≡◌, ◌∙◌, sym, ap, refl, subst, ℕ, ◌<◌, ◌&&◌, not, Bool, true, false, List, [], Option, Some, None, Named}
use Rattle.rete_net.proofs.Common.{Row, has_name, Pattern, Program, Snapshot, HaveDistinctTags, pattern_of, Look, Candidates, Memories, either, StandsFor}
use Rattle.rete_net.proofs.Common.{HasAllOf, NameHeld, held, candidates_of, Node, condition_of, NodeStands, node_moves, NetNode, Fan, Fans, Seat, member_of}
use Rattle.rete_net.proofs.Common.{showing, IsHalf, IsOfSeat, Member, no_change, HasNoOld, TurnForgets, NetNodeStands, StandsIn, blocker_tallies, type_of}
use Rattle.{rete_net.proofs.Common.{AreSources, IsWired, Index, slice_get, has_place, IsNodeFound}, join_tests.proofs.Naming.{kept_alike}}
use Rattle.{join_tests.specs.NameKeys.{name_key}, join_memory.specs.{Apart.{has_candidate}, Memories.{has_right}, Shared.{sharing, KeepsNames}}}
use Rattle.candidate_source.specs.{declared.{source.Source.{Source}, sources.Sources.{Sources}}, Doors.{source_candidates, source_pattern}, Reached.{is_under}}
use Rattle.candidate_source.specs.Sources.{handed_gone, is_led, lead_of, source_at, AreApart, AreLaidAs, AreReachedAs, HaveLeftAt, IsPassedOver}
use Rattle.candidate_source.{specs.Sources.{HaveForgotten as SourcesForgot}, proofs.{Moving.{place_within}, Resting.{has_lead, lead_is}}}
use Rattle.{fx_base.proofs.Sequences.{get-below}, std.proofs.lemmas.Bool.{false_from_ne_true}, beta_node.specs.Lending.{with_candidates}}
use Rattle.beta_node.specs.declared.node.Node.TheVariants as node
use Rattle.rete_net.{specs.{Lending.{ForgetsAt, IsSameFor, IsSameIn, MayForget, MayForgetIn}, Sources.{IsSourced}}, proofs.Alone.{own_forgets, same_taking}}
use Rattle.rete_net.proofs.{Forgone.{passed_forgetting}, Idle.{idle_forgets}, Showing.{condition_shown}, Sparing.{none_old, spared}, Sourced.{by_both}}
use Rattle.rete_net.proofs.{Turned.{follows_none, leads_not}, Turning.{held_has}}

pub old_shown : (look : Look) (old : Named → Bool) (o : Option Member) (n : NetNode) → HasNoOld look old n → HasNoOld look old (showing o n)
old_shown look old o n none who f is found same = none who f is found (sym (ap (λ c. (pattern_of c).ty.0) (condition_shown o n)) ∙ same)

-- ---- sources that are the same for a node

module _ (p : Program) (look : Look) (names : List Named) (k : ℕ) where
  pub forgets_alike : (was a b : Option Source) (before after : NetNode) (dropped gone : List Row) → IsSameFor a b k → TurnForgets p look (has_name names) was a k before after dropped gone → TurnForgets p look (has_name names) was b k before after dropped gone
  forgets_alike was None None before after dropped gone same turn = turn
  forgets_alike was None (Some b) before after dropped gone same turn = absurd same
  forgets_alike was (Some a) None before after dropped gone same turn = absurd same
  forgets_alike was (Some a) (Some b) before after dropped gone same turn = record {
    parent = turn.parent;
    condition = turn.condition;
    stands = λ s rows forgotten standing is.
        let now = turn.stands s rows forgotten standing is in
        record {
          stands = subst (λ (n : NetNode). NetNodeStands p n s rows (either forgotten (has_name names))) (same_taking a b k after same) now.stands;
          found = λ row e. same.reached _ ∙ now.found row e;
        };
    drops = turn.drops;
  }

  left_alike : (was a b : Source) (n : NetNode) (leaving : List Named) → IsSameIn a b k → ForgetsAt p look names was a k n leaving → ForgetsAt p look names was b k n leaving
  left_alike was a b n leaving same left s rows forgotten standing tags at_hand named =
      let l = left s rows forgotten standing tags at_hand named in
      record {
        gate = same.gate ∙ l.gate;
        kept = subst (λ (own : Candidates). KeepsNames (source_candidates was) own look (λ who. has_candidate (source_candidates was) look who && not (has_name names who))) (sym same.candidates) l.kept;
        gone = l.gone;
      }

  pub may_forget_alike : (was a b : Option Source) (n : NetNode) (leaving leaving_now : List Named) → IsSameFor a b k → leaving_now ≡ leaving → MayForget p look names was a k n leaving → MayForget p look names was b k n leaving_now
  may_forget_alike None None None n leaving leaving_now same l may = may
  may_forget_alike None None (Some b) n leaving leaving_now same l may = absurd same
  may_forget_alike None (Some a) b n leaving leaving_now same l may = absurd may
  may_forget_alike (Some was) None b n leaving leaving_now same l may = absurd may
  may_forget_alike (Some was) (Some a) None n leaving leaving_now same l may = absurd same
  may_forget_alike (Some was) (Some a) (Some b) n leaving leaving_now same l may =
      subst (MayForgetIn p look names was b k n) (sym l) (record { sourced = may.sourced; left = left_alike was a b n leaving same may.left; reached = λ value. same.reached value ∙ may.reached value })

-- ---- nodes that are passed over

module _ (p : Program) (look : Look) (names : List Named) where
  abbrev pub IsSparedBy : Option Source → Option Source → ℕ → NetNode → Type 0
  IsSparedBy None None k n = HasNoOld look (has_name names) n
  IsSparedBy None (Some is) k n = ⊥
  IsSparedBy (Some was) None k n = ⊥
  IsSparedBy (Some was) (Some is) k n = MayForgetIn p look names was is k n []

  pub spared_by : (was is : Option Source) (k : ℕ) (n : NetNode) (o : Option Member) → ((s : Source) → was ≡ Some s → o ≡ None) → IsSparedBy was is k n → TurnForgets p look (has_name names) was is k (showing o n) (showing o n) [] []
  spared_by None None k n o alone none = own_forgets p look (has_name names) k (showing o n) (showing o n) [] [] (spared p look (has_name names) (showing o n) (old_shown look (has_name names) o n none))
  spared_by None (Some is) k n o alone none = absurd none
  spared_by (Some was) None k n o alone none = absurd none
  spared_by (Some was) (Some is) k n o alone may =
      subst (λ (m : Option Member). TurnForgets p look (has_name names) (Some was) (Some is) k (showing m n) (showing m n) [] []) (sym (alone was refl))
      (passed_forgetting p look names n was is k may.sourced.keeps may.left may.reached)

  pub idle_by : (was is : Option Source) (k : ℕ) (n : NetNode) (m : Option Member) (fans : List Fan) (seat : Seat) (rows : List Row) → IsSparedBy was is k n → was ≡ None → IsOfSeat n fans (Some seat)
      → IsHalf look rows [] m (member_of fans (Some seat)) no_change → TurnForgets p look (has_name names) was is k (showing m n) (showing (member_of fans (Some seat)) n) rows []
  idle_by None None k n m fans seat rows none without of halved =
      own_forgets p look (has_name names) k (showing m n) (showing (member_of fans (Some seat)) n) rows [] (idle_forgets p look (has_name names) n m fans seat rows none of halved)
  idle_by None (Some is) k n m fans seat rows none without of halved = absurd none
  idle_by (Some was) is k n m fans seat rows none without of halved = absurd (let no : Some was ≡ None = without in cc)

  pub spared_alike : (was a b : Option Source) (k : ℕ) (n : NetNode) → IsSameFor a b k → IsSparedBy was a k n → IsSparedBy was b k n
  spared_alike None None None k n same spared = spared
  spared_alike None None (Some b) k n same spared = absurd same
  spared_alike None (Some a) b k n same spared = absurd spared
  spared_alike (Some was) None b k n same spared = absurd spared
  spared_alike (Some was) (Some a) None k n same spared = absurd same
  spared_alike (Some was) (Some a) (Some b) k n same spared = may_forget_alike p look names k (Some was) (Some a) (Some b) n [] [] same refl spared

-- ---- a source of which no candidate is old

not_lost : (a b : Bool) → (a ≡ true → b ≡ false) → a ≡ (a && not b)
not_lost true b h = sym (ap not (h refl))
not_lost false b h = refl

none_lost : (a b c : Bool) → (a ≡ true → b ≡ false) → false ≡ (b && (a && c))
none_lost true b c h = sym (ap (λ x. x && c) (h refl))
none_lost false true c h = refl
none_lost false false c h = refl

both_true : (a b : Bool) → (a && not b) ≡ true → (a ≡ true) × (b ≡ false)
both_true true true e = absurd (let no : false ≡ true = e in cc)
both_true true false e = (refl, refl)
both_true false b e = absurd (let no : false ≡ true = e in cc)

module _ (p : Program) (look : Look) (names : List Named) (source : Source) (k : ℕ) (n : NetNode) (sourced : IsSourced source n) (none : HasNoOld look (has_name names) n) where
  module _ (s : Snapshot) (rows : Row → Bool) (forgotten : Named → Bool) (standing : StandsIn p (Some source) k n s rows forgotten) (tags : HaveDistinctTags s.facts) (at_hand : HasAllOf look s forgotten) (named : NameHeld s rows) where
    here : NodeStands p (with_candidates (source_candidates source) n.node) look s rows forgotten
    here = node_moves p (held s) look s rows forgotten (held_has s forgotten) at_hand named (with_candidates (source_candidates source) n.node) standing.stands.node

    by_memories : {S : Type 0} (m : Memories S) → m.pattern ≡ pattern_of (condition_of n.node) → StandsFor (sharing m (source_candidates source)) look rows (candidates_of p m.pattern s) forgotten
        → (who : Named) → has_candidate (source_candidates source) look who ≡ true → has_name names who ≡ false
    by_memories m same stands who e =
        let alike = kept_alike m.pattern (source_pattern source) look who (ap name_key same ∙ sourced.keeps) in
        let kept : has_right (sharing m (source_candidates source)) look who ≡ true = rw alike e in
        let both = both_true (candidates_of p m.pattern s who) (forgotten who) (sym (stands.names who) ∙ kept) in
        none_old p look s forgotten (has_name names) n none tags at_hand who (ap (λ (q : Pattern). candidates_of p q s who) (sym same) ∙ both.0) both.1

    not_old : (m : Node) → n.node ≡ m → (who : Named) → has_candidate (source_candidates source) look who ≡ true → has_name names who ≡ false
    not_old (node.Join join) e = by_memories join.memories (ap (λ x. pattern_of (condition_of x)) (sym e)) (subst (λ (x : Node). NodeStands p (with_candidates (source_candidates source) x) look s rows forgotten) e here)
    not_old (node.Not waiting) e = by_memories (blocker_tallies waiting) (ap (λ x. pattern_of (condition_of x)) (sym e)) (subst (λ (x : Node). NodeStands p (with_candidates (source_candidates source) x) look s rows forgotten) e here).counts.stands
    not_old (node.Exists tally) e = by_memories tally.memories (ap (λ x. pattern_of (condition_of x)) (sym e)) (subst (λ (x : Node). NodeStands p (with_candidates (source_candidates source) x) look s rows forgotten) e here).stands
    not_old (node.Fold fold) e =
        let there = subst (λ (x : Node). NodeStands p (with_candidates (source_candidates source) x) look s rows forgotten) e here in
        by_memories (gathered_tallies fold) (there.pattern ∙ ap (λ x. pattern_of (condition_of x)) (sym e)) there.counts.stands

    none_left : HaveLeftAt source source look names k []
    none_left = record {
      gate = refl;
      kept = record { pattern = refl; names = λ who. not_lost _ _ (not_old n.node refl who); agrees = λ agrees. agrees };
      gone = record { once = tt; each = λ who. none_lost _ _ _ (not_old n.node refl who) };
    }

  pub forgets_none : ForgetsAt p look names source source k n []
  forgets_none s rows forgotten standing tags at_hand named = none_left s rows forgotten standing tags at_hand named

-- ---- where a walk begins

module _ (p : Program) (look : Look) (names : List Named) (nodes : List NetNode) (fans : Fans) (old new : Sources) (ends : List ℕ) (index : Index) (by_types due : List ℕ)
    (none : (k : ℕ) (n : NetNode) → IsNodeFound index k n → has_place by_types k ≡ false → HasNoOld look (has_name names) n) (laid : AreLaidAs old new) (reached : AreReachedAs old new)
    (kept : (k : ℕ) → has_place by_types k ≡ true → has_place due k ≡ true) (passed : (k : ℕ) → has_place due k ≡ false → IsPassedOver new k) (left : AreApart old → SourcesForgot look names by_types old new)
    (wired : IsWired old nodes ends index) (are : AreSources nodes fans old) where
  -- no candidate of a source whose first node is not due is old
  none_led : (k : ℕ) (n : NetNode) (a : Source) → slice_get nodes k ≡ Some n → source_at old k ≡ Some a → is_led (has_place by_types) (lead_of old k) ≡ false → HasNoOld look (has_name names) n
  none_led k n a e at out =
      let lead = has_lead old are.apart k a at in
      let leads = lead_is old are.apart k lead.0 a at lead.1 in
      let m = get-below nodes lead.0 (subst (λ (many : ℕ). lead.0 < many) are.many (place_within old lead.0 a leads.0)) in
      let spared = none lead.0 m.0 (wired.indexed.found lead.0 m.0 m.1 (leads_not lead.0 (lead_of old lead.0) leads.1)) (ap (is_led (has_place by_types)) (sym lead.1) ∙ out) in
      let same : type_of m.0 ≡ type_of n = ap (λ ty. ty.0) ((are.sourced lead.0 m.0 a m.1 leads.0).alike.ty ∙ sym (are.sourced k n a e at).alike.ty) in
      λ who f is found typed. spared who f is found (same ∙ typed)

  pub may_begin : (k : ℕ) (n : NetNode) → slice_get nodes k ≡ Some n → MayForget p look names (source_at old k) (source_at new k) k n (handed_gone new k)
  may_begin k n e =
      by_both old new laid are.apart k (λ (was is : Option Source). MayForget p look names was is k n (handed_gone new k)) tt (λ i a b ea eb wa wb. record {
        sourced = are.sourced k n a e wa;
        left = by a b wa wb (is_led (has_place by_types) (lead_of old k)) refl;
        reached = λ value. ap (λ r. is_under r value k) (reached i a b ea eb);
      })
    where
      by : (a b : Source) → source_at old k ≡ Some a → source_at new k ≡ Some b → (led : Bool) → is_led (has_place by_types) (lead_of old k) ≡ led → ForgetsAt p look names a b k n (handed_gone new k)
      by a b wa wb true led s rows forgotten standing tags at_hand named = (left are.apart).left k a b wa wb led
      by a b wa wb false led s rows forgotten standing tags at_hand named =
          let others = (left are.apart).others k led in
          let same : b ≡ a = (let is : Some b ≡ Some a = sym wb ∙ others.0 ∙ wa in cc) in
          subst (λ (x : Source). ForgetsAt p look names a x k n (handed_gone new k)) (sym same)
          (subst (ForgetsAt p look names a a k n) (sym others.1.0) (forgets_none p look names a k n (are.sourced k n a e wa) (none_led k n a e wa led))) s rows forgotten standing tags at_hand named

  pub spared_begin : (k : ℕ) (n : NetNode) → slice_get nodes k ≡ Some n → has_place due k ≡ false → IsSparedBy p look names (source_at old k) (source_at new k) k n
  spared_begin k n e out = by (source_at old k) (source_at new k) refl (may_begin k n e)
    where
      by : (was is : Option Source) → source_at old k ≡ was → MayForget p look names was is k n (handed_gone new k) → IsSparedBy p look names was is k n
      by None None at may = none k n (wired.indexed.found k n e (follows_none nodes fans old are k at)) (false_from_ne_true (has_place by_types k) (λ there. let no : true ≡ false = sym (kept k there) ∙ out in cc))
      by None (Some is) at may = absurd may
      by (Some was) None at may = absurd may
      by (Some was) (Some is) at may = subst (MayForgetIn p look names was is k n) (passed k out).0 may
