-- Nodes that a step does not reach, with a gate of their own or of a source, and turns as they are told by sources that change for others.
use Rattle.rete_net.proofs.Common.{◌≡◌, ◌∙◌, sym, ap, refl, subst, ℕ, ◌&&◌, ◌||◌, not, true, Bool, List, [], Option, Some, None, Fact, Delta, Named, Row}
use Rattle.rete_net.proofs.Common.{Moment, Program, Look, Candidates, changes_nothing, PatternGate, GateStands, condition_of, pattern_of, Condition, NetNode}
use Rattle.rete_net.proofs.Common.{Fan, Seat, member_of, showing, IsHalf, IsOfSeat, Member, IsStillAt, no_change, NodeStep, TurnStep, NetNodeStands, taking}
use Rattle.rete_net.{proofs.Common.{floor, snapshot_at, has, row_naming, Row, has_name, NodeForgets, TurnForgets}, specs.Lending.{IsSameFor, IsSameIn}}
use Rattle.rete_net.{specs.Lending.{MayForget, MayForgetIn, MayTurn, MayTurnIn, TurnsAt}, proofs.{Idle.{idle_steps}, Lone.{alone_stays, IsAlone}}}
use Rattle.rete_net.proofs.{Passing.{passed_over}, Showing.{alone_shown, condition_shown, still_shown}, Siblings.{nothing_is}}
use Rattle.{join_memory.specs.{Apart.{has_candidate}, Shared.{KeepsNames}}, join_tests.specs.NameKeys.{name_key}, pattern_gate.specs.Alike.{TakesAlike}}
use Rattle.candidate_source.specs.{declared.source.Source.{Source}, Doors.{source_candidates, source_gate, source_pattern}}
use Rattle.beta_node.specs.Lending.{with_candidates}

-- a step of a node with a gate of its own
pub own_turn : (p : Program) (look : Look) (gone : List Fact) (come : Option Fact) (moment : Moment) (k : ℕ) (old new : NetNode) (left delta : Delta)
    → NodeStep p look gone come moment old new left delta → TurnStep p look gone come moment None None k old new left delta
own_turn p look gone come moment k old new left delta step = record {
  parent = step.parent;
  condition = step.condition;
  stands = λ s next rows rows_now forgotten standing at is. record { stands = step.stands s next rows rows_now forgotten standing.stands at is; found = tt };
  difference = λ s next rows rows_now forgotten standing at is. step.difference s next rows rows_now forgotten standing.stands at is;
}

-- ---- sources that are the same for a node

pub same_taking : (a b : Source) (k : ℕ) (n : NetNode) → IsSameIn a b k → taking (Some a) n ≡ taking (Some b) n
same_taking a b k n same =
    ap (λ (gate : PatternGate). record { parent = n.parent; gate = gate; node = with_candidates (source_candidates a) n.node }) (sym same.gate)
    ∙ ap (λ (own : Candidates). record { parent = n.parent; gate = source_gate b; node = with_candidates own n.node }) (sym same.candidates)

module _ (p : Program) (look : Look) (gone : List Fact) (come : Option Fact) (moment : Moment) (k : ℕ) where
  -- a turn is told by the one as by the other
  pub told_alike : (was a b : Option Source) (old new : NetNode) (left delta : Delta) → IsSameFor a b k → TurnStep p look gone come moment was a k old new left delta → TurnStep p look gone come moment was b k old new left delta
  told_alike was None None old new left delta same step = step
  told_alike was None (Some b) old new left delta same step = absurd same
  told_alike was (Some a) None old new left delta same step = absurd same
  told_alike was (Some a) (Some b) old new left delta same step = record {
    parent = step.parent;
    condition = step.condition;
    stands = λ s next rows rows_now forgotten standing at is.
        let now = step.stands s next rows rows_now forgotten standing at is in
        record {
          stands = subst (λ (n : NetNode). NetNodeStands p n next rows_now forgotten) (same_taking a b k new same) now.stands;
          found = λ row e. same.reached _ ∙ now.found row e;
        };
    difference = step.difference;
  }

  turned_alike : (was a b : Source) (leaving coming : List Named) → IsSameIn a b k → TurnsAt p gone come moment.clock look was a k leaving coming → TurnsAt p gone come moment.clock look was b k leaving coming
  turned_alike was a b leaving coming same turned s next window stands moves at =
      let t = turned s next window stands moves at in
      record {
        gate = subst (λ (gate : PatternGate). GateStands p (source_pattern was) gate next) (sym same.gate) t.gate;
        right = t.right;
        difference = t.difference;
        kept = subst (λ (own : Candidates). KeepsNames (source_candidates was) own look (λ who. (has_candidate (source_candidates was) look who && not (has t.right.gone (row_naming who))) || has t.right.come (row_naming who))) (sym same.candidates) t.kept;
        gone = t.gone;
        come = t.come;
      }

  pub may_alike : (was a b : Option Source) (n : NetNode) (leaving coming leaving_now coming_now : List Named) → IsSameFor a b k → leaving_now ≡ leaving → coming_now ≡ coming
      → MayTurn p gone come moment.clock look was a k n leaving coming → MayTurn p gone come moment.clock look was b k n leaving_now coming_now
  may_alike None None None n leaving coming leaving_now coming_now same l c may = may
  may_alike None None (Some b) n leaving coming leaving_now coming_now same l c may = absurd same
  may_alike None (Some a) b n leaving coming leaving_now coming_now same l c may = absurd may
  may_alike (Some was) None b n leaving coming leaving_now coming_now same l c may = absurd may
  may_alike (Some was) (Some a) None n leaving coming leaving_now coming_now same l c may = absurd same
  may_alike (Some was) (Some a) (Some b) n leaving coming leaving_now coming_now same l c may =
      subst (λ (names : List Named). MayTurnIn p gone come moment.clock look was b k n names coming_now) (sym l)
      (subst (MayTurnIn p gone come moment.clock look was b k n leaving) (sym c) (record {
        sourced = may.sourced;
        turned = turned_alike was a b leaving coming same may.turned;
        reached = λ value. same.reached value ∙ may.reached value;
      }))

-- a source that has turned for a node was one
module _ (p : Program) (look : Look) (gone : List Fact) (come : Option Fact) (moment : Moment) (k : ℕ) (n : NetNode) (leaving coming : List Named) where
  pub may_some : (was is : Option Source) (s : Source) → is ≡ Some s → MayTurn p gone come moment.clock look was is k n leaving coming → (w : Source) × (was ≡ Some w) × MayTurnIn p gone come moment.clock look w s k n leaving coming
  may_some was is s e may = by was (subst (λ (o : Option Source). MayTurn p gone come moment.clock look was o k n leaving coming) e may)
    where
      by : (was : Option Source) → MayTurn p gone come moment.clock look was (Some s) k n leaving coming → (w : Source) × (was ≡ Some w) × MayTurnIn p gone come moment.clock look w s k n leaving coming
      by None may = absurd may
      by (Some w) may = (w, refl, may)

  pub may_none : (was is : Option Source) → is ≡ None → MayTurn p gone come moment.clock look was is k n leaving coming → was ≡ None
  may_none was is e may = by was (subst (λ (o : Option Source). MayTurn p gone come moment.clock look was o k n leaving coming) e may)
    where
      by : (was : Option Source) → MayTurn p gone come moment.clock look was None k n leaving coming → was ≡ None
      by None may = refl
      by (Some w) may = absurd may

  pub may_own : (is : Option Source) → MayTurn p gone come moment.clock look None is k n leaving coming → is ≡ None
  may_own None may = refl
  may_own (Some s) may = absurd may

  -- a node that is of no source takes the step of its own
  pub by_source : (was is : Option Source) → ((s : Source) → was ≡ Some s → ⊥) → MayTurn p gone come moment.clock look was is k n leaving coming
      → (old new : NetNode) (left delta : Delta) → NodeStep p look gone come moment old new left delta → TurnStep p look gone come moment was is k old new left delta
  by_source None is none may old new left delta step =
      subst (λ (o : Option Source). TurnStep p look gone come moment None o k old new left delta) (sym (may_own is may)) (own_turn p look gone come moment k old new left delta step)
  by_source (Some s) is none may old new left delta step = absurd (none s refl)

-- ---- nodes that are left alone

-- A step does not reach a node of a source: nothing is handed to it, nothing comes to it where it has no parent, and no row of it is mature.
pub record IsAloneIn (p : Program) (look : Look) (gone : List Fact) (come : Option Fact) (moment : Moment) (first : Delta) (was is : Source) (k : ℕ) (n : NetNode) : Type 0 where
  pub may : MayTurnIn p gone come moment.clock look was is k n [] []
  pub begun : n.parent ≡ None → changes_nothing first ≡ true
  pub still : IsStillAt n.node (floor p (snapshot_at moment) (pattern_of (condition_of n.node)).entry.0)

module _ (p : Program) (look : Look) (gone : List Fact) (come : Option Fact) (moment : Moment) (first : Delta) where
  abbrev pub IsAloneBy : Option Source → Option Source → ℕ → NetNode → Type 0
  IsAloneBy None None k n = IsAlone p n first gone come moment
  IsAloneBy None (Some is) k n = ⊥
  IsAloneBy (Some was) None k n = ⊥
  IsAloneBy (Some was) (Some is) k n = IsAloneIn p look gone come moment first was is k n

  pub begun_by : (was is : Option Source) (k : ℕ) (n : NetNode) → IsAloneBy was is k n → n.parent ≡ None → first ≡ no_change
  begun_by None None k n alone e = nothing_is first (alone.begun e)
  begun_by None (Some is) k n alone e = absurd alone
  begun_by (Some was) None k n alone e = absurd alone
  begun_by (Some was) (Some is) k n alone e = nothing_is first (alone.begun e)

  pub stays_by : (was is : Option Source) (k : ℕ) (n : NetNode) (o : Option Member) → IsAloneBy was is k n → TurnStep p look gone come moment was is k (showing o n) (showing o n) no_change no_change
  stays_by None None k n o alone =
      own_turn p look gone come moment k (showing o n) (showing o n) no_change no_change (alone_stays p look gone come moment first (showing o n) no_change (alone_shown p o n first gone come moment alone) refl)
  stays_by None (Some is) k n o alone = absurd alone
  stays_by (Some was) None k n o alone = absurd alone
  stays_by (Some was) (Some is) k n o alone =
      let same = condition_shown o n in
      passed_over p look gone come moment (showing o n) was is k
      (subst (λ (c : Condition). TakesAlike (pattern_of c) (source_pattern was)) (sym same) alone.may.sourced.alike)
      (subst (λ (c : Condition). name_key (pattern_of c) ≡ name_key (source_pattern was)) (sym same) alone.may.sourced.keeps)
      alone.may.turned alone.may.reached
      (subst (λ (c : Condition). IsStillAt (showing o n).node (floor p (snapshot_at moment) (pattern_of c).entry.0)) (sym same) (still_shown o n _ alone.still))

  pub rests_by : (was is : Option Source) (k : ℕ) (n : NetNode) (m : Option Member) (fans : List Fan) (seat : Seat) (left : Delta) → IsAloneBy was is k n → was ≡ None → IsOfSeat n fans (Some seat)
      → IsHalf look left.gone left.come m (member_of fans (Some seat)) no_change → TurnStep p look gone come moment was is k (showing m n) (showing (member_of fans (Some seat)) n) left no_change
  rests_by None None k n m fans seat left alone none of halved =
      own_turn p look gone come moment k (showing m n) (showing (member_of fans (Some seat)) n) left no_change (idle_steps p look gone come moment first n m fans seat left alone of halved)
  rests_by None (Some is) k n m fans seat left alone none of halved = absurd alone
  rests_by (Some was) is k n m fans seat left alone none of halved = absurd (let no : Some was ≡ None = none in cc)

  -- so it is by a source that is the same for the node
  pub alone_alike : (was a b : Option Source) (k : ℕ) (n : NetNode) → IsSameFor a b k → IsAloneBy was a k n → IsAloneBy was b k n
  alone_alike None None None k n same alone = alone
  alone_alike None None (Some b) k n same alone = absurd same
  alone_alike None (Some a) b k n same alone = absurd alone
  alone_alike (Some was) None b k n same alone = absurd alone
  alone_alike (Some was) (Some a) None k n same alone = absurd same
  alone_alike (Some was) (Some a) (Some b) k n same alone = record {
    may = may_alike p look gone come moment k (Some was) (Some a) (Some b) n [] [] [] [] same refl refl alone.may;
    begun = alone.begun;
    still = alone.still;
  }

-- ---- forgetting

-- a node with a gate of its own forgets
pub own_forgets : (p : Program) (look : Look) (old : Named → Bool) (k : ℕ) (before after : NetNode) (dropped gone : List Row) → NodeForgets p look old before after dropped gone → TurnForgets p look old None None k before after dropped gone
own_forgets p look old k before after dropped gone forgets = record {
  parent = forgets.parent;
  condition = forgets.condition;
  stands = λ s rows forgotten standing is. record { stands = forgets.stands s rows forgotten standing.stands is; found = tt };
  drops = λ s rows forgotten standing is. forgets.drops s rows forgotten standing.stands is;
}

module _ (p : Program) (look : Look) (names : List Named) (k : ℕ) (n : NetNode) (leaving : List Named) where
  pub forget_some : (was is : Option Source) (s : Source) → is ≡ Some s → MayForget p look names was is k n leaving → (w : Source) × (was ≡ Some w) × MayForgetIn p look names w s k n leaving
  forget_some was is s e may = by was (subst (λ (o : Option Source). MayForget p look names was o k n leaving) e may)
    where
      by : (was : Option Source) → MayForget p look names was (Some s) k n leaving → (w : Source) × (was ≡ Some w) × MayForgetIn p look names w s k n leaving
      by None may = absurd may
      by (Some w) may = (w, refl, may)

  pub forget_none : (was is : Option Source) → is ≡ None → MayForget p look names was is k n leaving → was ≡ None
  forget_none was is e may = by was (subst (λ (o : Option Source). MayForget p look names was o k n leaving) e may)
    where
      by : (was : Option Source) → MayForget p look names was None k n leaving → was ≡ None
      by None may = refl
      by (Some w) may = absurd may

  pub forget_own : (is : Option Source) → MayForget p look names None is k n leaving → is ≡ None
  forget_own None may = refl
  forget_own (Some s) may = absurd may

  pub forgets_by : (was is : Option Source) → ((s : Source) → was ≡ Some s → ⊥) → MayForget p look names was is k n leaving
      → (before after : NetNode) (dropped gone : List Row) → NodeForgets p look (has_name names) before after dropped gone → TurnForgets p look (has_name names) was is k before after dropped gone
  forgets_by None is none may before after dropped gone forgets =
      subst (λ (o : Option Source). TurnForgets p look (has_name names) None o k before after dropped gone) (sym (forget_own is may)) (own_forgets p look (has_name names) k before after dropped gone forgets)
  forgets_by (Some s) is none may before after dropped gone forgets = absurd (none s refl)
