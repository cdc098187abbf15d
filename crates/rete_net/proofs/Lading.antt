-- One node after the other is loaded, of which some are members of fans.
use Rattle.rete_net.proofs.Common.{◌≡◌, ◌∙◌, sym, ap, refl, subst, ℕ, ◌+◌, arith, true, false, List, [], length, Option, Some, None, slice_get, filter, set, In}
use Rattle.rete_net.proofs.Common.{Fact, Delta, Extra, Row, has, InOrder, Moment, Program, Look, condition_of, Answered, Owner, Fans, Seat, Index, NetNode}
use Rattle.rete_net.proofs.Common.{left_given, some_answer, IsAnswerPut, half_at, half_of, member_at, seat_at, showing, with_fans, AreFans, AreFanRowsTurned}
use Rattle.rete_net.proofs.Common.{IsHalf, IsLaidAs, IsLeft, IsOfSeat, Member, is_extra_under, AreLoaded, IsStuck, no_change, IsReplaced, IsWired}
use Rattle.{rete_net.specs.{Lending.{IsSameFor}, Loads.{TurnLoads}}, candidate_source.specs.{declared.sources.Sources.{Sources}, Sources.{source_at}}}
use Rattle.rete_net.proofs.Fanning as fanning
use Rattle.rete_net.proofs.{Fanning.{member_fits}, Fanwise.{wired_again}}
use Rattle.rete_net.proofs.Filling as filling
use Rattle.rete_net.proofs.{Showing.{parent_shown, replaced_shown, shown_at, shown_length}, Stocked.{loads_alike}}

module _ (p : Program) (look : Look) (kept : List Fact) (extras : List Extra) (moment : Moment) (first : Delta) (before : List NetNode) (fans : Fans) (owners : List Owner) (ends : List ℕ)
    (index : Index) (sources : Sources) (wired : IsWired sources before ends index) where
  abbrev Before : List NetNode
  Before = with_fans before fans

  -- no rows leave nodes that keep nothing
  abbrev goes : Delta → List Row
  goes d = []

  abbrev comes : Delta → List Row
  comes d = d.come

  -- the walk has come to a place, with nodes as it knows them
  pub record IsUnderWay (of : Sources) (nodes : List NetNode) (now : Fans) (a : Answered Delta) (n : ℕ) : Type 0 where
    pub walked : List NetNode
    pub way : AreLoaded p look kept extras moment first (source_at sources) (source_at of) Before walked owners ends a n
    pub shared : fanning.IsShared look goes comes no_change first refl refl before fans wired.parents nodes now a n walked

  shown_wired : IsWired sources Before ends index
  shown_wired = wired_again sources before Before ends index (replaced_shown (member_at fans) before) wired

  pub set_off : (of : Sources) (now : Fans) (a : Answered Delta) → AreFans before fans → now.seats ≡ fans.seats → now.spans ≡ fans.spans → now.lone ≡ fans.lone → now.list ≡ fans.list → ((seat : Seat) → half_at now seat ≡ no_change)
      → a.none ≡ no_change → ((k : ℕ) → some_answer a k ≡ None) → IsUnderWay of before now a 0
  set_off of now a are seats spans lone list halves none unanswered = record {
    walked = Before;
    way = filling.set_off p look kept extras moment first sources Before owners ends of a none unanswered;
    shared = fanning.shared_begins look goes comes no_change first refl refl before fans wired.parents now a are seats spans lone list halves none unanswered;
  }

  module _ (of : Sources) (nodes : List NetNode) (now : Fans) (a : Answered Delta) (place : ℕ) (on : IsUnderWay of nodes now a place) (n : NetNode) (at : slice_get nodes place ≡ Some n) where
    was : slice_get before place ≡ Some n
    was = sym (on.shared.rest place (omega arith)) ∙ at

    there : slice_get on.walked place ≡ Some (showing (member_at fans place) n)
    there = on.way.rest place (omega arith) ∙ shown_at (member_at fans) before place n was

    pub stuck_at : (own : List Extra) → ((o : Owner) → slice_get owners place ≡ Some o → own ≡ filter (is_extra_under o) extras)
        → (rows : List Row) → rows ≡ (left_given first a n.parent).come → (InOrder rows → (e : Extra) × In e own × (has rows e.row ≡ false)) → IsStuck p look kept extras moment first (source_at sources) Before owners ends
    stuck_at own own_are rows rows_are missing =
        filling.stuck_at p look kept extras moment first sources Before owners ends of on.walked a place on.way (showing (member_at fans place) n) there own own_are rows
        (rows_are ∙ ap (λ (parent : Option ℕ). (left_given first a parent).come) (sym (parent_shown (member_at fans place) n))) missing

    module _ (new : NetNode) (parent : new.parent ≡ n.parent) (condition : condition_of new.node ≡ condition_of n.node) (so_far : IsReplaced before nodes) (replaced : IsReplaced nodes (set nodes place new))
        (mid : Fans) (laid : IsLaidAs now mid) (others : (seat : Seat) → (seat_at now.seats.items place ≡ Some seat → ⊥) → IsLeft now mid seat)
        (own : List Extra) (own_are : (o : Owner) → slice_get owners place ≡ Some o → own ≡ filter (is_extra_under o) extras) (rows : List Row) (rows_are : rows ≡ (left_given first a n.parent).come) (delta : Delta)
        (next : Sources) (each : (k : ℕ) → (k ≡ place → ⊥) → IsSameFor (source_at of k) (source_at next k) k)
        (load : (was : Option Member) → IsOfSeat n now.list.items (seat_at now.seats.items place) → IsHalf look [] rows was (member_at now place) (half_of now (seat_at now.seats.items place))
        → TurnLoads p look kept own moment (source_at sources place) (source_at next place) place (showing was n) (showing (member_at mid place) new) rows delta)
        (have : InOrder rows → (e : Extra) → In e own → has rows e.row ≡ true)
        (then : Fans) (laid_on : IsLaidAs mid then) (turned : (ns : List NetNode) → AreFans ns mid → AreFanRowsTurned look place [] delta.come mid then)
        (b : Answered Delta) (put : IsAnswerPut index place delta a b) where
      half : IsHalf look [] rows (member_at fans place) (member_at now place) (half_of now (seat_at now.seats.items place))
      half =
          subst (λ (rs : List Row). IsHalf look [] rs (member_at fans place) (member_at now place) (half_of now (seat_at now.seats.items place))) (sym rows_are)
          (on.shared.halves place n (omega arith) was)

      pub take_one : IsUnderWay next (set nodes place new) then b (place + 1)
      take_one = record {
        walked = set on.walked place (showing (member_at mid place) new);
        way =
            filling.take_one p look kept extras moment first sources Before owners ends index shown_wired of next on.walked a place on.way
            (λ k lt own old new rows delta. loads_alike k p look kept own moment (source_at sources k) (source_at of k) (source_at next k) old new rows delta (each k (λ same. absurd (omega (arith, lt, same)))))
            (showing (member_at fans place) n) (showing (member_at mid place) new) there own own_are rows
            (rows_are ∙ ap (λ (parent : Option ℕ). (left_given first a parent).come) (sym (parent_shown (member_at fans place) n)))
            delta (load (member_at fans place) (member_fits nodes now on.shared.fans_are place n at) half) have b put;
        shared =
            fanning.shared_more look goes comes no_change first refl refl before fans wired.parents nodes now a on.walked place on.shared n new at parent condition so_far replaced
            mid laid others delta then laid_on turned index b put (on.way.ahead place (omega arith)) there;
      }

  module _ (of : Sources) (nodes : List NetNode) (now : Fans) (a : Answered Delta) (on : IsUnderWay of nodes now a (length before)) where
    pub come_to_end : AreLoaded p look kept extras moment first (source_at sources) (source_at of) Before (with_fans nodes now) owners ends a (length Before)
    come_to_end =
        subst (λ (ns : List NetNode). AreLoaded p look kept extras moment first (source_at sources) (source_at of) Before ns owners ends a (length Before))
        (fanning.shared_ends look goes comes no_change first refl refl before fans wired.parents nodes now a on.walked on.shared on.way.rest)
        (subst (AreLoaded p look kept extras moment first (source_at sources) (source_at of) Before on.walked owners ends a) (sym (shown_length (member_at fans) before)) on.way)
