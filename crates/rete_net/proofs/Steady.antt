-- The walk over the nodes of a network, by the steps of nodes.
use Rattle.rete_net.proofs.Common.{◌≡◌, ◌∙◌, sym, refl, [], ◌+◌, ◌<◌, ◌≤◌, arith, ℕ, true, false, List, Option, None, Some, length, slice_get, set, Fact, Delta}
use Rattle.rete_net.proofs.Common.{Program, Moment, Look, Index, NetNode, Answered, left_given, some_answer, IsAnswerPut, Fans, Seat, half_at, half_of}
use Rattle.rete_net.proofs.Common.{member_at, seat_at, showing, with_fans, AreFans, AreFanRowsTurned, IsHalf, IsLaidAs, IsLeft, IsOfSeat, Member, Fan}
use Rattle.rete_net.proofs.Common.{member_of, has_place, Row, no_change, left_delta, TurnStep, HasAnswered, IsReplaced, IsWired, condition_of, are_none}
use Rattle.rete_net.{proofs.{Common.{AreWoken}, Alone.{IsAloneBy, alone_alike, begun_by, rests_by, stays_by, told_alike}}, specs.Lending.{IsSameFor}}
use Rattle.candidate_source.specs.{declared.{source.Source.{Source}, sources.Sources.{Sources}}, Sources.{source_at}}
use Rattle.rete_net.proofs.Fanwise as fanwise

module _ (p : Program) (look : Look) (gone : List Fact) (come : Option Fact) (moment : Moment) (first : Delta) (before : List NetNode) (fans : Fans) (ends : List ℕ) (index : Index)
    (sources : Sources) (wired : IsWired sources before ends index) (unseated : (k : ℕ) (s : Source) → source_at sources k ≡ Some s → seat_at fans.seats.items k ≡ None) where
  -- by the sources before the step, and as they are now
  abbrev Turn : Sources → ℕ → NetNode → NetNode → Delta → Delta → Type 0
  Turn of k = TurnStep p look gone come moment (source_at sources k) (source_at of k) k

  abbrev pub Alone : Sources → ℕ → NetNode → Type 0
  Alone of k n = IsAloneBy p look gone come moment first (source_at sources k) (source_at of k) k n

  begun : (of : Sources) (k : ℕ) (n : NetNode) → Alone of k n → n.parent ≡ None → first ≡ no_change
  begun of k n alone e = begun_by p look gone come moment first (source_at sources k) (source_at of k) k n alone e

  stays : (of : Sources) (k : ℕ) (n : NetNode) → Alone of k n → Turn of k (showing (member_at fans k) n) (showing (member_at fans k) n) no_change no_change
  stays of k n alone = stays_by p look gone come moment first (source_at sources k) (source_at of k) k n (member_at fans k) alone

  -- a member of a fan has no source
  none_seated : (k : ℕ) (seat : Seat) → seat_at fans.seats.items k ≡ Some seat → (o : Option Source) → source_at sources k ≡ o → o ≡ None
  none_seated k seat there None at = refl
  none_seated k seat there (Some s) at = absurd (let no : Some seat ≡ None = sym there ∙ unseated k s at in cc)

  rests : (of : Sources) (k : ℕ) (n : NetNode) (was : Option Member) (list : List Fan) (seat : Seat) (left : Delta) → Alone of k n → seat_at fans.seats.items k ≡ Some seat → IsOfSeat n list (Some seat)
      → IsHalf look left.gone left.come was (member_of list (Some seat)) no_change → Turn of k (showing was n) (showing (member_of list (Some seat)) n) left no_change
  rests of k n was list seat left alone there =
      rests_by p look gone come moment first (source_at sources k) (source_at of k) k n was list seat left alone (none_seated k seat there (source_at sources k) refl)

  abbrev goes : Delta → List Row
  goes d = d.gone

  abbrev comes : Delta → List Row
  comes d = d.come

  abbrev pub IsUnderWay : Sources → List NetNode → Fans → List ℕ → Answered Delta → ℕ → Type 0
  IsUnderWay of nodes now due a next = fanwise.IsOnWay (Turn of) (left_delta first) first no_change first (Alone of) look goes comes refl refl before fans ends wired.parents nodes now due a next

  pub set_off : (of : Sources) (now : Fans) (due : List ℕ) (a : Answered Delta) → AreFans before fans → now.seats ≡ fans.seats → now.spans ≡ fans.spans → now.lone ≡ fans.lone → now.list ≡ fans.list → ((seat : Seat) → half_at now seat ≡ no_change)
      → a.none ≡ no_change → ((k : ℕ) → some_answer a k ≡ None)
      → ((k : ℕ) (n : NetNode) → slice_get before k ≡ Some n → has_place due k ≡ false → Alone of k n) → IsUnderWay of before now due a 0
  set_off of =
      fanwise.set_off (Turn of) (left_delta first) first no_change first (Alone of) look goes comes refl refl before fans ends index sources wired (λ deltas. refl) (λ deltas q. refl) (begun of) (stays of) (rests of)

  module _ (of : Sources) (nodes : List NetNode) (now : Fans) (due : List ℕ) (a : Answered Delta) (so_far : IsReplaced before nodes) (next : ℕ) (way : IsUnderWay of nodes now due a next) where
    -- the walk passes over nodes to the next one that is due, and that takes its turn
    pub step_at : (place : ℕ) → next ≤ place → place ≤ length before → ((k : ℕ) → next ≤ k → k < place → has_place due k ≡ false)
        → (then_of : Sources) → ((k : ℕ) → (k ≡ place → ⊥) → IsSameFor (source_at of k) (source_at then_of k) k)
        → (n new : NetNode) → slice_get nodes place ≡ Some n → new.parent ≡ n.parent → condition_of new.node ≡ condition_of n.node → IsReplaced nodes (set nodes place new)
        → (mid : Fans) → IsLaidAs now mid → ((seat : Seat) → (seat_at now.seats.items place ≡ Some seat → ⊥) → IsLeft now mid seat)
        → (left delta : Delta) → left ≡ left_given first a n.parent
        → ((was : Option Member) → IsOfSeat n now.list.items (seat_at now.seats.items place) → IsHalf look left.gone left.come was (member_at now place) (half_of now (seat_at now.seats.items place))
        → Turn then_of place (showing was n) (showing (member_at mid place) new) left delta)
        → (then : Fans) → IsLaidAs mid then → ((ns : List NetNode) → AreFans ns mid → AreFanRowsTurned look place delta.gone delta.come mid then)
        → (b : Answered Delta) → (a.none ≡ no_change → IsAnswerPut index place delta a b) → (are_none delta.gone delta.come ≡ true → b ≡ a)
        → (due_now : List ℕ) → ((ns : List NetNode) → AreFans ns mid → AreWoken place delta.gone delta.come mid then due due_now)
        → IsUnderWay then_of (set nodes place new) then due_now b (place + 1)
    step_at place from within out then_of same n new at parent condition replaced mid laid others left delta left_is turn then laid_on turned b put nothing due_now woken =
        fanwise.step_at (Turn of) (left_delta first) first no_change first (Alone of) look goes comes refl refl before fans ends index sources wired (λ deltas. refl) (λ deltas q. refl)
        (begun of) (stays of) (rests of) nodes now due a so_far next way place from within out (Turn then_of) (Alone then_of)
        (λ k lt old it l d. told_alike p look gone come moment k (source_at sources k) (source_at of k) (source_at then_of k) old it l d (same k (λ is. absurd (omega (arith, lt, is)))))
        (λ k m le. alone_alike p look gone come moment first (source_at sources k) (source_at of k) (source_at then_of k) k m (same k (λ is. absurd (omega (arith, le, is)))))
        n new at parent condition replaced mid laid others left delta left_is turn then laid_on turned b put nothing due_now woken

    pub come_to_end : next ≤ length before → ((k : ℕ) → next ≤ k → k < length before → has_place due k ≡ false)
        → HasAnswered p look gone come moment first (source_at sources) (source_at of) (with_fans before fans) (with_fans nodes now) ends a
    come_to_end le out =
        let there =
        fanwise.come_to_end (Turn of) (left_delta first) first no_change first (Alone of) look goes comes refl refl before fans ends index sources wired (λ deltas. refl) (λ deltas q. refl) (begun of) (stays of) (rests of)
        nodes now due a so_far next way le out in
        record { none = there.nothing; deltas = there.answers; stepped = there.below; known = there.known; ruled = there.ruled }
