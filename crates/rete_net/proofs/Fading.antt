-- The walk over the nodes of a network, where these forget.
use Rattle.rete_net.proofs.Common.{◌≡◌, ◌∙◌, sym, ap, refl, [], ◌+◌, ◌<◌, ◌≤◌, arith, ℕ, true, false, List, Option, None, Some, length, slice_get, set, Named}
use Rattle.rete_net.proofs.Common.{Row, has_name, Program, Look, Answered, Index, NetNode, left_given, some_answer, IsAnswerPut, Fan, Fans, Seat, half_at}
use Rattle.rete_net.proofs.Common.{half_of, member_at, member_of, seat_at, showing, with_fans, AreFans, AreFanRowsTurned, IsHalf, IsLaidAs, IsLeft, IsOfSeat}
use Rattle.rete_net.proofs.Common.{Member, dropped_before, HaveForgotten, TurnForgets, has_place, no_change, IsReplaced, IsWired, condition_of, are_none}
use Rattle.rete_net.{proofs.{Common.{AreWoken}, Spared.{IsSparedBy, forgets_alike, idle_by, spared_alike, spared_by}}, specs.Lending.{IsSameFor}}
use Rattle.candidate_source.specs.{declared.{source.Source.{Source}, sources.Sources.{Sources}}, Sources.{source_at}}
use Rattle.rete_net.proofs.Fanwise as fanwise

module _ (p : Program) (look : Look) (names : List Named) (before : List NetNode) (fans : Fans) (ends : List ℕ) (index : Index)
    (sources : Sources) (wired : IsWired sources before ends index) (unseated : (k : ℕ) (s : Source) → source_at sources k ≡ Some s → seat_at fans.seats.items k ≡ None) where
  -- by the sources before, and as they are now
  abbrev Turn : Sources → ℕ → NetNode → NetNode → List Row → List Row → Type 0
  Turn of k = TurnForgets p look (has_name names) (source_at sources k) (source_at of k) k

  abbrev pub Alone : Sources → ℕ → NetNode → Type 0
  Alone of k n = IsSparedBy p look names (source_at sources k) (source_at of k) k n

  abbrev no_rows : List Row
  no_rows = []

  begun : (of : Sources) (k : ℕ) (n : NetNode) → Alone of k n → n.parent ≡ None → no_rows ≡ no_rows
  begun of k n alone e = refl

  stays : (of : Sources) (k : ℕ) (n : NetNode) → Alone of k n → Turn of k (showing (member_at fans k) n) (showing (member_at fans k) n) [] []
  stays of k n alone = spared_by p look names (source_at sources k) (source_at of k) k n (member_at fans k) (λ s at. ap (member_of fans.list.items) (unseated k s at)) alone

  -- a member of a fan has no source
  none_seated : (k : ℕ) (seat : Seat) → seat_at fans.seats.items k ≡ Some seat → (o : Option Source) → source_at sources k ≡ o → o ≡ None
  none_seated k seat there None at = refl
  none_seated k seat there (Some s) at = absurd (let no : Some seat ≡ None = sym there ∙ unseated k s at in cc)

  rests : (of : Sources) (k : ℕ) (n : NetNode) (was : Option Member) (list : List Fan) (seat : Seat) (rows : List Row) → Alone of k n → seat_at fans.seats.items k ≡ Some seat → IsOfSeat n list (Some seat)
      → IsHalf look rows [] was (member_of list (Some seat)) no_change → Turn of k (showing was n) (showing (member_of list (Some seat)) n) rows []
  rests of k n was list seat rows alone there =
      idle_by p look names (source_at sources k) (source_at of k) k n was list seat rows alone (none_seated k seat there (source_at sources k) refl)

  -- all rows that are dropped leave, and none come
  abbrev goes : List Row → List Row
  goes rows = rows

  abbrev comes : List Row → List Row
  comes rows = []

  abbrev pub IsUnderWay : Sources → List NetNode → Fans → List ℕ → Answered (List Row) → ℕ → Type 0
  IsUnderWay of nodes now due a next = fanwise.IsOnWay (Turn of) dropped_before [] [] [] (Alone of) look goes comes refl refl before fans ends wired.parents nodes now due a next

  pub set_off : (of : Sources) (now : Fans) (due : List ℕ) (a : Answered (List Row)) → AreFans before fans → now.seats ≡ fans.seats → now.spans ≡ fans.spans → now.lone ≡ fans.lone → now.list ≡ fans.list → ((seat : Seat) → half_at now seat ≡ no_change)
      → a.none ≡ [] → ((k : ℕ) → some_answer a k ≡ None)
      → ((k : ℕ) (n : NetNode) → slice_get before k ≡ Some n → has_place due k ≡ false → Alone of k n) → IsUnderWay of before now due a 0
  set_off of = fanwise.set_off (Turn of) dropped_before [] [] [] (Alone of) look goes comes refl refl before fans ends index sources wired (λ rows. refl) (λ rows q. refl) (begun of) (stays of) (rests of)

  module _ (of : Sources) (nodes : List NetNode) (now : Fans) (due : List ℕ) (a : Answered (List Row)) (so_far : IsReplaced before nodes) (next : ℕ) (way : IsUnderWay of nodes now due a next) where
    pub forget_at : (place : ℕ) → next ≤ place → place ≤ length before → ((k : ℕ) → next ≤ k → k < place → has_place due k ≡ false)
        → (then_of : Sources) → ((k : ℕ) → (k ≡ place → ⊥) → IsSameFor (source_at of k) (source_at then_of k) k)
        → (n new : NetNode) → slice_get nodes place ≡ Some n → new.parent ≡ n.parent → condition_of new.node ≡ condition_of n.node → IsReplaced nodes (set nodes place new)
        → (mid : Fans) → IsLaidAs now mid → ((seat : Seat) → (seat_at now.seats.items place ≡ Some seat → ⊥) → IsLeft now mid seat)
        → (rows gone : List Row) → rows ≡ left_given [] a n.parent
        → ((was : Option Member) → IsOfSeat n now.list.items (seat_at now.seats.items place) → IsHalf look rows [] was (member_at now place) (half_of now (seat_at now.seats.items place))
        → Turn then_of place (showing was n) (showing (member_at mid place) new) rows gone)
        → (then : Fans) → IsLaidAs mid then → ((ns : List NetNode) → AreFans ns mid → AreFanRowsTurned look place gone [] mid then)
        → (b : Answered (List Row)) → (a.none ≡ [] → IsAnswerPut index place gone a b) → (are_none gone [] ≡ true → b ≡ a)
        → (due_now : List ℕ) → ((ns : List NetNode) → AreFans ns mid → AreWoken place gone [] mid then due due_now)
        → IsUnderWay then_of (set nodes place new) then due_now b (place + 1)
    forget_at place from within out then_of same n new at parent condition replaced mid laid others rows gone rows_are turn then laid_on turned b put nothing due_now woken =
        fanwise.step_at (Turn of) dropped_before [] [] [] (Alone of) look goes comes refl refl before fans ends index sources wired (λ rows. refl) (λ rows q. refl)
        (begun of) (stays of) (rests of) nodes now due a so_far next way place from within out (Turn then_of) (Alone then_of)
        (λ k lt old it l d. forgets_alike p look names k (source_at sources k) (source_at of k) (source_at then_of k) old it l d (same k (λ is. absurd (omega (arith, lt, is)))))
        (λ k m le. spared_alike p look names (source_at sources k) (source_at of k) (source_at then_of k) k m (same k (λ is. absurd (omega (arith, le, is)))))
        n new at parent condition replaced mid laid others rows gone rows_are turn then laid_on turned b put nothing due_now woken

    pub come_to_end : next ≤ length before → ((k : ℕ) → next ≤ k → k < length before → has_place due k ≡ false)
        → HaveForgotten p look (has_name names) (source_at sources) (source_at of) (with_fans before fans) (with_fans nodes now) ends a
    come_to_end le out =
        let there =
        fanwise.come_to_end (Turn of) dropped_before [] [] [] (Alone of) look goes comes refl refl before fans ends index sources wired (λ rows. refl) (λ rows q. refl) (begun of) (stays of) (rests of) nodes now due a so_far next way le out in
        record { nothing = there.nothing; dropped = there.answers; forgot = there.below; known = there.known; ruled = there.ruled }
