-- A walk over some nodes, each after its parent, of which some are members of fans.
use Rattle.rete_net.proofs.Common.{◌≡◌, ◌∙◌, sym, ap, refl, subst, ℕ, ◌+◌, ◌<◌, ◌≤◌, arith, false, List, [], length, Option, Some, None, slice_get}
use Rattle.rete_net.proofs.Common.{slice_index_or, set, slice_get_within, Row, Look, condition_of, Answered, Fans, Seat, Index, NetNode, left_given}
use Rattle.rete_net.proofs.Common.{some_answer, IsAnswerPut, half_at, half_of, member_at, seat_at, showing, with_fans, AreFans, AreFanRowsTurned, IsHalf}
use Rattle.rete_net.proofs.Common.{IsLaidAs, IsLeft, IsOfSeat, Member, Program, IsNetOf, IsIndexOf, has_place, no_change, IsReplaced, IsWired, zero, suc, ◌-◌}
use Rattle.rete_net.{proofs.Common.{◌∷◌, true, inl, inr, are_none, Fan, member_of, AreWoken}, specs.Answers.{given as given_or}}
use Rattle.candidate_source.specs.declared.sources.Sources.{Sources}
use Rattle.rete_net.proofs.Fanning as fanning
use Rattle.rete_net.proofs.{Fanned.{none_turned}, Fanning.{fans_again, laid_same, member_fits}, Frames.{index_again, net_again, wired_of}}
use Rattle.{rete_net.proofs.Showing.{parent_shown, replaced_back, replaced_shown, shown_at, shown_length}, fx_base.proofs.Sequences.{get-below}}
use Rattle.std.proofs.lemmas.Bool.{false_from_ne_true}
use Rattle.rete_net.proofs.Walking as walking

-- what is wired is so with what members keep
pub wired_again : (sources : Sources) (old new : List NetNode) (ends : List ℕ) (index : Index) → IsReplaced old new → IsWired sources old ends index → IsWired sources new ends index
wired_again sources old new ends index replaced wired = record {
  indexed = index_again sources sources old new ends ends index index (λ k. refl) replaced refl refl wired.indexed;
  parents = λ k parent n e is.
      let many = replaced.many in
      let within : k < length new = slice_get_within new k n e in
      let o = get-below old k (omega (arith, many, within)) in
      wired.parents k parent o.0 o.1 (sym (replaced.parent k o.0 n o.1 e) ∙ is);
  lasts = λ rule end e. let many = replaced.many in let within = wired.lasts rule end e in omega (arith, many, within);
}

-- the nodes of a program's network are wired, if they are with what members keep
pub wired_under : (p : Program) (sources : Sources) (nodes : List NetNode) (fans : Fans) (ends : List ℕ) (index : Index) → IsNetOf p (with_fans nodes fans) ends → IsIndexOf sources (with_fans nodes fans) ends index → IsWired sources nodes ends index
wired_under p sources nodes fans ends index net indexed =
    wired_again sources (with_fans nodes fans) nodes ends index (replaced_back nodes (with_fans nodes fans) (replaced_shown (member_at fans) nodes)) (wired_of p sources (with_fans nodes fans) ends index net indexed)

-- and they are those of the program
pub net_under : (p : Program) (nodes : List NetNode) (fans : Fans) (ends : List ℕ) → IsNetOf p (with_fans nodes fans) ends → IsNetOf p nodes ends
net_under p nodes fans ends net = net_again p (with_fans nodes fans) nodes ends ends refl (replaced_back nodes (with_fans nodes fans) (replaced_shown (member_at fans) nodes)) net

-- what stands in a place is put there
set_itself : {A : Type 0} (xs : List A) (k : ℕ) (x : A) → slice_get xs k ≡ Some x → set xs k x ≡ xs
set_itself [] k x e = refl
set_itself (y ∷ xs) zero x e = let same : y ≡ x = cc in ap (λ z. z ∷ xs) (sym same)
set_itself (y ∷ xs) (suc k) x e = ap (λ zs. y ∷ zs) (set_itself xs k x e)

-- The walk has come to a place, with nodes as it knows them. A node that is not due is left alone: no more than rows that its siblings share
-- has reached it.
pub record IsOnWay {D : Type 0} (Turn : ℕ → NetNode → NetNode → D → D → Type 0) (given : List D → Option ℕ → D) (last none first : D) (Alone : ℕ → NetNode → Type 0) (look : Look) (goes comes : D → List Row)
    (none_goes : goes none ≡ []) (none_comes : comes none ≡ []) (nodes_before : List NetNode) (fans_before : Fans) (ends : List ℕ)
    (parents : (k parent : ℕ) (n : NetNode) → slice_get nodes_before k ≡ Some n → n.parent ≡ Some parent → parent < k)
    (nodes : List NetNode) (fans : Fans) (due : List ℕ) (a : Answered D) (next : ℕ) : Type 0 where
  pub walked : List NetNode
  pub way : walking.IsUnderWay Turn given last none (with_fans nodes_before fans_before) ends walked a next
  pub shared : fanning.IsShared look goes comes none first none_goes none_comes nodes_before fans_before parents nodes fans a next walked
  pub alone : (k : ℕ) (n : NetNode) → next ≤ k → slice_get nodes_before k ≡ Some n → has_place due k ≡ false → Alone k n
  pub idle : (k : ℕ) (n : NetNode) → next ≤ k → slice_get nodes_before k ≡ Some n → has_place due k ≡ false → half_of fans (seat_at fans.seats.items k) ≡ no_change
  pub got : (k parent : ℕ) (n : NetNode) → next ≤ k → slice_get nodes_before k ≡ Some n → has_place due k ≡ false → n.parent ≡ Some parent → seat_at fans.seats.items k ≡ None → some_answer a parent ≡ None

-- A walk that passes over nodes. One that is not due is left alone: no more than rows that its siblings share has reached it, and those change
-- nothing for it.
module _ {D : Type 0} (Turn : ℕ → NetNode → NetNode → D → D → Type 0) (given : List D → Option ℕ → D) (last none first : D) (Alone : ℕ → NetNode → Type 0) (look : Look) (goes comes : D → List Row)
    (none_goes : goes none ≡ []) (none_comes : comes none ≡ []) (nodes_before : List NetNode) (fans_before : Fans) (ends : List ℕ) (index : Index) (sources : Sources) (wired : IsWired sources nodes_before ends index)
    (to_first : (answers : List D) → given answers None ≡ first) (to_behind : (answers : List D) (q : ℕ) → given answers (Some q) ≡ slice_index_or answers q last)
    (begun : (k : ℕ) (n : NetNode) → Alone k n → n.parent ≡ None → first ≡ none) (stays : (k : ℕ) (n : NetNode) → Alone k n → Turn k (showing (member_at fans_before k) n) (showing (member_at fans_before k) n) none none)
    (rests : (k : ℕ) (n : NetNode) (was : Option Member) (fans : List Fan) (seat : Seat) (left : D) → Alone k n → seat_at fans_before.seats.items k ≡ Some seat → IsOfSeat n fans (Some seat) → IsHalf look (goes left) (comes left) was (member_of fans (Some seat)) no_change
    → Turn k (showing was n) (showing (member_of fans (Some seat)) n) left none) where
  abbrev pub Before : List NetNode
  Before = with_fans nodes_before fans_before

  abbrev pub OnWay : List NetNode → Fans → List ℕ → Answered D → ℕ → Type 0
  OnWay nodes fans due a next = IsOnWay Turn given last none first Alone look goes comes none_goes none_comes nodes_before fans_before ends wired.parents nodes fans due a next

  shown_wired : IsWired sources Before ends index
  shown_wired = wired_again sources nodes_before Before ends index (replaced_shown (member_at fans_before) nodes_before) wired

  no_half : (fans : Fans) → ((seat : Seat) → half_at fans seat ≡ no_change) → (o : Option Seat) → half_of fans o ≡ no_change
  no_half fans halves None = refl
  no_half fans halves (Some seat) = halves seat

  pub set_off : (fans : Fans) (due : List ℕ) (a : Answered D) → AreFans nodes_before fans_before → fans.seats ≡ fans_before.seats → fans.spans ≡ fans_before.spans → fans.lone ≡ fans_before.lone → fans.list ≡ fans_before.list
      → ((seat : Seat) → half_at fans seat ≡ no_change) → a.none ≡ none → ((k : ℕ) → some_answer a k ≡ None)
      → ((k : ℕ) (n : NetNode) → slice_get nodes_before k ≡ Some n → has_place due k ≡ false → Alone k n) → OnWay nodes_before fans due a 0
  set_off fans due a are seats spans lone list halves nothing unanswered reached = record {
    walked = Before;
    way = walking.set_off Turn given last none first Before ends index sources shown_wired to_first to_behind a nothing unanswered;
    shared = fanning.shared_begins look goes comes none first none_goes none_comes nodes_before fans_before wired.parents fans a are seats spans lone list halves nothing unanswered;
    alone = λ k n le e out. reached k n e out;
    idle = λ k n le e out. no_half fans halves (seat_at fans.seats.items k);
    got = λ k parent n le e out is free. unanswered parent;
  }

  -- the node in the place takes its turn, due or not
  -- behind which what a turn is, and what it is to be left alone, may be told otherwise
  module _ (nodes : List NetNode) (fans : Fans) (due : List ℕ) (a : Answered D) (place : ℕ) (on : OnWay nodes fans due a place)
      (Then : ℕ → NetNode → NetNode → D → D → Type 0) (Still : ℕ → NetNode → Type 0) (tells : (k : ℕ) → k < place → (old new : NetNode) (left answer : D) → Turn k old new left answer → Then k old new left answer)
      (stills : (k : ℕ) (n : NetNode) → place + 1 ≤ k → Alone k n → Still k n)
      (n new : NetNode) (at : slice_get nodes place ≡ Some n) (parent : new.parent ≡ n.parent) (condition : condition_of new.node ≡ condition_of n.node)
      (so_far : IsReplaced nodes_before nodes) (replaced : IsReplaced nodes (set nodes place new))
      (mid : Fans) (laid : IsLaidAs fans mid) (others : (seat : Seat) → (seat_at fans.seats.items place ≡ Some seat → ⊥) → IsLeft fans mid seat)
      (left answer : D) (left_is : left ≡ left_given first a n.parent) (turn : Then place (showing (member_at fans_before place) n) (showing (member_at mid place) new) left answer)
      (then : Fans) (laid_on : IsLaidAs mid then) (turned : (ns : List NetNode) → AreFans ns mid → AreFanRowsTurned look place (goes answer) (comes answer) mid then)
      (b : Answered D) (put : IsAnswerPut index place answer a b) (same : are_none (goes answer) (comes answer) ≡ true → b ≡ a)
      (due_now : List ℕ) (woken : (ns : List NetNode) → AreFans ns mid → AreWoken place (goes answer) (comes answer) mid then due due_now) where
    was : slice_get nodes_before place ≡ Some n
    was = sym (on.shared.rest place (omega arith)) ∙ at

    there : slice_get on.walked place ≡ Some (showing (member_at fans_before place) n)
    there = on.way.rest place (omega arith) ∙ shown_at (member_at fans_before) nodes_before place n was

    absent : some_answer a place ≡ None
    absent = on.way.ahead place (omega arith)

    mid_are : AreFans nodes mid
    mid_are = fans_again nodes nodes fans mid (walking.not_replaced nodes) laid on.shared.fans_are

    waking : AreWoken place (goes answer) (comes answer) mid then due due_now
    waking = woken nodes mid_are

    was_out : (k : ℕ) → has_place due_now k ≡ false → has_place due k ≡ false
    was_out k out = false_from_ne_true (has_place due k) (λ h. let no : true ≡ false = sym (waking.still k h) ∙ out in cc)

    got_now : (k q : ℕ) (m : NetNode) → place + 1 ≤ k → slice_get nodes_before k ≡ Some m → has_place due_now k ≡ false → m.parent ≡ Some q → seat_at then.seats.items k ≡ None → some_answer b q ≡ None
    got_now k q m le e out is free = elim (walking.equal_or_not q place) [
      | inr other ↦ put.others q other ∙ on.got k q m (omega (arith, le)) e (was_out k out) is (ap (λ l. seat_at l.items k) (sym laid.seats ∙ sym laid_on.seats) ∙ free)
      | inl here ↦
          let none = fanning.child_idle look goes comes none first none_goes none_comes nodes_before fans_before wired.parents nodes fans a on.walked place on.shared n new at parent condition so_far replaced
          mid laid others answer then laid_on turned index b put absent due due_now waking k m le e (is ∙ ap Some here) free out in
          ap (λ x. some_answer x q) (same none) ∙ ap (some_answer a) here ∙ absent
    ]

    pub turn_at : IsOnWay Then given last none first Still look goes comes none_goes none_comes nodes_before fans_before ends wired.parents (set nodes place new) then due_now b (place + 1)
    turn_at = record {
      walked = set on.walked place (showing (member_at mid place) new);
      way =
          walking.take_one Then given last none first Before ends index sources shown_wired to_first to_behind on.walked a place (walking.retold Turn Then given last none Before ends on.walked a place tells on.way)
          (showing (member_at fans_before place) n) (showing (member_at mid place) new) left answer b there turn
          (left_is ∙ ap (left_given first a) (sym (parent_shown (member_at fans_before place) n))) put;
      shared =
          fanning.shared_more look goes comes none first none_goes none_comes nodes_before fans_before wired.parents nodes fans a on.walked place on.shared n new at parent condition so_far replaced
          mid laid others answer then laid_on turned index b put absent there;
      alone = λ k m le e out. stills k m le (on.alone k m (omega (arith, le)) e (was_out k out));
      idle = λ k m le e out.
          fanning.half_idle look goes comes none first none_goes none_comes nodes_before fans_before wired.parents nodes fans a on.walked place on.shared n new at parent condition so_far replaced
          mid laid others answer then laid_on turned index b put absent due due_now waking k m le e (on.idle k m (omega (arith, le)) e (was_out k out)) out;
      got = got_now;
    }

  module _ (nodes : List NetNode) (fans : Fans) (due : List ℕ) (a : Answered D) (so_far : IsReplaced nodes_before nodes) where
    -- a node that is not due is passed over
    module _ (place : ℕ) (on : OnWay nodes fans due a place) (out : has_place due place ≡ false) (n : NetNode) (at : slice_get nodes place ≡ Some n) where
      was_there : slice_get nodes_before place ≡ Some n
      was_there = sym (on.shared.rest place (omega arith)) ∙ at

      alone : Alone place n
      alone = on.alone place n (omega arith) was_there out

      abbrev left : D
      left = left_given first a n.parent

      half : IsHalf look (goes left) (comes left) (member_at fans_before place) (member_at fans place) no_change
      half = subst (IsHalf look (goes left) (comes left) (member_at fans_before place) (member_at fans place)) (on.idle place n (omega arith) was_there out) (on.shared.halves place n (omega arith) was_there)

      nothing_left : (o : Option ℕ) → n.parent ≡ o → seat_at fans.seats.items place ≡ None → left_given first a o ≡ none
      nothing_left None is free = begun place n alone is
      nothing_left (Some q) is free = ap (given_or a.none) (on.got place q n (omega arith) was_there out is free) ∙ on.way.nothing

      unmoved : (o : Option Seat) → seat_at fans.seats.items place ≡ o → Turn place (showing (member_at fans_before place) n) (showing (member_at fans place) n) left none
      unmoved None free =
          let same : member_at fans place ≡ member_at fans_before place = ap (member_of fans.list.items) free ∙ sym (ap (member_of fans_before.list.items) (ap (λ l. seat_at l.items place) (sym on.shared.seats) ∙ free)) in
          subst (λ (o : Option Member). Turn place (showing (member_at fans_before place) n) (showing o n) left none) (sym same)
          (subst (λ (d : D). Turn place (showing (member_at fans_before place) n) (showing (member_at fans_before place) n) d none) (sym (nothing_left n.parent refl free)) (stays place n alone))
      unmoved (Some seat) there =
          let of = member_fits nodes fans on.shared.fans_are place n at in
          subst (λ (o : Option Seat). Turn place (showing (member_at fans_before place) n) (showing (member_of fans.list.items o) n) left none) (sym there)
          (rests place n (member_at fans_before place) fans.list.items seat left alone (ap (λ l. seat_at l.items place) (sym on.shared.seats) ∙ there) (subst (IsOfSeat n fans.list.items) there of)
          (subst (λ (o : Option Seat). IsHalf look (goes left) (comes left) (member_at fans_before place) (member_of fans.list.items o) no_change) there half))

      pass_one : OnWay nodes fans due a (place + 1)
      pass_one =
          subst (λ (ns : List NetNode). OnWay ns fans due a (place + 1)) (set_itself nodes place n at)
          (turn_at nodes fans due a place on Turn Alone (λ k lt old new l d turn. turn) (λ k m le alone. alone) n n at refl refl so_far (walking.replaced_more nodes nodes place n n (walking.not_replaced nodes) at refl refl)
          fans (laid_same fans fans refl refl refl refl) (λ seat away. (refl, refl)) left none refl (unmoved (seat_at fans.seats.items place) refl)
          fans (laid_same fans fans refl refl refl refl) (λ ns are. none_turned look place (goes none) (comes none) fans none_goes none_comes)
          a (record {
            none = refl;
            others = λ k other. refl;
            here = λ absent. ap (given_or a.none) absent ∙ on.way.nothing;
            rules_still = λ rule h. h;
            rules = λ rule listed out. refl;
          }) (λ e. refl)
          due (λ ns are. record {
            still = λ k h. h;
            lone = λ k listed out. ap (λ rows. are_none rows (comes none)) none_goes ∙ ap (are_none []) none_comes;
            members = λ seat fan k found behind there idle out. idle;
          }))

    -- and so are all before a place
    pass_all : (far next : ℕ) → OnWay nodes fans due a next → next + far ≤ length nodes → ((k : ℕ) → next ≤ k → k < next + far → has_place due k ≡ false) → OnWay nodes fans due a (next + far)
    pass_all zero next on h out = let same : next ≡ next + 0 = omega arith in subst (OnWay nodes fans due a) same on
    pass_all (suc far) next on h out =
        let n = get-below nodes next (omega arith) in
        let one = pass_one next on (out next (omega arith) (omega arith)) n.0 n.1 in
        let same : (next + 1) + far ≡ next + suc far = omega arith in
        subst (OnWay nodes fans due a) same (pass_all far (next + 1) one (omega arith) (λ k le lt. out k (omega arith) (omega arith)))

    pass_to : (next place : ℕ) → OnWay nodes fans due a next → next ≤ place → place ≤ length nodes → ((k : ℕ) → next ≤ k → k < place → has_place due k ≡ false) → OnWay nodes fans due a place
    pass_to next place on le h out =
        let far : next + (place - next) ≡ place = omega arith in
        subst (OnWay nodes fans due a) far (pass_all (place - next) next on (omega arith) (λ k le lt. out k le (omega arith)))

    pub come_to_end : (next : ℕ) → OnWay nodes fans due a next → next ≤ length nodes_before → ((k : ℕ) → next ≤ k → k < length nodes_before → has_place due k ≡ false)
        → walking.IsUnderWay Turn given last none Before ends (with_fans nodes fans) a (length Before)
    come_to_end next on le out =
        let many = so_far.many in
        let end = pass_to next (length nodes_before) on le (omega (arith, many)) out in
        subst (λ (ns : List NetNode). walking.IsUnderWay Turn given last none Before ends ns a (length Before))
        (fanning.shared_ends look goes comes none first none_goes none_comes nodes_before fans_before wired.parents nodes fans a end.walked end.shared end.way.rest)
        (subst (walking.IsUnderWay Turn given last none Before ends end.walked a) (sym (shown_length (member_at fans_before) nodes_before)) end.way)

    module _ (next : ℕ) (on : OnWay nodes fans due a next) (place : ℕ) (le : next ≤ place) (within : place ≤ length nodes_before) (out : (k : ℕ) → next ≤ k → k < place → has_place due k ≡ false)
        (Then : ℕ → NetNode → NetNode → D → D → Type 0) (Still : ℕ → NetNode → Type 0) (tells : (k : ℕ) → k < place → (old new : NetNode) (left answer : D) → Turn k old new left answer → Then k old new left answer)
        (stills : (k : ℕ) (n : NetNode) → place + 1 ≤ k → Alone k n → Still k n)
        (n new : NetNode) (at : slice_get nodes place ≡ Some n) (parent : new.parent ≡ n.parent) (condition : condition_of new.node ≡ condition_of n.node) (replaced : IsReplaced nodes (set nodes place new))
        (mid : Fans) (laid : IsLaidAs fans mid) (others : (seat : Seat) → (seat_at fans.seats.items place ≡ Some seat → ⊥) → IsLeft fans mid seat)
        (left answer : D) (left_is : left ≡ left_given first a n.parent)
        (turn : (was : Option Member) → IsOfSeat n fans.list.items (seat_at fans.seats.items place) → IsHalf look (goes left) (comes left) was (member_at fans place) (half_of fans (seat_at fans.seats.items place))
        → Then place (showing was n) (showing (member_at mid place) new) left answer)
        (then : Fans) (laid_on : IsLaidAs mid then) (turned : (ns : List NetNode) → AreFans ns mid → AreFanRowsTurned look place (goes answer) (comes answer) mid then)
        (b : Answered D) (put : a.none ≡ none → IsAnswerPut index place answer a b) (same : are_none (goes answer) (comes answer) ≡ true → b ≡ a)
        (due_now : List ℕ) (woken : (ns : List NetNode) → AreFans ns mid → AreWoken place (goes answer) (comes answer) mid then due due_now) where
      here : OnWay nodes fans due a place
      here = let many = so_far.many in pass_to next place on le (omega (arith, many, within)) out

      halved : IsHalf look (goes left) (comes left) (member_at fans_before place) (member_at fans place) (half_of fans (seat_at fans.seats.items place))
      halved =
          subst (λ (d : D). IsHalf look (goes d) (comes d) (member_at fans_before place) (member_at fans place) (half_of fans (seat_at fans.seats.items place))) (sym left_is)
          (here.shared.halves place n (omega arith) (sym (here.shared.rest place (omega arith)) ∙ at))

      pub step_at : IsOnWay Then given last none first Still look goes comes none_goes none_comes nodes_before fans_before ends wired.parents (set nodes place new) then due_now b (place + 1)
      step_at =
          turn_at nodes fans due a place here Then Still tells stills n new at parent condition so_far replaced mid laid others left answer left_is
          (turn (member_at fans_before place) (member_fits nodes fans here.shared.fans_are place n at) halved)
          then laid_on turned b (put here.way.nothing) same due_now woken
