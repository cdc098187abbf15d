-- A walk over nodes of which some are members of fans. A member that is still to come stands in the walk as it was, though the rows that it shares
-- may have left and come already.
use Rattle.rete_net.proofs.Common.{◌≡◌, ◌∙◌, sym, ap, refl, subst, ℕ, ◌+◌, ◌<◌, ◌≤◌, arith, List, [], length, Option, Some, None, slice_get, ◌⊎◌, inl, inr, set}
use Rattle.rete_net.proofs.Common.{slice_get_within, option_map, Row, Plain, Pattern, Look, Candidates, row_key, condition_of, Answered, Fan, Fans, Seat, Index}
use Rattle.rete_net.proofs.Common.{NetNode, answer_in, left_given, some_answer, IsAnswerPut, half_at, half_of, in_fan, member_at, member_of, seat_at, showing}
use Rattle.rete_net.proofs.Common.{with_fans, AreFans, AreFanRowsTurned, IsFanLike, IsHalf, IsLaidAs, IsLeft, IsOfSeat, Member, no_change, IsReplaced, true}
use Rattle.rete_net.proofs.{Common.{false, are_none, Lists, is_listed, has_place, AreWoken}, Showing.{same_lists, shown_at, shown_none}}
use Rattle.{rete_net.{specs.Answers.{given as kept}, proofs.{Siblings.{half_none}, Walking.{equal_or_not}}}, fx_base.proofs.Orders.{below_or_last}}
use Rattle.fx_base.proofs.Sequences.{get-below, get-set_other, get-set_same, one_value}

-- ---- where members stand

-- the node in a place is of the pattern of the member that it is
pub member_fits : (nodes : List NetNode) (fans : Fans) → AreFans nodes fans → (k : ℕ) (n : NetNode) → slice_get nodes k ≡ Some n → IsOfSeat n fans.list.items (seat_at fans.seats.items k)
member_fits nodes fans are k n e = by (seat_at fans.seats.items k) refl
  where
    by : (o : Option Seat) → seat_at fans.seats.items k ≡ o → IsOfSeat n fans.list.items o
    by None none = tt
    by (Some seat) there =
        let is = are.below.seats k n seat e there in (
          record { left = is.fan.join.left; own = is.own },
          ap (in_fan seat.member) is.found ∙ ap (option_map (λ (c : Candidates). record { left = is.fan.join.left; own = c })) is.member,
          is.pattern,
        )

-- two nodes have two seats
pub one_seat : (nodes : List NetNode) (fans : Fans) → AreFans nodes fans → (j k : ℕ) (m n : NetNode) (seat : Seat) → slice_get nodes j ≡ Some m → slice_get nodes k ≡ Some n
    → seat_at fans.seats.items j ≡ Some seat → seat_at fans.seats.items k ≡ Some seat → j ≡ k
one_seat nodes fans are j k m n seat e f g h =
    let one = are.below.seats j m seat e g in
    let two = are.below.seats k n seat f h in
    let same : one.fan ≡ two.fan = one_value (slice_get fans.list.items seat.fan) one.fan two.fan one.found two.found in
    one_value (slice_get two.fan.places.items seat.member) j k (ap (λ (fan : Fan). slice_get fan.places.items seat.member) (sym same) ∙ one.place) two.place

-- ---- fans that are laid as others

pub laid_then : (a b c : Fans) → IsLaidAs a b → IsLaidAs b c → IsLaidAs a c
laid_then a b c ab bc = record {
  seats = bc.seats ∙ ab.seats;
  spans = bc.spans ∙ ab.spans;
  lone = bc.lone ∙ ab.lone;
  many = bc.many ∙ ab.many;
  each = λ f x z e g.
      let many = ab.many in
      let within : f < length a.list.items = slice_get_within a.list.items f x e in
      let y = get-below b.list.items f (omega (arith, many, within)) in
      like_then x y.0 z (ab.each f x y.0 e y.1) (bc.each f y.0 z y.1 g);
}
  where
    like_then : (x y z : Fan) → IsFanLike x y → IsFanLike y z → IsFanLike x z
    like_then x y z xy yz = record {
      parent = yz.parent ∙ xy.parent;
      places = yz.places ∙ xy.places;
      key = yz.key ∙ xy.key;
      many = yz.many ∙ xy.many;
      patterns = λ m c e h g.
          let many = xy.many in
          let within : m < length x.join.members.items = slice_get_within x.join.members.items m c h in
          let d = get-below y.join.members.items m (omega (arith, many, within)) in
          yz.patterns m d.0 e d.1 g ∙ xy.patterns m c d.0 h d.1;
      reached = λ all. yz.reached (xy.reached all);
    }

pub laid_same : (a b : Fans) → b.seats ≡ a.seats → b.spans ≡ a.spans → b.lone ≡ a.lone → b.list ≡ a.list → IsLaidAs a b
laid_same a b seats spans lone list = record {
  seats = seats;
  spans = spans;
  lone = lone;
  many = ap (λ l. length l.items) list;
  each = λ f x y e g. like x y (one_value (slice_get a.list.items f) x y e (ap (λ l. slice_get l.items f) (sym list) ∙ g));
}
  where
    like : (x y : Fan) → x ≡ y → IsFanLike x y
    like x y same = subst (IsFanLike x) same (record { parent = refl; places = refl; key = refl; many = refl; patterns = λ m c d e g. ap (λ (z : Candidates). z.pattern) (one_value (slice_get x.join.members.items m) d c g e); reached = λ all. all })

-- nodes in the places of others, with fans laid as theirs, have these fans
pub fans_again : (nodes nodes_now : List NetNode) (fans fans_now : Fans) → IsReplaced nodes nodes_now → IsLaidAs fans fans_now → AreFans nodes fans → AreFans nodes_now fans_now
fans_again nodes nodes_now fans fans_now replaced laid are = record {
  below = record {
    many = ap (λ l. length l.items) laid.seats ∙ are.below.many ∙ sym replaced.many;
    seats = λ k n seat e h.
        let many = replaced.many in
        let within : k < length nodes_now = slice_get_within nodes_now k n e in
        let o = get-below nodes k (omega (arith, many, within)) in
        let is = are.below.seats k o.0 seat o.1 (ap (λ l. seat_at l.items k) (sym laid.seats) ∙ h) in
        let fan = fan_now seat.fan is.fan is.found in
        let like = laid.each seat.fan is.fan fan.0 is.found fan.1 in
        let long = like.many in
        let here : seat.member < length is.fan.join.members.items = slice_get_within is.fan.join.members.items seat.member is.own is.member in
        let own = get-below fan.0.join.members.items seat.member (omega (arith, long, here)) in
        record {
          fan = fan.0;
          found = fan.1;
          own = own.0;
          member = own.1;
          place = ap (λ l. slice_get l.items seat.member) like.places ∙ is.place;
          parent = replaced.parent k o.0 n o.1 e ∙ is.parent ∙ ap Some (sym like.parent);
          pattern = replaced.condition k o.0 n o.1 e ∙ is.pattern ∙ ap Plain (sym (like.patterns seat.member is.own own.0 is.member own.1));
        };
    places = λ f m k fan e h.
        let o = fan_was f fan e in
        let like = laid.each f o.0 fan o.1 e in
        ap (λ l. seat_at l.items k) laid.seats ∙ are.below.places f m k o.0 o.1 (ap (λ l. slice_get l.items m) (sym like.places) ∙ h);
    counts = λ f fan e.
        let o = fan_was f fan e in
        let like = laid.each f o.0 fan o.1 e in
        ap (λ l. length l.items) like.places ∙ are.below.counts f o.0 o.1 ∙ sym like.many;
    beside = λ f fan e k c h.
        let o = fan_was f fan e in
        let like = laid.each f o.0 fan o.1 e in
        let long = like.many in
        let within : k < length fan.join.members.items = slice_get_within fan.join.members.items k c h in
        let own = get-below o.0.join.members.items k (omega (arith, long, within)) in
        ap (λ (q : Pattern). row_key q) (like.patterns k own.0 c own.1 h) ∙ are.below.beside f o.0 o.1 k own.0 own.1 ∙ sym like.key;
    reached = λ f fan e.
        let o = fan_was f fan e in
        (laid.each f o.0 fan o.1 e).reached (are.below.reached f o.0 o.1);
    spanned = λ f p fan span e h inside.
        let o = fan_was f fan e in
        (laid.each f o.0 fan o.1 e).parent ∙ are.below.spanned f p o.0 span o.1 (ap (λ l. slice_get l.items p) (sym laid.spans) ∙ h) inside;
  };
  lone = λ k parent n e is free.
      let many = replaced.many in
      let within : k < length nodes_now = slice_get_within nodes_now k n e in
      let o = get-below nodes k (omega (arith, many, within)) in
      ap (λ (l : Lists). is_listed l parent k) laid.lone ∙ are.lone k parent o.0 o.1 (sym (replaced.parent k o.0 n o.1 e) ∙ is) (ap (λ l. seat_at l.items k) (sym laid.seats) ∙ free);
  behind = λ f fan e.
      let o = fan_was f fan e in
      let like = laid.each f o.0 fan o.1 e in
      let was = are.behind f o.0 o.1 in
      (was.0, ap (λ l. slice_get l.items fan.parent) laid.spans ∙ ap (slice_get fans.spans.items) like.parent ∙ was.1, was.2);
}
  where
    fan_now : (f : ℕ) (fan : Fan) → slice_get fans.list.items f ≡ Some fan → (now : Fan) × (slice_get fans_now.list.items f ≡ Some now)
    fan_now f fan e =
        let many = laid.many in
        let within : f < length fans.list.items = slice_get_within fans.list.items f fan e in
        get-below fans_now.list.items f (omega (arith, many, within))

    fan_was : (f : ℕ) (fan : Fan) → slice_get fans_now.list.items f ≡ Some fan → (was : Fan) × (slice_get fans.list.items f ≡ Some was)
    fan_was f fan e =
        let many = laid.many in
        let within : f < length fans_now.list.items = slice_get_within fans_now.list.items f fan e in
        get-below fans.list.items f (omega (arith, many, within))

-- ---- a walk

module _ {D : Type 0} (look : Look) (goes comes : D → List Row) (none first : D) (none_goes : goes none ≡ []) (none_comes : comes none ≡ []) (nodes_before : List NetNode) (fans_before : Fans)
    (parents : (k parent : ℕ) (n : NetNode) → slice_get nodes_before k ≡ Some n → n.parent ≡ Some parent → parent < k) where
  abbrev before : List NetNode
  before = with_fans nodes_before fans_before

  -- The walk has come to a place, and `walked` are the nodes as it knows them: those before are as they stand now; those from there on are as they
  -- were, but that rows which a member shares left and came where its parent answered something.
  pub record IsShared (nodes : List NetNode) (fans : Fans) (a : Answered D) (next : ℕ) (walked : List NetNode) : Type 0 where
    pub done : (k : ℕ) → k < next → slice_get walked k ≡ slice_get (with_fans nodes fans) k
    pub rest : (k : ℕ) → next ≤ k → slice_get nodes k ≡ slice_get nodes_before k
    pub halves : (k : ℕ) (n : NetNode) → next ≤ k → slice_get nodes_before k ≡ Some n
        → IsHalf look (goes (left_given first a n.parent)) (comes (left_given first a n.parent)) (member_at fans_before k) (member_at fans k) (half_of fans (seat_at fans.seats.items k))
    pub still : (k parent : ℕ) (n : NetNode) → next ≤ k → slice_get nodes_before k ≡ Some n → n.parent ≡ Some parent → some_answer a parent ≡ None
        → (member_at fans k ≡ member_at fans_before k) × (half_of fans (seat_at fans.seats.items k) ≡ no_change)
    pub fans_are : AreFans nodes fans
    pub seats : fans.seats ≡ fans_before.seats
    pub nothing : a.none ≡ none

  -- a node without a parent is no member
  no_member : (nodes : List NetNode) (fans : Fans) → AreFans nodes fans → (k : ℕ) (n : NetNode) → slice_get nodes k ≡ Some n → n.parent ≡ None → seat_at fans.seats.items k ≡ None
  no_member nodes fans are k n e none_before = by (seat_at fans.seats.items k) refl
    where
      by : (o : Option Seat) → seat_at fans.seats.items k ≡ o → o ≡ None
      by None there = refl
      by (Some seat) there = absurd (let no : None ≡ Some (are.below.seats k n seat e there).fan.parent = sym none_before ∙ (are.below.seats k n seat e there).parent in cc)

  -- at the start
  pub shared_begins : (fans : Fans) (a : Answered D) → AreFans nodes_before fans_before → fans.seats ≡ fans_before.seats → fans.spans ≡ fans_before.spans → fans.lone ≡ fans_before.lone → fans.list ≡ fans_before.list → ((seat : Seat) → half_at fans seat ≡ no_change)
      → a.none ≡ none → ((k : ℕ) → some_answer a k ≡ None) → IsShared nodes_before fans a 0 before
  shared_begins fans a are seats spans lone list halves nothing unanswered = record {
    done = λ k lt. absurd (omega (arith, lt));
    rest = λ k le. refl;
    halves = λ k n le e. begun k n e n.parent refl;
    still = λ k parent n le e is empty. (same k, half k);
    fans_are = fans_again nodes_before nodes_before fans_before fans (record { many = refl; parent = λ k x y e f. ap (λ (n : NetNode). n.parent) (one_value (slice_get nodes_before k) y x f e); condition = λ k x y e f. ap (λ (n : NetNode). condition_of n.node) (one_value (slice_get nodes_before k) y x f e) })
        (laid_same fans_before fans seats spans lone list) are;
    seats = seats;
    nothing = nothing;
  }
    where
      same : (k : ℕ) → member_at fans k ≡ member_at fans_before k
      same k = ap (λ l. member_of l.items (seat_at fans.seats.items k)) list ∙ ap (λ l. member_of fans_before.list.items (seat_at l.items k)) seats

      half : (k : ℕ) → half_of fans (seat_at fans.seats.items k) ≡ no_change
      half k = by (seat_at fans.seats.items k)
        where
          by : (o : Option Seat) → half_of fans o ≡ no_change
          by None = refl
          by (Some seat) = halves seat

      stays : (k : ℕ) → IsHalf look [] [] (member_at fans_before k) (member_at fans k) (half_of fans (seat_at fans.seats.items k))
      stays k =
          subst (λ (o : Option Member). IsHalf look [] [] (member_at fans_before k) o (half_of fans (seat_at fans.seats.items k))) (sym (same k))
          (subst (IsHalf look [] [] (member_at fans_before k) (member_at fans_before k)) (sym (half k)) (half_none look (member_at fans_before k)))

      begun : (k : ℕ) (n : NetNode) → slice_get nodes_before k ≡ Some n → (parent : Option ℕ) → n.parent ≡ parent
          → IsHalf look (goes (left_given first a parent)) (comes (left_given first a parent)) (member_at fans_before k) (member_at fans k) (half_of fans (seat_at fans.seats.items k))
      begun k n e None at =
          let gone = no_member nodes_before fans_before are k n e at in
          let gone_now : seat_at fans.seats.items k ≡ None = ap (λ l. seat_at l.items k) seats ∙ gone in
          subst (λ (o : Option Seat). IsHalf look (goes first) (comes first) (member_of fans_before.list.items o) (member_at fans k) (half_of fans (seat_at fans.seats.items k))) (sym gone)
          (subst (λ (o : Option Seat). IsHalf look (goes first) (comes first) None (member_of fans.list.items o) (half_of fans o)) (sym gone_now) tt)
      begun k n e (Some q) at =
          let is : answer_in a q ≡ none = ap (kept a.none) (unanswered q) ∙ nothing in
          subst (λ (d : D). IsHalf look (goes d) (comes d) (member_at fans_before k) (member_at fans k) (half_of fans (seat_at fans.seats.items k))) (sym is)
          (subst (λ (rows : List Row). IsHalf look rows (comes none) (member_at fans_before k) (member_at fans k) (half_of fans (seat_at fans.seats.items k))) (sym none_goes)
          (subst (λ (rows : List Row). IsHalf look [] rows (member_at fans_before k) (member_at fans k) (half_of fans (seat_at fans.seats.items k))) (sym none_comes) (stays k)))

  module _ (nodes : List NetNode) (fans : Fans) (a : Answered D) (walked : List NetNode) where
    -- at the end the nodes are as the walk knows them
    pub shared_ends : IsShared nodes fans a (length nodes_before) walked → ((k : ℕ) → length nodes_before ≤ k → slice_get walked k ≡ slice_get before k) → walked ≡ with_fans nodes fans
    shared_ends is rest = same_lists walked (with_fans nodes fans) (λ k. by k (below_or_from k (length nodes_before)))
      where
        below_or_from : (k i : ℕ) → (k < i) ⊎ (i ≤ k)
        below_or_from k i = grind arith

        over : (k : ℕ) → length nodes_before ≤ k → slice_get nodes_before k ≡ None
        over k far = out (slice_get nodes_before k) refl
          where
            out : (o : Option NetNode) → slice_get nodes_before k ≡ o → o ≡ None
            out None e = refl
            out (Some n) e = absurd (let within : k < length nodes_before = slice_get_within nodes_before k n e in omega (arith, within, far))

        by : (k : ℕ) → (k < length nodes_before) ⊎ (length nodes_before ≤ k) → slice_get walked k ≡ slice_get (with_fans nodes fans) k
        by k (inl low) = is.done k low
        by k (inr far) = rest k far ∙ shown_none (member_at fans_before) nodes_before k (over k far) ∙ sym (shown_none (member_at fans) nodes k (is.rest k far ∙ over k far))

    -- a node takes its turn, with what it keeps as a member, and then the fans behind it turn their rows
    module _ (place : ℕ) (is : IsShared nodes fans a place walked) (n new : NetNode) (at : slice_get nodes place ≡ Some n) (parent : new.parent ≡ n.parent) (condition : condition_of new.node ≡ condition_of n.node)
        (so_far : IsReplaced nodes_before nodes) (replaced : IsReplaced nodes (set nodes place new))
        (mid : Fans) (laid : IsLaidAs fans mid) (others : (seat : Seat) → (seat_at fans.seats.items place ≡ Some seat → ⊥) → IsLeft fans mid seat)
        (answer : D) (then : Fans) (laid_on : IsLaidAs mid then) (turned : (ns : List NetNode) → AreFans ns mid → AreFanRowsTurned look place (goes answer) (comes answer) mid then)
        (index : Index) (b : Answered D) (put : IsAnswerPut index place answer a b) (absent : some_answer a place ≡ None) where
      was : slice_get nodes_before place ≡ Some n
      was = sym (is.rest place (omega arith)) ∙ at

      mid_are : AreFans nodes mid
      mid_are = fans_again nodes nodes fans mid (record { many = refl; parent = λ k x y e f. ap (λ (m : NetNode). m.parent) (one_value (slice_get nodes k) y x f e); condition = λ k x y e f. ap (λ (m : NetNode). condition_of m.node) (one_value (slice_get nodes k) y x f e) })
          laid is.fans_are

      told : AreFanRowsTurned look place (goes answer) (comes answer) mid then
      told = turned nodes mid_are

      -- another node's seat is another one
      other_seat : (k : ℕ) (m : NetNode) (seat : Seat) → slice_get nodes k ≡ Some m → (k ≡ place → ⊥) → seat_at fans.seats.items k ≡ Some seat → seat_at fans.seats.items place ≡ Some seat → ⊥
      other_seat k m seat e other h g = other (one_seat nodes fans is.fans_are k place m n seat e at h g)

      seat_mid : (k : ℕ) → seat_at mid.seats.items k ≡ seat_at fans.seats.items k
      seat_mid k = ap (λ l. seat_at l.items k) laid.seats

      seat_then : (k : ℕ) → seat_at then.seats.items k ≡ seat_at fans.seats.items k
      seat_then k = ap (λ l. seat_at l.items k) laid_on.seats ∙ seat_mid k

      -- a seat of a node that is not behind this one is left by the rows
      not_behind : (k : ℕ) (m : NetNode) (seat : Seat) → slice_get nodes k ≡ Some m → (m.parent ≡ Some place → ⊥) → seat_at fans.seats.items k ≡ Some seat → IsLeft mid then seat
      not_behind k m seat e other h =
          let stands = mid_are.below.seats k m seat e (seat_mid k ∙ h) in
          told.others seat stands.fan stands.found (λ same. other (stands.parent ∙ ap Some same))

      -- no node up to this one is behind it
      not_later : (k : ℕ) (m : NetNode) → slice_get nodes k ≡ Some m → k ≤ place → m.parent ≡ Some place → ⊥
      not_later k m e le behind =
          let many = so_far.many in
          let within : k < length nodes = slice_get_within nodes k m e in
          let o = get-below nodes_before k (omega (arith, many, within)) in
          let lt = parents k place o.0 o.1 (sym (so_far.parent k o.0 m o.1 e) ∙ behind) in
          absurd (omega (arith, lt, le))

      -- a member whose node is neither this one nor behind it is left alone
      left_alone : (k : ℕ) (m : NetNode) → slice_get nodes k ≡ Some m → (k ≡ place → ⊥) → (m.parent ≡ Some place → ⊥)
          → (member_at then k ≡ member_at fans k) × (half_of then (seat_at then.seats.items k) ≡ half_of fans (seat_at fans.seats.items k))
      left_alone k m e other away = by (seat_at fans.seats.items k) refl
        where
          by : (o : Option Seat) → seat_at fans.seats.items k ≡ o → (member_at then k ≡ member_at fans k) × (half_of then (seat_at then.seats.items k) ≡ half_of fans (seat_at fans.seats.items k))
          by None none = (
            ap (member_of then.list.items) (seat_then k ∙ none) ∙ sym (ap (member_of fans.list.items) none),
            ap (half_of then) (seat_then k ∙ none) ∙ sym (ap (half_of fans) none),
          )
          by (Some seat) there =
              let one = others seat (other_seat k m seat e other there) in
              let two = not_behind k m seat e away there in (
                ap (member_of then.list.items) (seat_then k ∙ there) ∙ two.0 ∙ one.0 ∙ sym (ap (member_of fans.list.items) there),
                ap (half_of then) (seat_then k ∙ there) ∙ two.1 ∙ one.1 ∙ sym (ap (half_of fans) there),
              )

      -- the node keeps what it then keeps
      here_still : member_at then place ≡ member_at mid place
      here_still = by (seat_at fans.seats.items place) refl
        where
          by : (o : Option Seat) → seat_at fans.seats.items place ≡ o → member_at then place ≡ member_at mid place
          by None none = ap (member_of then.list.items) (seat_then place ∙ none) ∙ sym (ap (member_of mid.list.items) (seat_mid place ∙ none))
          by (Some seat) there =
              ap (member_of then.list.items) (seat_then place ∙ there) ∙ (not_behind place n seat at (not_later place n at (omega arith)) there).0
              ∙ sym (ap (member_of mid.list.items) (seat_mid place ∙ there))

      -- a node that is not due has no half
      pub half_idle : (due due_now : List ℕ) → AreWoken place (goes answer) (comes answer) mid then due due_now → (k : ℕ) (m : NetNode) → place + 1 ≤ k → slice_get nodes_before k ≡ Some m
          → half_of fans (seat_at fans.seats.items k) ≡ no_change → has_place due_now k ≡ false → half_of then (seat_at then.seats.items k) ≡ no_change
      half_idle due due_now woken k m le e idle out = by m.parent refl
        where
          e_now : slice_get nodes k ≡ Some m
          e_now = is.rest k (omega (arith, le)) ∙ e

          away : (m.parent ≡ Some place → ⊥) → half_of then (seat_at then.seats.items k) ≡ no_change
          away other = (left_alone k m e_now (λ same. absurd (omega (arith, same, le))) other).1 ∙ idle

          behind : (o : Option Seat) → seat_at fans.seats.items k ≡ o → m.parent ≡ Some place → half_of then (seat_at then.seats.items k) ≡ no_change
          behind None none is_behind = ap (half_of then) (seat_then k ∙ none)
          behind (Some seat) there is_behind =
              let one = others seat (other_seat k m seat e_now (λ same. absurd (omega (arith, same, le))) there) in
              let stands = mid_are.below.seats k m seat e_now (seat_mid k ∙ there) in
              let own_parent : Some stands.fan.parent ≡ Some place = sym stands.parent ∙ is_behind in
              let parent_is : stands.fan.parent ≡ place = cc in
              ap (half_of then) (seat_then k ∙ there) ∙ woken.members seat stands.fan k stands.found parent_is stands.place (one.1 ∙ sym (ap (half_of fans) there) ∙ idle) out

          by : (parent : Option ℕ) → m.parent ≡ parent → half_of then (seat_at then.seats.items k) ≡ no_change
          by None none = away (λ there. let no : None ≡ Some place = sym none ∙ there in absurd cc)
          by (Some q) there = elim (equal_or_not q place) [
            | inl same ↦ behind (seat_at fans.seats.items k) refl (there ∙ ap Some same)
            | inr other ↦ away (λ is_behind. let both : Some q ≡ Some place = sym there ∙ is_behind in let same : q ≡ place = cc in other same)
          ]

      -- a child that keeps rows of its own is due, unless the node answers nothing
      pub child_idle : (due due_now : List ℕ) → AreWoken place (goes answer) (comes answer) mid then due due_now → (k : ℕ) (m : NetNode) → place + 1 ≤ k → slice_get nodes_before k ≡ Some m → m.parent ≡ Some place
          → seat_at then.seats.items k ≡ None → has_place due_now k ≡ false → are_none (goes answer) (comes answer) ≡ true
      child_idle due due_now woken k m le e is_behind free out =
          woken.lone k (mid_are.lone k place m (is.rest k (omega (arith, le)) ∙ e) is_behind (seat_mid k ∙ sym (seat_then k) ∙ free)) out

      abbrev nodes_now : List NetNode
      nodes_now = set nodes place new

      abbrev walked_now : List NetNode
      walked_now = set walked place (showing (member_at mid place) new)

      walked_there : slice_get walked place ≡ Some (showing (member_at fans_before place) n) → slice_get walked_now place ≡ Some (showing (member_at mid place) new)
      walked_there there = get-set_same walked place (showing (member_at mid place) new) (showing (member_at fans_before place) n) there

      answer_is : answer_in b place ≡ answer
      answer_is = ap (λ x. kept x (some_answer b place)) put.none ∙ put.here absent

      answer_other : (q : ℕ) → (q ≡ place → ⊥) → answer_in b q ≡ answer_in a q
      answer_other q other = ap (λ x. kept x (some_answer b q)) put.none ∙ ap (kept a.none) (put.others q other)

      -- nodes before: as the walk knows them
      done_now : slice_get walked place ≡ Some (showing (member_at fans_before place) n) → (k : ℕ) → k < place + 1 → slice_get walked_now k ≡ slice_get (with_fans nodes_now then) k
      done_now there k lt = elim (below_or_last k place lt) [
        | inl low ↦ before_it k low (slice_get nodes k) refl
        | inr same ↦
            ap (slice_get walked_now) same ∙ walked_there there ∙ ap (λ (o : Option Member). Some (showing o new)) (sym here_still)
            ∙ sym (shown_at (member_at then) nodes_now place new (get-set_same nodes place new n at)) ∙ ap (slice_get (with_fans nodes_now then)) (sym same)
      ]
        where
          before_it : (k : ℕ) → k < place → (o : Option NetNode) → slice_get nodes k ≡ o → slice_get walked_now k ≡ slice_get (with_fans nodes_now then) k
          before_it k low None none =
              absurd (let lt : place < length nodes = slice_get_within nodes place n at in let h = get-below nodes k (omega (arith, lt, low)) in let no : None ≡ Some h.0 = sym none ∙ h.1 in cc)
          before_it k low (Some m) e =
              get-set_other walked place k (showing (member_at mid place) new) (λ same. absurd (omega (arith, same, low)))
              ∙ is.done k low ∙ shown_at (member_at fans) nodes k m e
              ∙ ap (λ (o : Option Member). Some (showing o m)) (sym (left_alone k m e (λ same. absurd (omega (arith, same, low))) (not_later k m e (omega (arith, low)))).0)
              ∙ sym (shown_at (member_at then) nodes_now k m (get-set_other nodes place k new (λ same. absurd (omega (arith, same, low))) ∙ e))

      -- a member behind the node has its half
      behind_it : (k : ℕ) (m : NetNode) → place + 1 ≤ k → slice_get nodes_before k ≡ Some m → m.parent ≡ Some place
          → IsHalf look (goes answer) (comes answer) (member_at fans_before k) (member_at then k) (half_of then (seat_at then.seats.items k))
      behind_it k m le e is_behind = by (seat_at fans.seats.items k) refl
        where
          e_now : slice_get nodes k ≡ Some m
          e_now = is.rest k (omega (arith, le)) ∙ e

          same_before : (member_at fans k ≡ member_at fans_before k) × (half_of fans (seat_at fans.seats.items k) ≡ no_change)
          same_before = is.still k place m (omega (arith, le)) e is_behind absent

          by : (o : Option Seat) → seat_at fans.seats.items k ≡ o → IsHalf look (goes answer) (comes answer) (member_at fans_before k) (member_at then k) (half_of then (seat_at then.seats.items k))
          by None none =
              let none_before : seat_at fans_before.seats.items k ≡ None = ap (λ l. seat_at l.items k) (sym is.seats) ∙ none in
              subst (λ (o : Option Seat). IsHalf look (goes answer) (comes answer) (member_of fans_before.list.items o) (member_at then k) (half_of then (seat_at then.seats.items k))) (sym none_before)
              (subst (λ (o : Option Seat). IsHalf look (goes answer) (comes answer) None (member_of then.list.items o) (half_of then o)) (sym (seat_then k ∙ none)) tt)
          by (Some seat) there =
              let one = others seat (other_seat k m seat e_now (λ same. absurd (omega (arith, same, le))) there) in
              let stands = mid_are.below.seats k m seat e_now (seat_mid k ∙ there) in
              let own_parent : Some stands.fan.parent ≡ Some place = sym stands.parent ∙ is_behind in
              let parent_is : stands.fan.parent ≡ place = cc in
              let half : half_at mid seat ≡ no_change = one.1 ∙ sym (ap (half_of fans) there) ∙ same_before.1 in
              let turn = told.turned seat stands.fan stands.found parent_is half in
              let member : member_of mid.list.items (Some seat) ≡ member_at fans_before k = one.0 ∙ sym (ap (member_of fans.list.items) there) ∙ same_before.0 in
              subst (λ (o : Option Seat). IsHalf look (goes answer) (comes answer) (member_at fans_before k) (member_of then.list.items o) (half_of then o)) (sym (seat_then k ∙ there))
              (subst (λ (o : Option Member). IsHalf look (goes answer) (comes answer) o (member_of then.list.items (Some seat)) (half_at then seat)) member turn)

      halves_now : (k : ℕ) (m : NetNode) → place + 1 ≤ k → slice_get nodes_before k ≡ Some m → (parent : Option ℕ) → m.parent ≡ parent
          → IsHalf look (goes (left_given first b parent)) (comes (left_given first b parent)) (member_at fans_before k) (member_at then k) (half_of then (seat_at then.seats.items k))
      halves_now k m le e o is_behind = by o is_behind
        where
          e_now : slice_get nodes k ≡ Some m
          e_now = is.rest k (omega (arith, le)) ∙ e

          same_half : (m.parent ≡ Some place → ⊥) → IsHalf look (goes (left_given first a m.parent)) (comes (left_given first a m.parent)) (member_at fans_before k) (member_at then k) (half_of then (seat_at then.seats.items k))
          same_half away =
              let alone = left_alone k m e_now (λ same. absurd (omega (arith, same, le))) away in
              subst (λ (x : Option Member). IsHalf look (goes (left_given first a m.parent)) (comes (left_given first a m.parent)) (member_at fans_before k) x (half_of then (seat_at then.seats.items k))) (sym alone.0)
              (subst (IsHalf look (goes (left_given first a m.parent)) (comes (left_given first a m.parent)) (member_at fans_before k) (member_at fans k)) (sym alone.1) (is.halves k m (omega (arith, le)) e))

          by : (parent : Option ℕ) → m.parent ≡ parent → IsHalf look (goes (left_given first b parent)) (comes (left_given first b parent)) (member_at fans_before k) (member_at then k) (half_of then (seat_at then.seats.items k))
          by None none =
              subst (λ (x : Option ℕ). IsHalf look (goes (left_given first a x)) (comes (left_given first a x)) (member_at fans_before k) (member_at then k) (half_of then (seat_at then.seats.items k))) none
              (same_half (λ there. let no : None ≡ Some place = sym none ∙ there in absurd cc))
          by (Some q) there = elim (equal_or_not q place) [
            | inl same ↦
                let answered : answer_in b q ≡ answer = ap (answer_in b) same ∙ answer_is in
                subst (λ (d : D). IsHalf look (goes d) (comes d) (member_at fans_before k) (member_at then k) (half_of then (seat_at then.seats.items k))) (sym answered)
                (behind_it k m le e (there ∙ ap Some same))
            | inr other ↦
                subst (λ (d : D). IsHalf look (goes d) (comes d) (member_at fans_before k) (member_at then k) (half_of then (seat_at then.seats.items k))) (sym (answer_other q other))
                (subst (λ (x : Option ℕ). IsHalf look (goes (left_given first a x)) (comes (left_given first a x)) (member_at fans_before k) (member_at then k) (half_of then (seat_at then.seats.items k))) there
                (same_half (λ behind. let both : Some q ≡ Some place = sym there ∙ behind in let same : q ≡ place = cc in other same)))
          ]

      still_now : (k q : ℕ) (m : NetNode) → place + 1 ≤ k → slice_get nodes_before k ≡ Some m → m.parent ≡ Some q → some_answer b q ≡ None
          → (member_at then k ≡ member_at fans_before k) × (half_of then (seat_at then.seats.items k) ≡ no_change)
      still_now k q m le e there empty = elim (equal_or_not q place) [
        | inl same ↦ by_nothing same
        | inr other ↦
            let alone = left_alone k m e_now (λ same. absurd (omega (arith, same, le))) (λ behind. let both : Some q ≡ Some place = sym there ∙ behind in let same : q ≡ place = cc in other same) in
            let was_still = is.still k q m (omega (arith, le)) e there (sym (put.others q other) ∙ empty) in
            (alone.0 ∙ was_still.0, alone.1 ∙ was_still.1)
      ]
        where
          e_now : slice_get nodes k ≡ Some m
          e_now = is.rest k (omega (arith, le)) ∙ e

          by_nothing : q ≡ place → (member_at then k ≡ member_at fans_before k) × (half_of then (seat_at then.seats.items k) ≡ no_change)
          by_nothing same =
              let nothing : answer ≡ none = sym (put.here absent) ∙ ap (kept a.none) (ap (some_answer b) (sym same) ∙ empty) ∙ is.nothing in
              let was_still = is.still k q m (omega (arith, le)) e there (ap (some_answer a) same ∙ absent) in
              by (seat_at fans.seats.items k) refl nothing was_still
            where
              by : (o : Option Seat) → seat_at fans.seats.items k ≡ o → answer ≡ none → (member_at fans k ≡ member_at fans_before k) × (half_of fans (seat_at fans.seats.items k) ≡ no_change)
                  → (member_at then k ≡ member_at fans_before k) × (half_of then (seat_at then.seats.items k) ≡ no_change)
              by None gone nothing was_still = (
                ap (member_of then.list.items) (seat_then k ∙ gone) ∙ sym (ap (member_of fans.list.items) gone) ∙ was_still.0,
                ap (half_of then) (seat_then k ∙ gone),
              )
              by (Some seat) found nothing was_still =
                  let one = others seat (other_seat k m seat e_now (λ same. absurd (omega (arith, same, le))) found) in
                  let two = told.nothing (ap goes nothing ∙ none_goes) (ap comes nothing ∙ none_comes) seat in (
                    ap (member_of then.list.items) (seat_then k ∙ found) ∙ two.0 ∙ one.0 ∙ sym (ap (member_of fans.list.items) found) ∙ was_still.0,
                    ap (half_of then) (seat_then k ∙ found) ∙ two.1 ∙ one.1 ∙ sym (ap (half_of fans) found) ∙ was_still.1,
                  )

      pub shared_more : slice_get walked place ≡ Some (showing (member_at fans_before place) n) → IsShared nodes_now then b (place + 1) walked_now
      shared_more there = record {
        done = done_now there;
        rest = λ k le. get-set_other nodes place k new (λ same. absurd (omega (arith, same, le))) ∙ is.rest k (omega (arith, le));
        halves = λ k m le e. halves_now k m le e m.parent refl;
        still = still_now;
        fans_are = fans_again nodes nodes_now fans then replaced (laid_then fans mid then laid laid_on) is.fans_are;
        seats = laid_on.seats ∙ laid.seats ∙ is.seats;
        nothing = put.none ∙ is.nothing;
      }
