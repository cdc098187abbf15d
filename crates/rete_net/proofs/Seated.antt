-- Fans that are built: of the next parent there is one more, or one has a member more; and nodes that are members keep nothing.
use Rattle.rete_net.proofs.Common.{◌≡◌, ◌∙◌, sym, ap, refl, subst, ℕ, zero, suc, ◌+◌, ◌<◌, ◌≤◌, arith, List, [], ◌∷◌, ◌++◌, length, length-append, take, Option}
use Rattle.rete_net.proofs.Common.{Some, None, slice_get, ◌⊎◌, inl, inr, Bool, true, fun_ext, set, length-set, slice_get_within, option_map, Named, Condition}
use Rattle.rete_net.proofs.Common.{Plain, Pattern, Program, pattern_of, Candidates, beside, no_names, no_rows, StandsFor, Look, AreBeside, IsEmpty}
use Rattle.rete_net.proofs.Common.{empty_snapshot, held, GateStands, has_good_window, Node, condition_of, NodeStands, no_candidates, Fan, Fans, Seat, Span}
use Rattle.rete_net.proofs.Common.{NetNode, AreBuilt, IsBehindParent, IsParentNode, given_seat, in_fan, member_at, member_of, seat_at, showing, with_fans}
use Rattle.rete_net.proofs.Common.{AreEmpty, AreFans, IsSeat, Member, AreGrowing, GrowsTo, IsFanPut, IsNewFan, IsFresh, IsReached, AreLoneFound, AreFansBelow}
use Rattle.rete_net.proofs.{Showing.{condition_shown, parent_shown, shown_from, shown_length}, Siblings.{shows_join}, Walking.{equal_or_not}}
use Rattle.{join_tests.specs.declared.row_key.RowKey.{RowKey}, fan_join.proofs.{Places.{seam_or_before}, Whole.{empty_law}}}
use Rattle.fx_base.proofs.Sequences.{get-append_left, get-last, get-none, get-set_other, get-set_same, one_value}

-- ---- no fans

pub none_grow : (nodes : List NetNode) (fans : Fans) → length fans.seats.items ≡ length nodes → ((k : ℕ) → seat_at fans.seats.items k ≡ None) → fans.list.items ≡ [] → fans.spans.items ≡ [] → AreGrowing nodes fans (length fans.list.items)
none_grow nodes fans many none list spans = record {
  below = record {
    many = many;
    seats = λ k n seat e h. absurd (let no : None ≡ Some seat = sym (none k) ∙ h in cc);
    places = λ f m k fan e h. absurd (get-none fans.list.items f fan list e);
    counts = λ f fan e. absurd (get-none fans.list.items f fan list e);
    beside = λ f fan e. absurd (get-none fans.list.items f fan list e);
    reached = λ f fan e. absurd (get-none fans.list.items f fan list e);
    spanned = λ f p fan span e h inside. absurd (get-none fans.list.items f fan list e);
  };
  behind = λ f fan lt e. absurd (get-none fans.list.items f fan list e);
  next = λ f fan le e. absurd (get-none fans.list.items f fan list e);
  ends = λ p span e. absurd (get-none fans.spans.items p span spans e);
  within = omega arith;
  empty = λ f fan e. absurd (get-none fans.list.items f fan list e);
}

-- ---- a fan more

module _ (nodes : List NetNode) (from : ℕ) (old new : Fans) (key : RowKey) (fan : Fan) (list : new.list.items ≡ old.list.items ++ fan ∷ []) (is : IsNewFan (length old.spans.items) key fan) (seats : new.seats ≡ old.seats) (spans : new.spans ≡ old.spans) (was : AreGrowing nodes old from) where
  at : (f : ℕ) (x : Fan) → slice_get new.list.items f ≡ Some x → (slice_get old.list.items f ≡ Some x) ⊎ ((f ≡ length old.list.items) × (fan ≡ x))
  at f x e = seam_or_before old.list.items fan f x (ap (λ l. slice_get l f) (sym list) ∙ e)

  found : (f : ℕ) (x : Fan) → slice_get old.list.items f ≡ Some x → slice_get new.list.items f ≡ Some x
  found f x e = ap (λ l. slice_get l f) list ∙ get-append_left old.list.items (fan ∷ []) f x e

  pub fan_grows : AreGrowing nodes new from
  fan_grows = record {
    below = record {
      many = ap (λ l. length l.items) seats ∙ was.below.many;
      seats = λ k n seat e h.
          let s = was.below.seats k n seat e (ap (λ l. seat_at l.items k) (sym seats) ∙ h) in
          record { fan = s.fan; found = found seat.fan s.fan s.found; own = s.own; member = s.member; place = s.place; parent = s.parent; pattern = s.pattern };
      places = λ f m k x e h. elim (at f x e) [
        | inl there ↦ ap (λ l. seat_at l.items k) seats ∙ was.below.places f m k x there h
        | inr last ↦ absurd (get-none fan.places.items m k is.places (ap (λ (y : Fan). slice_get y.places.items m) last.1 ∙ h))
      ];
      counts = λ f x e. elim (at f x e) [
        | inl there ↦ was.below.counts f x there
        | inr last ↦ ap (λ (y : Fan). length y.places.items) (sym last.1) ∙ ap length is.places ∙ sym (ap length is.members) ∙ ap (λ (y : Fan). length y.join.members.items) last.1
      ];
      beside = λ f x e. elim (at f x e) [
        | inl there ↦ was.below.beside f x there
        | inr last ↦ subst (λ (y : Fan). AreBeside y.join) last.1 is.beside
      ];
      reached = λ f x e. elim (at f x e) [
        | inl there ↦ was.below.reached f x there
        | inr last ↦ subst (λ (y : Fan). IsReached y.join) last.1 is.reached
      ];
      spanned = λ f p x span e h inside. elim (at f x e) [
        | inl there ↦ was.below.spanned f p x span there (ap (λ l. slice_get l.items p) (sym spans) ∙ h) inside
        | inr last ↦
            let low = was.ends p span (ap (λ l. slice_get l.items p) (sym spans) ∙ h) in
            let within = was.within in
            let is_last = last.0 in
            let high = inside.1 in
            absurd (omega (arith, low, within, is_last, high))
      ];
    };
    behind = λ f x lt e. elim (at f x e) [
      | inl there ↦ let b = was.behind f x lt there in (b.0, ap (λ l. slice_get l.items x.parent) spans ∙ b.1, b.2)
      | inr last ↦ let within = was.within in let is_last = last.0 in absurd (omega (arith, lt, within, is_last))
    ];
    next = λ f x le e. elim (at f x e) [
      | inl there ↦ was.next f x le there ∙ ap (λ l. length l.items) (sym spans)
      | inr last ↦ ap (λ (y : Fan). y.parent) (sym last.1) ∙ is.behind ∙ ap (λ l. length l.items) (sym spans)
    ];
    ends = λ p span h. was.ends p span (ap (λ l. slice_get l.items p) (sym spans) ∙ h);
    within = let within = was.within in let more : length new.list.items ≡ length old.list.items + 1 = ap length list ∙ length-append old.list.items (fan ∷ []) in omega (arith, within, more);
    empty = λ f x e. elim (at f x e) [
      | inl there ↦ was.empty f x there
      | inr last ↦ subst (λ (y : Fan). IsEmpty y.join) last.1 is.empty
    ];
  }

-- ---- a member more

module _ (nodes : List NetNode) (from : ℕ) (old new : Fans) (f : ℕ) (low : from ≤ f) (was_fan now_fan : Fan) (there : slice_get old.list.items f ≡ Some was_fan) (list : new.list.items ≡ set old.list.items f now_fan)
    (place : ℕ) (pattern : Pattern) (put : IsFanPut was_fan now_fan place pattern) (free : slice_get old.seats.items place ≡ Some None)
    (seats : new.seats.items ≡ set old.seats.items place (Some (record { fan = f; member = length was_fan.places.items }))) (spans : new.spans ≡ old.spans)
    (n : NetNode) (n_is : slice_get nodes place ≡ Some n) (parent : n.parent ≡ Some (length old.spans.items)) (condition : condition_of n.node ≡ Plain pattern) (was : AreGrowing nodes old from) where
  abbrev seat : Seat
  seat = record { fan = f; member = length was_fan.places.items }

  list_other : (g : ℕ) → (g ≡ f → ⊥) → slice_get new.list.items g ≡ slice_get old.list.items g
  list_other g other = ap (λ l. slice_get l g) list ∙ get-set_other old.list.items f g now_fan other

  list_here : slice_get new.list.items f ≡ Some now_fan
  list_here = ap (λ l. slice_get l f) list ∙ get-set_same old.list.items f now_fan was_fan there

  seat_other : (k : ℕ) → (k ≡ place → ⊥) → seat_at new.seats.items k ≡ seat_at old.seats.items k
  seat_other k other = ap (λ l. seat_at l k) seats ∙ ap given_seat (get-set_other old.seats.items place k (Some seat) other)

  seat_here : seat_at new.seats.items place ≡ Some seat
  seat_here = ap (λ l. seat_at l place) seats ∙ ap given_seat (get-set_same old.seats.items place (Some seat) None free)

  -- a place that has a seat is another one
  is_other : (k : ℕ) (s : Seat) → seat_at old.seats.items k ≡ Some s → k ≡ place → ⊥
  is_other k s h same = let no : None ≡ Some s = sym (ap given_seat (ap (slice_get old.seats.items) same ∙ free)) ∙ h in cc

  -- a fan that was there has its places and members still, and a parent as before
  count : length was_fan.places.items ≡ length was_fan.join.members.items
  count = was.below.counts f was_fan there

  fan_at : (g : ℕ) (x : Fan) → slice_get new.list.items g ≡ Some x → ((g ≡ f → ⊥) × (slice_get old.list.items g ≡ Some x)) ⊎ ((g ≡ f) × (now_fan ≡ x))
  fan_at g x e = elim (equal_or_not g f) [
    | inl same ↦ inr (same, one_value (slice_get new.list.items f) now_fan x list_here (ap (slice_get new.list.items) (sym same) ∙ e))
    | inr other ↦ inl (other, sym (list_other g other) ∙ e)
  ]

  seat_stays : (k : ℕ) (m : NetNode) (s : Seat) → IsSeat old.list.items k m s → IsSeat new.list.items k m s
  seat_stays k m s is = elim (equal_or_not s.fan f) [
    | inr other ↦ record { fan = is.fan; found = list_other s.fan other ∙ is.found; own = is.own; member = is.member; place = is.place; parent = is.parent; pattern = is.pattern }
    | inl same ↦
        let fan_is : was_fan ≡ is.fan = one_value (slice_get old.list.items f) was_fan is.fan there (ap (slice_get old.list.items) (sym same) ∙ is.found) in
        record {
          fan = now_fan;
          found = ap (slice_get new.list.items) same ∙ list_here;
          own = is.own;
          member = ap (λ l. slice_get l s.member) put.members ∙ get-append_left was_fan.join.members.items (put.own ∷ []) s.member is.own (ap (λ (y : Fan). slice_get y.join.members.items s.member) fan_is ∙ is.member);
          place = ap (λ l. slice_get l s.member) put.places ∙ get-append_left was_fan.places.items (place ∷ []) s.member k (ap (λ (y : Fan). slice_get y.places.items s.member) fan_is ∙ is.place);
          parent = is.parent ∙ ap (λ (y : Fan). Some y.parent) (sym fan_is) ∙ ap Some (sym put.parent);
          pattern = is.pattern;
        }
  ]

  seat_new : IsSeat new.list.items place n seat
  seat_new = record {
    fan = now_fan;
    found = list_here;
    own = put.own;
    member = ap (λ l. slice_get l (length was_fan.places.items)) put.members ∙ ap (slice_get (was_fan.join.members.items ++ put.own ∷ [])) count ∙ get-last was_fan.join.members.items put.own;
    place = ap (λ l. slice_get l (length was_fan.places.items)) put.places ∙ get-last was_fan.places.items place;
    parent = parent ∙ ap Some (sym (was.next f was_fan low there)) ∙ ap Some (sym put.parent);
    pattern = condition ∙ ap Plain (sym put.same);
  }

  seats_now : (k : ℕ) (m : NetNode) (s : Seat) → slice_get nodes k ≡ Some m → seat_at new.seats.items k ≡ Some s → IsSeat new.list.items k m s
  seats_now k m s e h = elim (equal_or_not k place) [
    | inr other ↦ seat_stays k m s (was.below.seats k m s e (sym (seat_other k other) ∙ h))
    | inl same ↦
        let m_is : n ≡ m = one_value (slice_get nodes place) n m n_is (ap (slice_get nodes) (sym same) ∙ e) in
        let s_is : seat ≡ s = one_value (seat_at new.seats.items place) seat s seat_here (ap (seat_at new.seats.items) (sym same) ∙ h) in
        subst (λ (i : ℕ). IsSeat new.list.items i m s) (sym same) (subst (IsSeat new.list.items place m) s_is (subst (λ (x : NetNode). IsSeat new.list.items place x seat) m_is seat_new))
  ]

  places_now : (g m k : ℕ) (x : Fan) → slice_get new.list.items g ≡ Some x → slice_get x.places.items m ≡ Some k → seat_at new.seats.items k ≡ Some (record { fan = g; member = m })
  places_now g m k x e h = elim (fan_at g x e) [
    | inl away ↦
        let was_there = was.below.places g m k x away.1 h in
        seat_other k (is_other k (record { fan = g; member = m }) was_there) ∙ was_there
    | inr same ↦ here same (seam_or_before was_fan.places.items place m k (ap (λ l. slice_get l m) (sym put.places) ∙ ap (λ (y : Fan). slice_get y.places.items m) same.1 ∙ h))
  ]
    where
      here : (g ≡ f) × (now_fan ≡ x) → (slice_get was_fan.places.items m ≡ Some k) ⊎ ((m ≡ length was_fan.places.items) × (place ≡ k)) → seat_at new.seats.items k ≡ Some (record { fan = g; member = m })
      here same (inl before) =
          let was_there = was.below.places f m k was_fan there before in
          seat_other k (is_other k (record { fan = f; member = m }) was_there) ∙ was_there ∙ ap (λ (i : ℕ). Some (record { fan = i; member = m })) (sym same.0)
      here same (inr last) =
          ap (seat_at new.seats.items) (sym last.1) ∙ seat_here ∙ ap (λ (i : ℕ). Some (record { fan = f; member = i })) (sym last.0) ∙ ap (λ (i : ℕ). Some (record { fan = i; member = m })) (sym same.0)

  -- what is so of the fan before and of the others
  each_fan : (Q : Fan → Type 0) (g : ℕ) (x : Fan) → Q now_fan → (slice_get old.list.items g ≡ Some x → Q x) → slice_get new.list.items g ≡ Some x → Q x
  each_fan Q g x one others e = elim (fan_at g x e) [
    | inl away ↦ others away.1
    | inr same ↦ subst Q same.1 one
  ]

  parent_was : (g : ℕ) (x : Fan) → slice_get new.list.items g ≡ Some x → (y : Fan) × (slice_get old.list.items g ≡ Some y) × (x.parent ≡ y.parent)
  parent_was g x e = elim (fan_at g x e) [
    | inl away ↦ (x, away.1, refl)
    | inr same ↦ (was_fan, ap (slice_get old.list.items) same.0 ∙ there, ap (λ (y : Fan). y.parent) (sym same.1) ∙ put.parent)
  ]

  pub member_grows : AreGrowing nodes new from
  member_grows = record {
    below = record {
      many = ap length seats ∙ length-set old.seats.items place (Some seat) ∙ was.below.many;
      seats = seats_now;
      places = places_now;
      counts = λ g x e. each_fan (λ y. length y.places.items ≡ length y.join.members.items) g x
          (ap length put.places ∙ length-append was_fan.places.items (place ∷ []) ∙ ap (λ i. i + 1) count ∙ sym (ap length put.members ∙ length-append was_fan.join.members.items (put.own ∷ []))) (was.below.counts g x) e;
      beside = λ g x e. each_fan (λ y. AreBeside y.join) g x (put.beside (was.below.beside f was_fan there)) (was.below.beside g x) e;
      reached = λ g x e. each_fan (λ y. IsReached y.join) g x (put.reached (was.below.reached f was_fan there)) (was.below.reached g x) e;
      spanned = λ g p x span e h inside.
          let y = parent_was g x e in
          y.2 ∙ was.below.spanned g p y.0 span y.1 (ap (λ l. slice_get l.items p) (sym spans) ∙ h) inside;
    };
    behind = λ g x lt e.
        let y = parent_was g x e in
        let b = was.behind g y.0 lt y.1 in
        (b.0, ap (λ l. slice_get l.items x.parent) spans ∙ ap (slice_get old.spans.items) y.2 ∙ b.1, b.2);
    next = λ g x le e. let y = parent_was g x e in y.2 ∙ was.next g y.0 le y.1 ∙ ap (λ l. length l.items) (sym spans);
    ends = λ p span h. was.ends p span (ap (λ l. slice_get l.items p) (sym spans) ∙ h);
    within = let within = was.within in let same : length new.list.items ≡ length old.list.items = ap length list ∙ length-set old.list.items f now_fan in omega (arith, within, same);
    empty = λ g x e. each_fan (λ y. IsEmpty y.join) g x (put.empty (was.empty f was_fan there)) (was.empty g x) e;
  }

-- ---- a span more

module _ (nodes : List NetNode) (from : ℕ) (old new : Fans) (list : new.list ≡ old.list) (seats : new.seats ≡ old.seats) (spans : new.spans.items ≡ old.spans.items ++ record { from = from; to = length old.list.items } ∷ []) (was : AreGrowing nodes old from) where
  abbrev span_now : Span
  span_now = record { from = from; to = length old.list.items }

  list_at : (f : ℕ) (x : Fan) → slice_get new.list.items f ≡ Some x → slice_get old.list.items f ≡ Some x
  list_at f x e = ap (λ l. slice_get l.items f) (sym list) ∙ e

  span_at : (p : ℕ) (s : Span) → slice_get new.spans.items p ≡ Some s → (slice_get old.spans.items p ≡ Some s) ⊎ ((p ≡ length old.spans.items) × (span_now ≡ s))
  span_at p s e = seam_or_before old.spans.items span_now p s (ap (λ l. slice_get l p) (sym spans) ∙ e)

  below_or_from : (k i : ℕ) → (k < i) ⊎ (i ≤ k)
  below_or_from k i = grind arith

  pub span_grows : AreGrowing nodes new (length new.list.items)
  span_grows = record {
    below = record {
      many = ap (λ l. length l.items) seats ∙ was.below.many;
      seats = λ k n seat e h.
          let s = was.below.seats k n seat e (ap (λ l. seat_at l.items k) (sym seats) ∙ h) in
          record { fan = s.fan; found = ap (λ l. slice_get l.items seat.fan) list ∙ s.found; own = s.own; member = s.member; place = s.place; parent = s.parent; pattern = s.pattern };
      places = λ f m k x e h. ap (λ l. seat_at l.items k) seats ∙ was.below.places f m k x (list_at f x e) h;
      counts = λ f x e. was.below.counts f x (list_at f x e);
      beside = λ f x e. was.below.beside f x (list_at f x e);
      reached = λ f x e. was.below.reached f x (list_at f x e);
      spanned = λ f p x s e h inside. elim (span_at p s h) [
        | inl there ↦ was.below.spanned f p x s (list_at f x e) there inside
        | inr last ↦ was.next f x (subst (λ (t : Span). t.from ≤ f) (sym last.1) inside.0) (list_at f x e) ∙ sym last.0
      ];
    };
    behind = λ f x lt e. elim (below_or_from f from) [
      | inl low ↦ let b = was.behind f x low (list_at f x e) in (b.0, ap (λ l. slice_get l x.parent) spans ∙ get-append_left old.spans.items (span_now ∷ []) x.parent b.0 b.1, b.2)
      | inr high ↦ (
        span_now,
        ap (λ l. slice_get l x.parent) spans ∙ ap (slice_get (old.spans.items ++ span_now ∷ [])) (was.next f x high (list_at f x e)) ∙ get-last old.spans.items span_now,
        (high, slice_get_within old.list.items f x (list_at f x e)),
      )
    ];
    next = λ f x le e. let lt = slice_get_within new.list.items f x e in absurd (omega (arith, le, lt));
    ends = λ p s h.
        let same : length new.list.items ≡ length old.list.items = ap (λ l. length l.items) list in
        elim (span_at p s h) [
          | inl there ↦ let low = was.ends p s there in let within = was.within in omega (arith, low, within, same)
          | inr last ↦ subst (λ (t : Span). t.to ≤ length new.list.items) last.1 (omega (arith, same))
        ];
    within = omega arith;
    empty = λ f x e. was.empty f x (list_at f x e);
  }

-- seats of no node
pub none_more : (seats : List (Option Seat)) → ((k : ℕ) → seat_at seats k ≡ None) → (k : ℕ) → seat_at (seats ++ None ∷ []) k ≡ None
none_more [] none zero = refl
none_more [] none (suc k) = refl
none_more (x ∷ seats) none zero = none 0
none_more (x ∷ seats) none (suc k) = none_more seats (λ i. none (suc i)) k

-- and who is no member is found by its parent
pub all_grown : (nodes : List NetNode) (fans now : Fans) → now.list ≡ fans.list → now.seats ≡ fans.seats → now.spans ≡ fans.spans → AreLoneFound nodes fans.seats.items now.lone → AreGrowing nodes fans (length fans.list.items) → AreFans nodes now
all_grown nodes fans now list seats spans lone is = record {
  below = below_on nodes fans now list seats spans is.below;
  lone = λ k parent n e h free. lone k parent n e h (ap (λ l. seat_at l.items k) (sym seats) ∙ free);
  behind = λ f fan e.
      let b = is.behind f fan (slice_get_within fans.list.items f fan (ap (λ l. slice_get l.items f) (sym list) ∙ e)) (ap (λ l. slice_get l.items f) (sym list) ∙ e) in
      (b.0, ap (λ l. slice_get l.items fan.parent) spans ∙ b.1, b.2);
}
  where
    below_on : (nodes : List NetNode) (fans now : Fans) → now.list ≡ fans.list → now.seats ≡ fans.seats → now.spans ≡ fans.spans → AreFansBelow nodes fans → AreFansBelow nodes now
    below_on nodes fans now list seats spans below = record {
      many = ap (λ l. length l.items) seats ∙ below.many;
      seats = λ k n seat e h.
          let s = below.seats k n seat e (ap (λ l. seat_at l.items k) (sym seats) ∙ h) in
          record { fan = s.fan; found = ap (λ l. slice_get l.items seat.fan) list ∙ s.found; own = s.own; member = s.member; place = s.place; parent = s.parent; pattern = s.pattern };
      places = λ f m k x e h. ap (λ l. seat_at l.items k) seats ∙ below.places f m k x (ap (λ l. slice_get l.items f) (sym list) ∙ e) h;
      counts = λ f x e. below.counts f x (ap (λ l. slice_get l.items f) (sym list) ∙ e);
      beside = λ f x e. below.beside f x (ap (λ l. slice_get l.items f) (sym list) ∙ e);
      reached = λ f x e. below.reached f x (ap (λ l. slice_get l.items f) (sym list) ∙ e);
      spanned = λ f p x s e h inside. below.spanned f p x s (ap (λ l. slice_get l.items f) (sym list) ∙ e) (ap (λ l. slice_get l.items p) (sym spans) ∙ h) inside;
    }

pub grows_on : (nodes : List NetNode) (from : ℕ) (a b c : Fans) → GrowsTo nodes from a b → GrowsTo nodes from b c → GrowsTo nodes from a c
grows_on nodes from a b c ab bc = record { spans = bc.spans ∙ ab.spans; grows = λ was. bc.grows (ab.grows was) }

pub grows_not : (nodes : List NetNode) (from : ℕ) (a : Fans) → GrowsTo nodes from a a
grows_not nodes from a = record { spans = refl; grows = λ was. was }

-- ---- new nodes

module _ (p : Program) (nodes : List NetNode) (all : List (List Condition)) (fans : Fans) (built : AreBuilt p nodes all) (are : AreFans nodes fans) (empty : AreEmpty fans) where
  fresh_member : (n : NetNode) (m : Member) → condition_of n.node ≡ Plain m.own.pattern → ((look : Look) (forgotten : Named → Bool) → StandsFor (beside m.left m.own) look no_rows no_names forgotten) → IsFresh p n → IsFresh p (showing (Some m) n)
  fresh_member n m of nothing fresh forgotten = record {
    gate = subst (λ (c : Condition). GateStands p (pattern_of c) n.gate empty_snapshot) (sym (condition_shown (Some m) n)) (fresh forgotten).gate;
    node = subst (λ (x : Node). NodeStands p x (held empty_snapshot) empty_snapshot no_rows forgotten) (sym (shows_join m n.node m.own.pattern of))
        (subst (λ (names : Named → Bool). StandsFor (beside m.left m.own) (held empty_snapshot) no_rows names forgotten) (fun_ext (λ who. no_candidates p m.own.pattern who)) (nothing (held empty_snapshot) forgotten));
  }

  fresh_at : (k : ℕ) (n : NetNode) → slice_get nodes k ≡ Some n → IsFresh p (showing (member_at fans k) n)
  fresh_at k n e = by (seat_at fans.seats.items k) refl
    where
      by : (o : Option Seat) → seat_at fans.seats.items k ≡ o → IsFresh p (showing (member_of fans.list.items o) n)
      by None none = built.fresh k n e
      by (Some seat) there =
          let is = are.below.seats k n seat e there in
          let m : Member = record { left = is.fan.join.left; own = is.own } in
          let found : member_of fans.list.items (Some seat) ≡ Some m = ap (in_fan seat.member) is.found ∙ ap (option_map (λ (c : Candidates). record { left = is.fan.join.left; own = c })) is.member in
          subst (λ (o : Option Member). IsFresh p (showing o n)) (sym found)
          (fresh_member n m is.pattern (λ look forgotten. empty_law is.fan.join seat.member is.own (empty seat.fan is.fan is.found) is.member look forgotten) (built.fresh k n e))

  pub built_shown : AreBuilt p (with_fans nodes fans) all
  built_shown = record {
    length = shown_length (member_at fans) nodes ∙ built.length;
    behind = λ k x e.
        let n = shown_from (member_at fans) nodes k x e in
        subst (IsBehindParent all k) n.2 (behind_too k n.0 (built.behind k n.0 n.1));
    windows = λ k x e.
        let n = shown_from (member_at fans) nodes k x e in
        subst (λ (y : NetNode). has_good_window p (pattern_of (condition_of y.node)) ≡ true) n.2
        (subst (λ (c : Condition). has_good_window p (pattern_of c) ≡ true) (sym (condition_shown (member_at fans k) n.0)) (built.windows k n.0 n.1));
    fresh = λ k x e.
        let n = shown_from (member_at fans) nodes k x e in
        subst (IsFresh p) n.2 (fresh_at k n.0 n.1);
  }
    where
      behind_too : (k : ℕ) (n : NetNode) → IsBehindParent all k n → IsBehindParent all k (showing (member_at fans k) n)
      behind_too k n is = record {
        before = is.before;
        parent = subst (λ (q : Option ℕ). IsParentNode (take k all) q is.before) (sym (parent_shown (member_at fans k) n)) is.parent;
        own = subst (λ (c : Condition). slice_get all k ≡ Some (is.before ++ c ∷ [])) (sym (condition_shown (member_at fans k) n)) is.own;
      }
