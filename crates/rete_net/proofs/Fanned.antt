-- One fan of others turns: its rows, or the candidates of one member.
use Rattle.{join_tests.specs.declared.row_key.RowKey.{RowKey}, rete_net.proofs.Common.{◌≡◌, ◌∙◌, sym, ap, refl, subst, ℕ, ◌+◌, ◌<◌, ◌≤◌, arith, List, [], ◌∷◌}}
use Rattle.rete_net.proofs.Common.{length, Option, Some, None, slice_get, inl, inr, true, false, zero, suc, set, slice_get_within, get, is_at, Updates}
use Rattle.rete_net.proofs.Common.{nat_tests, are_none, IsDifference, Vec, option_map, nat_cmp, Delta, Named, Row, Look, Pattern, row_key, Candidates, beside}
use Rattle.rete_net.proofs.Common.{made, AreBeside, IsMemberTurned, AreNamesTurned, Fan, Fans, Seat, Span, NetNode, given_span, half_at, half_in, in_fan}
use Rattle.rete_net.proofs.Common.{member_of, AreFans, AreNamesTurnedAt, AreFanRowsTurned, IsFanLike, IsHalf, IsInSpan, IsLaidAs, IsLeft, Member, Bool}
use Rattle.rete_net.proofs.{Common.{BTreeMap, member_delta, IsReached, has_place, no_change, is_in, is_some, nat_eq, cond, or-true, ◌||◌}, Fanning.{laid_same}}
use Rattle.{rete_net.proofs.{Fanning.{laid_then}, Siblings.{half_none}, Walking.{equal_or_not}}, fan_join.specs.Doors.{shared_key}}
use Rattle.{fan_join.specs.{declared.fan.FanJoin.{FanJoin}, Fans.{given_delta, AreRowsTurned as JoinTurned}}, std.proofs.lemmas.Bool.{false_from_ne_true}}
use Rattle.{std.specs.Map.{keys_of, lookup}, fx_base.proofs.{Orders.{below_or_last}, Sequences.{get-below, get-set_other, get-set_same, one_value}}}

module _ (list : List Fan) (f : ℕ) (old new : Fan) (at : slice_get list f ≡ Some old) where
  pub member_other : (seat : Seat) → (seat.fan ≡ f → ⊥) → member_of (set list f new) (Some seat) ≡ member_of list (Some seat)
  member_other seat other = ap (in_fan seat.member) (get-set_other list f seat.fan new other)

  pub member_here : (seat : Seat) → seat.fan ≡ f → (member_of list (Some seat) ≡ in_fan seat.member (Some old)) × (member_of (set list f new) (Some seat) ≡ in_fan seat.member (Some new))
  member_here seat same = (
    ap (in_fan seat.member) (ap (slice_get list) same ∙ at),
    ap (in_fan seat.member) (ap (slice_get (set list f new)) same ∙ get-set_same list f new old at),
  )

  pub each_like : IsFanLike old new → (g : ℕ) (a b : Fan) → slice_get list g ≡ Some a → slice_get (set list f new) g ≡ Some b → IsFanLike a b
  each_like like g a b e h = elim (equal_or_not g f) [
    | inl same ↦
        let one : old ≡ a = one_value (slice_get list f) old a at (ap (slice_get list) (sym same) ∙ e) in
        let two : new ≡ b = one_value (slice_get (set list f new) f) new b (get-set_same list f new old at) (ap (slice_get (set list f new)) (sym same) ∙ h) in
        subst (IsFanLike a) two (subst (λ (x : Fan). IsFanLike x new) one like)
    | inr other ↦ like_itself a b (one_value (slice_get list g) a b e (sym (get-set_other list f g new other) ∙ h))
  ]
    where
      like_itself : (x y : Fan) → x ≡ y → IsFanLike x y
      like_itself x y same = subst (IsFanLike x) same (record { parent = refl; places = refl; key = refl; many = refl; patterns = λ m c d e g. ap (λ (z : Candidates). z.pattern) (one_value (slice_get x.join.members.items m) d c g e); reached = λ all. all })

-- a seat is its fan and its member
abbrev seat_of : ℕ → ℕ → Seat
seat_of f m = record { fan = f; member = m }

same_seat : (a b : Seat) → a.fan ≡ b.fan → a.member ≡ b.member → a ≡ b
same_seat a b e h = ap (λ (f : ℕ). seat_of f a.member) e ∙ ap (λ (m : ℕ). seat_of b.fan m) h

-- the number of another fan
apart : (j k : ℕ) → (k ≡ j → ⊥) → is_at (nat_cmp j) k ≡ false
apart j k h = grind (arith, nat_tests)

-- ---- rows

-- the half of each member of a fan
pub fan_halved : (look : Look) (gone come : List Row) (old new : Fan) (deltas : BTreeMap ℕ Delta) (m : ℕ) (half : Delta) → JoinTurned old.join new.join look gone come deltas → new.join.members ≡ old.join.members
    → half ≡ member_delta deltas m → IsHalf look gone come (in_fan m (Some old)) (in_fan m (Some new)) half
fan_halved look gone come old new deltas m half turned same is = by (slice_get old.join.members.items m) refl
  where
    there_now : slice_get new.join.members.items m ≡ slice_get old.join.members.items m
    there_now = ap (λ (v : Vec Candidates). slice_get v.items m) same

    claim : Option Candidates → Option Candidates → Type 0
    claim a b = IsHalf look gone come (option_map (λ c. record { left = old.join.left; own = c }) a) (option_map (λ c. record { left = new.join.left; own = c }) b) half

    by : (o : Option Candidates) → slice_get old.join.members.items m ≡ o → claim (slice_get old.join.members.items m) (slice_get new.join.members.items m)
    by None none = subst (λ (a : Option Candidates). claim a (slice_get new.join.members.items m)) (sym none) (subst (λ (b : Option Candidates). claim None b) (sym (there_now ∙ none)) tt)
    by (Some c) there =
        subst (λ (a : Option Candidates). claim a (slice_get new.join.members.items m)) (sym there) (subst (λ (b : Option Candidates). claim (Some c) b) (sym (there_now ∙ there))
        (refl, record { kept = turned.kept m c there; difference = subst (IsDifference (made (beside old.join.left c) look) (made (beside new.join.left c) look)) (sym is) (turned.difference m c there) }))

-- ---- all fans behind a node

module _ (place : ℕ) (nodes : List NetNode) (old : Fans) (are : AreFans nodes old) (span : Span) (span_is : span ≡ given_span (slice_get old.spans.items place)) where
  other_span : (seat : Seat) (fan : Fan) → slice_get old.list.items seat.fan ≡ Some fan → (fan.parent ≡ place → ⊥) → IsInSpan span seat.fan → ⊥
  other_span seat fan e other within = by (slice_get old.spans.items place) refl
    where
      by : (o : Option Span) → slice_get old.spans.items place ≡ o → ⊥
      by None none =
          let is : span ≡ record { from = 0; to = 0 } = span_is ∙ ap given_span none in
          let low : seat.fan < 0 = subst (λ (s : Span). seat.fan < s.to) is within.1 in
          absurd (omega (arith, low))
      by (Some s) there = other (are.below.spanned seat.fan place fan s e there (subst (λ (t : Span). IsInSpan t seat.fan) (span_is ∙ ap given_span there) within))

  pub own_span : (seat : Seat) (fan : Fan) → slice_get old.list.items seat.fan ≡ Some fan → fan.parent ≡ place → IsInSpan span seat.fan
  own_span seat fan e same =
      let is = are.behind seat.fan fan e in
      subst (λ (s : Span). IsInSpan s seat.fan) (sym (span_is ∙ ap given_span (ap (slice_get old.spans.items) (sym same) ∙ is.1))) is.2

module _ (look : Look) (gone come : List Row) (place : ℕ) (nodes : List NetNode) (old new : Fans) (are : AreFans nodes old) (span : Span) (span_is : span ≡ given_span (slice_get old.spans.items place))
    (outside : (seat : Seat) → (IsInSpan span seat.fan → ⊥) → IsLeft old new seat)
    (inside : (seat : Seat) (f : Fan) → IsInSpan span seat.fan → slice_get old.list.items seat.fan ≡ Some f → AreBeside f.join → IsReached f.join → IsHalf look gone come (member_of old.list.items (Some seat)) (member_of new.list.items (Some seat)) (half_at new seat))
    (some : gone ≡ [] → come ≡ [] → ⊥) where
  pub all_turned : AreFanRowsTurned look place gone come old new
  all_turned = record {
    others = λ seat fan e other. outside seat (other_span place nodes old are span span_is seat fan e other);
    turned = λ seat fan e same nothing. inside seat fan (own_span place nodes old are span span_is seat fan e same) e (are.below.beside seat.fan fan e) (are.below.reached seat.fan fan e);
    nothing = λ none_gone none_come seat. absurd (some none_gone none_come);
  }

-- without rows nothing turns
pub none_turned : (look : Look) (place : ℕ) (gone come : List Row) (fans : Fans) → gone ≡ [] → come ≡ [] → AreFanRowsTurned look place gone come fans fans
none_turned look place gone come fans none_gone none_come = record {
  others = λ seat fan e other. (refl, refl);
  turned = λ seat fan e same nothing.
      subst (λ (rows : List Row). IsHalf look rows come (member_of fans.list.items (Some seat)) (member_of fans.list.items (Some seat)) (half_at fans seat)) (sym none_gone)
      (subst (λ (rows : List Row). IsHalf look [] rows (member_of fans.list.items (Some seat)) (member_of fans.list.items (Some seat)) (half_at fans seat)) (sym none_come)
      (subst (IsHalf look [] [] (member_of fans.list.items (Some seat)) (member_of fans.list.items (Some seat))) (sym nothing) (half_none look (member_of fans.list.items (Some seat)))));
  nothing = λ g c seat. (refl, refl);
}

-- ---- candidates

-- a fan whose member turned its candidates is like it was
pub names_like : (old : Fan) (join : FanJoin) (look : Look) (place : ℕ) (gone come : List Named) (half delta : Delta) → IsMemberTurned old.join join look place gone come half delta → IsFanLike old (record { parent = old.parent; join = join; places = old.places })
names_like old join look place gone come half delta turned = record {
  parent = refl;
  places = refl;
  key = ap (λ left. left.key) turned.left;
  many = turned.many;
  patterns = λ m c d e h. elim (equal_or_not m place) [
    | inl same ↦ (turned.member c d (ap (slice_get old.join.members.items) (sym same) ∙ e) (ap (slice_get join.members.items) (sym same) ∙ h)).pattern
    | inr other ↦ ap (λ (z : Candidates). z.pattern) (one_value (slice_get old.join.members.items m) d c (sym (turned.others m other) ∙ h) e)
  ];
  reached = turned.reached;
}

module _ (list : List Fan) (seat : Seat) (old : Fan) (join : FanJoin) (at : slice_get list seat.fan ≡ Some old) (look : Look) (gone come : List Named) (half delta : Delta)
    (turned : IsMemberTurned old.join join look seat.member gone come half delta) where
  abbrev new : Fan
  new = record { parent = old.parent; join = join; places = old.places }

  pub names_others : (other : Seat) → (other ≡ seat → ⊥) → member_of (set list seat.fan new) (Some other) ≡ member_of list (Some other)
  names_others other differ = elim (equal_or_not other.fan seat.fan) [
    | inr away ↦ member_other list seat.fan old new at other away
    | inl same ↦ elim (equal_or_not other.member seat.member) [
      | inl both ↦ absurd (differ (same_seat other seat same both))
      | inr apart ↦
          let here = member_here list seat.fan old new at other same in
          here.1
          ∙ (ap (option_map (λ c. record { left = join.left; own = c })) (turned.others other.member apart) ∙ ap (λ left. option_map (λ c. record { left = left; own = c }) (slice_get old.join.members.items other.member)) turned.left)
          ∙ sym here.0
    ]
  ]

  pub names_turned : AreNamesTurnedAt look gone come half delta list (set list seat.fan new) seat
  names_turned m e =
      let here = member_here list seat.fan old new at seat refl in
      by (slice_get old.join.members.items seat.member) refl (slice_get join.members.items seat.member) refl (sym here.0 ∙ e)
    where
      Out : Type 0
      Out = (d : Candidates) × (member_of (set list seat.fan new) (Some seat) ≡ Some (record { left = m.left; own = d })) × AreNamesTurned m.left look gone come half m.own d delta

      by : (o : Option Candidates) → slice_get old.join.members.items seat.member ≡ o → (q : Option Candidates) → slice_get join.members.items seat.member ≡ q → in_fan seat.member (Some old) ≡ Some m → Out
      by None none q f is = absurd (let no : None ≡ Some m = sym (ap (option_map (λ c. record { left = old.join.left; own = c })) none) ∙ is in cc)
      by (Some c) there None f is =
          let many = turned.many in
          let within : seat.member < length old.join.members.items = slice_get_within old.join.members.items seat.member c there in
          let h = get-below join.members.items seat.member (omega (arith, many, within)) in
          absurd (let no : None ≡ Some h.0 = sym f ∙ h.1 in cc)
      by (Some c) there (Some d) f is =
          let whole : Some (record { left = old.join.left; own = c }) ≡ Some m = sym (ap (option_map (λ x. record { left = old.join.left; own = x })) there) ∙ is in
          let m_is : record { left = old.join.left; own = c } ≡ m = one_value (Some m) (record { left = old.join.left; own = c }) m (sym whole) refl in
          let here = member_here list seat.fan old new at seat refl in
          let now : member_of (set list seat.fan new) (Some seat) ≡ Some (record { left = old.join.left; own = d }) =
          here.1 ∙ ap (option_map (λ x. record { left = join.left; own = x })) f ∙ ap (λ left. Some (record { left = left; own = d })) turned.left in
          subst (λ (x : Member). (y : Candidates) × (member_of (set list seat.fan new) (Some seat) ≡ Some (record { left = x.left; own = y })) × AreNamesTurned x.left look gone come half x.own y delta) m_is
          (d, now, turned.member c d there f)

-- one fan of a span more has turned, and those of its members for which something has changed are due
pub record IsTurnedTo (look : Look) (gone come : List Row) (first now : Fans) (span : Span) (due due_now : List ℕ) (fan : ℕ) : Type 0 where
  pub laid : IsLaidAs first now
  pub outside : (seat : Seat) → (IsInSpan span seat.fan → ⊥) → IsLeft first now seat
  pub ahead : (seat : Seat) → fan ≤ seat.fan → IsLeft first now seat
  pub turned : (seat : Seat) (f : Fan) → span.from ≤ seat.fan → seat.fan < fan → slice_get first.list.items seat.fan ≡ Some f → AreBeside f.join → IsReached f.join
      → IsHalf look gone come (member_of first.list.items (Some seat)) (member_of now.list.items (Some seat)) (half_at now seat)
  pub still : (k : ℕ) → has_place due k ≡ true → has_place due_now k ≡ true
  pub woken : (seat : Seat) (f : Fan) (k : ℕ) → span.from ≤ seat.fan → seat.fan < fan → slice_get first.list.items seat.fan ≡ Some f → slice_get f.places.items seat.member ≡ Some k → has_place due_now k ≡ false → half_at now seat ≡ no_change

pub none_yet : (look : Look) (gone come : List Row) (fans : Fans) (span : Span) (due : List ℕ) → IsTurnedTo look gone come fans fans span due due span.from
none_yet look gone come fans span due = record {
  laid = laid_same fans fans refl refl refl refl;
  outside = λ seat out. (refl, refl);
  ahead = λ seat le. (refl, refl);
  turned = λ seat f low high e beside reached. absurd (omega (arith, low, high));
  still = λ k h. h;
  woken = λ seat f k low high e there out. absurd (omega (arith, low, high));
}

module _ (look : Look) (gone come : List Row) (first now next : Fans) (span : Span) (due due_now due_next : List ℕ) (fan : ℕ) (low : span.from ≤ fan) (high : fan < span.to) (was : IsTurnedTo look gone come first now span due due_now fan)
    (laid : IsLaidAs now next) (others : (seat : Seat) → (seat.fan ≡ fan → ⊥) → IsLeft now next seat)
    (turned : (seat : Seat) (f : Fan) → seat.fan ≡ fan → slice_get now.list.items fan ≡ Some f → AreBeside f.join → IsReached f.join
    → IsHalf look gone come (member_of now.list.items (Some seat)) (member_of next.list.items (Some seat)) (half_at next seat))
    (still : (k : ℕ) → has_place due_now k ≡ true → has_place due_next k ≡ true)
    (woken : (seat : Seat) (f : Fan) (k : ℕ) → seat.fan ≡ fan → slice_get now.list.items fan ≡ Some f → slice_get f.places.items seat.member ≡ Some k → has_place due_next k ≡ false → half_at next seat ≡ no_change) where
  left_on : (seat : Seat) → (seat.fan ≡ fan → ⊥) → IsLeft first now seat → IsLeft first next seat
  left_on seat other so = let then = others seat other in (then.0 ∙ so.0, then.1 ∙ so.1)

  -- the fan as it stands now, like it was at first
  fan_now : (g : ℕ) (f : Fan) → slice_get first.list.items g ≡ Some f → (x : Fan) × (slice_get now.list.items g ≡ Some x) × IsFanLike f x
  fan_now g f e =
      let many = was.laid.many in
      let within : g < length first.list.items = slice_get_within first.list.items g f e in
      let x = get-below now.list.items g (omega (arith, many, within)) in
      (x.0, x.1, was.laid.each g f x.0 e x.1)

  here : (seat : Seat) (f : Fan) → seat.fan ≡ fan → slice_get first.list.items seat.fan ≡ Some f → AreBeside f.join → IsReached f.join
      → IsHalf look gone come (member_of first.list.items (Some seat)) (member_of next.list.items (Some seat)) (half_at next seat)
  here seat f same e beside reached =
      let g = fan_now seat.fan f e in
      let left = was.ahead seat (omega (arith, same)) in
      subst (λ (o : Option Member). IsHalf look gone come o (member_of next.list.items (Some seat)) (half_at next seat)) left.0
      (turned seat g.0 same (ap (slice_get now.list.items) (sym same) ∙ g.1) (beside_like f g.0 g.2 beside) (g.2.reached reached))
    where
      beside_like : (a b : Fan) → IsFanLike a b → AreBeside a.join → AreBeside b.join
      beside_like a b like all k c e =
          let long = like.many in
          let within : k < length b.join.members.items = slice_get_within b.join.members.items k c e in
          let own = get-below a.join.members.items k (omega (arith, long, within)) in
          ap (λ (q : Pattern). row_key q) (like.patterns k own.0 c own.1 e) ∙ all k own.0 own.1 ∙ sym like.key

  pub turned_more : IsTurnedTo look gone come first next span due due_next (fan + 1)
  turned_more = record {
    laid = laid_then first now next was.laid laid;
    outside = λ seat out. left_on seat (λ same. out (omega (arith, low, same), omega (arith, high, same))) (was.outside seat out);
    ahead = λ seat le. left_on seat (λ same. absurd (omega (arith, le, same))) (was.ahead seat (omega (arith, le)));
    turned = λ seat f from lt e beside reached. elim (below_or_last seat.fan fan lt) [
      | inr same ↦ here seat f same e beside reached
      | inl less ↦
          let then = others seat (λ same. absurd (omega (arith, same, less))) in
          subst (λ (o : Option Member). IsHalf look gone come (member_of first.list.items (Some seat)) o (half_at next seat)) (sym then.0)
          (subst (IsHalf look gone come (member_of first.list.items (Some seat)) (member_of now.list.items (Some seat))) (sym then.1) (was.turned seat f from less e beside reached))
    ];
    still = λ k h. still k (was.still k h);
    woken = λ seat f k from lt e there out. elim (below_or_last seat.fan fan lt) [
      | inr same ↦
          let g = fan_now seat.fan f e in
          woken seat g.0 k same (ap (slice_get now.list.items) (sym same) ∙ g.1) (ap (λ l. slice_get l.items seat.member) g.2.places ∙ there) out
      | inl less ↦ (others seat (λ same. absurd (omega (arith, same, less)))).1 ∙ was.woken seat f k from less e there (false_from_ne_true (has_place due_now k) (λ h. let no : true ≡ false = sym (still k h) ∙ out in cc))
    ];
  }

-- ---- the rows of one fan

-- a fan whose rows turned is like it was
pub rows_like : (was now : Fan) → now.parent ≡ was.parent → now.places ≡ was.places → shared_key now.join ≡ shared_key was.join → now.join.members ≡ was.join.members → now.join.reached ≡ was.join.reached → IsFanLike was now
rows_like was now parent places key members reached = record {
  parent = parent;
  places = places;
  key = key;
  many = ap (λ v. length v.items) members;
  patterns = λ m c d e h. ap (λ (z : Candidates). z.pattern) (one_value (slice_get was.join.members.items m) d c (ap (λ v. slice_get v.items m) (sym members) ∙ h) e);
  reached = λ all untimed.
      subst (λ r. IsReached (record { left = was.join.left; members = now.join.members; reached = r })) (sym reached)
      (subst (λ (m : Vec Candidates). IsReached (record { left = was.join.left; members = m; reached = was.join.reached })) (sym members) all)
      (ap (λ (k : RowKey). is_some k.time) (sym key) ∙ untimed);
}

module _ (look : Look) (gone come : List Row) (list : List Fan) (f : ℕ) (was now : Fan) (at : slice_get list f ≡ Some was) (deltas : BTreeMap ℕ Delta) (members : now.join.members ≡ was.join.members)
    (turned : AreBeside was.join → IsReached was.join → JoinTurned was.join now.join look gone come deltas) where
  pub fan_turned : (seat : Seat) (x : Fan) (halves : Option (BTreeMap ℕ Delta)) → seat.fan ≡ f → slice_get list f ≡ Some x → AreBeside x.join → IsReached x.join → halves ≡ Some deltas
      → IsHalf look gone come (member_of list (Some seat)) (member_of (set list f now) (Some seat)) (half_in seat.member halves)
  fan_turned seat x halves same e beside reached there =
      let x_is : x ≡ was = one_value (slice_get list f) x was e at in
      let here = member_here list f was now at seat same in
      subst (λ (o : Option Member). IsHalf look gone come o (member_of (set list f now) (Some seat)) (half_in seat.member halves)) (sym here.0)
      (subst (λ (o : Option Member). IsHalf look gone come (in_fan seat.member (Some was)) o (half_in seat.member halves)) (sym here.1)
      (fan_halved look gone come was now deltas seat.member (half_in seat.member halves)
      (turned (subst (λ (y : Fan). AreBeside y.join) x_is beside) (subst (λ (y : Fan). IsReached y.join) x_is reached)) members (ap (half_in seat.member) there)))

-- ---- the halves

-- the halves of one fan are put
module _ (old new : Fans) (f : ℕ) (deltas : BTreeMap ℕ Delta) (put : Updates nat_cmp old.halves new.halves f (Some deltas)) where
  pub half_other : (seat : Seat) → (seat.fan ≡ f → ⊥) → half_at new seat ≡ half_at old seat
  half_other seat other = ap (half_in seat.member) (put.2 seat.fan (apart f seat.fan other))

  pub half_there : (seat : Seat) → seat.fan ≡ f → get nat_cmp new.halves seat.fan ≡ Some deltas
  half_there seat same = ap (get nat_cmp new.halves) same ∙ put.1

-- what stands under no key is nothing
named_if : {A : Type 0} (b : Bool) (x : ℕ × A) (entries : List (ℕ × A)) (m : ℕ) (d : A) → is_at (nat_cmp m) x.0 ≡ b → (lookup (is_at (nat_cmp m)) entries ≡ Some d → is_in (keys_of entries) m ≡ true)
    → cond b (Some x.1) (lookup (is_at (nat_cmp m)) entries) ≡ Some d → is_in (keys_of (x ∷ entries)) m ≡ true
named_if true x entries m d is rest e = let same : nat_eq m x.0 ≡ true = grind (arith, nat_tests) in ap (λ b. b || is_in (keys_of entries) m) same
named_if false x entries m d is rest e = ap (λ b. nat_eq m x.0 || b) (rest e) ∙ or-true (nat_eq m x.0)

named_key : {A : Type 0} (entries : List (ℕ × A)) (m : ℕ) (d : A) → lookup (is_at (nat_cmp m)) entries ≡ Some d → is_in (keys_of entries) m ≡ true
named_key [] m d e = absurd (let no : None ≡ Some d = e in cc)
named_key (x ∷ entries) m d e = named_if (is_at (nat_cmp m) x.0) x entries m d refl (named_key entries m d) e

pub told_none : (deltas : BTreeMap ℕ Delta) (m : ℕ) → (is_in (keys_of deltas.entries) m ≡ true → ⊥) → member_delta deltas m ≡ no_change
told_none deltas m none = by (get nat_cmp deltas m) refl
  where
    by : (o : Option Delta) → get nat_cmp deltas m ≡ o → given_delta o ≡ no_change
    by None e = refl
    by (Some d) e = absurd (none (named_key deltas.entries m d e))

-- ---- no rows

pub none_of : (gone come : List Row) → are_none gone come ≡ true → (gone ≡ []) × (come ≡ [])
none_of [] [] e = (refl, refl)
none_of [] (r ∷ come) e = absurd (let no : false ≡ true = e in cc)
none_of (r ∷ gone) come e = absurd (let no : false ≡ true = e in cc)

pub some_of : (gone come : List Row) → are_none gone come ≡ false → gone ≡ [] → come ≡ [] → ⊥
some_of gone come e g c = let no : true ≡ false = sym (ap (λ xs. are_none xs come) g ∙ ap (are_none []) c) ∙ e in cc

-- ---- places

pub none_past : {A : Type 0} (xs : List A) (k : ℕ) → length xs ≤ k → slice_get xs k ≡ None
none_past [] k le = refl
none_past (x ∷ xs) zero le = absurd (omega (arith, le))
none_past (x ∷ xs) (suc k) le = none_past xs k (omega (arith, le))
