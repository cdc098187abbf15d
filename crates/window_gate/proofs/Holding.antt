-- Arrivals that a time window holds: those that leave it, and those that enter.
use Rattle.window_gate.proofs.Common.{◌≡◌, ◌∙◌, sym, ap, refl, subst, ℕ, ℤ, ◌+ℤ◌, ◌≤ℤ◌, ◌<ℤ◌, List, [], ◌∷◌, ◌++◌, ◌<◌, Bool, true, false, cond, ◌==◌, ◌&&◌}
use Rattle.window_gate.proofs.Common.{◌||◌, Option, Some, None, option_map, arith, option_or, ints, int_lt, int_le, IfSome, IsSomeAnd, is_at, list_any, nat_cmp}
use Rattle.window_gate.proofs.Common.{int_cmp, eq_by_cmp, unsigned_tied, Decides-eqb, list_any-append, FactId, name_cmp, Named, GateChange, Come, Gone, Clock}
use Rattle.window_gate.proofs.Common.{TimeWindow, Arrival, has_tag, has_version, HeldArrivals, HoldsArrivals, leaves_at, is_id, has_time_come, takes_out}
use Rattle.window_gate.proofs.{Common.{brings, Leave, Enter, and-false, or-false, eqb-flip, Included, found, is_due, come}, Names.{same_name, same_name-parts}}
use Rattle.window_gate.proofs.Wholes.{only_it}

-- what is held is what is held under each tag
pub holds_same : (window : TimeWindow) (held other : HeldArrivals) → ((tag : ℕ) → held tag ≡ other tag) → HoldsArrivals window held → HoldsArrivals window other
holds_same window held other same holds = record { leaving = λ tag. holds.leaving tag ∙ ap (option_map (leaves_at window.millis)) (same tag) }

none_either : (b : Bool) → cond {A = Option Arrival} b None None ≡ None
none_either true = refl
none_either false = refl

-- ---- those that leave

-- one leaves where it does by an equal test
leave_same : (a b : TimeWindow) (p q : ℕ → Option Arrival → Bool) (xs : List Named) → ((held : HeldArrivals) → HoldsArrivals a held → (tag : ℕ) → p tag (held tag) ≡ q tag (held tag)) → Leave a b p xs → Leave a b q xs
leave_same a b p q xs same leave = record {
  millis = leave.millis;
  versions = λ held holds named. leave.versions held holds named ∙ ap (λ t. t && is_id named.id.0 (held named.tag.0)) (same held holds named.tag.0);
  rest = λ held holds. holds_same b _ _ (λ tag. ap (λ t. cond t None (held tag)) (same held holds tag)) (leave.rest held holds);
}

-- none leaves
pub leave_none : (a : TimeWindow) (p : ℕ → Option Arrival → Bool) → ((held : HeldArrivals) → HoldsArrivals a held → (tag : ℕ) → p tag (held tag) ≡ false) → Leave a a p []
leave_none a p none = leave_same a a (λ _ _. false) p [] (λ held holds tag. sym (none held holds tag)) (record {
  millis = refl;
  versions = λ held holds named. refl;
  rest = λ held holds. holds;
})

-- some leave, then others
pub leave_then : (a b c : TimeWindow) (p q : ℕ → Option Arrival → Bool) (xs ys : List Named) → Leave a b p xs → Leave b c q ys → Leave a c (λ tag one. p tag one || q tag one) (xs ++ ys)
leave_then a b c p q xs ys first second = record {
  millis = second.millis ∙ first.millis;
  versions = λ held holds named.
      list_any-append (eq_by_cmp name_cmp named) xs ys ∙ ap (λ h. h || has_version ys named) (first.versions held holds named)
      ∙ ap (λ h. (p named.tag.0 (held named.tag.0) && is_id named.id.0 (held named.tag.0)) || h) (second.versions _ (first.rest held holds) named)
      ∙ either (p named.tag.0 (held named.tag.0)) (q named.tag.0) named.id.0 (held named.tag.0);
  rest = λ held holds. holds_same c _ _ (λ tag. both (p tag (held tag)) (q tag) (held tag)) (second.rest _ (first.rest held holds));
}
  where
    either : (p : Bool) (q : Option Arrival → Bool) (id : ℕ) (o : Option Arrival) → ((p && is_id id o) || (q (cond p None o) && is_id id (cond p None o))) ≡ ((p || q o) && is_id id o)
    either true q id o = ap (λ b. is_id id o || b) (and-false (q None)) ∙ or-false (is_id id o)
    either false q id o = refl

    both : (p : Bool) (q : Option Arrival → Bool) (o : Option Arrival) → cond (q (cond p None o)) None (cond p None o) ≡ cond (p || q o) None o
    both true q o = none_either (q None)
    both false q o = refl

-- the same versions in another list
pub leave_listed : (a b : TimeWindow) (p : ℕ → Option Arrival → Bool) (xs ys : List Named) → ((named : Named) → has_version ys named ≡ has_version xs named) → Leave a b p xs → Leave a b p ys
leave_listed a b p xs ys same leave = record {
  millis = leave.millis;
  versions = λ held holds named. same named ∙ leave.versions held holds named;
  rest = leave.rest;
}

-- ---- as long as one is due

abbrev pub tagged : List Named → ℕ → Option Arrival → Bool
tagged xs tag _ = list_any (has_tag tag) xs

module _ (now : ℤ) (a b : TimeWindow) (xs : List Named) (leave : Leave a b (tagged xs) xs)
    (due : (held : HeldArrivals) → HoldsArrivals a held → (tag : ℕ) → list_any (has_tag tag) xs ≡ true → has_time_come a.millis now (held tag) ≡ true) where
  module _ (c : TimeWindow) (named : Named) (one : Leave b c (λ tag _. tag == named.tag.0) (named ∷ [])) where
    pub one_more_left : Leave a c (tagged (xs ++ named ∷ [])) (xs ++ named ∷ [])
    one_more_left =
        leave_same a c _ _ (xs ++ named ∷ []) (λ held holds tag. ap (λ t. list_any (has_tag tag) xs || t) (sym (or-false (tag == named.tag.0))) ∙ sym (list_any-append (has_tag tag) xs (named ∷ [])))
        (leave_then a b c (tagged xs) (λ tag _. tag == named.tag.0) xs (named ∷ []) leave one)

    pub one_more_due : ((held : HeldArrivals) → HoldsArrivals b held → has_time_come b.millis now (held named.tag.0) ≡ true) → (held : HeldArrivals) → HoldsArrivals a held → (tag : ℕ)
        → list_any (has_tag tag) (xs ++ named ∷ []) ≡ true → has_time_come a.millis now (held tag) ≡ true
    one_more_due is held holds tag e =
        either (list_any (has_tag tag) xs) (tag == named.tag.0) (due held holds tag)
        (λ t. ap (λ k. has_time_come a.millis now (held k)) ((Decides-eqb tag named.tag.0).0 t)
        ∙ still (list_any (has_tag named.tag.0) xs) (held named.tag.0) (subst (λ m. has_time_come m now (cond (list_any (has_tag named.tag.0) xs) None (held named.tag.0)) ≡ true) leave.millis (is _ (leave.rest held holds))))
        (sym (list_any-append (has_tag tag) xs (named ∷ [])) ∙ e)
      where
        still : (b : Bool) (o : Option Arrival) → has_time_come a.millis now (cond b None o) ≡ true → has_time_come a.millis now o ≡ true
        still true o e = absurd (let f : false ≡ true = e in cc)
        still false o e = e

        either : {X : Type 0} (s t : Bool) → (s ≡ true → X) → (t ≡ true → X) → (s || (t || false)) ≡ true → X
        either true t x y e = x refl
        either false true x y e = y refl
        either false false x y e = absurd (let f : false ≡ true = e in cc)

  -- and then none is
  pub all_due_left : ((held : HeldArrivals) → HoldsArrivals b held → (tag : ℕ) → has_time_come b.millis now (held tag) ≡ false) → Leave a b (λ _ one. has_time_come a.millis now one) xs
  all_due_left none = leave_same a b (tagged xs) _ xs (λ held holds tag. same (list_any (has_tag tag) xs) (held tag) (due held holds tag)
      (subst (λ m. has_time_come m now (cond (list_any (has_tag tag) xs) None (held tag)) ≡ false) leave.millis (none _ (leave.rest held holds) tag))) leave
    where
      same : (b : Bool) (o : Option Arrival) → (b ≡ true → has_time_come a.millis now o ≡ true) → has_time_come a.millis now (cond b None o) ≡ false → b ≡ has_time_come a.millis now o
      same true o e f = sym (e refl)
      same false o e f = sym f

-- ---- the first that leaves

-- where it is later than now, none is due
pub none_due : (window : TimeWindow) (now : ℤ) (first : Option ℤ) → IfSome first (λ at. now <ℤ at) → ((tag : ℕ) (at : ℤ) (id : FactId) → found nat_cmp window.leaving tag ≡ Some (at, id) → IsSomeAnd first (λ m. m ≤ℤ at))
    → (held : HeldArrivals) → HoldsArrivals window held → (tag : ℕ) → has_time_come window.millis now (held tag) ≡ false
none_due window now first quiet least held holds tag = not_due first quiet (held tag) (λ at id there. least tag at id (holds.leaving tag ∙ there))
  where
    later : (m at : ℤ) → now <ℤ m → m ≤ℤ at → int_le at now ≡ false
    later m at h k = grind (arith, ints)

    not_due : (first : Option ℤ) → IfSome first (λ at. now <ℤ at) → (o : Option Arrival) → ((at : ℤ) (id : FactId) → option_map (leaves_at window.millis) o ≡ Some (at, id) → IsSomeAnd first (λ m. m ≤ℤ at)) → has_time_come window.millis now o ≡ false
    not_due first quiet None least = refl
    not_due None quiet (Some a) least = absurd (least (a.start +ℤ window.millis) a.named.id refl)
    not_due (Some m) quiet (Some a) least = later m (a.start +ℤ window.millis) quiet (least (a.start +ℤ window.millis) a.named.id refl)

-- what is due by the bound has come
pub due_come : (millis now : ℤ) (o : Option Arrival) → is_due int_cmp (Included now) (option_map (leaves_at millis) o) ≡ has_time_come millis now o
due_come millis now None = refl
due_come millis now (Some a) = come now (a.start +ℤ millis)

-- an id is that of one that leaves then
pub record IsThere (millis at : ℤ) (id : FactId) (one : Option Arrival) : Type 0 where
  pub arrival : Arrival
  pub is : one ≡ Some arrival
  pub leaves : arrival.start +ℤ millis ≡ at
  pub named : arrival.named.id ≡ id

pub is_there : (millis at : ℤ) (id : FactId) (one : Option Arrival) → option_map (leaves_at millis) one ≡ Some (at, id) → IsThere millis at id one
is_there millis at id None e = absurd (let f : None ≡ Some (at, id) = e in cc)
is_there millis at id (Some a) e =
    let both : leaves_at millis a ≡ (at, id) = cc in
    record { arrival = a; is = refl; leaves = ap (λ (x : ℤ × FactId). x.0) both; named = ap (λ (x : ℤ × FactId). x.1) both }

-- ---- one leaves

without_it : (t : Bool) (o : Option Arrival) → (t ≡ true → o ≡ None) → o ≡ cond t None o
without_it true o e = e refl
without_it false o e = refl

-- the test for a tag
tag_tie : (key tag : ℕ) → is_at (nat_cmp key) tag ≡ (tag == key)
tag_tie key tag = unsigned_tied key tag ∙ eqb-flip key tag

map_cond : {X : Type 0} (f : Arrival → X) (t : Bool) (one other : Option Arrival) → cond t (option_map f one) (option_map f other) ≡ option_map f (cond t one other)
map_cond f true one other = refl
map_cond f false one other = refl

-- a tag is written, or taken out
module _ (old new : TimeWindow) (key : ℕ) (one : Option Arrival) (millis : new.millis ≡ old.millis)
    (leaving : (tag : ℕ) → found nat_cmp new.leaving tag ≡ cond (is_at (nat_cmp key) tag) (option_map (leaves_at old.millis) one) (found nat_cmp old.leaving tag)) where
  holds_then : (held : HeldArrivals) → HoldsArrivals old held → HoldsArrivals new (λ tag. cond (tag == key) one (held tag))
  holds_then held holds = record {
    leaving = λ tag.
        leaving tag ∙ ap (λ t. cond t (option_map (leaves_at old.millis) one) (found nat_cmp old.leaving tag)) (tag_tie key tag)
        ∙ ap (cond (tag == key) (option_map (leaves_at old.millis) one)) (holds.leaving tag) ∙ map_cond (leaves_at old.millis) (tag == key) one (held tag)
        ∙ ap (λ m. option_map (leaves_at m) (cond (tag == key) one (held tag))) (sym millis);
  }

-- one is taken out
pub leave_one : (old new : TimeWindow) (at : ℤ) (named : Named) → new.millis ≡ old.millis → ((tag : ℕ) → found nat_cmp new.leaving tag ≡ cond (is_at (nat_cmp named.tag.0) tag) None (found nat_cmp old.leaving tag))
    → found nat_cmp old.leaving named.tag.0 ≡ Some (at, named.id) → Leave old new (λ tag _. tag == named.tag.0) (named ∷ [])
leave_one old new at named millis leaving is = record {
  millis = millis;
  versions = λ held holds other.
      only_it other named ∙ same_name-parts other named
      ∙ under (other.tag.0 == named.tag.0) (other.id.0 == named.id.0) (is_id other.id.0 (held other.tag.0))
      (λ t.
      let r = is_there old.millis at named.id (held named.tag.0) (sym (holds.leaving named.tag.0) ∙ is) in
      sym (ap (λ k. is_id other.id.0 (held k)) ((Decides-eqb other.tag.0 named.tag.0).0 t) ∙ ap (is_id other.id.0) r.is ∙ ap (λ (id : FactId). other.id.0 == id.0) r.named));
  rest = holds_then old new named.tag.0 None millis leaving;
}
  where
    under : (t x y : Bool) → (t ≡ true → x ≡ y) → (t && x) ≡ (t && y)
    under true x y e = e refl
    under false x y e = refl

-- none has the tag
pub leave_absent : (old new : TimeWindow) (key : ℕ) → new.millis ≡ old.millis → ((tag : ℕ) → found nat_cmp new.leaving tag ≡ cond (is_at (nat_cmp key) tag) None (found nat_cmp old.leaving tag))
    → found nat_cmp old.leaving key ≡ None → Leave old new (λ tag _. tag == key) []
leave_absent old new key millis leaving is = record {
  millis = millis;
  versions = λ held holds named. sym (nobody (named.tag.0 == key) named.id.0 (held named.tag.0) (λ t. ap held ((Decides-eqb named.tag.0 key).0 t) ∙ none (held key) (sym (holds.leaving key) ∙ is)));
  rest = holds_then old new key None millis leaving;
}
  where
    none : (o : Option Arrival) → option_map (leaves_at old.millis) o ≡ None → o ≡ None
    none None e = refl
    none (Some a) e = absurd (let f : Some (leaves_at old.millis a) ≡ None = e in cc)

    nobody : (t : Bool) (id : ℕ) (o : Option Arrival) → (t ≡ true → o ≡ None) → (t && is_id id o) ≡ false
    nobody true id o e = ap (is_id id) (e refl)
    nobody false id o e = refl

-- a change of another kind takes no tag out
pub not_gone : (change : GateChange) → ((named : Named) → change ≡ Gone named → ⊥) → (tag : ℕ) → takes_out change tag ≡ false
not_gone (Come named start) is_not tag = refl
not_gone (Gone named) is_not tag = absurd (is_not named refl)
not_gone Clock is_not tag = refl

-- ---- one enters

-- a change of another kind brings none
pub not_come : (millis now : ℤ) (change : GateChange) → ((named : Named) (start : ℤ) → change ≡ Come named start → ⊥) → (tag : ℕ) → brings millis now change tag ≡ None
not_come millis now (Come named start) is_not tag = absurd (is_not named start refl)
not_come millis now (Gone named) is_not tag = refl
not_come millis now Clock is_not tag = refl

-- the arrival of a version that comes
abbrev pub arrival_of : Named → ℤ → Arrival
arrival_of named start = record { named = named; start = start }

-- none does
pub enter_none : (window : TimeWindow) (these : HeldArrivals) → ((tag : ℕ) → these tag ≡ None) → Enter window window these None
enter_none window these none = record {
  version = λ named. ap (is_id named.id.0) (sym (none named.tag.0));
  rest = λ held holds. holds_same window held _ (λ tag. ap (λ o. option_or o (held tag)) (sym (none tag))) holds;
}

-- one is put in
pub enter_one : (old new : TimeWindow) (named : Named) (start moment now : ℤ) → new.millis ≡ old.millis → moment ≡ start +ℤ old.millis → now <ℤ moment
    → ((tag : ℕ) → found nat_cmp new.leaving tag ≡ cond (is_at (nat_cmp named.tag.0) tag) (Some (moment, named.id)) (found nat_cmp old.leaving tag)) → Enter old new (brings old.millis now (Come named start)) (Some named)
enter_one old new named start moment now millis is ahead leaving =
    subst (λ i. Enter old new (λ tag. cond (i && (tag == named.tag.0)) (Some (arrival_of named start)) None) (Some named)) (sym recent) (record {
      version = λ other. only_it other named ∙ same_name-parts other named ∙ id_there (other.tag.0 == named.tag.0) other.id.0;
      rest = λ held holds. holds_same new _ _ (λ tag. or_is (tag == named.tag.0) (held tag))
          (holds_then old new named.tag.0 (Some (arrival_of named start)) millis
          (λ tag. leaving tag ∙ ap (λ m. cond (is_at (nat_cmp named.tag.0) tag) (Some (m, named.id)) (found nat_cmp old.leaving tag)) is) held holds);
    })
  where
    recent : int_lt now (start +ℤ old.millis) ≡ true
    recent = ap (int_lt now) (sym is) ∙ before now moment ahead
      where
        before : (a b : ℤ) → a <ℤ b → int_lt a b ≡ true
        before a b h = grind (arith, ints)

    id_there : (t : Bool) (id : ℕ) → (t && (id == named.id.0)) ≡ is_id id (cond t (Some (arrival_of named start)) None)
    id_there true id = refl
    id_there false id = refl

    or_is : (t : Bool) (o : Option Arrival) → cond t (Some (arrival_of named start)) o ≡ option_or (cond t (Some (arrival_of named start)) None) o
    or_is true o = refl
    or_is false o = refl

-- one is late
pub enter_late : (window : TimeWindow) (named : Named) (start moment now : ℤ) → moment ≡ start +ℤ window.millis → moment ≤ℤ now → Enter window window (brings window.millis now (Come named start)) None
enter_late window named start moment now is late =
    enter_none window (brings window.millis now (Come named start)) (λ tag. ap (λ b. cond (b && (tag == named.tag.0)) (Some (arrival_of named start)) None) (ap (int_lt now) (sym is) ∙ past now moment late))
  where
    past : (a b : ℤ) → b ≤ℤ a → int_lt a b ≡ false
    past a b h = grind (arith, ints)

-- ---- versions in a set

-- one more is there
pub one_name_more : (named one : Named) (before after : Bool) → after ≡ cond (is_at (name_cmp one) named) true before → after ≡ (before || same_name named one)
one_name_more named one before after put =
    put ∙ either (same_name one named) before ∙ ap (λ t. before || t) (same_name-parts one named ∙ ap (λ t. t && (one.id.0 == named.id.0)) (eqb-flip one.tag.0 named.tag.0)
    ∙ ap (λ t. (named.tag.0 == one.tag.0) && t) (eqb-flip one.id.0 named.id.0) ∙ sym (same_name-parts named one))
  where
    either : (t b : Bool) → cond t true b ≡ (b || t)
    either true true = refl
    either true false = refl
    either false b = sym (or-false b)
