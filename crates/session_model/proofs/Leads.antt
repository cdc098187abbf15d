-- What leads from the facts before a step of the network to those behind it is what the network asks for.
use Rattle.session_model.proofs.Common.{◌≡◌, ◌∙◌, inl, inr, sym, ap, refl, subst, ℕ, ℤ, ◌<◌, ◌==◌, ◌||◌, not, List, [], ◌∷◌, ◌++◌, filter_map, nat_eq, Bool}
use Rattle.session_model.proofs.Common.{true, false, Option, Some, None, Result, Ok, Err, if◌then◌else◌, arith, OnOk, cons_option, filter, find, list_any}
use Rattle.session_model.proofs.Common.{option_to_list, append-nil, In, EachOnce, Fact, Tag, HeldFacts, facts_of, from_list, from_map, tags_rise, Program}
use Rattle.session_model.proofs.Common.{HaveDistinctTags, in_left, in_right, of_map, AllOf, of_filter, in_filter, passed, Named, HasAllOf, MovesSnapshot}
use Rattle.session_model.proofs.Common.{shares_tag, ComesLast, NeverFalls, HasAtHand, LeadsStep, over, HaveOwnTags, Reached, Snapshot, floor_on}
use Rattle.session_model.{specs.Gives.{version_of}, proofs.{Members.{got_new, got_old, of_insert, version_found}, Rising.{Rise, rising_filter, rising_more}}}
use Rattle.{session_model.proofs.Rising.{rising_same}, std.proofs.lemmas.Bool.{eqb-true, not-true}, condition_rows.specs.Sets.{held}}
use Rattle.fx_base.proofs.{Orders.{eqb-flip}, Sequences.{In-append}}
use Rattle.std.specs.FinMap as map

any_in : (n : ℕ) (tags : List ℕ) → list_any (nat_eq n) tags ≡ true → In n tags
any_in n [] e = absurd (let h : false ≡ true = e in cc)
any_in n (tag ∷ tags) e = by (nat_eq n tag) refl e (any_in n tags)
  where
    by : (b : Bool) → nat_eq n tag ≡ b → (b || list_any (nat_eq n) tags) ≡ true → (list_any (nat_eq n) tags ≡ true → In n tags) → In n (tag ∷ tags)
    by true h k rest = inl (eqb-true n tag h)
    by false h k rest = inr (rest k)

-- ---- the facts of a map

module _ (all : HeldFacts) (own : HaveOwnTags all) where
  pub at_own : (f : Fact) → In f (facts_of all) → map.get all f.tag.0 ≡ Some f
  at_own f i = let r = from_list all f i in ap (map.get all) (own r.0 f r.1) ∙ r.1

  -- those with some tags
  found_by : (tag : ℕ) (tags : List ℕ) (f : Fact) (o : Option Fact) → map.get all tag ≡ o → (In f (filter_map (map.get all) tags) → (t : ℕ) × In t tags × (map.get all t ≡ Some f))
      → In f (cons_option o (filter_map (map.get all) tags)) → (t : ℕ) × In t (tag ∷ tags) × (map.get all t ≡ Some f)
  found_by tag tags f None e rest i = let r = rest i in (r.0, inr r.1, r.2)
  found_by tag tags f (Some g) e rest (inl h) = (tag, inl refl, e ∙ ap Some (sym h))
  found_by tag tags f (Some g) e rest (inr i) = let r = rest i in (r.0, inr r.1, r.2)

  of_found : (tags : List ℕ) (f : Fact) → In f (filter_map (map.get all) tags) → (tag : ℕ) × In tag tags × (map.get all tag ≡ Some f)
  of_found [] f i = absurd i
  of_found (tag ∷ tags) f i = found_by tag tags f (map.get all tag) refl (of_found tags f) i

  distinct_found : (tags : List ℕ) → EachOnce tags → HaveDistinctTags (filter_map (map.get all) tags)
  distinct_found [] once = tt
  distinct_found (tag ∷ tags) once = by (map.get all tag) refl (distinct_found tags once.1)
    where
      by : (o : Option Fact) → map.get all tag ≡ o → HaveDistinctTags (filter_map (map.get all) tags) → HaveDistinctTags (cons_option o (filter_map (map.get all) tags))
      by None e rest = rest
      by (Some f) e rest = (
        λ i.
            let q = of_map (λ (g : Fact). g.tag) f.tag (filter_map (map.get all) tags) i in
            let r = of_found tags q.0 q.1 in
            let same : r.0 ≡ tag = sym (own r.0 q.0 r.2) ∙ ap (λ (t : Tag). t.0) q.2 ∙ own tag f e in
            once.0 (subst (λ n. In n tags) same r.1),
        rest,
      )

  -- where all of them are there, they share the tag of a fact exactly where it is one of these tags
  shares_found : (tags : List ℕ) → ((tag : ℕ) → In tag tags → (f : Fact) × (map.get all tag ≡ Some f)) → (f : Fact) → shares_tag (filter_map (map.get all) tags) f ≡ list_any (nat_eq f.tag.0) tags
  shares_found [] there f = refl
  shares_found (tag ∷ tags) there f =
      let r = there tag (inl refl) in
      ap (λ o. shares_tag (cons_option o (filter_map (map.get all) tags)) f) r.1
      ∙ ap (λ b. b || shares_tag (filter_map (map.get all) tags) f) (ap (λ n. n == f.tag.0) (own tag r.0 r.1) ∙ eqb-flip tag f.tag.0)
      ∙ ap (λ b. nat_eq f.tag.0 tag || b) (shares_found tags (λ t i. there t (inr i)) f)

-- the version of a snapshot with a tag
same_version : (facts : List Fact) (tag : Tag) → find (λ (f : Fact). f.tag.0 == tag.0) facts ≡ version_of facts tag
unfolding version_of
same_version [] tag = refl
same_version (f ∷ facts) tag = ap (λ o. if f.tag.0 == tag.0 then Some f else o) (same_version facts tag)

-- ---- a step

module _ (p : Program) (before behind all : HeldFacts) (from to : ℤ) (gone : List ℕ) (come : Option Fact) (l : LeadsStep p before from behind to all gone come) where
  -- what was there is among all
  in_all : (tag : ℕ) (g : Fact) → map.get before tag ≡ Some g → map.get all tag ≡ Some g
  in_all tag g e = by come l.comes
    where
      by : (o : Option Fact) → ComesLast before all o → map.get all tag ≡ Some g
      by None c = ap (λ m. map.get m tag) c ∙ e
      by (Some f) c =
          let lt : tag < f.tag.0 = c.1 tag g e in
          let apart : tag ≡ f.tag.0 → ⊥ = λ (h : tag ≡ f.tag.0). absurd (omega (arith, h, lt)) in
          ap (λ m. map.get m tag) c.0 ∙ got_old before f tag apart ∙ e

  own_before : HaveOwnTags before
  own_before tag g e = l.own tag g (in_all tag g e)

  left_in : (tag : ℕ) (g : Fact) → map.get behind tag ≡ Some g → (map.get all tag ≡ Some g) × (list_any (nat_eq tag) gone ≡ false)
  left_in tag g e = by (list_any (nat_eq tag) gone) refl (sym (l.left tag) ∙ e)
    where
      by : (b : Bool) → list_any (nat_eq tag) gone ≡ b → (if b then None else map.get all tag) ≡ Some g → (map.get all tag ≡ Some g) × (list_any (nat_eq tag) gone ≡ false)
      by true h n = absurd (let x : None ≡ Some g = n in cc)
      by false h n = (n, h)

  own_behind : HaveOwnTags behind
  own_behind tag g e = l.own tag g (left_in tag g e).0

  in_behind : (g : Fact) → map.get all g.tag.0 ≡ Some g → list_any (nat_eq g.tag.0) gone ≡ false → In g (facts_of behind)
  in_behind g e h = from_map behind g g.tag.0 (l.left g.tag.0 ∙ ap (λ b. if b then None else map.get all g.tag.0) h ∙ e)

  -- the facts that go
  abbrev out : List Fact
  out = filter_map (map.get all) gone

  abbrev keeps : Fact → Bool
  keeps f = not (shares_tag out f)

  shared : (f : Fact) → shares_tag out f ≡ list_any (nat_eq f.tag.0) gone
  shared = shares_found all l.own gone (λ tag i. let r = l.held tag i in (r.0, in_all tag r.0 r.1))

  held_out : (f : Fact) → In f out → In f (facts_of before)
  held_out f i =
      let r = of_found all l.own gone f i in
      let h = l.held r.0 r.1 in
      let same : Some h.0 ≡ Some f = sym (in_all r.0 h.0 h.1) ∙ r.2 in
      from_map before f r.0 (h.1 ∙ same)

  -- the one that comes stays
  comes_in : (c : Fact) → ComesLast before all (Some c) → In c (facts_of behind)
  comes_in c h = in_behind c (ap (λ m. map.get m c.tag.0) h.0 ∙ got_new before c) (by (list_any (nat_eq c.tag.0) gone) refl)
    where
      by : (b : Bool) → list_any (nat_eq c.tag.0) gone ≡ b → list_any (nat_eq c.tag.0) gone ≡ false
      by true e =
          let r = l.held c.tag.0 (any_in c.tag.0 gone e) in
          let lt : c.tag.0 < c.tag.0 = h.1 c.tag.0 r.0 r.1 in
          absurd (omega arith)
      by false e = e

  abbrev next : List Fact
  next = filter keeps (facts_of before) ++ option_to_list come

  to_next : AllOf next (facts_of behind)
  to_next f i = by come l.comes
    where
      is : (map.get all f.tag.0 ≡ Some f) × (list_any (nat_eq f.tag.0) gone ≡ false)
      is = left_in f.tag.0 f (at_own behind own_behind f i)

      was : map.get before f.tag.0 ≡ Some f → In f (filter keeps (facts_of before))
      was e = in_filter keeps f (facts_of before) (ap not (shared f ∙ is.1)) (from_map before f f.tag.0 e)

      by : (o : Option Fact) → ComesLast before all o → In f (filter keeps (facts_of before) ++ option_to_list o)
      by None c = in_left f (filter keeps (facts_of before)) [] (was (ap (λ m. map.get m f.tag.0) (sym c) ∙ is.0))
      by (Some c) h = elim (of_insert before c f f.tag.0 (ap (λ m. map.get m f.tag.0) (sym h.0) ∙ is.0)) [
        | inl r ↦ in_right f (filter keeps (facts_of before)) (c ∷ []) (inl r.0)
        | inr e ↦ in_left f (filter keeps (facts_of before)) (c ∷ []) (was e)
      ]

  from_next : AllOf (facts_of behind) next
  from_next f i = elim (In-append f (filter keeps (facts_of before)) (option_to_list come) i) [
    | inl j ↦ in_behind f (in_all f.tag.0 f (at_own before own_before f (of_filter keeps f (facts_of before) j)))
        (sym (shared f) ∙ not-true (shares_tag out f) (passed keeps f (facts_of before) j))
    | inr j ↦ by come l.comes j
  ]
    where
      by : (o : Option Fact) → ComesLast before all o → In f (option_to_list o) → In f (facts_of behind)
      by None c j = absurd j
      by (Some c) h (inl e) = subst (λ (z : Fact). In z (facts_of behind)) (sym e) (comes_in c h)
      by (Some c) h (inr k) = absurd k

  next_rises : Rise next
  next_rises = by come l.comes
    where
      rest : Rise (filter keeps (facts_of before))
      rest = rising_filter keeps (facts_of before) (tags_rise before own_before)

      by : (o : Option Fact) → ComesLast before all o → Rise (filter keeps (facts_of before) ++ option_to_list o)
      by None c = subst Rise (sym (append-nil (filter keeps (facts_of before)))) rest
      by (Some c) h = rising_more (filter keeps (facts_of before)) c rest (λ g i. h.1 g.tag.0 g (at_own before own_before g (of_filter keeps g (facts_of before) i)))

  module _ (was now : Reached) (goes_on : NeverFalls was now) where
    abbrev s : Snapshot
    s = over (facts_of before) from was

    abbrev t : Snapshot
    t = over (facts_of behind) to now

    pub leads_move : MovesSnapshot p s t out come
    leads_move = record {
      before = record { in_order = l.kept_before.in_order; present = l.kept_before.present; low = l.kept_before.low; high = l.kept_before.high };
      after = record { in_order = l.kept_behind.in_order; present = l.kept_behind.present; low = l.kept_behind.low; high = l.kept_behind.high };
      clock = l.later;
      floors = λ entry. floor_on p s t entry l.later (goes_on.last_start entry) (goes_on.promise entry);
      held = held_out;
      once = distinct_found all l.own gone l.once;
      facts = rising_same (facts_of behind) next (tags_rise behind own_behind) next_rises to_next from_next;
    }

  -- the store has at hand those before and behind that are not forgotten
  module _ (was now : Reached) (forgotten : Named → Bool) (facts : HeldFacts) (at_hand : HasAtHand all facts gone forgotten) where
    pub has_before : HasAllOf (λ tag. map.get facts tag.0) (over (facts_of before) from was) forgotten
    unfolding held
    has_before tag f e known =
        let r = version_found (facts_of before) f tag (sym (same_version (facts_of before) tag) ∙ e) in
        ap (map.get facts) (sym r.1) ∙ at_hand.known f.tag.0 f (in_all f.tag.0 f (at_own before own_before f r.0)) known

    pub has_behind : HasAllOf (λ tag. map.get facts tag.0) (over (facts_of behind) to now) forgotten
    unfolding held
    has_behind tag f e known =
        let r = version_found (facts_of behind) f tag (sym (same_version (facts_of behind) tag) ∙ e) in
        ap (map.get facts) (sym r.1) ∙ at_hand.known f.tag.0 f (left_in f.tag.0 f (at_own behind own_behind f r.0)).0 known

-- what the store has of the facts that go are these facts
pub found_going : (all facts : HeldFacts) (tags : List ℕ) → ((tag : ℕ) → In tag tags → map.get facts tag ≡ map.get all tag) → filter_map (map.get facts) tags ≡ filter_map (map.get all) tags
found_going all facts [] same = refl
found_going all facts (tag ∷ tags) same =
    ap (λ o. cons_option o (filter_map (map.get facts) tags)) (same tag (inl refl)) ∙ ap (cons_option (map.get all tag)) (found_going all facts tags (λ t i. same t (inr i)))

-- what holds anyway holds of a success
pub on_ok : {T E P : Type 0} (r : Result T E) → P → OnOk r P
on_ok (Ok x) p = p
on_ok (Err e) p = tt
