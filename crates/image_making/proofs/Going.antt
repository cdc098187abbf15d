-- What is counted of forgotten facts goes on under the new rules, one after the other.
use Rattle.std.proofs.Common.{Bool, List, None, Option, Some, [], ap, arith, cond, false, inl, inr, map, refl, subst, suc, sym, take, true, ℕ, ◌++◌, ◌+◌, ◌↔◌}
use Rattle.std.proofs.{Common.{◌∙◌, ◌∷◌, ◌≡◌, ◌⊎◌, append_assoc}, lemmas.{Bool.{cases_lt}, List.{append-nil}, Cmp.{nat_cmp_total, on_total, then_total}}}
use Rattle.std.{proofs.lemmas.Map.{Entries.{btree_map_get_place}, Lookups.{CmpEqualImpliesEq, exact_unsigned}}, specs.BTreeMap.{BTreeMap, IsOrdered, get}}
use Rattle.std.specs.{BTreeMap.{is_at}, Cmp.{IsTotalOrder}, List.{AllByRecursion, Sorted.{IsStrictlySortedBy}}, Map.{keys_of, lookup}, Ordering.{eq_by_cmp}}
use Rattle.std.specs.{Ordering.{nat_cmp, ordering_then}, declared.cmp.Ordering.{Ordering, TheVariants.{Equal, Greater, Less}}}
use Rattle.{change_resolve.proofs.Places.{some_is}, fx_base.{proofs.{Orders.{is_eq-true}, Sequences.{In-append, In-place}}, specs.Lists.{In}}}
use Rattle.{fx_base.specs.declared.ids.RuleId.{RuleId}, laden_rows.specs.{Extras.{extra_cmp}, Placed.{IsPlaced}}, row_delta.specs.RowOrder.{row_exact}}
use Rattle.{row_delta.specs.{RowOrder.{row_total}, Rows.{row_cmp}, declared.extra.Extra.{Extra}}, rule_change.specs.Changed.{moved_condition}}
use Rattle.rule_model.proofs.{Exact.{decides_by}, Listed.{in_left, in_map, in_right, of_map}, Sorted.{below_each}}
use Rattle.{rule_model.specs.declared.{condition.Condition.{Condition}, program.{Program.{Program}, Rule.{Rule}}}, image_making.specs.Moved.{Beyond, GoesOn}}
use Rattle.image_making.specs.Moved.{IsFirstMoved, IsMoved, IsNewPlace, IsPut, IsPutAt, MovesApart, Place, beyond_of, extra_in, place_cmp, place_of}

-- ---- places in order

place_total : IsTotalOrder place_cmp
place_total =
    then_total (on_total (λ (a : Place). a.0.0) nat_cmp_total) (then_total (on_total (λ (a : Place). a.1.0) nat_cmp_total) (on_total (λ (a : Place). a.1.1) row_total))

both_equal : (o p : Ordering) → ordering_then o p ≡ Equal → (o ≡ Equal) × (p ≡ Equal)
both_equal Less p h = absurd cc
both_equal Equal p h = (refl, h)
both_equal Greater p h = absurd cc

place_exact : CmpEqualImpliesEq place_cmp
place_exact a b h =
    let k = both_equal (nat_cmp a.0.0 b.0.0) (ordering_then (nat_cmp a.1.0 b.1.0) (row_cmp a.1.1 b.1.1)) h in
    let l = both_equal (nat_cmp a.1.0 b.1.0) (row_cmp a.1.1 b.1.1) k.1 in
    let rule = exact_unsigned a.0.0 b.0.0 k.0 in
    let condition = exact_unsigned a.1.0 b.1.0 l.0 in
    let row = row_exact a.1.1 b.1.1 l.1 in
    λ i. (record { 0 = rule i }, (condition i, row i))

extra_total : IsTotalOrder extra_cmp
extra_total = on_total place_of place_total

-- ---- what stands in a map

abbrev pub extra_of : Place × Beyond → Extra
extra_of e = record { rule = e.0.0; condition = e.0.1.0; row = e.0.1.1; count = e.1.0; values = e.1.1 }

found : (k : Place) (v : Beyond) (entries : List (Place × Beyond)) → lookup (is_at (place_cmp k)) entries ≡ Some v → In (k, v) entries
found k v [] e = absurd cc
found k v (x ∷ entries) e = by (is_at (place_cmp k) x.0) refl (found k v entries) e
  where
    by : (b : Bool) → is_at (place_cmp k) x.0 ≡ b → (lookup (is_at (place_cmp k)) entries ≡ Some v → In (k, v) entries)
        → cond b (Some x.1) (lookup (is_at (place_cmp k)) entries) ≡ Some v → In (k, v) (x ∷ entries)
    by true at later h =
        let key = (decides_by place_cmp place_total place_exact k x.0).0 at in
        let value : x.1 ≡ v = some_is h in inl (λ i. (key i, sym value i))
    by false at later h = inr (later h)

pub in_listed : (moved : BTreeMap Place Beyond) → IsOrdered place_cmp moved → (e : Extra) → In e (map extra_of moved.entries) ↔ extra_in moved e
in_listed moved ordered e = (to, λ h. in_map extra_of (place_of e, beyond_of e) moved.entries (found (place_of e) (beyond_of e) moved.entries h))
  where
    to : In e (map extra_of moved.entries) → extra_in moved e
    to i =
        let x = of_map extra_of e moved.entries i in
        let k = In-place x.0 moved.entries x.1 in
        subst (λ (z : Extra). extra_in moved z) x.2 (btree_map_get_place place_total moved k.0 x.0.0 x.0.1 ordered k.1)

-- ---- where an extra goes

one_first : (p q : Program) (n : ℕ) (ours : List Condition) (a b : RuleId) → IsFirstMoved p q n ours (Some a) → IsFirstMoved p q n ours (Some b) → a ≡ b
one_first p q n ours a b first other = elim (cases_lt a.0 b.0) [
  | inl less ↦ absurd (other.3 a.0 first.0 less first.1 first.2)
  | inr over ↦ elim (cases_lt b.0 a.0) [
    | inl less ↦ absurd (first.3 b.0 other.0 less other.1 other.2)
    | inr under ↦ (let same : a.0 ≡ b.0 = omega (arith, over, under) in λ i. record { 0 = same i })
  ]
]

module _ (p q : Program) (apart : MovesApart p q) where
  -- of two extras at one condition and row only one goes to a rule
  one_comes : (a b : Extra) → IsPlaced p a → IsPlaced p b → (rule : RuleId) → a.condition ≡ b.condition → IsNewPlace p q a (Some rule) → IsNewPlace p q b (Some rule) → a.rule.0 ≡ b.rule.0
  one_comes a b ha hb rule same ga gb =
      let n : ℕ = suc b.condition in
      let na : a.condition + 1 ≡ n = omega (arith, same) in
      let nb : b.condition + 1 ≡ n = omega arith in
      let fa = subst (λ (m : ℕ). IsFirstMoved p q m ha.rule.conditions (Some rule)) na (ga ha.rule ha.stands) in
      let fb = subst (λ (m : ℕ). IsFirstMoved p q m hb.rule.conditions (Some rule)) nb (gb hb.rule hb.stands) in
      let r : fa.0 ≡ fb.0 = some_is (sym fa.1 ∙ fb.1) in
      let moved : map (moved_condition p q) (take n ha.rule.conditions) ≡ map (moved_condition p q) (take n hb.rule.conditions) =
      sym fa.2 ∙ ap (λ (x : Rule). take n x.conditions) r ∙ fb.2 in
      let begin = apart a.rule.0 b.rule.0 n ha.rule hb.rule ha.stands hb.stands moved in
      elim (cases_lt a.rule.0 b.rule.0) [
        | inl less ↦ absurd (hb.first.earlier a.rule.0 ha.rule less ha.stands begin)
        | inr over ↦ elim (cases_lt b.rule.0 a.rule.0) [
          | inl less ↦
              absurd (ha.first.earlier b.rule.0 hb.rule less hb.stands (subst (λ (m : ℕ). take m hb.rule.conditions ≡ take m ha.rule.conditions) (ap suc (sym same)) (sym begin)))
          | inr under ↦ omega (arith, over, under)
        ]
      ]

  before : (done rest : List Extra) (x : Extra) → IsStrictlySortedBy extra_cmp (done ++ x ∷ rest) → (y : Extra) → In y done → extra_cmp y x ≡ Less
  unfolding IsStrictlySortedBy
  before [] rest x s y i = absurd i
  before (z ∷ done) rest x s y (inl e) = ap (λ (w : Extra). extra_cmp w x) e ∙ below_each extra_cmp extra_total z (done ++ x ∷ rest) s.0 x (in_right x done (x ∷ rest) (inl refl))
  before (z ∷ done) rest x s y (inr i) = before done rest x s.1 y i

  -- an extra that stands before another goes elsewhere
  elsewhere : (done rest : List Extra) (x y : Extra) → IsStrictlySortedBy extra_cmp (done ++ x ∷ rest) → IsPlaced p x → IsPlaced p y → In y done → (rule : RuleId)
      → place_of (record y { rule = rule }) ≡ place_of (record x { rule = rule }) → IsNewPlace p q x (Some rule) → IsNewPlace p q y (Some rule) → ⊥
  elsewhere done rest x y s hx hy i rule same gx gy =
      let n = one_comes y x hy hx rule (ap (λ (k : Place). k.1.0) same) gy gx in
      let key : place_of y ≡ place_of x = λ j. (record { 0 = n j }, (same j).1) in
      let equal : place_cmp (place_of y) (place_of x) ≡ Equal = is_eq-true (place_cmp (place_of y) (place_of x)) ((decides_by place_cmp place_total place_exact (place_of y) (place_of x)).1 key) in
      let torn : Less ≡ Equal = sym (before done rest x s y i) ∙ equal in cc

  -- ---- one extra more

  abbrev AreGoingBy : List Extra → BTreeMap Place Beyond → Type 0
  AreGoingBy done moved = (e : Extra) → extra_in moved e ↔ IsMoved p q done e

  module _ (done rest : List Extra) (x : Extra) (placed : (e : Extra) → In e (done ++ x ∷ rest) → IsPlaced p e) (sorted : IsStrictlySortedBy extra_cmp (done ++ x ∷ rest))
      (was is : BTreeMap Place Beyond) (before_is : AreGoingBy done was) where
    here : IsPlaced p x
    here = placed x (in_right x done (x ∷ rest) (inl refl))

    there : (y : Extra) → In y done → IsPlaced p y
    there y i = placed y (in_left y done (x ∷ rest) i)

    grown : (e : Extra) → IsMoved p q done e → IsMoved p q (done ++ x ∷ []) e
    grown e h = (h.0, in_left h.0 done (x ∷ []) h.1, h.2)

    split : (e : Extra) → IsMoved p q (done ++ x ∷ []) e → IsMoved p q done e ⊎ GoesOn p q x e
    split e h = elim (In-append h.0 done (x ∷ []) h.1) [
      | inl i ↦ inl (h.0, i, h.2)
      | inr (inl same) ↦ inr (subst (λ (y : Extra). GoesOn p q y e) same h.2)
      | inr (inr none) ↦ absurd none
    ]

    put_none : IsNewPlace p q x None → is ≡ was → AreGoingBy (done ++ x ∷ []) is
    put_none none same e = (
      λ h. grown e ((before_is e).0 (subst (λ (m : BTreeMap Place Beyond). extra_in m e) same h)),
      λ h. elim (split e h) [
        | inl old ↦ subst (λ (m : BTreeMap Place Beyond). extra_in m e) (sym same) ((before_is e).1 old)
        | inr goes ↦ (let first = goes.1 here.rule here.stands in absurd (none here.rule here.stands e.rule.0 first.0 first.1 first.2))
      ],
    )

    module _ (rule : RuleId) (new : IsNewPlace p q x (Some rule)) (put : IsPutAt x (Some rule) was is) where
      abbrev key : Place
      key = place_of (record x { rule = rule })

      by : (e : Extra) (b : Bool) → eq_by_cmp place_cmp key (place_of e) ≡ b → extra_in is e ↔ IsMoved p q (done ++ x ∷ []) e
      by e true at = (to, back)
        where
          same : key ≡ place_of e
          same = (decides_by place_cmp place_total place_exact key (place_of e)).0 at

          stands : get place_cmp is (place_of e) ≡ Some (beyond_of x)
          stands = put (place_of e) ∙ ap (λ b. cond b (Some (beyond_of x)) (get place_cmp was (place_of e))) at

          new_here : IsNewPlace p q x (Some e.rule)
          new_here = subst (λ (r : RuleId). IsNewPlace p q x (Some r)) (ap (λ (k : Place). k.0) same) new

          to : extra_in is e → IsMoved p q (done ++ x ∷ []) e
          to h =
              let beyond : beyond_of x ≡ beyond_of e = some_is (sym stands ∙ h) in
              let alike : e ≡ record x { rule = e.rule } = λ i. record {
                rule = e.rule;
                condition = (sym same i).1.0;
                row = (sym same i).1.1;
                count = (sym beyond i).0;
                values = (sym beyond i).1;
              } in (x, in_right x done (x ∷ []) (inl refl), (alike, new_here))

          back : IsMoved p q (done ++ x ∷ []) e → extra_in is e
          back h = elim (split e h) [
            | inl old ↦ absurd (elsewhere done rest x old.0 sorted here (there old.0 old.1) old.1 e.rule (other old) new_here old.2.1)
            | inr goes ↦ stands ∙ ap (λ (z : Extra). Some (beyond_of z)) (sym goes.0)
          ]
            where
              other : (old : IsMoved p q done e) → place_of (record old.0 { rule = e.rule }) ≡ place_of (record x { rule = e.rule })
              other old = ap place_of (sym old.2.0) ∙ sym same ∙ ap (λ (r : RuleId). place_of (record x { rule = r })) (ap (λ (k : Place). k.0) same)
      by e false at = (λ h. grown e ((before_is e).0 (sym stands ∙ h)), back)
        where
          stands : get place_cmp is (place_of e) ≡ get place_cmp was (place_of e)
          stands = put (place_of e) ∙ ap (λ b. cond b (Some (beyond_of x)) (get place_cmp was (place_of e))) at

          back : IsMoved p q (done ++ x ∷ []) e → extra_in is e
          back h = elim (split e h) [
            | inl old ↦ stands ∙ (before_is e).1 old
            | inr goes ↦ absurd (
                let one = one_first p q (x.condition + 1) here.rule.conditions rule e.rule (new here.rule here.stands) (goes.1 here.rule here.stands) in
                let same : key ≡ place_of e = ap (λ (r : RuleId). place_of (record x { rule = r })) one ∙ ap place_of (sym goes.0) in
                let torn : false ≡ true = sym at ∙ (decides_by place_cmp place_total place_exact key (place_of e)).1 same in cc)
          ]

      put_some : AreGoingBy (done ++ x ∷ []) is
      put_some e = by e (eq_by_cmp place_cmp key (place_of e)) refl

    pub one_goes : IsPut p q x was is → AreGoingBy (done ++ x ∷ []) is
    one_goes put = of put.0 put.1 put.2
      where
        of : (place : Option RuleId) → IsNewPlace p q x place → IsPutAt x place was is → AreGoingBy (done ++ x ∷ []) is
        of None new at = put_none new at
        of (Some rule) new at = put_some rule new at

-- ---- the loop

-- What was taken of these extras has gone on, and these are still to come.
abbrev pub AreGoing : (p q : Program) (all rest : List Extra) (moved : BTreeMap Place Beyond) → Type 0
AreGoing p q all rest moved = (done : List Extra) × (done ++ rest ≡ all) × ((e : Extra) → extra_in moved e ↔ IsMoved p q done e)

module _ (p q : Program) (apart : MovesApart p q) (all : List Extra) (placed : (e : Extra) → In e all → IsPlaced p e) (sorted : IsStrictlySortedBy extra_cmp all) where
  pub none_going : (moved : BTreeMap Place Beyond) (rest : List Extra) → rest ≡ all → ((k : Place) → get place_cmp moved k ≡ None) → AreGoing p q all rest moved
  none_going moved rest same empty = ([], same, λ e. (λ h. absurd (let torn : None ≡ Some (beyond_of e) = sym (empty (place_of e)) ∙ h in cc), λ h. absurd h.1))

  pub one_going : (was is : BTreeMap Place Beyond) (x : Extra) (now rest : List Extra) → now ≡ x ∷ rest → IsPut p q x was is → AreGoing p q all now was → AreGoing p q all rest is
  one_going was is x now rest next put so =
      let whole : so.0 ++ x ∷ rest ≡ all = ap (λ (es : List Extra). so.0 ++ es) (sym next) ∙ so.1 in (
        so.0 ++ x ∷ [],
        append_assoc so.0 (x ∷ []) rest ∙ whole,
        one_goes p q apart so.0 rest x (λ e i. placed e (subst (In e) whole i)) (subst (IsStrictlySortedBy extra_cmp) (sym whole) sorted) was is so.2 put,
      )

  pub all_going : (moved : BTreeMap Place Beyond) (rest listed : List Extra) → rest ≡ [] → AreGoing p q all rest moved → ((e : Extra) → In e listed ↔ extra_in moved e)
      → (e : Extra) → In e listed ↔ IsMoved p q all e
  all_going moved rest listed none so are e =
      let whole : so.0 ≡ all = sym (append-nil so.0) ∙ ap (λ (es : List Extra). so.0 ++ es) (sym none) ∙ so.1 in (
        λ i. subst (λ (es : List Extra). IsMoved p q es e) whole ((so.2 e).0 ((are e).0 i)),
        λ h. (are e).1 ((so.2 e).1 (subst (λ (es : List Extra). IsMoved p q es e) (sym whole) h)),
      )

-- ---- the list of a map

pub one_listed : (made now : List Extra) (x : Place × Beyond) (entries rest all : List (Place × Beyond)) (e : Extra) → e ≡ extra_of x → now ≡ made ++ e ∷ [] → entries ≡ x ∷ rest
    → made ++ map extra_of entries ≡ map extra_of all → now ++ map extra_of rest ≡ map extra_of all
one_listed made now x entries rest all e is put next so =
    ap (λ (es : List Extra). es ++ map extra_of rest) (put ∙ ap (λ (y : Extra). made ++ y ∷ []) is) ∙ append_assoc made (extra_of x ∷ []) (map extra_of rest)
    ∙ ap (λ (es : List (Place × Beyond)). made ++ map extra_of es) (sym next) ∙ so

pub all_listed : (listed : List Extra) (rest all : List (Place × Beyond)) → rest ≡ [] → listed ++ map extra_of rest ≡ map extra_of all → listed ≡ map extra_of all
all_listed listed rest all none so = sym (append-nil listed) ∙ ap (λ (es : List (Place × Beyond)). listed ++ map extra_of es) (sym none) ∙ so

places_listed : (entries : List (Place × Beyond)) → map place_of (map extra_of entries) ≡ keys_of entries
places_listed [] = refl
places_listed (x ∷ entries) = ap (λ ks. x.0 ∷ ks) (places_listed entries)

module _ {A B : Type 0} (g : A → B) (order : B → B → Ordering) where
  below_unmapped : (x : A) (xs : List A) → AllByRecursion (λ k. order (g x) k ≡ Less) (map g xs) → AllByRecursion (λ y. order (g x) (g y) ≡ Less) xs
  below_unmapped x [] b = tt
  below_unmapped x (y ∷ xs) b = (b.0, below_unmapped x xs b.1)

  pub unmapped : (xs : List A) → IsStrictlySortedBy order (map g xs) → IsStrictlySortedBy (λ x y. order (g x) (g y)) xs
  unfolding IsStrictlySortedBy
  unmapped [] s = tt
  unmapped (x ∷ xs) s = (below_unmapped x xs s.0, unmapped xs s.1)

pub listed_in_order : (moved : BTreeMap Place Beyond) → IsOrdered place_cmp moved → IsStrictlySortedBy extra_cmp (map extra_of moved.entries)
listed_in_order moved ordered = unmapped place_of place_cmp (map extra_of moved.entries) (subst (IsStrictlySortedBy place_cmp) (sym (places_listed moved.entries)) ordered)
