-- Facts in the order of their tags.
use Rattle.session_model.proofs.Common.{◌≡◌, ◌∙◌, inl, inr, sym, ap, refl, subst, ℕ, ◌<◌, List, [], ◌∷◌, ◌++◌, map, Bool, true, false, cond, arith, Less}
use Rattle.session_model.proofs.Common.{AllByRecursion, filter, nat_cmp, In, Fact, Tag, HaveDistinctTags, of_map, AllOf, of_filter}
use Rattle.{std.specs.List.Sorted.{IsStrictlySortedBy}, fx_base.proofs.{Orders.{lt-nat_cmp, nat_cmp-Less}, Sequences.{In-append}}}

abbrev pub Rise : List Fact → Type 0
Rise facts = IsStrictlySortedBy nat_cmp (map (λ (f : Fact). f.tag.0) facts)

-- the tag is below those of all facts
abbrev IsBelow : ℕ → List Fact → Type 0
IsBelow tag facts = AllByRecursion (λ n. nat_cmp tag n ≡ Less) (map (λ (f : Fact). f.tag.0) facts)

below_each : (tag : ℕ) (facts : List Fact) → IsBelow tag facts → (f : Fact) → In f facts → tag < f.tag.0
below_each tag [] b f i = absurd i
below_each tag (x ∷ facts) b f (inl e) = subst (λ (z : Fact). tag < z.tag.0) (sym e) (nat_cmp-Less tag x.tag.0 b.0)
below_each tag (x ∷ facts) b f (inr i) = below_each tag facts b.1 f i

each_below : (tag : ℕ) (facts : List Fact) → ((f : Fact) → In f facts → tag < f.tag.0) → IsBelow tag facts
each_below tag [] h = tt
each_below tag (x ∷ facts) h = (lt-nat_cmp tag x.tag.0 (h x (inl refl)), each_below tag facts (λ f i. h f (inr i)))

-- their tags differ
pub rising_distinct : (facts : List Fact) → Rise facts → HaveDistinctTags facts
unfolding IsStrictlySortedBy
rising_distinct [] rise = tt
rising_distinct (f ∷ facts) rise = (
  λ i.
      let q = of_map (λ (g : Fact). g.tag) f.tag facts i in
      let lt : f.tag.0 < q.0.tag.0 = below_each f.tag.0 facts rise.0 q.0 q.1 in
      let same : q.0.tag.0 ≡ f.tag.0 = ap (λ (t : Tag). t.0) q.2 in
      absurd (omega arith),
  rising_distinct facts rise.1,
)

-- some of them
pub rising_filter : (test : Fact → Bool) (facts : List Fact) → Rise facts → Rise (filter test facts)
unfolding IsStrictlySortedBy
rising_filter test [] rise = rise
rising_filter test (f ∷ facts) rise = by (test f) (rising_filter test facts rise.1)
  where
    by : (b : Bool) → Rise (filter test facts) → Rise (cond b (f ∷ filter test facts) (filter test facts))
    by true rest = (each_below f.tag.0 (filter test facts) (λ g i. below_each f.tag.0 facts rise.0 g (of_filter test g facts i)), rest)
    by false rest = rest

-- one more with the greatest tag
pub rising_more : (facts : List Fact) (f : Fact) → Rise facts → ((g : Fact) → In g facts → g.tag.0 < f.tag.0) → Rise (facts ++ f ∷ [])
unfolding IsStrictlySortedBy
rising_more [] f rise above = (tt, tt)
rising_more (x ∷ facts) f rise above = (each_below x.tag.0 (facts ++ f ∷ []) after, rising_more facts f rise.1 (λ g i. above g (inr i)))
  where
    after : (g : Fact) → In g (facts ++ f ∷ []) → x.tag.0 < g.tag.0
    after g i = elim (In-append g facts (f ∷ []) i) [
      | inl j ↦ below_each x.tag.0 facts rise.0 g j
      | inr (inl e) ↦ subst (λ (z : Fact). x.tag.0 < z.tag.0) (sym e) (above x (inl refl))
      | inr (inr k) ↦ absurd k
    ]

-- where they have the same members, they are the same
pub rising_same : (xs ys : List Fact) → Rise xs → Rise ys → AllOf ys xs → AllOf xs ys → xs ≡ ys
unfolding IsStrictlySortedBy
rising_same [] [] rx ry to from = refl
rising_same [] (y ∷ ys) rx ry to from = absurd (from y (inl refl))
rising_same (x ∷ xs) [] rx ry to from = absurd (to x (inl refl))
rising_same (x ∷ xs) (y ∷ ys) rx ry to from = ap (λ z. z ∷ xs) first ∙ ap (λ zs. y ∷ zs) (rising_same xs ys rx.1 ry.1 (rest_to first) (rest_from first))
  where
    first : x ≡ y
    first = elim (to x (inl refl)) [
      | inl e ↦ e
      | inr i ↦ elim (from y (inl refl)) [
        | inl e ↦ sym e
        | inr j ↦ (
            let up : x.tag.0 < y.tag.0 = below_each x.tag.0 xs rx.0 y j in
            let down : y.tag.0 < x.tag.0 = below_each y.tag.0 ys ry.0 x i in
            absurd (omega arith))
      ]
    ]

    rest_to : x ≡ y → AllOf ys xs
    rest_to e g i = elim (to g (inr i)) [
      | inl h ↦ (
          let up : x.tag.0 < g.tag.0 = below_each x.tag.0 xs rx.0 g i in
          let same : g.tag.0 ≡ x.tag.0 = ap (λ (z : Fact). z.tag.0) (h ∙ sym e) in
          absurd (omega arith))
      | inr j ↦ j
    ]

    rest_from : x ≡ y → AllOf xs ys
    rest_from e g i = elim (from g (inr i)) [
      | inl h ↦ (
          let up : y.tag.0 < g.tag.0 = below_each y.tag.0 ys ry.0 g i in
          let same : g.tag.0 ≡ y.tag.0 = ap (λ (z : Fact). z.tag.0) (h ∙ e) in
          absurd (omega arith))
      | inr j ↦ j
    ]
