-- Facts in the order of their tags.
use Rattle.std.{proofs.Common.{◌≡◌, ◌∙◌, ◌↔◌, inl, inr, ℕ, List, [], ◌∷◌, map, refl, sym, ap, subst}, specs.Ordering.{match_ordering, ordering_reverse}}
use Rattle.std.specs.{declared.cmp.Ordering.{Ordering, TheVariants.{Less, Equal, Greater}}, List.{AllByRecursion, Sorted.{IsStrictlySortedBy}}}
use Rattle.{std.specs.{BTreeSet.{insert_key}, FinMap.{nat_cmp-IsAntisymmetric}}, fx_base.specs.{Lists.{In}, declared.{fact.Fact.{Fact}, ids.Tag.{Tag}}}}
use Rattle.{rule_model.{specs.Distinct.{HaveDistinctTags, tag_cmp}, proofs.{Listed.{in_map}, Sorted.{tag_total}}}, engine.specs.KeptFacts.{by_tag}}

abbrev IsBelow : Fact → List Fact → Type 0
IsBelow f gs = AllByRecursion (λ g. tag_cmp f g ≡ Less) gs

below_more : (f g : Fact) (gs : List Fact) → tag_cmp f g ≡ Less → IsBelow g gs → IsBelow f gs
below_more f g [] less below = tt
below_more f g (h ∷ gs) less below = (tag_total.trans f g h less below.0, below_more f g gs less below.1)

below_put : (x f : Fact) (gs : List Fact) → tag_cmp x f ≡ Less → IsBelow x gs → IsBelow x (insert_key tag_cmp gs f)
below_put x f [] less below = (less, tt)
below_put x f (g ∷ gs) less below = by (tag_cmp f g) (below_put x f gs less below.1)
  where
    by : (o : Ordering) → IsBelow x (insert_key tag_cmp gs f) → IsBelow x (match_ordering o (f ∷ g ∷ gs) (g ∷ gs) (g ∷ insert_key tag_cmp gs f))
    by Less rest = (less, below)
    by Equal rest = below
    by Greater rest = (below.0, rest)

put_sorted : (f : Fact) (gs : List Fact) → IsStrictlySortedBy tag_cmp gs → IsStrictlySortedBy tag_cmp (insert_key tag_cmp gs f)
unfolding IsStrictlySortedBy
put_sorted f [] sorted = (tt, tt)
put_sorted f (g ∷ gs) sorted = by (tag_cmp f g) refl (put_sorted f gs sorted.1)
  where
    by : (o : Ordering) → tag_cmp f g ≡ o → IsStrictlySortedBy tag_cmp (insert_key tag_cmp gs f)
        → IsStrictlySortedBy tag_cmp (match_ordering o (f ∷ g ∷ gs) (g ∷ gs) (g ∷ insert_key tag_cmp gs f))
    by Less is rest = ((is, below_more f g gs is sorted.0), sorted)
    by Equal is rest = sorted
    by Greater is rest = (below_put g f gs (tag_total.antisymm g f ∙ ap ordering_reverse is) sorted.0, rest)

-- in the strict order of their tags
pub by_tag_sorted : (facts : List Fact) → IsStrictlySortedBy tag_cmp (by_tag facts)
unfolding IsStrictlySortedBy
by_tag_sorted [] = tt
by_tag_sorted (f ∷ facts) = put_sorted f (by_tag facts) (by_tag_sorted facts)

-- ---- the same members

of_put : (f : Fact) (gs : List Fact) (x : Fact) → In x (insert_key tag_cmp gs f) → In x (f ∷ gs)
of_put f [] x i = i
of_put f (g ∷ gs) x i = by (tag_cmp f g) (of_put f gs x) i
  where
    by : (o : Ordering) → (In x (insert_key tag_cmp gs f) → In x (f ∷ gs)) → In x (match_ordering o (f ∷ g ∷ gs) (g ∷ gs) (g ∷ insert_key tag_cmp gs f)) → In x (f ∷ g ∷ gs)
    by Less rest i = i
    by Equal rest i = inr i
    by Greater rest (inl e) = inr (inl e)
    by Greater rest (inr i) = elim (rest i) [ inl e ↦ inl e | inr j ↦ inr (inr j) ]

in_put : (f : Fact) (gs : List Fact) → ((g : Fact) → In g gs → tag_cmp f g ≡ Equal → ⊥) → (x : Fact) → In x (f ∷ gs) → In x (insert_key tag_cmp gs f)
in_put f [] other x i = i
in_put f (g ∷ gs) other x i = by (tag_cmp f g) refl (in_put f gs (λ h j. other h (inr j)) x) i
  where
    by : (o : Ordering) → tag_cmp f g ≡ o → (In x (f ∷ gs) → In x (insert_key tag_cmp gs f)) → In x (f ∷ g ∷ gs)
        → In x (match_ordering o (f ∷ g ∷ gs) (g ∷ gs) (g ∷ insert_key tag_cmp gs f))
    by Less is rest i = i
    by Equal is rest i = absurd (other g (inl refl) is)
    by Greater is rest (inl e) = inr (rest (inl e))
    by Greater is rest (inr (inl e)) = inl e
    by Greater is rest (inr (inr i)) = inr (rest (inr i))

of_by_tag : (facts : List Fact) (x : Fact) → In x (by_tag facts) → In x facts
of_by_tag [] x i = i
of_by_tag (f ∷ facts) x i = elim (of_put f (by_tag facts) x i) [ inl e ↦ inl e | inr j ↦ inr (of_by_tag facts x j) ]

abbrev numbered : ℕ → Tag
numbered n = record { 0 = n }

in_by_tag : (facts : List Fact) → HaveDistinctTags facts → (x : Fact) → In x facts → In x (by_tag facts)
in_by_tag [] distinct x i = i
in_by_tag (f ∷ facts) distinct x i = in_put f (by_tag facts) other x (elim i [ inl e ↦ inl e | inr j ↦ inr (in_by_tag facts distinct.1 x j) ])
  where
    other : (g : Fact) → In g (by_tag facts) → tag_cmp f g ≡ Equal → ⊥
    other g j is =
        distinct.0 (subst (λ (tag : Tag). In tag (map (λ (h : Fact). h.tag) facts)) (ap numbered (sym (nat_cmp-IsAntisymmetric f.tag.0 g.tag.0 is)))
        (in_map (λ (h : Fact). h.tag) g facts (of_by_tag facts g j)))

-- facts whose tags differ, and nothing else
pub by_tag_members : (facts : List Fact) → HaveDistinctTags facts → (f : Fact) → In f (by_tag facts) ↔ In f facts
by_tag_members facts distinct f = (of_by_tag facts f, in_by_tag facts distinct f)
