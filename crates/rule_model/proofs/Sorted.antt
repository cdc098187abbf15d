-- Lists in a strict order: what stands in them stands once, and two with the same members are equal.
use Rattle.rule_model.proofs.Common.{◌≡◌, ◌∙◌, inl, inr, List, [], ◌∷◌, map, refl, sym, ap, subst, Less, Equal, IsTotalOrder, AllByRecursion, tied_itself, In}
use Rattle.rule_model.{proofs.{Common.{EachOnce, Ordering}, Listed.{of_map}, Order.{Same}}, specs.Distinct.{tag_cmp}}
use Rattle.std.{specs.{List.Sorted.{IsStrictlySortedBy}, Ordering.{nat_cmp}}, proofs.lemmas.Cmp.{nat_cmp_total, on_total}}
use Rattle.fx_base.specs.declared.{fact.Fact.{Fact}, ids.Tag.{Tag}}

module _ {A : Type 0} (c : A → A → Ordering) (total : IsTotalOrder c) where
  irreflexive : (x : A) → c x x ≡ Less → ⊥
  irreflexive x e = absurd (let n : Less ≡ Equal = sym e ∙ tied_itself total x in cc)

  abbrev IsBelow : A → List A → Type 0
  IsBelow x xs = AllByRecursion (λ y. c x y ≡ Less) xs

  pub below_each : (x : A) (xs : List A) → IsBelow x xs → (y : A) → In y xs → c x y ≡ Less
  below_each x [] b y i = absurd i
  below_each x (z ∷ xs) b y (inl e) = ap (c x) e ∙ b.0
  below_each x (z ∷ xs) b y (inr i) = below_each x xs b.1 y i

  pub sorted_once : (xs : List A) → IsStrictlySortedBy c xs → EachOnce xs
  unfolding IsStrictlySortedBy
  sorted_once [] s = tt
  sorted_once (x ∷ xs) s = (λ i. irreflexive x (below_each x xs s.0 x i), sorted_once xs s.1)

  -- and so does what parts them
  pub sorted_marked : {B : Type 0} (mark : A → B) → ((x y : A) → c x y ≡ Less → mark x ≡ mark y → ⊥) → (xs : List A) → IsStrictlySortedBy c xs → EachOnce (map mark xs)
  unfolding IsStrictlySortedBy
  sorted_marked mark apart [] s = tt
  sorted_marked mark apart (x ∷ xs) s = (
    λ i. let q = of_map mark (mark x) xs i in apart x q.0 (below_each x xs s.0 q.0 q.1) (sym q.2),
    sorted_marked mark apart xs s.1,
  )

  pub sorted_same : (xs ys : List A) → IsStrictlySortedBy c xs → IsStrictlySortedBy c ys → Same xs ys → xs ≡ ys
  unfolding IsStrictlySortedBy
  sorted_same [] [] s t same = refl
  sorted_same [] (y ∷ ys) s t same = absurd ((same y).1 (inl refl))
  sorted_same (x ∷ xs) [] s t same = absurd ((same x).0 (inl refl))
  sorted_same (x ∷ xs) (y ∷ ys) s t same = ap (λ z. z ∷ xs) first ∙ ap (λ zs. y ∷ zs) (sorted_same xs ys s.1 t.1 rest)
    where
      first : x ≡ y
      first = elim ((same x).0 (inl refl)) [
        | inl e ↦ e
        | inr i ↦ elim ((same y).1 (inl refl)) [
          | inl e ↦ sym e
          | inr j ↦ absurd (irreflexive x (total.trans x y x (below_each x xs s.0 y j) (below_each y ys t.0 x i)))
        ]
      ]

      to : (z : A) → In z xs → In z ys
      to z i = elim ((same z).0 (inr i)) [
        | inl e ↦ absurd (irreflexive x (below_each x xs s.0 x (subst (λ w. In w xs) (e ∙ sym first) i)))
        | inr j ↦ j
      ]

      from : (z : A) → In z ys → In z xs
      from z i = elim ((same z).1 (inr i)) [
        | inl e ↦ absurd (irreflexive y (below_each y ys t.0 y (subst (λ w. In w ys) (e ∙ first) i)))
        | inr j ↦ j
      ]

      rest : Same xs ys
      rest z = (to z, from z)

-- ---- facts in the order of their tags

pub tag_total : IsTotalOrder tag_cmp
tag_total = on_total (λ (f : Fact). f.tag.0) nat_cmp_total

pub tags_apart : (f g : Fact) → tag_cmp f g ≡ Less → f.tag ≡ g.tag → ⊥
tags_apart f g d e =
    let same : tag_cmp f g ≡ tag_cmp g g = ap (λ (t : Tag). nat_cmp t.0 g.tag.0) e in
    absurd (let n : Less ≡ Equal = sym d ∙ same ∙ tied_itself tag_total g in cc)
