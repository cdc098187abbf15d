-- Old facts by their tags, in a set and in a list, and by their names.
use Rattle.session_model.proofs.Common.{◌≡◌, ◌∙◌, sym, ap, refl, subst, inl, inr, ℕ, Bool, true, false, ◌||◌, List, [], ◌∷◌, filter_map, option_map, nat_eq}
use Rattle.session_model.proofs.Common.{Option, Some, None, cons_option, list_any, eq_by_cmp, nat_cmp, tells_apart, In, Fact, HeldFacts, itself, tied, Named}
use Rattle.{session_model.proofs.Common.{name_of, or_split, has_name, has_listed_tag, HaveOwnTags}, std.proofs.lemmas.Bool.{eqb-false, eqb-true, or_left}}
use Rattle.{row_delta.specs.NameOrder.{name_cmp, name_equiv, name_exact}, fx_base.proofs.{Orders.{eqb-self}, Tests.{same_test}}}
use Rattle.std.specs.FinMap as map

-- ---- tags

same_tag : (a b : ℕ) → nat_eq a b ≡ eq_by_cmp nat_cmp a b
same_tag a b =
    same_test (nat_eq a b) (eq_by_cmp nat_cmp a b)
    (λ e. subst (λ n. eq_by_cmp nat_cmp a n ≡ true) (eqb-true a b e) (itself a))
    (λ e. subst (λ n. nat_eq a n ≡ true) (tied a b e) (eqb-self a))

-- the tags of a set in a list
pub same_tags : (tag : ℕ) (tags : List ℕ) → list_any (nat_eq tag) tags ≡ has_listed_tag tags tag
same_tags tag [] = refl
same_tags tag (t ∷ tags) = ap (λ b. b || list_any (nat_eq tag) tags) (same_tag tag t) ∙ ap (λ b. eq_by_cmp nat_cmp tag t || b) (same_tags tag tags)

-- ---- names

module _ (store : HeldFacts) where
  -- the name of the fact with a tag
  abbrev pub named_at : ℕ → Option Named
  named_at tag = option_map name_of (map.get store tag)

  -- where a name is one of those of some tags, a fact has it
  pub old_held : HaveOwnTags store → (who : Named) (tags : List ℕ) → has_name (filter_map named_at tags) who ≡ true → (f : Fact) × (map.get store f.tag.0 ≡ Some f) × (name_of f ≡ who)
  old_held own who [] e = absurd (let n : false ≡ true = e in cc)
  old_held own who (tag ∷ tags) e = by (map.get store tag) refl e (old_held own who tags)
    where
      by : (o : Option Fact) → map.get store tag ≡ o → has_name (cons_option (option_map name_of o) (filter_map named_at tags)) who ≡ true
          → (has_name (filter_map named_at tags) who ≡ true → (f : Fact) × (map.get store f.tag.0 ≡ Some f) × (name_of f ≡ who)) → (f : Fact) × (map.get store f.tag.0 ≡ Some f) × (name_of f ≡ who)
      by None is h rest = rest h
      by (Some g) is h rest = elim (or_split (eq_by_cmp name_cmp who (name_of g)) (has_name (filter_map named_at tags) who) h) [
        | inl a ↦ (g, ap (map.get store) (own tag g is) ∙ is, sym (tells_apart name_exact who (name_of g) a))
        | inr b ↦ rest b
      ]

  module _ (own : HaveOwnTags store) (f : Fact) (there : map.get store f.tag.0 ≡ Some f) where
    other_name : (tag : ℕ) (g : Fact) → map.get store tag ≡ Some g → nat_eq f.tag.0 tag ≡ false → eq_by_cmp name_cmp (name_of f) (name_of g) ≡ false
    other_name tag g is apart = by (eq_by_cmp name_cmp (name_of f) (name_of g)) refl
      where
        by : (b : Bool) → eq_by_cmp name_cmp (name_of f) (name_of g) ≡ b → b ≡ false
        by false e = refl
        by true e =
            let same : name_of f ≡ name_of g = tells_apart name_exact (name_of f) (name_of g) e in
            absurd (eqb-false f.tag.0 tag apart (ap (λ (n : Named). n.tag.0) same ∙ own tag g is))

    -- the name of a fact is one of those of some tags where its tag is one of them
    pub named_old : (tags : List ℕ) → has_name (filter_map named_at tags) (name_of f) ≡ list_any (nat_eq f.tag.0) tags
    named_old [] = refl
    named_old (tag ∷ tags) = by (nat_eq f.tag.0 tag) refl (map.get store tag) refl (named_old tags)
      where
        by : (b : Bool) → nat_eq f.tag.0 tag ≡ b → (o : Option Fact) → map.get store tag ≡ o → has_name (filter_map named_at tags) (name_of f) ≡ list_any (nat_eq f.tag.0) tags
            → has_name (cons_option (option_map name_of o) (filter_map named_at tags)) (name_of f) ≡ (b || list_any (nat_eq f.tag.0) tags)
        by true e None is rest = absurd (let n : None ≡ Some f = sym is ∙ ap (map.get store) (sym (eqb-true f.tag.0 tag e)) ∙ there in cc)
        by true e (Some g) is rest =
            let s : Some f ≡ Some g = sym there ∙ ap (map.get store) (eqb-true f.tag.0 tag e) ∙ is in
            let same : f ≡ g = cc in
            or_left (eq_by_cmp name_cmp (name_of f) (name_of g)) (has_name (filter_map named_at tags) (name_of f))
            (subst (λ (z : Fact). eq_by_cmp name_cmp (name_of f) (name_of z) ≡ true) same (name_equiv.refl (name_of f)))
        by false e None is rest = rest
        by false e (Some g) is rest = ap (λ b. b || has_name (filter_map named_at tags) (name_of f)) (other_name tag g is e) ∙ rest

  -- of named facts of the store some is old by its name where one is by its tag
  pub some_old : HaveOwnTags store → (old : ℕ → Bool) (tags : List ℕ) → ((tag : ℕ) → list_any (nat_eq tag) tags ≡ old tag)
      → (names : List Named) → ((n : Named) → In n names → (f : Fact) × (map.get store f.tag.0 ≡ Some f) × (name_of f ≡ n))
      → list_any (has_name (filter_map named_at tags)) names ≡ list_any (λ (n : Named). old n.tag.0) names
  some_old own old tags is [] there = refl
  some_old own old tags is (n ∷ names) there =
      let f = there n (inl refl) in
      let here : has_name (filter_map named_at tags) n ≡ old n.tag.0 = subst (λ (z : Named). has_name (filter_map named_at tags) z ≡ old z.tag.0) f.2 (named_old own f.0 f.1 tags ∙ is f.0.tag.0) in
      ap (λ b. b || list_any (has_name (filter_map named_at tags)) names) here
      ∙ ap (λ b. old n.tag.0 || b) (some_old own old tags is names (λ x i. there x (inr i)))
