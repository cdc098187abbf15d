-- Lists of matches that name a tag, and the tags that a match names.
use Rattle.forgetting_laws.proofs.Common.{◌≡◌, ℕ, ◌==◌, ◌&&◌, ◌||◌, Bool, true, false, not, inl, inr, List, [], ◌∷◌, refl, sym, ◌∙◌, ap, list_any, eq_by_cmp}
use Rattle.forgetting_laws.proofs.Common.{Decides-eqb, tells_apart, In, Named, Match, match_cmp, has_match, match_equiv, match_exact, or_split, names_tag}
use Rattle.{forgetting_laws.proofs.Common.{each_tag, some_tag, list_all}, std.proofs.lemmas.Bool.{and_from, and_parts, or_left, or_right}}
use Rattle.{std.proofs.Math.Bool.{and-false}, rule_world.proofs.Acting.{all_of}, fx_base.proofs.{Orders.{eqb-self}, Tests.{same_test}}}

-- ---- lists

module _ {A : Type 0} (test : A → Bool) where
  pub each_in : (xs : List A) → ((x : A) → In x xs → test x ≡ true) → list_all test xs ≡ true
  each_in [] h = refl
  each_in (x ∷ xs) h = and_from (test x) (list_all test xs) (h x (inl refl)) (each_in xs (λ y i. h y (inr i)))

  pub some_in : (x : A) (xs : List A) → In x xs → test x ≡ true → list_any test xs ≡ true
  some_in x [] i e = absurd i
  some_in x (y ∷ xs) (inl s) e = or_left (test y) (list_any test xs) (ap test (sym s) ∙ e)
  some_in x (y ∷ xs) (inr i) e = or_right (test y) (list_any test xs) (some_in x xs i e)

  pub one_in : (xs : List A) → list_any test xs ≡ true → (x : A) × In x xs × (test x ≡ true)
  one_in [] e = absurd (let n : false ≡ true = e in cc)
  one_in (x ∷ xs) e = elim (or_split (test x) (list_any test xs) e) [
    | inl h ↦ (x, inl refl, h)
    | inr h ↦ (let r = one_in xs h in (r.0, inr r.1, r.2))
  ]

-- ---- matches that pass

module _ (p : Match → Bool) where
  -- where a match of the list passes, some match passes
  pub found : (m : Match) (xs : List Match) → p m ≡ true → has_match xs m ≡ true → list_any p xs ≡ true
  found m [] h is = absurd (let n : false ≡ true = is in cc)
  found m (x ∷ xs) h is = elim (or_split (eq_by_cmp match_cmp m x) (has_match xs m) is) [
    | inl e ↦ or_left (p x) (list_any p xs) (ap p (sym (tells_apart match_exact m x e)) ∙ h)
    | inr i ↦ or_right (p x) (list_any p xs) (found m xs h i)
  ]

  -- where some match passes, there is one
  pub witness : (xs : List Match) → list_any p xs ≡ true → (m : Match) × (p m ≡ true) × (has_match xs m ≡ true)
  witness [] is = absurd (let n : false ≡ true = is in cc)
  witness (x ∷ xs) is = elim (or_split (p x) (list_any p xs) is) [
    | inl e ↦ (x, e, or_left (eq_by_cmp match_cmp x x) (has_match xs x) (match_equiv.refl x))
    | inr h ↦ (let w = witness xs h in (w.0, w.1, or_right (eq_by_cmp match_cmp w.0 x) (has_match xs w.0) w.2))
  ]

  -- lists with the same matches pass alike
  pub any_alike : (xs ys : List Match) → ((m : Match) → has_match xs m ≡ has_match ys m) → list_any p xs ≡ list_any p ys
  any_alike xs ys alike = same_test (list_any p xs) (list_any p ys)
      (λ is. let w = witness xs is in found w.0 ys w.1 (sym (alike w.0) ∙ w.2))
      (λ is. let w = witness ys is in found w.0 xs w.1 (alike w.0 ∙ w.2))

-- ---- the tags that a match names

module _ (p : ℕ → Bool) (m : Match) where
  -- what holds of each tag of a match holds of a tag that it names
  pub holds_of : (tag : ℕ) → each_tag p m ≡ true → names_tag tag m ≡ true → p tag ≡ true
  holds_of tag all names =
      let n = one_in (λ (k : Named). tag == k.tag.0) m.row.facts names in
      ap p ((Decides-eqb tag n.0.tag.0).0 n.2) ∙ all_of (λ (k : Named). p k.tag.0) m.row.facts n.0 all n.1

  -- and what holds of each that it names holds of each of its tags
  pub each_named : ((tag : ℕ) → names_tag tag m ≡ true → p tag ≡ true) → each_tag p m ≡ true
  each_named h = each_in (λ (k : Named). p k.tag.0) m.row.facts (λ n i. h n.tag.0 (some_in (λ (k : Named). n.tag.0 == k.tag.0) n m.row.facts i (eqb-self n.tag.0)))

  -- what holds of none of its tags does not hold of one that it names
  pub free_of : (tag : ℕ) → some_tag p m ≡ false → names_tag tag m ≡ true → p tag ≡ false
  free_of tag none names = by (p tag) refl
    where
      by : (t : Bool) → p tag ≡ t → t ≡ false
      by false e = refl
      by true e =
          let n = one_in (λ (k : Named). tag == k.tag.0) m.row.facts names in
          sym (some_in (λ (k : Named). p k.tag.0) n.0 m.row.facts n.1 (ap p (sym ((Decides-eqb tag n.0.tag.0).0 n.2)) ∙ e)) ∙ none

-- ---- facts that are kept

parted : (a b s t : Bool) → ((a && not b) && (s && not t)) ≡ ((a && s) && not (b || t))
parted true true s t = sym (and-false s)
parted true false s t = refl
parted false b s t = refl

-- of facts in both worlds: each is kept afterwards where each was kept and none is old
pub each_next : (here there next was old : ℕ → Bool) → ((tag : ℕ) → here tag ≡ true → there tag ≡ true → next tag ≡ (was tag && not (old tag)))
    → (facts : List Named) → list_all (λ (n : Named). here n.tag.0) facts ≡ true → list_all (λ (n : Named). there n.tag.0) facts ≡ true
    → list_all (λ (n : Named). next n.tag.0) facts ≡ (list_all (λ (n : Named). was n.tag.0) facts && not (list_any (λ (n : Named). old n.tag.0) facts))
each_next here there next was old h [] p q = refl
each_next here there next was old h (n ∷ facts) p q =
    let a = and_parts (here n.tag.0) (list_all (λ (k : Named). here k.tag.0) facts) p in
    let b = and_parts (there n.tag.0) (list_all (λ (k : Named). there k.tag.0) facts) q in
    ap (λ t. t && list_all (λ (k : Named). next k.tag.0) facts) (h n.tag.0 a.0 b.0)
    ∙ ap (λ t. (was n.tag.0 && not (old n.tag.0)) && t) (each_next here there next was old h facts a.1 b.1)
    ∙ parted (was n.tag.0) (old n.tag.0) (list_all (λ (k : Named). was k.tag.0) facts) (list_any (λ (k : Named). old k.tag.0) facts)

clean_by : (h k s t : Bool) → h ≡ true → not s ≡ t → not ((h && not k) || s) ≡ (k && t)
clean_by true true s t e f = f
clean_by true false s t e f = refl
clean_by false k s t e f = absurd (let g : false ≡ true = e in cc)

-- of facts of the world: none is forgotten where each is kept
pub clean_is : (here keeps : ℕ → Bool) (facts : List Named) → list_all (λ (n : Named). here n.tag.0) facts ≡ true
    → not (list_any (λ (n : Named). here n.tag.0 && not (keeps n.tag.0)) facts) ≡ list_all (λ (n : Named). keeps n.tag.0) facts
clean_is here keeps [] p = refl
clean_is here keeps (n ∷ facts) p =
    let a = and_parts (here n.tag.0) (list_all (λ (k : Named). here k.tag.0) facts) p in
    clean_by (here n.tag.0) (keeps n.tag.0) (list_any (λ (k : Named). here k.tag.0 && not (keeps k.tag.0)) facts) (list_all (λ (k : Named). keeps k.tag.0) facts) a.0
    (clean_is here keeps facts a.1)
