-- The facts of a map and those of a list: where both have the same, each at its tag.
use Rattle.session_model.proofs.Common.{◌≡◌, ℕ, ◌<◌, ◌==◌, ◌⊎◌, inl, inr, not, ◌&&◌, Bool, true, false, cond, List, [], ◌∷◌, ◌++◌, Option, Some, None, refl}
use Rattle.session_model.proofs.Common.{sym, ◌∙◌, ap, subst, arith, without, others, get-insert, get-remove, same_map, nat_cmp-IsAntisymmetric, nat_cmp_total}
use Rattle.session_model.proofs.Common.{nat_cmp, eq_by_cmp, nat_tests, Tag, Value, Fact, HeldFacts, facts_of, tag_of, from_list, from_map, tags_rise, tied}
use Rattle.session_model.proofs.Common.{itself, In, HaveDistinctTags, HaveDistinctIds, has_id, revised, revised_in, AllBelow, revise, has_number, one_id}
use Rattle.session_model.proofs.Common.{in_left, in_right, in_map, of_map, AllOf, of_filter, one_fact, in_filter, passed, HaveOwnTags}
use Rattle.{session_model.{specs.Gives.{version_of}, proofs.Rising.{rising_distinct}}, std.{proofs.lemmas.Bool.{eqb-true}, specs.Prelude.{if◌then◌else◌}}}
use Rattle.fx_base.proofs.Sequences.{In-append}
use Rattle.std.specs.FinMap as map

other_number : (m n : ℕ) → m ≡ n → (m == n) ≡ false → ⊥
other_number m n e h = grind (arith, nat_tests)

two_ways : (b : Bool) → b ≡ true → b ≡ false → ⊥
two_ways true e h = let f : true ≡ false = h in absurd (cc)
two_ways false e h = let f : false ≡ true = e in absurd (cc)

-- ---- the version with a tag

version_by : (facts : List Fact) (x g : Fact) → (x ≡ g) ⊎ (version_of facts g.tag ≡ Some g) → (b : Bool) → (x.tag.0 == g.tag.0) ≡ b → (b ≡ true → x ≡ g) → cond b (Some x) (version_of facts g.tag) ≡ Some g
version_by facts x g h true e s = ap Some (s refl)
version_by facts x g (inl a) false e s = absurd (other_number x.tag.0 g.tag.0 (ap (λ (z : Fact). z.tag.0) a) e)
version_by facts x g (inr v) false e s = v

pub version_in : (facts : List Fact) (g : Fact) → HaveDistinctTags facts → In g facts → version_of facts g.tag ≡ Some g
unfolding version_of
version_in [] g d i = absurd i
version_in (x ∷ facts) g d i =
    version_by facts x g (elim i [ inl a ↦ inl (sym a) | inr j ↦ inr (version_in facts g d.1 j) ]) (x.tag.0 == g.tag.0) refl
    (λ e. one_fact (x ∷ facts) d x g (inl refl) i (ap tag_of (eqb-true x.tag.0 g.tag.0 e)))

found_by : (facts : List Fact) (x g : Fact) (tag : Tag) → (version_of facts tag ≡ Some g → In g facts × (g.tag.0 ≡ tag.0)) → (b : Bool) → (x.tag.0 == tag.0) ≡ b
    → cond b (Some x) (version_of facts tag) ≡ Some g → In g (x ∷ facts) × (g.tag.0 ≡ tag.0)
found_by facts x g tag h true e is =
    let s : x ≡ g = cc in (inl (sym s), ap (λ (z : Fact). z.tag.0) (sym s) ∙ eqb-true x.tag.0 tag.0 e)
found_by facts x g tag h false e is = let r = h is in (inr r.0, r.1)

pub version_found : (facts : List Fact) (g : Fact) (tag : Tag) → version_of facts tag ≡ Some g → In g facts × (g.tag.0 ≡ tag.0)
unfolding version_of
version_found [] g tag is = absurd (let n : None ≡ Some g = is in cc)
version_found (x ∷ facts) g tag is = found_by facts x g tag (version_found facts g tag) (x.tag.0 == tag.0) refl is

-- ---- a map with the facts of a list

pub record Holds (held : HeldFacts) (facts : List Fact) : Type 0 where
  pub to : (tag : ℕ) (g : Fact) → map.get held tag ≡ Some g → In g facts × (g.tag.0 ≡ tag)
  pub from : (g : Fact) → In g facts → map.get held g.tag.0 ≡ Some g

pub of_versions : (held : HeldFacts) (facts : List Fact) → HaveDistinctTags facts → ((tag : ℕ) → map.get held tag ≡ version_of facts (tag_of tag)) → Holds held facts
of_versions held facts d h = record {
  to = λ tag g e. version_found facts g (tag_of tag) (sym (h tag) ∙ e);
  from = λ g i. h g.tag.0 ∙ version_in facts g d i;
}

-- their tags differ
pub held_distinct : (held : HeldFacts) → HaveOwnTags held → HaveDistinctTags (facts_of held)
held_distinct held own = rising_distinct (facts_of held) (tags_rise held own)

module _ (held : HeldFacts) (facts : List Fact) (h : Holds held facts) where
  pub versions : HaveDistinctTags facts → (tag : ℕ) → map.get held tag ≡ version_of facts (tag_of tag)
  versions d tag = by (map.get held tag) (version_of facts (tag_of tag)) refl refl
    where
      by : (a b : Option Fact) → map.get held tag ≡ a → version_of facts (tag_of tag) ≡ b → map.get held tag ≡ version_of facts (tag_of tag)
      by (Some g) b e v =
          let i = h.to tag g e in
          e ∙ sym (version_in facts g d i.0) ∙ ap (λ n. version_of facts (tag_of n)) i.1
      by None (Some g) e v =
          let i = version_found facts g (tag_of tag) v in
          ap (map.get held) (sym i.1) ∙ h.from g i.0 ∙ sym v
      by None None e v = e ∙ sym v

  pub own_tags : (tag : ℕ) (g : Fact) → map.get held tag ≡ Some g → g.tag.0 ≡ tag
  own_tags tag g e = (h.to tag g e).1

  -- the map's list has the same members
  pub listed : AllOf facts (facts_of held)
  listed g i = let r = from_list held g i in (h.to r.0 g r.1).0

  pub all_listed : AllOf (facts_of held) facts
  all_listed g i = from_map held g g.tag.0 (h.from g i)

-- ---- one fact more in a map, and one fact less

inserted_by : (m : HeldFacts) (f x : Fact) (tag : ℕ) (b : Bool) → eq_by_cmp nat_cmp tag f.tag.0 ≡ b → cond b (Some f) (map.get m tag) ≡ Some x
    → ((b ≡ true) × (x ≡ f) × (tag ≡ f.tag.0)) ⊎ ((b ≡ false) × (map.get m tag ≡ Some x))
inserted_by m f x tag true e is = inl (refl, (let s : f ≡ x = cc in sym s), tied tag f.tag.0 e)
inserted_by m f x tag false e is = inr (refl, is)

-- what is found in a map with one fact more
pub of_insert : (m : HeldFacts) (f x : Fact) (tag : ℕ) → map.get (map.insert m f.tag.0 f) tag ≡ Some x
    → ((x ≡ f) × (tag ≡ f.tag.0)) ⊎ (map.get m tag ≡ Some x)
of_insert m f x tag is = elim (inserted_by m f x tag (eq_by_cmp nat_cmp tag f.tag.0) refl (sym (get-insert nat_cmp_total m f.tag.0 f tag) ∙ is)) [
  | inl r ↦ inl (r.1, r.2)
  | inr r ↦ inr r.1
]

pub got_new : (m : HeldFacts) (f : Fact) → map.get (map.insert m f.tag.0 f) f.tag.0 ≡ Some f
got_new m f = get-insert nat_cmp_total m f.tag.0 f f.tag.0 ∙ ap (λ b. cond b (Some f) (map.get m f.tag.0)) (itself f.tag.0)

pub got_old : (m : HeldFacts) (f : Fact) (tag : ℕ) → (tag ≡ f.tag.0 → ⊥) → map.get (map.insert m f.tag.0 f) tag ≡ map.get m tag
got_old m f tag apart = get-insert nat_cmp_total m f.tag.0 f tag ∙ by (eq_by_cmp nat_cmp tag f.tag.0) refl
  where
    by : (b : Bool) → eq_by_cmp nat_cmp tag f.tag.0 ≡ b → cond b (Some f) (map.get m tag) ≡ map.get m tag
    by true e = absurd (apart (tied tag f.tag.0 e))
    by false e = refl

removed_by : (m : HeldFacts) (x : Fact) (out tag : ℕ) (b : Bool) → eq_by_cmp nat_cmp tag out ≡ b → cond b None (map.get m tag) ≡ Some x → map.get m tag ≡ Some x
removed_by m x out tag true e is = absurd (let n : None ≡ Some x = is in cc)
removed_by m x out tag false e is = is

pub of_remove : (m : HeldFacts) (x : Fact) (out tag : ℕ) → map.get (map.remove m out) tag ≡ Some x → map.get m tag ≡ Some x
of_remove m x out tag is = removed_by m x out tag (eq_by_cmp nat_cmp tag out) refl (sym (get-remove nat_cmp_total m out tag) ∙ is)

pub is_out : (m : HeldFacts) (out : ℕ) → map.get (map.remove m out) out ≡ None
is_out m out = get-remove nat_cmp_total m out out ∙ ap (λ b. cond b None (map.get m out)) (itself out)

pub not_out : (m : HeldFacts) (out tag : ℕ) → (tag ≡ out → ⊥) → map.get (map.remove m out) tag ≡ map.get m tag
not_out m out tag apart = get-remove nat_cmp_total m out tag ∙ by (eq_by_cmp nat_cmp tag out) refl
  where
    by : (b : Bool) → eq_by_cmp nat_cmp tag out ≡ b → cond b None (map.get m tag) ≡ map.get m tag
    by true e = absurd (apart (tied tag out e))
    by false e = refl

apart_out : (m : HeldFacts) (x : Fact) (out tag : ℕ) → map.get (map.remove m out) tag ≡ Some x → tag ≡ out → ⊥
apart_out m x out tag is e = let n : None ≡ Some x = sym (is_out m out) ∙ ap (map.get (map.remove m out)) (sym e) ∙ is in absurd (cc)

pub none_left : (m : HeldFacts) (out tag : ℕ) → map.get m tag ≡ None → map.get (map.remove m out) tag ≡ None
none_left m out tag e = by (map.get (map.remove m out) tag) refl
  where
    by : (o : Option Fact) → map.get (map.remove m out) tag ≡ o → map.get (map.remove m out) tag ≡ None
    by None is = is
    by (Some x) is = absurd (let n : None ≡ Some x = sym e ∙ of_remove m x out tag is in cc)

-- one put in and another taken out, in either order
pub swapped : (m : HeldFacts) (f : Fact) (out : ℕ) → (f.tag.0 ≡ out → ⊥) → map.remove (map.insert m f.tag.0 f) out ≡ map.insert (map.remove m out) f.tag.0 f
swapped m f out apart = same_map nat_cmp_total nat_cmp-IsAntisymmetric (map.remove (map.insert m f.tag.0 f) out) (map.insert (map.remove m out) f.tag.0 f) at
  where
    at : (tag : ℕ) → map.get (map.remove (map.insert m f.tag.0 f) out) tag ≡ map.get (map.insert (map.remove m out) f.tag.0 f) tag
    at tag =
        get-remove nat_cmp_total (map.insert m f.tag.0 f) out tag ∙ ap (λ o. cond (eq_by_cmp nat_cmp tag out) None o) (get-insert nat_cmp_total m f.tag.0 f tag)
        ∙ by (eq_by_cmp nat_cmp tag out) (eq_by_cmp nat_cmp tag f.tag.0) refl refl
        ∙ sym (get-insert nat_cmp_total (map.remove m out) f.tag.0 f tag ∙ ap (λ o. cond (eq_by_cmp nat_cmp tag f.tag.0) (Some f) o) (get-remove nat_cmp_total m out tag))
      where
        by : (a b : Bool) → eq_by_cmp nat_cmp tag out ≡ a → eq_by_cmp nat_cmp tag f.tag.0 ≡ b → cond a None (cond b (Some f) (map.get m tag)) ≡ cond b (Some f) (cond a None (map.get m tag))
        by true true h k = absurd (apart (sym (tied tag f.tag.0 k) ∙ tied tag out h))
        by true false h k = refl
        by false true h k = refl
        by false false h k = refl

-- ---- the three steps

module _ (held : HeldFacts) (facts : List Fact) (h : Holds held facts) where
  -- a fact with a new tag
  pub holds_new : (f : Fact) → map.get held f.tag.0 ≡ None → Holds (map.insert held f.tag.0 f) (facts ++ f ∷ [])
  holds_new f new = record {
    to = λ tag g is. elim (of_insert held f g tag is) [
      | inl r ↦ (in_right g facts (f ∷ []) (inl r.0), ap (λ (z : Fact). z.tag.0) r.0 ∙ sym r.1)
      | inr e ↦ (let i = h.to tag g e in (in_left g facts (f ∷ []) i.0, i.1))
    ];
    from = λ g i. elim (In-append g facts (f ∷ []) i) [
      | inl j ↦ (
          let apart : g.tag.0 ≡ f.tag.0 → ⊥ = λ e. let n : None ≡ Some g = sym new ∙ ap (map.get held) (sym e) ∙ h.from g j in absurd (cc) in
          got_old held f g.tag.0 apart ∙ h.from g j)
      | inr (inl e) ↦ subst (λ (z : Fact). map.get (map.insert held f.tag.0 f) z.tag.0 ≡ Some z) (sym e) (got_new held f)
      | inr (inr k) ↦ absurd k
    ];
  }

  module _ (ids : HaveDistinctIds facts) (d : HaveDistinctTags facts) (f : Fact) (i : In f facts) (id : ℕ) (own : f.id.0 ≡ id) where
    same : (g : Fact) → In g facts → has_id id g ≡ true → g ≡ f
    same g j e = one_id facts g f ids j i (has_number id g e ∙ sym own)

    apart : (g : Fact) → In g facts → has_id id g ≡ false → g.tag.0 ≡ f.tag.0 → ⊥
    apart g j e n = let s : g ≡ f = one_fact facts d g f j i (ap tag_of n) in other_number f.id.0 id own (ap (has_id id) (sym s) ∙ e)

    -- what is left where it is out has another id
    other_id : (g : Fact) (tag : ℕ) → map.get (map.remove held f.tag.0) tag ≡ Some g → has_id id g ≡ true → ⊥
    other_id g tag is e =
        let j = h.to tag g (of_remove held g f.tag.0 tag is) in
        apart_out held g f.tag.0 tag is (sym j.1 ∙ ap (λ (z : Fact). z.tag.0) (same g j.0 e))

    -- it is out
    pub holds_less : (ty : ℕ) → (f.ty.0 == ty) ≡ true → Holds (map.remove held f.tag.0) (without ty id facts)
    holds_less ty of_type = record {
      to = λ tag g is.
          let j = h.to tag g (of_remove held g f.tag.0 tag is) in
          (in_filter (others ty id) g facts (left g tag is (has_id id g) refl) j.0, j.1);
      from = λ g j.
          let k = of_filter (others ty id) g facts j in
          not_out held f.tag.0 g.tag.0 (λ n. gone g k n (passed (others ty id) g facts j)) ∙ h.from g k;
    }
      where
        and_no : (a : Bool) → not (a && false) ≡ true
        and_no true = refl
        and_no false = refl

        left : (g : Fact) (tag : ℕ) → map.get (map.remove held f.tag.0) tag ≡ Some g → (b : Bool) → has_id id g ≡ b → not (g.ty.0 == ty && b) ≡ true
        left g tag is true e = absurd (other_id g tag is e)
        left g tag is false e = and_no (g.ty.0 == ty)

        both : (a b : Bool) → a ≡ true → b ≡ true → not (a && b) ≡ false
        both true true e k = refl
        both true false e k = absurd (let n : false ≡ true = k in cc)
        both false b e k = absurd (let n : false ≡ true = e in cc)

        is_id : (m n : ℕ) → m ≡ n → (m == n) ≡ true
        is_id m n e = grind (arith, nat_tests)

        gone : (g : Fact) → In g facts → g.tag.0 ≡ f.tag.0 → others ty id g ≡ true → ⊥
        gone g k n e =
            let s : g ≡ f = one_fact facts d g f k i (ap tag_of n) in
            two_ways (others ty id f) (ap (others ty id) (sym s) ∙ e) (both (f.ty.0 == ty) (has_id id f) of_type (is_id f.id.0 id own))

    -- its next version is in, with a greater tag
    pub holds_revised : (tag : ℕ) (sets : List (ℕ × Value)) → AllBelow tag facts → Holds (map.insert (map.remove held f.tag.0) tag (revised tag sets f)) (revised_in id tag sets facts)
    holds_revised next sets below = record {
      to = λ tag g is. elim (of_insert rest (revised next sets f) g tag is) [
        | inl r ↦ (
          subst (λ (z : Fact). In z (revised_in id next sets facts)) (own_is ∙ sym r.0) (in_map (revise id next sets) f facts i),
          ap (λ (z : Fact). z.tag.0) r.0 ∙ sym r.1,
        )
        | inr e ↦ (
            let j = h.to tag g (of_remove held g f.tag.0 tag e) in
            (subst (λ (z : Fact). In z (revised_in id next sets facts)) (kept_is g (has_id id g) refl (other_id g tag e)) (in_map (revise id next sets) g facts j.0), j.1))
      ];
      from = λ g j.
          let q = of_map (revise id next sets) g facts j in
          subst (λ (z : Fact). map.get more z.tag.0 ≡ Some z) q.2 (by q.0 q.1 (has_id id q.0) refl);
    }
      where
        rest : HeldFacts
        rest = map.remove held f.tag.0

        more : HeldFacts
        more = map.insert rest next (revised next sets f)

        is_id : (m n : ℕ) → m ≡ n → (m == n) ≡ true
        is_id m n e = grind (arith, nat_tests)

        own_is : revise id next sets f ≡ revised next sets f
        own_is = ap (λ b. if b then revised next sets f else f) (is_id f.id.0 id own)

        kept_is : (g : Fact) (b : Bool) → has_id id g ≡ b → (has_id id g ≡ true → ⊥) → (if b then revised next sets g else g) ≡ g
        kept_is g true e other = absurd (other e)
        kept_is g false e other = refl

        by : (y : Fact) → In y facts → (b : Bool) → has_id id y ≡ b → map.get more (if b then revised next sets y else y).tag.0 ≡ Some (if b then revised next sets y else y)
        by y k true e = subst (λ (z : Fact). map.get more next ≡ Some (revised next sets z)) (sym (same y k e)) (got_new rest (revised next sets f))
        by y k false e =
            let lower : y.tag.0 < next = below y k in
            got_old rest (revised next sets f) y.tag.0 (λ n. let m : y.tag.0 ≡ next = n in absurd (omega arith)) ∙ not_out held f.tag.0 y.tag.0 (apart y k e) ∙ h.from y k
