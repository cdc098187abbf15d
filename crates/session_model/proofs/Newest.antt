-- The fact of an id, as a session has it and as the world has it.
use Rattle.session_model.proofs.Common.{◌≡◌, ℕ, suc, zero, ◌<◌, ◌≤◌, ◌⊎◌, inl, inr, Bool, true, false, Option, Some, None, refl, sym, ◌∙◌, ap, subst, arith}
use Rattle.session_model.proofs.Common.{nat_tests, Tag, Fact, HeldFacts, IsNewest, HoldsNone, is_held_with_id, Program, In, World, fact_of, below_of, found_in}
use Rattle.session_model.proofs.{Common.{one_id, IsNewestTag, IsSafe, newest, Contents}, Exactly.{Exact}, Members.{Holds, of_versions}}
use Rattle.{session_model.specs.Places.{newest_below}, std.{proofs.lemmas.Bool.{eqb-true}, specs.Prelude.{nat_eq, nat_lt, if◌then◌else◌}}}
use Rattle.rule_world.proofs.Found.{fact_in}
use Rattle.std.specs.FinMap as map

other_id : (m n : ℕ) → m ≡ n → nat_eq m n ≡ false → ⊥
other_id m n e h = grind (arith, nat_tests)

-- ---- the search from the greatest tag down

module _ (held : HeldFacts) (id : ℕ) where
  module _ (f : Fact) (is : IsNewest held id f) where
    below_more : (tag : ℕ) → (f.tag.0 < tag) ⊎ (f.tag.0 ≡ tag) → (f.tag.0 < tag → newest_below held id tag ≡ Some f) → (o : Option Fact) → map.get held tag ≡ o
        → (if is_held_with_id id o then o else newest_below held id tag) ≡ Some f
    below_more tag (inl lt) rest None e = rest lt
    below_more tag (inr at) rest None e = absurd (let n : None ≡ Some f = sym e ∙ ap (map.get held) (sym at) ∙ is.found in cc)
    below_more tag at rest (Some g) e = by (nat_eq g.id.0 id) refl at
      where
        by : (b : Bool) → nat_eq g.id.0 id ≡ b → (f.tag.0 < tag) ⊎ (f.tag.0 ≡ tag) → (if b then Some g else newest_below held id tag) ≡ Some f
        by true h (inl lt) = let le : tag ≤ f.tag.0 = is.greatest tag g e (eqb-true g.id.0 id h) in absurd (omega arith)
        by true h (inr here) = sym e ∙ ap (map.get held) (sym here) ∙ is.found
        by false h (inl lt) = rest lt
        by false h (inr here) =
            let s : Some g ≡ Some f = sym e ∙ ap (map.get held) (sym here) ∙ is.found in
            let t : g ≡ f = cc in
            absurd (other_id g.id.0 id (ap (λ (z : Fact). z.id.0) t ∙ is.own) h)

    lower : (tag : ℕ) → f.tag.0 < suc tag → (f.tag.0 < tag) ⊎ (f.tag.0 ≡ tag)
    lower tag lt = by (nat_eq f.tag.0 tag) refl
      where
        by : (b : Bool) → nat_eq f.tag.0 tag ≡ b → (f.tag.0 < tag) ⊎ (f.tag.0 ≡ tag)
        by true e = inr (eqb-true f.tag.0 tag e)
        by false e = inl (grind (arith, nat_tests))

    pub newest_found : (tag : ℕ) → f.tag.0 < tag → newest_below held id tag ≡ Some f
    unfolding newest_below
    newest_found zero lt = absurd (omega arith)
    newest_found (suc tag) lt = below_more tag (lower tag lt) (newest_found tag) (map.get held tag) refl

  none_more : (tag : ℕ) → HoldsNone held id → newest_below held id tag ≡ None → (o : Option Fact) → map.get held tag ≡ o → (if is_held_with_id id o then o else newest_below held id tag) ≡ None
  none_more tag none rest None e = rest
  none_more tag none rest (Some g) e = by (nat_eq g.id.0 id) refl
    where
      by : (b : Bool) → nat_eq g.id.0 id ≡ b → (if b then Some g else newest_below held id tag) ≡ None
      by true h = absurd (none tag g e (eqb-true g.id.0 id h))
      by false h = rest

  pub newest_none : HoldsNone held id → (tag : ℕ) → newest_below held id tag ≡ None
  unfolding newest_below
  newest_none none zero = refl
  newest_none none (suc tag) = none_more tag none (newest_none none tag) (map.get held tag) refl

-- ---- what the store finds

-- no tag is beyond the next one
tag_below : (k : Contents) → IsSafe k.facts k.expiries k.clock k.next_id k.next_tag → (f : Fact) → map.get k.facts f.tag.0 ≡ Some f → f.tag.0 < k.next_tag
tag_below k safe f is = by (nat_lt f.tag.0 k.next_tag) refl
  where
    by : (b : Bool) → nat_lt f.tag.0 k.next_tag ≡ b → f.tag.0 < k.next_tag
    by true e = grind (arith, nat_tests)
    by false e =
        let le : k.next_tag ≤ f.tag.0 = grind (arith, nat_tests) in
        absurd (let n : None ≡ Some f = sym (safe.fresh f.tag.0 le) ∙ is in cc)

pub store_found : (k : Contents) → IsSafe k.facts k.expiries k.clock k.next_id k.next_tag → (id : ℕ) (f : Fact) → IsNewest k.facts id f → newest k id ≡ Some f
store_found k safe id f is = newest_found k.facts id f is k.next_tag (tag_below k safe f is.found)

pub store_none : (k : Contents) (id : ℕ) → HoldsNone k.facts id → newest k id ≡ None
store_none k id none = newest_none k.facts id none k.next_tag

-- ---- what the world has

module _ (p : Program) (k : Contents) (w : World) (st : Exact p k w) where
  pub holds : Holds k.facts w.facts
  holds = of_versions k.facts w.facts st.lawful.ordered.tags st.mirrors.facts

  is_newest : (id : ℕ) (f : Fact) → In f w.facts → f.id.0 ≡ id → IsNewest k.facts id f
  is_newest id f i own = record {
    found = holds.from f i;
    own = own;
    greatest = λ tag g e h.
        let j = holds.to tag g e in
        let s : g ≡ f = one_id w.facts g f st.lawful.ordered.ids j.0 i (h ∙ sym own) in
        let t : tag ≡ f.tag.0 = sym j.1 ∙ ap (λ (z : Fact). z.tag.0) s in
        omega arith;
  }

  pub world_found : (id : ℕ) → newest k id ≡ fact_of w.facts id
  world_found id = by (fact_of w.facts id) refl
    where
      by : (o : Option Fact) → fact_of w.facts id ≡ o → newest k id ≡ fact_of w.facts id
      by (Some f) e =
          let r = found_in w.facts id f e in
          let lt : f.tag.0 < w.next_tag = below_of w.next_tag w.facts st.lawful.ordered.fresh f r.0 in
          newest_found k.facts id f (is_newest id f r.0 r.1) k.next_tag (subst (λ n. f.tag.0 < n) (sym st.mirrors.next_tag) lt) ∙ sym e
      by None e =
          newest_none k.facts id (λ tag g is own.
          let j = holds.to tag g is in
          let s : fact_of w.facts id ≡ Some g = subst (λ n. fact_of w.facts n ≡ Some g) own (fact_in w.facts g st.lawful.ordered.ids j.0) in
          let n : None ≡ Some g = sym e ∙ s in absurd (cc)) k.next_tag ∙ sym e

  -- the fact with the newest tag of an id
  module _ (id : ℕ) (tag : Tag) (is : IsNewestTag k.facts id tag) where
    pub tagged_in : In is.fact w.facts
    tagged_in = (holds.to is.fact.tag.0 is.fact is.is_newest.found).0

    pub tagged_found : fact_of w.facts id ≡ Some is.fact
    tagged_found = subst (λ n. fact_of w.facts n ≡ Some is.fact) is.is_newest.own (fact_in w.facts is.fact st.lawful.ordered.ids tagged_in)
