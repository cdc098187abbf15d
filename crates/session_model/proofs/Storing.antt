-- Facts that are put under their tags, and what waits for each.
use Rattle.session_model.proofs.Common.{◌≡◌, ◌∙◌, ◌⊎◌, inl, inr, ℕ, ℤ, ◌==◌, ◌&&◌, not, Bool, true, false, cond, is_some, List, [], ◌∷◌, Option, Some, None}
use Rattle.session_model.proofs.Common.{refl, sym, ap, subst, get-empty, option_and_then, nat_cmp, In, Tag, Fact, Timers, HeldFacts, tag_of, LifeTable, Program}
use Rattle.session_model.proofs.Common.{HaveDistinctTags, in_map, end_of_presence, Retention, lingers, ends_by, all_held, stored, AreHeld, AreStorable}
use Rattle.{session_model.proofs.Common.{expiry_at, with_timer}, std.proofs.{lemmas.Bool.{and_left, eqb-false, eqb-true}, Common.{map as list_map}}}
use Rattle.std.specs.FinMap as map
use Rattle.session_model.proofs.{Members.{Holds, got_new, got_old, of_insert}, Timers.{timed_new}}

-- ---- the facts of a list under their tags

of_more : (held : HeldFacts) (f : Fact) (facts : List Fact) (tag : ℕ) (g : Fact) → (In g facts × (g.tag.0 ≡ tag)) ⊎ (map.get (map.insert held f.tag.0 f) tag ≡ Some g)
    → (In g (f ∷ facts) × (g.tag.0 ≡ tag)) ⊎ (map.get held tag ≡ Some g)
of_more held f facts tag g (inl r) = inl (inr r.0, r.1)
of_more held f facts tag g (inr e) = elim (of_insert held f g tag e) [ inl q ↦ inl (inl q.0, ap (λ (z : Fact). z.tag.0) q.0 ∙ sym q.1) | inr n ↦ inr n ]

found_in : (held : HeldFacts) (facts : List Fact) (tag : ℕ) (g : Fact) → map.get (all_held held facts) tag ≡ Some g → (In g facts × (g.tag.0 ≡ tag)) ⊎ (map.get held tag ≡ Some g)
found_in held [] tag g e = inr e
found_in held (f ∷ facts) tag g e = of_more held f facts tag g (found_in (map.insert held f.tag.0 f) facts tag g e)

-- a tag that none of them has
passed_over : (held : HeldFacts) (facts : List Fact) (tag : ℕ) → ((g : Fact) → In g facts → tag ≡ g.tag.0 → ⊥) → map.get (all_held held facts) tag ≡ map.get held tag
passed_over held [] tag free = refl
passed_over held (f ∷ facts) tag free = passed_over (map.insert held f.tag.0 f) facts tag (λ g i. free g (inr i)) ∙ got_old held f tag (free f (inl refl))

pub apart_from : (f : Fact) (facts : List Fact) → HaveDistinctTags (f ∷ facts) → (g : Fact) → In g facts → f.tag.0 ≡ g.tag.0 → ⊥
apart_from f facts d g i e = d.0 (subst (λ (t : Tag). In t (list_map (λ (h : Fact). h.tag) facts)) (ap tag_of (sym e)) (in_map (λ (h : Fact). h.tag) g facts i))

held_from : (held : HeldFacts) (facts : List Fact) → HaveDistinctTags facts → (g : Fact) → In g facts → map.get (all_held held facts) g.tag.0 ≡ Some g
held_from held [] d g i = absurd i
held_from held (f ∷ facts) d g (inl e) =
    subst (λ (z : Fact). map.get (all_held (map.insert held f.tag.0 f) facts) z.tag.0 ≡ Some z) (sym e)
    (passed_over (map.insert held f.tag.0 f) facts f.tag.0 (apart_from f facts d) ∙ got_new held f)
held_from held (f ∷ facts) d g (inr i) = held_from (map.insert held f.tag.0 f) facts d.1 g i

pub stored_holds : (facts : List Fact) → HaveDistinctTags facts → Holds (stored facts) facts
stored_holds facts d = record {
  to = λ tag g e. elim (found_in map.empty facts tag g e) [ inl r ↦ r | inr n ↦ absurd (let no : None ≡ Some g = sym (get-empty nat_cmp tag) ∙ n in cc) ];
  from = λ g i. held_from map.empty facts d g i;
}

-- ---- one fact more, with what waits for it

no_timer : (o past : Option ℤ) → o ≡ None → cond (is_some past) past o ≡ past
no_timer o None e = e
no_timer o (Some at) e = refl

pub none_waits : (p : Program) (table : LifeTable) (facts : HeldFacts) (expiries : Timers) (retention : Retention) → facts ≡ map.empty → expiries ≡ map.empty → retention.due ≡ map.empty
    → ((tag : ℕ) → lingers retention tag ≡ false) → AreHeld p table facts expiries retention
none_waits p table facts expiries retention no_facts no_expiries no_ends none = record {
  waits = λ tag. ap (λ m. map.get m tag) no_expiries ∙ get-empty nat_cmp tag ∙ sym (ap (expiry_at p) (empty_at tag));
  ends = λ tag. ap (λ m. map.get m tag) no_ends ∙ get-empty nat_cmp tag ∙ sym (ap (option_and_then (ends_by table)) (empty_at tag));
  none = none;
}
  where
    empty_at : (tag : ℕ) → map.get facts tag ≡ None
    empty_at tag = ap (λ m. map.get m tag) no_facts ∙ get-empty nat_cmp tag

module _ (p : Program) (table : LifeTable) (facts more : HeldFacts) (expiries later : Timers) (before after : Retention) (f : Fact) (held : AreHeld p table facts expiries before)
    (new : map.get facts f.tag.0 ≡ None) (made : more ≡ map.insert facts f.tag.0 f) (timed : later ≡ with_timer expiries f.tag.0 (end_of_presence p f.ty.0 f.times.start))
    (past : Option ℤ) (ends : past ≡ ends_by table f)
    (due : (other : ℕ) → map.get after.due other ≡ cond (other == f.tag.0 && is_some past) past (map.get before.due other))
    (lingering : (other : ℕ) → lingers after other ≡ (lingers before other && not (other == f.tag.0 && is_some past))) where
  abbrev end_in : Option Fact → Option ℤ
  end_in = option_and_then (ends_by table)

  end_at : (t : ℕ) (b : Bool) → (t == f.tag.0) ≡ b → cond (b && is_some past) past (map.get before.due t) ≡ end_in (map.get more t)
  end_at t true e =
      let same : t ≡ f.tag.0 = eqb-true t f.tag.0 e in
      no_timer (map.get before.due t) past (held.ends t ∙ ap (λ n. end_in (map.get facts n)) same ∙ ap end_in new)
      ∙ ends
      ∙ sym (ap end_in (ap (λ m. map.get m t) made ∙ ap (map.get (map.insert facts f.tag.0 f)) same ∙ got_new facts f))
  end_at t false e = held.ends t ∙ sym (ap end_in (ap (λ m. map.get m t) made ∙ got_old facts f t (eqb-false t f.tag.0 e)))

  pub one_more_held : AreHeld p table more later after
  one_more_held = record {
    waits = λ t. ap (λ timers. map.get timers t) timed ∙ timed_new p facts expiries held.waits f new t ∙ ap (λ h. expiry_at p (map.get h t)) (sym made);
    ends = λ t. due t ∙ end_at t (t == f.tag.0) refl;
    none = λ t. lingering t ∙ and_left (lingers before t) (not (t == f.tag.0 && is_some past)) (held.none t);
  }

-- ---- a list of facts, one after the other

-- what is still to be put in, beside what is held
pub record ArePut (facts rest : List Fact) (held : HeldFacts) : Type 0 where
  pub all : all_held held rest ≡ stored facts
  pub storable : AreStorable rest
  pub free : (g : Fact) → In g rest → map.get held g.tag.0 ≡ None

pub none_put : (facts : List Fact) (held : HeldFacts) → held ≡ map.empty → AreStorable facts → ArePut facts facts held
none_put facts held none are = record {
  all = ap (λ m. all_held m facts) none;
  storable = are;
  free = λ g i. ap (λ m. map.get m g.tag.0) none ∙ get-empty nat_cmp g.tag.0;
}

pub one_put : (facts : List Fact) (f : Fact) (rest : List Fact) (held more : HeldFacts) → ArePut facts (f ∷ rest) held → more ≡ map.insert held f.tag.0 f → ArePut facts rest more
one_put facts f rest held more are made = record {
  all = ap (λ m. all_held m rest) made ∙ are.all;
  storable = record { tags = are.storable.tags.1; times = λ g i. are.storable.times g (inr i) };
  free = λ g i.
      ap (λ m. map.get m g.tag.0) made ∙ got_old held f g.tag.0 (λ e. apart_from f rest are.storable.tags g i (sym e)) ∙ are.free g (inr i);
}
