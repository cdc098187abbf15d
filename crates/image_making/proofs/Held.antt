-- Facts by their tags, one after the other.
use Rattle.std.proofs.Common.{Bool, List, Some, [], ap, arith, cond, false, get_or, inl, inr, length, map, option_map, subst, suc, sym, take, true, zero, ℕ}
use Rattle.std.{proofs.{Common.{◌+◌, ◌<◌, ◌==◌, ◌∙◌, ◌∷◌, ◌≡◌, ◌⊎◌}, lemmas.Bool.{eqb-true, false_from_ne_true}}, specs.{Borrow.{Bor}, BTreeMap.{BTreeMap}}}
use Rattle.{std.specs.{BTreeMap.{get, is_at}, Ordering.{nat_cmp}}, fx_base.{proofs.{Orders.{eq_by_nat_cmp, eqb-self}, Sequences.{In-append}}, specs.Lists.{In}}}
use Rattle.{fx_base.specs.declared.{fact.Fact.{Fact}, ids.Tag.{Tag}}, rule_model.{proofs.Listed.{in_map}, specs.Distinct.{HaveDistinctTags}}}
use Rattle.image_making.{specs.AtHand.{fact_in}, proofs.Adding.{in_at, next_taken}}

-- no fact before another has its tag
apart : (facts : List Fact) → HaveDistinctTags facts → (i : ℕ) (x : Fact) → i < length facts → x ≡ get_or facts i x → (f : Fact) → In f (take i facts) → x.tag.0 ≡ f.tag.0 → ⊥
apart [] d i x below is f j same = absurd (omega (arith, below))
apart (y ∷ facts) d zero x below is f j same = absurd j
apart (y ∷ facts) d (suc i) x below is f (inl e) same =
    d.0 (subst (λ (t : Tag). In t (map (λ (g : Fact). g.tag) facts)) (ap (λ (n : ℕ). tag_of n) same ∙ ap (λ (g : Fact). g.tag) e)
    (in_map (λ (g : Fact). g.tag) x facts (in_at facts i x (omega (arith, below)) is)))
  where
    tag_of : ℕ → Tag
    tag_of n = record { 0 = n }
apart (y ∷ facts) d (suc i) x below is f (inr j) same = apart facts d.1 i x (omega (arith, below)) is f j same

pub one_held : (facts : List Fact) → HaveDistinctTags facts → (i : ℕ) (x : Fact) → i < length facts → x ≡ get_or facts i x → (now new : BTreeMap ℕ (Bor Fact)) (v : Bor Fact) → v.now ≡ x
    → ((q : ℕ) → get nat_cmp new q ≡ cond (is_at (nat_cmp x.tag.0) q) (Some v) (get nat_cmp now q))
    → ((f : Fact) → In f (take i facts) → fact_in now f.tag ≡ Some f) → (f : Fact) → In f (take (i + 1) facts) → fact_in new f.tag ≡ Some f
one_held facts d i x below is now new v same put before f j = ap (option_map (λ (b : Bor Fact). b.now)) (put f.tag.0) ∙ by (In-append f (take i facts) (x ∷ []) (subst (λ (fs : List Fact). In f fs) (next_taken facts i x below is) j))
  where
    here : (b : Bool) → b ≡ true → f ≡ x → option_map (λ (b : Bor Fact). b.now) (cond b (Some v) (get nat_cmp now f.tag.0)) ≡ Some f
    here true e one = ap Some (same ∙ sym one)
    here false e one = absurd cc

    other : (b : Bool) → b ≡ false → fact_in now f.tag ≡ Some f → option_map (λ (b : Bor Fact). b.now) (cond b (Some v) (get nat_cmp now f.tag.0)) ≡ Some f
    other true e h = absurd cc
    other false e h = h

    by : In f (take i facts) ⊎ In f (x ∷ []) → option_map (λ (b : Bor Fact). b.now) (cond (is_at (nat_cmp x.tag.0) f.tag.0) (Some v) (get nat_cmp now f.tag.0)) ≡ Some f
    by (inl k) =
        other (is_at (nat_cmp x.tag.0) f.tag.0) (eq_by_nat_cmp x.tag.0 f.tag.0 ∙ false_from_ne_true (x.tag.0 == f.tag.0) (λ e. apart facts d i x below is f k (eqb-true x.tag.0 f.tag.0 e))) (before f k)
    by (inr (inl e)) = here (is_at (nat_cmp x.tag.0) f.tag.0) (eq_by_nat_cmp x.tag.0 f.tag.0 ∙ ap (λ (g : Fact). x.tag.0 == g.tag.0) e ∙ eqb-self x.tag.0) e
    by (inr (inr k)) = absurd k
