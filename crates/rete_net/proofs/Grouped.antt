-- Facts by their types.
use Rattle.rete_net.proofs.Common.{◌≡◌, ◌∙◌, sym, ap, refl, inl, inr, ℕ, zero, suc, ◌==◌, arith, append-nil, cond, Bool, true, false, Bor, List, [], ◌∷◌, ◌++◌}
use Rattle.rete_net.proofs.{Common.{Some, slice_get, Vec, set, nat_tests, Fact, lent, grouped_facts_at, given_facts, is_fact_of_type}, Searched.{lent_more}}
use Rattle.{rete_net.proofs.Walking.{equal_or_not}, std.proofs.lemmas.Bool.{eq-eqb}, fx_base.proofs.Sequences.{get-set_other, get-set_same}}

-- an empty list more is none
pub one_empty : (groups : List (Vec (Bor Fact))) (list : Vec (Bor Fact)) (ty : ℕ) → list.items ≡ [] → grouped_facts_at (groups ++ list ∷ []) ty ≡ grouped_facts_at groups ty
one_empty [] list zero none = ap lent none
one_empty [] list (suc ty) none = refl
one_empty (g ∷ groups) list zero none = refl
one_empty (g ∷ groups) list (suc ty) none = one_empty groups list ty none

other_number : (m n : ℕ) → (n ≡ m → ⊥) → (m == n) ≡ false
other_number m n h = by (m == n) refl
  where
    by : (b : Bool) → (m == n) ≡ b → b ≡ false
    by true e = absurd (h (grind (arith, nat_tests)))
    by false e = refl

-- one fact more behind those of its type
pub one_fact_more : (groups : List (Vec (Bor Fact))) (place : ℕ) (old new : Vec (Bor Fact)) (f : Bor Fact) → slice_get groups place ≡ Some old → new.items ≡ old.items ++ f ∷ [] → place ≡ f.now.ty.0
    → (ty : ℕ) → grouped_facts_at (set groups place new) ty ≡ grouped_facts_at groups ty ++ cond (is_fact_of_type ty f.now) (f.now ∷ []) []
one_fact_more groups place old new f at more own ty = elim (equal_or_not ty place) [
  | inl is ↦
      ap (λ i. grouped_facts_at (set groups place new) i) is
      ∙ ap given_facts (get-set_same groups place new old at)
      ∙ ap lent more ∙ lent_more old.items f
      ∙ ap (λ (facts : List Fact). facts ++ f.now ∷ []) (sym (ap given_facts (ap (slice_get groups) is ∙ at)))
      ∙ ap (λ b. grouped_facts_at groups ty ++ cond b (f.now ∷ []) []) (sym (eq-eqb f.now.ty.0 ty (sym own ∙ sym is)))
  | inr other ↦
      ap given_facts (get-set_other groups place ty new other) ∙ sym (append-nil (grouped_facts_at groups ty))
      ∙ ap (λ b. grouped_facts_at groups ty ++ cond b (f.now ∷ []) []) (sym (other_number f.now.ty.0 ty (λ e. other (e ∙ sym own))))
]
