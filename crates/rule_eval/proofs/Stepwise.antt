-- Conditions taken one after the other, over lists of tuples.
use Rattle.rule_eval.proofs.Common.{◌≡◌, ℕ, ◌+◌, List, [], ◌∷◌, ◌++◌, drop, refl, sym, ◌∙◌, ap, subst, filter, flat_map, Fact, Program, candidates, passes}
use Rattle.rule_eval.proofs.Common.{extended, pattern_of, HaveOperators, made_by, over, passing, tuples, Snapshot, Tuple, empty_tuple}
use Rattle.{std.proofs.lemmas.Grind.{flat_map-append}, rule_model.specs.declared.condition.Condition.{Condition, TheVariants.{Plain, Negated, Existing}}}
use Rattle.rule_model.specs.{declared.{condition.Condition.TheVariants.{Folded}, moment.Moment.{Moment}}, Snapshots.{floor}}

-- functions that agree gather the same
pub flat_map_same : {A B : Type 0} (f g : A → List B) → ((x : A) → f x ≡ g x) → (xs : List A) → flat_map f xs ≡ flat_map g xs
flat_map_same f g h [] = refl
flat_map_same f g h (x ∷ xs) = ap (λ ys. ys ++ flat_map f xs) (h x) ∙ ap (λ ys. g x ++ ys) (flat_map_same f g h xs)

-- one behind another
pub flat_map_twice : {A B C : Type 0} (f : A → List B) (g : B → List C) (xs : List A) → flat_map g (flat_map f xs) ≡ flat_map (λ x. flat_map g (f x)) xs
flat_map_twice f g [] = refl
flat_map_twice f g (x ∷ xs) = flat_map-append g (f x) (flat_map f xs) ∙ ap (λ ys. flat_map g (f x) ++ ys) (flat_map_twice f g xs)

-- what a condition makes, by the candidates that pass
pub made_is : (p : Program) (facts : List Fact) (m : Moment) (c : Condition) (t : Tuple) → made_by p m c t (passing p (pattern_of c) (over facts m) t) ≡ extended p (over facts m) c t
unfolding floor
made_is p facts m (Plain q) t = refl
made_is p facts m (Negated q) t = refl
made_is p facts m (Existing q) t = refl
made_is p facts m (Folded a) t = refl

-- the tuples that one condition makes of these
pub all_made : (p : Program) (facts : List Fact) (m : Moment) (c : Condition) (found : List Fact) (ts : List Tuple) → found ≡ candidates p (pattern_of c) (over facts m)
    → flat_map (λ t. made_by p m c t (filter (passes (pattern_of c) t) found)) ts ≡ flat_map (extended p (over facts m) c) ts
all_made p facts m c found ts e =
    flat_map_same (λ t. made_by p m c t (filter (passes (pattern_of c) t) found)) (extended p (over facts m) c)
    (λ t. ap (λ (fs : List Fact). made_by p m c t (filter (passes (pattern_of c) t) fs)) e ∙ made_is p facts m c t) ts

-- ---- the walk over the conditions

-- what the rest of the conditions makes of these tuples is what all make of nothing
pub record Leads (p : Program) (s : Snapshot) (all rest : List Condition) (ts : List Tuple) : Type 0 where
  pub operators : HaveOperators rest
  pub made : flat_map (tuples p s rest) ts ≡ tuples p s all empty_tuple

module _ (p : Program) (s : Snapshot) where
  one_more : (all cs : List Condition) (c : Condition) (ts us : List Tuple) → us ≡ flat_map (extended p s c) ts → Leads p s all (c ∷ cs) ts → Leads p s all cs us
  one_more all cs c ts us e h = record {
    operators = h.operators.1;
    made = ap (flat_map (tuples p s cs)) e ∙ flat_map_twice (extended p s c) (tuples p s cs) ts ∙ h.made;
  }

  -- the condition at a place
  pub next : (all : List Condition) (k : ℕ) (c : Condition) (ts us : List Tuple) → drop k all ≡ c ∷ drop (k + 1) all → us ≡ flat_map (extended p s c) ts
      → Leads p s all (drop k all) ts → Leads p s all (drop (k + 1) all) us
  next all k c ts us at e h = one_more all (drop (k + 1) all) c ts us e (subst (λ ds. Leads p s all ds ts) at h)

  alone : (ts : List Tuple) → flat_map (tuples p s []) ts ≡ ts
  alone [] = refl
  alone (t ∷ ts) = ap (λ us. t ∷ us) (alone ts)

  -- behind the last one
  pub end : (all rest : List Condition) (ts : List Tuple) → rest ≡ [] → Leads p s all rest ts → ts ≡ tuples p s all empty_tuple
  end all rest ts none h = sym (alone ts) ∙ ap (λ cs. flat_map (tuples p s cs) ts) (sym none) ∙ h.made
