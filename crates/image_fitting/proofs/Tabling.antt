-- The first rules with the conditions of a rule up to each of them, as the rules are gone through.
use Rattle.image_fitting.proofs.Common.{◌≡◌, ◌∙◌, ℕ, zero, suc, ◌+◌, ◌-◌, ◌<◌, ◌≤◌, List, [], ◌∷◌, ◌++◌, length, take, replicate, Option, Some, None, refl, sym}
use Rattle.image_fitting.proofs.Common.{ap, subst, arith, inl, inr, ◌⊎◌, slice_get, length-replicate, slice_get_within, same_Some, Condition, Program, Rule}
use Rattle.image_fitting.proofs.Common.{IsFirstWith, AreFirsts, IsPlaceTable, option_map, length-append, length_push, take-take}
use Rattle.fx_base.proofs.Orders.{below_or_last}

-- ---- lists that begin alike

alike_fewer : {A : Type 0} (m n : ℕ) (xs ys : List A) → take n xs ≡ take n ys → m ≤ n → take m xs ≡ take m ys
alike_fewer m n xs ys e h = sym (take-take m n xs h) ∙ ap (take m) e ∙ take-take m n ys h

-- ---- what stands in a list with some more at its end

module _ {A : Type 0} where
  at_left : (xs ys : List A) (k : ℕ) → k < length xs → slice_get (xs ++ ys) k ≡ slice_get xs k
  at_left [] ys k h = absurd (omega arith)
  at_left (x ∷ xs) ys zero h = refl
  at_left (x ∷ xs) ys (suc k) h = at_left xs ys k (omega arith)

  of_replicate : (n k : ℕ) (x y : A) → slice_get (replicate n x) k ≡ Some y → x ≡ y
  of_replicate zero k x y e = absurd cc
  of_replicate (suc n) zero x y e = cc
  of_replicate (suc n) (suc k) x y e = of_replicate n k x y e

  of_longer : (xs : List A) (n k : ℕ) (x y : A) → slice_get (xs ++ replicate n x) k ≡ Some y → (slice_get xs k ≡ Some y) ⊎ ((length xs ≤ k) × (k < length xs + n) × (x ≡ y))
  of_longer [] n k x y e =
      let within : k < length (replicate n x) = slice_get_within (replicate n x) k y e in
      let long : length (replicate n x) ≡ n = length-replicate n x in
      inr (omega arith, omega arith, of_replicate n k x y e)
  of_longer (z ∷ xs) n zero x y e = inl e
  of_longer (z ∷ xs) n (suc k) x y e = elim (of_longer xs n k x y e) [
    | inl h ↦ inl h
    | inr h ↦ (let a : length xs ≤ k = h.0 in let b : k < length xs + n = h.1 in inr (omega arith, omega arith, h.2))
  ]

  at_push : (xs : List A) (x : A) (n : ℕ) → length xs ≡ n → slice_get (xs ++ x ∷ []) n ≡ Some x
  at_push [] x zero e = refl
  at_push [] x (suc n) e = absurd (omega arith)
  at_push (y ∷ xs) x zero e = absurd (omega arith)
  at_push (y ∷ xs) x (suc n) e = at_push xs x n (omega arith)

mapped : {A B : Type 0} (f : A → B) (o : Option A) (y : B) → option_map f o ≡ Some y → (x : A) × (o ≡ Some x) × (f x ≡ y)
mapped f None y e = absurd cc
mapped f (Some x) y e = (x, refl, same_Some (f x) y e)

-- ---- one rule

abbrev pub conditions_in : Rule → List Condition
conditions_in rule = rule.conditions

module _ (p : Program) (conditions : List Condition) where
  -- the first rules that are found among so many: for each of the conditions that one of these has up to it
  pub record AreSoFar (firsts : List ℕ) (n : ℕ) : Type 0 where
    pub within : length firsts ≤ length conditions
    pub each : (k place : ℕ) → slice_get firsts k ≡ Some place → IsFirstWith p (suc k) conditions place
    pub others : (k place : ℕ) (rule : Rule) → length firsts ≤ k → k < length conditions → place < n → slice_get p.rules place ≡ Some rule → take (suc k) rule.conditions ≡ take (suc k) conditions → ⊥

  module _ (firsts : List ℕ) (n alike : ℕ) (theirs : List Condition) (stands : option_map conditions_in (slice_get p.rules n) ≡ Some theirs) (same : take alike theirs ≡ take alike conditions)
      (inside : alike ≤ length conditions) (most : (m : ℕ) → alike < m → m ≤ length conditions → take m theirs ≡ take m conditions → ⊥) (so_far : AreSoFar firsts n) where
    other : (k place : ℕ) (r : Rule) → length firsts ≤ k → alike ≤ k → k < length conditions → place < n + 1 → slice_get p.rules place ≡ Some r → take (suc k) r.conditions ≡ take (suc k) conditions → ⊥
    other k place r a b c less at e = by (below_or_last place n less)
      where
        by : (place < n) ⊎ (place ≡ n) → ⊥
        by (inl l) = so_far.others k place r a c l at e
        by (inr q) =
            let one : r.conditions ≡ theirs = same_Some r.conditions theirs (ap (option_map conditions_in) (sym at ∙ ap (slice_get p.rules) q) ∙ stands) in
            most (suc k) (omega arith) (omega arith) (ap (take (suc k)) (sym one) ∙ e)

    -- the rule is the first that has so many of the conditions
    first_here : (k : ℕ) → length firsts ≤ k → k < alike → IsFirstWith p (suc k) conditions n
    first_here k a b =
        let r = mapped conditions_in (slice_get p.rules n) theirs stands in
        record {
          rule = r.0;
          stands = r.1;
          begins = ap (take (suc k)) r.2 ∙ alike_fewer (suc k) alike theirs conditions same (omega arith);
          earlier = λ j z less at e. so_far.others k j z a (omega arith) less at e;
        }

    pub filled : AreSoFar (firsts ++ replicate (alike - length firsts) n) (n + 1)
    filled =
        let long : length (firsts ++ replicate (alike - length firsts) n) ≡ length firsts + length (replicate (alike - length firsts) n) = length-append firsts (replicate (alike - length firsts) n) in
        let added : length (replicate (alike - length firsts) n) ≡ alike - length firsts = length-replicate (alike - length firsts) n in
        let within : length firsts ≤ length conditions = so_far.within in
        record {
          within = omega arith;
          each = λ k place e. by k place (of_longer firsts (alike - length firsts) k n place e);
          others = λ k place r a b less at e. other k place r (omega arith) (omega arith) b less at e;
        }
      where
        by : (k place : ℕ) → (slice_get firsts k ≡ Some place) ⊎ ((length firsts ≤ k) × (k < length firsts + (alike - length firsts)) × (n ≡ place)) → IsFirstWith p (suc k) conditions place
        by k place (inl e) = so_far.each k place e
        by k place (inr e) =
            let from : length firsts ≤ k = e.0 in
            let below : k < length firsts + (alike - length firsts) = e.1 in
            subst (λ z. IsFirstWith p (suc k) conditions z) e.2 (first_here k e.0 (omega arith))

  -- where a rule that has the conditions was gone through, all are found
  pub all_found : (firsts : List ℕ) (n place : ℕ) (rule : Rule) → slice_get p.rules place ≡ Some rule → rule.conditions ≡ conditions → place < n → AreSoFar firsts n → AreFirsts p conditions firsts
  all_found firsts n place rule stands are less so_far =
      let within : length firsts ≤ length conditions = so_far.within in
      let missing : length firsts < length conditions → ⊥ = λ short. so_far.others (length firsts) place rule (omega arith) short less stands (ap (take (suc (length firsts))) are) in
      record { as_many = omega arith; each = so_far.each }

-- the last turn, of the rule that has the conditions
pub last_filled : (p : Program) (conditions : List Condition) (firsts : List ℕ) (place : ℕ) → option_map conditions_in (slice_get p.rules place) ≡ Some conditions → AreSoFar p conditions firsts place
    → (rule : Rule) → slice_get p.rules place ≡ Some rule → AreFirsts p rule.conditions (firsts ++ replicate (length conditions - length firsts) place)
last_filled p conditions firsts place is so_far rule stands =
    let one : conditions ≡ rule.conditions = same_Some conditions rule.conditions (sym is ∙ ap (option_map conditions_in) stands) in
    let all = filled p conditions firsts place (length conditions) conditions is refl (omega arith) (λ m over within e. absurd (omega arith)) so_far in
    subst (λ cs. AreFirsts p cs (firsts ++ replicate (length conditions - length firsts) place)) one
    (all_found p conditions (firsts ++ replicate (length conditions - length firsts) place) (place + 1) place rule stands (sym one) (omega arith) all)

-- ---- all rules

-- the table of so many of the rules
pub record IsTableOf (p : Program) (table : List (List ℕ)) (n : ℕ) : Type 0 where
  pub as_many : length table ≡ n
  pub each : (place : ℕ) (rule : Rule) → place < n → slice_get p.rules place ≡ Some rule → (firsts : List ℕ) × (slice_get table place ≡ Some firsts) × AreFirsts p rule.conditions firsts

pub one_rule_more : (p : Program) (table : List (List ℕ)) (n : ℕ) (firsts : List ℕ) → ((rule : Rule) → slice_get p.rules n ≡ Some rule → AreFirsts p rule.conditions firsts) → IsTableOf p table n
    → IsTableOf p (table ++ firsts ∷ []) (n + 1)
one_rule_more p table n firsts are so_far = record {
  as_many = (let a : length (table ++ firsts ∷ []) ≡ length table + 1 = length_push table firsts in let b : length table ≡ n = so_far.as_many in omega arith);
  each = λ place rule less stands. by place rule stands (below_or_last place n less);
}
  where
    by : (place : ℕ) (rule : Rule) → slice_get p.rules place ≡ Some rule → (place < n) ⊎ (place ≡ n) → (found : List ℕ) × (slice_get (table ++ firsts ∷ []) place ≡ Some found) × AreFirsts p rule.conditions found
    by place rule stands (inl less) =
        let r = so_far.each place rule less stands in
        let inside : place < length table = subst (λ m. place < m) (sym so_far.as_many) less in
        (r.0, at_left table (firsts ∷ []) place inside ∙ r.1, r.2)
    by place rule stands (inr q) =
        (firsts, ap (slice_get (table ++ firsts ∷ [])) q ∙ at_push table firsts n so_far.as_many, are rule (ap (slice_get p.rules) (sym q) ∙ stands))

pub whole_table : (p : Program) (table : List (List ℕ)) (n : ℕ) → length p.rules ≤ n → IsTableOf p table n → IsPlaceTable p table
whole_table p table n over so_far = record {
  each = λ place rule stands. (let less : place < length p.rules = slice_get_within p.rules place rule stands in so_far.each place rule (omega arith) stands);
}
