-- A network has a node for each distinct front of its rules' conditions.
use Rattle.rete_net.proofs.Common.{◌≡◌, ◌∙◌, sym, ap, subst, refl, zero-add, ℕ, zero, suc, ◌+◌, ◌<◌, ◌≤◌, nat_lt, arith, Bool, true, false, List, [], ◌∷◌, ◌++◌}
use Rattle.rete_net.proofs.Common.{length, take, Option, Some, None, slice_get, inl, inr, nat_tests, take-append-le, take_all, length_push, slice_get_within}
use Rattle.rete_net.proofs.Common.{In, Condition, Program, condition_of, NetNode, before, CountsFronts, IsRuleFront, IsNetOf}
use Rattle.fx_base.proofs.Sequences.{In-place, get-below}

-- ---- what a function has for the first numbers

numbered : {A : Type 0} → (ℕ → A) → ℕ → ℕ → List A
numbered f from zero = []
numbered f from (suc n) = f from ∷ numbered f (from + 1) n

as_many : {A : Type 0} (f : ℕ → A) (from n : ℕ) → length (numbered f from n) ≡ n
unfolding numbered
as_many f from zero = refl
as_many f from (suc n) = let rest = as_many f (from + 1) n in omega (arith, rest)

at_number : {A : Type 0} (f : ℕ → A) (from n k : ℕ) (x : A) → slice_get (numbered f from n) k ≡ Some x → f (from + k) ≡ x
unfolding numbered
at_number f from zero k x e = absurd (let no : None ≡ Some x = e in cc)
at_number f from (suc n) zero x e =
    let is : f from ≡ x = cc in
    let same : from + 0 ≡ from = omega arith in
    ap f same ∙ is
at_number f from (suc n) (suc k) x e =
    let same : from + suc k ≡ (from + 1) + k = omega arith in
    ap f same ∙ at_number f (from + 1) n k x e

is_numbered : {A : Type 0} (f : ℕ → A) (from n k : ℕ) → k < n → In (f (from + k)) (numbered f from n)
unfolding numbered
is_numbered f from zero k h = absurd (omega arith)
is_numbered f from (suc n) zero h = let same : from + 0 ≡ from = omega arith in inl (ap f same)
is_numbered f from (suc n) (suc k) h =
    let same : from + suc k ≡ (from + 1) + k = omega arith in
    inr (subst (λ (m : ℕ). In (f m) (numbered f (from + 1) n)) (sym same) (is_numbered f (from + 1) n k (omega arith)))

number_of : {A : Type 0} (f : ℕ → A) (from n : ℕ) (x : A) → In x (numbered f from n) → (k : ℕ) × (k < n) × (f (from + k) ≡ x)
unfolding numbered
number_of f from zero x i = absurd i
number_of f from (suc n) x (inl e) = let same : from + 0 ≡ from = omega arith in (0, omega arith, ap f same ∙ sym e)
number_of f from (suc n) x (inr i) =
    let r = number_of f (from + 1) n x i in
    let same : from + suc r.0 ≡ (from + 1) + r.0 = omega arith in
    let lt = r.1 in
    (suc r.0, omega arith, ap f same ∙ r.2)

not_empty : {A : Type 0} (xs : List A) (x : A) → xs ++ x ∷ [] ≡ [] → ⊥
not_empty [] x e = cc
not_empty (y ∷ ys) x e = cc

none_taken : {A : Type 0} (q : ℕ) → take {A = A} q [] ≡ []
none_taken zero = refl
none_taken (suc q) = refl

-- ---- the nodes of a network

module _ (p : Program) (nodes : List NetNode) (ends : List ℕ) (net : IsNetOf p nodes ends) where
  -- some node has these conditions
  abbrev Listed : List Condition → Type 0
  Listed cs = (j : ℕ) × (j < length nodes) × (net.conditions j ≡ cs)

  -- of the nodes before a place each has a node of so many of its first conditions, unless these are none
  abbrev Before : ℕ → ℕ → Type 0
  Before k q = (parent : ℕ) → (up : (n : NetNode) × (slice_get nodes parent ≡ Some n)) → parent < k → (take q (net.conditions parent) ≡ [] → ⊥) → Listed (take q (net.conditions parent))

  -- each front of a node's conditions is that of a node, unless it is empty
  pub fronts_within : (bound k q : ℕ) (n : NetNode) → k < bound → slice_get nodes k ≡ Some n → (take q (net.conditions k) ≡ [] → ⊥)
      → (j : ℕ) × (j < length nodes) × (net.conditions j ≡ take q (net.conditions k))
  fronts_within zero k q n h e some = absurd (omega arith)
  fronts_within (suc bound) k q n h e some = by (λ parent up lt none. fronts_within bound parent q up.0 (omega (arith, lt)) up.1 none) (nat_lt q (length (net.conditions k))) refl
    where
      own : net.conditions k ≡ before net.conditions n.parent ++ condition_of n.node ∷ []
      own = net.shaped.own k n e

      here : length (net.conditions k) ≤ q → Listed (take q (net.conditions k))
      here le = (k, slice_get_within nodes k n e, sym (take_all q (net.conditions k) le))

      shorter : q < length (net.conditions k) → take q (net.conditions k) ≡ take q (before net.conditions n.parent)
      shorter lt =
          let long : length (net.conditions k) ≡ length (before net.conditions n.parent) + 1 = ap length own ∙ length_push (before net.conditions n.parent) (condition_of n.node) in
          ap (take q) own ∙ take-append-le q (before net.conditions n.parent) (condition_of n.node ∷ []) (omega arith)

      behind : Before k q → (parent : Option ℕ) → n.parent ≡ parent → take q (net.conditions k) ≡ take q (before net.conditions parent) → Listed (take q (net.conditions k))
      behind rest None at same = absurd (some (same ∙ none_taken q))
      behind rest (Some parent) at same =
          let lt : parent < k = net.shaped.parents k parent n e at in
          let within : k < length nodes = slice_get_within nodes k n e in
          let r = rest parent (get-below nodes parent (omega arith)) lt (λ none. some (same ∙ none)) in
          (r.0, r.1, r.2 ∙ sym same)

      by : Before k q → (b : Bool) → nat_lt q (length (net.conditions k)) ≡ b → Listed (take q (net.conditions k))
      by rest true lt = let less : q < length (net.conditions k) = grind (arith, nat_tests) in behind rest n.parent refl (shorter less)
      by rest false ge = let le : length (net.conditions k) ≤ q = grind (arith, nat_tests) in here le

  front_listed : (cs : List Condition) → IsRuleFront p cs → (cs ≡ [] → ⊥) → In cs (numbered net.conditions 0 (length nodes))
  front_listed cs front some =
      let place = In-place front.0 p.rules front.1 in
      let last = net.lasts place.0 front.0 place.1 in
      let is : cs ≡ take front.2 (net.conditions last.last) = front.3 ∙ ap (take front.2) (sym last.all) in
      let r = fronts_within (suc last.last) last.last front.2 last.node (omega arith) last.there (λ none. some (is ∙ none)) in
      subst (λ (z : List Condition). In z (numbered net.conditions 0 (length nodes))) (ap net.conditions (zero-add r.0) ∙ r.2 ∙ sym is) (is_numbered net.conditions 0 (length nodes) r.0 r.1)

  node_front : (k : ℕ) → k < length nodes → IsRuleFront p (net.conditions k) × (net.conditions k ≡ [] → ⊥)
  node_front k h =
      let n = get-below nodes k h in
      (net.fronts k n.0 n.1, λ none. not_empty (before net.conditions n.0.parent) (condition_of n.0.node) (sym (net.shaped.own k n.0 n.1) ∙ none))

  pub counted : CountsFronts p (length nodes)
  counted = record {
    each = numbered net.conditions 0 (length nodes);
    number = as_many net.conditions 0 (length nodes);
    distinct = λ j k cs e f.
        let many = as_many net.conditions 0 (length nodes) in
        let low : j < length (numbered net.conditions 0 (length nodes)) = slice_get_within (numbered net.conditions 0 (length nodes)) j cs e in
        let high : k < length (numbered net.conditions 0 (length nodes)) = slice_get_within (numbered net.conditions 0 (length nodes)) k cs f in
        let a = get-below nodes j (omega arith) in
        let b = get-below nodes k (omega arith) in
        net.once j k a.0 b.0 a.1 b.1 (ap net.conditions (sym (zero-add j)) ∙ at_number net.conditions 0 (length nodes) j cs e ∙ sym (at_number net.conditions 0 (length nodes) k cs f) ∙ ap net.conditions (zero-add k));
    are_fronts = λ cs i.
        let r = number_of net.conditions 0 (length nodes) cs i in
        subst (λ (z : List Condition). IsRuleFront p z × (z ≡ [] → ⊥)) (ap net.conditions (sym (zero-add r.0)) ∙ r.2) (node_front r.0 r.1);
    all = front_listed;
  }
