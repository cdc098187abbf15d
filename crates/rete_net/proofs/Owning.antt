-- The owners of nodes, as a network is built.
use Rattle.rete_net.proofs.Common.{◌≡◌, ◌∙◌, ◌⊎◌, inl, inr, sym, ap, refl, subst, ℕ, zero, suc, ◌+◌, ◌<◌, ◌≤◌, arith, List, [], ◌∷◌, ◌++◌, length, take}
use Rattle.rete_net.proofs.Common.{length-append, Some, None, slice_get, Ordering, Less, AllByRecursion, nat_cmp, ordering_then, nat_tests, slice_get_within}
use Rattle.rete_net.proofs.{Common.{Vec, In, Condition, Program, Rule, Owner, IsOwned, AreNodeOwners, owner_cmp, AreOwnedSoFar, PutsOwner}, Growing.{each_more}}
use Rattle.{std.{specs.List.Sorted.{IsStrictlySortedBy}, proofs.lemmas.List.{append-nil}}, fx_base.proofs.Orders.{below_or_last, lt-nat_cmp}}
use Rattle.fx_base.proofs.Sequences.{In-append, get-append_left, get-last}

-- ---- lists

-- an element behind all others
pub sorted_push : {A : Type 0} (c : A → A → Ordering) (xs : List A) (y : A) → IsStrictlySortedBy c xs → ((x : A) → In x xs → c x y ≡ Less) → IsStrictlySortedBy c (xs ++ y ∷ [])
unfolding IsStrictlySortedBy
sorted_push c [] y s below = (tt, tt)
sorted_push c (x ∷ xs) y s below = (all_push xs s.0, sorted_push c xs y s.1 (λ z i. below z (inr i)))
  where
    all_push : (zs : List _) → AllByRecursion (λ z. c x z ≡ Less) zs → AllByRecursion (λ z. c x z ≡ Less) (zs ++ y ∷ [])
    all_push [] all = (below x (inl refl), tt)
    all_push (z ∷ zs) all = (all.0, all_push zs all.1)

-- lists with the same beginning, of a length that the one has: the other has it too
as_long : (n : ℕ) (xs ys : List Condition) → n ≤ length xs → take n ys ≡ take n xs → n ≤ length ys
as_long zero xs ys le e = omega arith
as_long (suc n) [] ys le e = absurd (omega (arith, le))
as_long (suc n) (x ∷ xs) [] le e = absurd (let torn : [] ≡ x ∷ take n xs = e in cc)
as_long (suc n) (x ∷ xs) (y ∷ ys) le e =
    let rest : take n ys ≡ take n xs = (let both : y ∷ take n ys ≡ x ∷ take n xs = e in cc) in
    let shorter = as_long n xs ys (omega (arith, le)) rest in
    omega (arith, shorter)

-- ---- the order of owners

earlier_rule : (x o : Owner) → x.rule.0 < o.rule.0 → owner_cmp x o ≡ Less
earlier_rule x o lt = ap (λ (c : Ordering). ordering_then c (nat_cmp x.condition o.condition)) (lt-nat_cmp x.rule.0 o.rule.0 lt)

earlier_condition : (m n : ℕ) (c : Ordering) → m ≡ n → c ≡ Less → ordering_then (nat_cmp m n) c ≡ Less
earlier_condition m n c e less = grind (arith, nat_tests)

-- ---- one node more

module _ (p : Program) (all : List (List Condition)) (place : ℕ) (rule : Rule) (i : ℕ) (stands : slice_get p.rules place ≡ Some rule) (short : i < length rule.conditions) (owner : Owner)
    (of_rule : owner.rule.0 ≡ place) (at : owner.condition ≡ i) where
  abbrev own : List Condition
  own = take (i + 1) rule.conditions

  pub owned_new : (owners : List Owner) → AreOwnedSoFar p all owners place rule.conditions i → ((k : ℕ) → slice_get all k ≡ Some own → ⊥) → IsOwned p own owner
  owned_new owners was new =
      let here : slice_get p.rules owner.rule.0 ≡ Some rule = ap (slice_get p.rules) of_rule ∙ stands in
      let many : suc owner.condition ≡ i + 1 = omega (arith, at) in
      record {
        rule = rule;
        stands = here;
        within = omega (arith, at, short);
        own = ap (λ n. take n rule.conditions) (sym many);
        first = record {
          rule = rule;
          stands = here;
          begins = refl;
          earlier = λ k other less there same.
              let long = as_long (suc owner.condition) rule.conditions other.conditions (omega (arith, at, short)) same in
              let r = was.earlier k other (omega (arith, less, of_rule)) there (suc owner.condition) (omega arith) long in
              new r.0 (r.1 ∙ ap Some (same ∙ ap (λ n. take n rule.conditions) many));
        };
      }

  greater : (owners : List Owner) → AreOwnedSoFar p all owners place rule.conditions i → (x : Owner) → In x owners → owner_cmp x owner ≡ Less
  greater owners was x j = elim (was.below x j) [
    | inl lt ↦ earlier_rule x owner (omega (arith, lt, of_rule))
    | inr same ↦ earlier_condition x.rule.0 owner.rule.0 (nat_cmp x.condition owner.condition) (same.0 ∙ sym of_rule) (let lt = same.1 in lt-nat_cmp x.condition owner.condition (omega (arith, lt, at)))
  ]

  later : (x : Owner) → (x.rule.0 < place) ⊎ ((x.rule.0 ≡ place) × (x.condition < i)) → (x.rule.0 < place) ⊎ ((x.rule.0 ≡ place) × (x.condition < i + 1))
  later x (inl lt) = inl lt
  later x (inr same) = let lt = same.1 in inr (same.0, omega (arith, lt))

  -- the list of conditions that is put last, or was there
  own_more : (lists : List (List Condition)) → ((q : ℕ) → 1 ≤ q → q ≤ i → (k : ℕ) × (slice_get lists k ≡ Some (take q rule.conditions))) → (k : ℕ) → slice_get lists k ≡ Some own
      → (q : ℕ) → 1 ≤ q → q ≤ i + 1 → (j : ℕ) × (slice_get lists j ≡ Some (take q rule.conditions))
  own_more lists earlier k e q some le = by (below_or_last q (i + 1) (omega (arith, le)))
    where
      by : (q < i + 1) ⊎ (q ≡ i + 1) → (j : ℕ) × (slice_get lists j ≡ Some (take q rule.conditions))
      by (inl lt) = earlier q some (omega (arith, lt))
      by (inr is) = (k, e ∙ ap (λ n. Some (take n rule.conditions)) (sym is))

  module _ (owners : List Owner) (was : AreOwnedSoFar p all owners place rule.conditions i) where
    was_there : (k : ℕ) → slice_get all k ≡ Some own → AreOwnedSoFar p all owners place rule.conditions (i + 1)
    was_there k e = record {
      count = was.count;
      each = was.each;
      rising = was.rising;
      below = λ x j. later x (was.below x j);
      earlier = was.earlier;
      own = own_more all was.own k e;
    }

    abbrev with_own : List (List Condition)
    with_own = all ++ own ∷ []

    each_with : ((k : ℕ) → slice_get all k ≡ Some own → ⊥) → (k : ℕ) (cs : List Condition) (o : Owner) → slice_get with_own k ≡ Some cs → slice_get (owners ++ owner ∷ []) k ≡ Some o → IsOwned p cs o
    each_with new k cs o e f =
        each_more all own (λ j ds. (x : Owner) → slice_get (owners ++ owner ∷ []) j ≡ Some x → IsOwned p ds x)
        (λ j ds at_j x there. each_more owners owner (λ h y. h ≡ j → IsOwned p ds y)
        (λ h y found same. was.each j ds y at_j (ap (slice_get owners) (sym same) ∙ found))
        (λ same. let within : j < length all = slice_get_within all j ds at_j in let count = was.count in absurd (omega arith)) j x there refl)
        (λ x there. each_more owners owner (λ h y. h ≡ length all → IsOwned p own y)
        (λ h y found same. let within : h < length owners = slice_get_within owners h y found in let count = was.count in absurd (omega arith))
        (λ same. owned_new owners was new) (length all) x there refl)
        k cs e o f

    is_put : ((k : ℕ) → slice_get all k ≡ Some own → ⊥) → AreOwnedSoFar p with_own (owners ++ owner ∷ []) place rule.conditions (i + 1)
    is_put new = record {
      count = let same = was.count in simp length-append (omega arith);
      each = each_with new;
      rising = sorted_push owner_cmp owners owner was.rising (greater owners was);
      below = λ x j. elim (In-append x owners (owner ∷ []) j) [
        | inl there ↦ later x (was.below x there)
        | inr last ↦ elim last [
          | inl is ↦ inr (ap (λ (y : Owner). y.rule.0) is ∙ of_rule, (let same : x.condition ≡ owner.condition = ap (λ (y : Owner). y.condition) is in omega (arith, same, at)))
          | inr never ↦ absurd never
        ]
      ];
      earlier = λ k other less there q some le. (let r = was.earlier k other less there q some le in (r.0, get-append_left all (own ∷ []) r.0 (take q other.conditions) r.1));
      own = own_more with_own (λ q some le. (let r = was.own q some le in (r.0, get-append_left all (own ∷ []) r.0 (take q rule.conditions) r.1))) (length all) (get-last all own);
    }

    pub owned_put : (more : List (List Condition)) (new : List Owner) (k : ℕ) → slice_get (all ++ more) k ≡ Some own → PutsOwner all more own owner owners new
        → AreOwnedSoFar p (all ++ more) new place rule.conditions (i + 1)
    owned_put more new k e (inl same) =
        subst (λ (os : List Owner). AreOwnedSoFar p (all ++ more) os place rule.conditions (i + 1)) (sym same.1)
        (subst (λ (lists : List (List Condition)). AreOwnedSoFar p lists owners place rule.conditions (i + 1)) (sym (append-nil all) ∙ ap (λ (m : List (List Condition)). all ++ m) (sym same.0))
        (was_there k (ap (λ (lists : List (List Condition)). slice_get lists k) (sym (append-nil all) ∙ ap (λ (m : List (List Condition)). all ++ m) (sym same.0)) ∙ e)))
    owned_put more new k e (inr put) =
        subst (λ (os : List Owner). AreOwnedSoFar p (all ++ more) os place rule.conditions (i + 1)) (sym put.1)
        (subst (λ (m : List (List Condition)). AreOwnedSoFar p (all ++ m) (owners ++ owner ∷ []) place rule.conditions (i + 1)) (sym put.0) (is_put put.2))

-- ---- one rule more

pub rule_owned : (p : Program) (all : List (List Condition)) (owners : List Owner) (place : ℕ) (rule : Rule) → slice_get p.rules place ≡ Some rule
    → AreOwnedSoFar p all owners place rule.conditions (length rule.conditions) → AreOwnedSoFar p all owners (place + 1) [] 0
rule_owned p all owners place rule stands was = record {
  count = was.count;
  each = was.each;
  rising = was.rising;
  below = λ x j. inl (elim (was.below x j) [ inl lt ↦ omega (arith, lt) | inr same ↦ (let is = same.0 in omega (arith, is)) ]);
  earlier = λ k other less there q some le. by k other there q some le (below_or_last k place less);
  own = λ q some le. absurd (omega (arith, some, le));
}
  where
    by : (k : ℕ) (other : Rule) → slice_get p.rules k ≡ Some other → (q : ℕ) → 1 ≤ q → q ≤ length other.conditions → (k < place) ⊎ (k ≡ place) → (j : ℕ) × (slice_get all j ≡ Some (take q other.conditions))
    by k other there q some le (inl lt) = was.earlier k other lt there q some le
    by k other there q some le (inr is) =
        let same : rule ≡ other = (let both : Some rule ≡ Some other = sym stands ∙ ap (slice_get p.rules) (sym is) ∙ there in cc) in
        let r = was.own q some (subst (λ (s : Rule). q ≤ length s.conditions) (sym same) le) in
        (r.0, r.1 ∙ ap (λ (s : Rule). Some (take q s.conditions)) same)

-- a rule of which nothing is put yet
pub begins_rule : (p : Program) (all : List (List Condition)) (owners : List Owner) (place : ℕ) (conditions : List Condition) → AreOwnedSoFar p all owners place [] 0 → AreOwnedSoFar p all owners place conditions 0
begins_rule p all owners place conditions was = record {
  count = was.count;
  each = was.each;
  rising = was.rising;
  below = was.below;
  earlier = was.earlier;
  own = λ q some le. absurd (omega (arith, some, le));
}

-- nothing is put yet
pub none_owned : (p : Program) → AreOwnedSoFar p [] [] 0 [] 0
unfolding IsStrictlySortedBy
none_owned p = record {
  count = refl;
  each = λ k cs o e f. absurd (let none : None ≡ Some cs = e in cc);
  rising = nothing_sorted;
  below = λ x j. absurd j;
  earlier = λ k other less there q some le. absurd (omega (arith, less));
  own = λ q some le. absurd (omega (arith, some, le));
}
  where
    nothing_sorted : IsStrictlySortedBy owner_cmp []
    nothing_sorted = tt

-- nodes in the places of others have their owners
pub owned_again : (p : Program) (conditions : ℕ → List Condition) (many many_now : ℕ) (owners owners_now : Vec Owner) → many_now ≡ many → owners_now ≡ owners → AreNodeOwners p conditions many owners.items
    → AreNodeOwners p conditions many_now owners_now.items
owned_again p conditions many many_now owners owners_now same same_owners owned =
    subst (λ n. AreNodeOwners p conditions n owners_now.items) (sym same) (subst (λ (os : Vec Owner). AreNodeOwners p conditions many os.items) (sym same_owners) owned)
