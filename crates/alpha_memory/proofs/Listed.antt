-- The list of the numbered candidates, in the order of their numbers.
use Rattle.alpha_memory.proofs.Common.{◌≡◌, ◌∙◌, sym, ap, refl, subst, ℕ, ◌<◌, List, [], ◌∷◌, ◌++◌, filter, Bool, true, false, not, ◌||◌, cond, Option, Some}
use Rattle.alpha_memory.proofs.Common.{None, arith, Ordering, nat_cmp, eq_by_cmp, nat_cmp_total, is_at, find, get-remove, nat_cmp-IsAntisymmetric, list_any}
use Rattle.alpha_memory.proofs.Common.{AllByRecursion, keys_of, values_of, lookup, Named, Candidate, names_of, T, is_lt, is_eq, entries_sorted, get-entries}
use Rattle.{alpha_memory.proofs.Common.{entries-insert}, std.proofs.{Math.Bool.{or-true}, Common.{map as list_map}}}
use Rattle.std.specs.declared.cmp.Ordering.TheVariants.{Less, Equal, Greater}
use Rattle.std.specs.FinMap as map
use Rattle.std.specs.FinMap.Entries.{by_order, put, where_key, below_all, is_sorted, is_sorted-where_key, find-where_key, same_entries}
use Rattle.{std.{specs.List.Sorted.{IsStrictlySortedBy}, proofs.lemmas.Bool.Decides.{nat_tests}}, fx_base.proofs.Orders.{eq_by_nat_cmp-flip}}
use Rattle.fx_base.proofs.{Orders.{eq_by_nat_cmp-self, eq_by_nat_cmp-true}, Tests.{T_both, T_first, T_second, both_ways_absurd, cond_not}}

-- what is below is not equal
apart : (o : Ordering) → T (is_lt o) → is_eq o ≡ false
apart Less p = refl
apart Equal p = absurd p
apart Greater p = refl

-- what is below all is not found among them
missing : {X : Type 0} (n : ℕ) (es : List (ℕ × X)) → T (below_all nat_cmp n es) → find nat_cmp n es ≡ None
missing n [] h = refl
missing n (e ∷ es) h = ap (λ b. cond b (Some e.1) (find nat_cmp n es)) (apart (nat_cmp n e.0) (T_first _ _ h)) ∙ missing n es (T_second _ _ h)

-- ---- what holds of each entry

-- what is found behind the first entry is found
behind : {X : Type 0} (e : ℕ × X) (es : List (ℕ × X)) → T (below_all nat_cmp e.0 es) → (n : ℕ) (x : X) → find nat_cmp n es ≡ Some x → find nat_cmp n (e ∷ es) ≡ Some x
behind e es h n x f = by (eq_by_cmp nat_cmp n e.0) refl
  where
    by : (b : Bool) → eq_by_cmp nat_cmp n e.0 ≡ b → cond b (Some e.1) (find nat_cmp n es) ≡ Some x
    by true t = absurd (let g : None ≡ Some x = sym (missing e.0 es h) ∙ ap (λ k. find nat_cmp k es) (sym (eq_by_nat_cmp-true n e.0 t)) ∙ f in cc)
    by false t = f

each_entry : {X : Type 0} (P : ℕ → X → Type 0) (es : List (ℕ × X)) → T (is_sorted nat_cmp es) → ((n : ℕ) (x : X) → find nat_cmp n es ≡ Some x → P n x) → AllByRecursion (λ e. P e.0 e.1) es
each_entry P [] s h = tt
each_entry P (e ∷ es) s h = (
  h e.0 e.1 (ap (λ b. cond b (Some e.1) (find nat_cmp e.0 es)) (eq_by_nat_cmp-self e.0)),
  each_entry P es (T_second _ _ s) (λ n x f. h n x (behind e es (T_first _ _ s) n x f)),
)

-- what holds of what is found under each number holds of each entry
pub each : (m : map.FinMap nat_cmp Candidate) (P : ℕ → Candidate → Type 0) → ((n : ℕ) (c : Candidate) → map.get m n ≡ Some c → P n c) → AllByRecursion (λ e. P e.0 e.1) (map.entries m)
each m P h = each_entry P (map.entries m) (entries_sorted m) (λ n c f. h n c (get-entries m n ∙ f))

-- ---- one candidate more

-- a number above all goes to the end
-- a greater number is greater in the order
greater : (a b : ℕ) → b < a → nat_cmp a b ≡ Greater
greater a b h = grind (arith, nat_tests)

last_put : (n : ℕ) (c : Candidate) (es : List (ℕ × Candidate)) → AllByRecursion (λ e. e.0 < n) es → put nat_cmp n c es ≡ es ++ (n, c) ∷ []
last_put n c [] h = refl
last_put n c (e ∷ es) h =
    let above : nat_cmp n e.0 ≡ Greater = greater n e.0 h.0 in
    ap (λ o. by_order o ((n, c) ∷ e ∷ es) ((e.0, c) ∷ es) (e ∷ put nat_cmp n c es)) above ∙ ap (λ xs. e ∷ xs) (last_put n c es h.1)

-- the candidates of a list with one entry more
values-push : (es : List (ℕ × Candidate)) (n : ℕ) (c : Candidate) → list_map (λ e. e.1) (es ++ (n, c) ∷ []) ≡ list_map (λ e. e.1) es ++ c ∷ []
values-push [] n c = refl
values-push (e ∷ es) n c = ap (λ xs. e.1 ∷ xs) (values-push es n c)

pub values-insert : (m : map.FinMap nat_cmp Candidate) (n : ℕ) (c : Candidate) → ((k : ℕ) (d : Candidate) → map.get m k ≡ Some d → k < n) → map.values (map.insert m n c) ≡ map.values m ++ c ∷ []
values-insert m n c h =
    ap (list_map (λ (e : ℕ × Candidate). e.1)) (entries-insert nat_cmp_total m n c ∙ last_put n c (map.entries m) (each m (λ k d. k < n) h)) ∙ values-push (map.entries m) n c

-- ---- one candidate fewer

entries-remove : (m : map.FinMap nat_cmp Candidate) (n : ℕ) → map.entries (map.remove m n) ≡ where_key nat_cmp (λ k. not (eq_by_cmp nat_cmp n k)) (map.entries m)
entries-remove m n =
    let p : ℕ → Bool = λ k. not (eq_by_cmp nat_cmp n k) in
    same_entries nat_cmp nat_cmp_total nat_cmp-IsAntisymmetric (map.entries (map.remove m n)) (where_key nat_cmp p (map.entries m))
    (entries_sorted (map.remove m n)) (is_sorted-where_key nat_cmp p (map.entries m) (entries_sorted m))
    (λ q.
    sym (get-entries (map.remove m n) q) ∙ get-remove nat_cmp_total m n q
    ∙ cond_not (eq_by_cmp nat_cmp q n) None (map.get m q)
    ∙ ap (λ b. cond (not b) (map.get m q) None) (eq_by_nat_cmp-flip q n)
    ∙ ap (λ o. cond (p q) o None) (get-entries m q)
    ∙ sym (find-where_key nat_cmp p q (λ x e. ap p (sym (nat_cmp-IsAntisymmetric q x e))) (map.entries m)))

-- where a test of the candidates is one of their numbers
values_where : (p : ℕ → Bool) (q : Candidate → Bool) (es : List (ℕ × Candidate)) → AllByRecursion (λ e. q e.1 ≡ p e.0) es
    → list_map (λ e. e.1) (where_key nat_cmp (λ k. not (p k)) es) ≡ filter (λ c. not (q c)) (list_map (λ e. e.1) es)
values_where p q [] h = refl
values_where p q (e ∷ es) h = by (p e.0) h.0 (values_where p q es h.1)
  where
    rest : List (ℕ × Candidate)
    rest = where_key nat_cmp (λ k. not (p k)) es

    by : (b : Bool) → q e.1 ≡ b → list_map (λ (e : ℕ × Candidate). e.1) (where_key nat_cmp (λ k. not (p k)) es) ≡ filter (λ c. not (q c)) (list_map (λ (e : ℕ × Candidate). e.1) es)
        → list_map (λ (e : ℕ × Candidate). e.1) (cond (not b) (e ∷ where_key nat_cmp (λ k. not (p k)) es) (where_key nat_cmp (λ k. not (p k)) es))
        ≡ cond (not (q e.1)) (e.1 ∷ filter (λ c. not (q c)) (list_map (λ (e : ℕ × Candidate). e.1) es)) (filter (λ c. not (q c)) (list_map (λ (e : ℕ × Candidate). e.1) es))
    by true t same = same ∙ ap (λ b. cond (not b) (e.1 ∷ filter (λ c. not (q c)) (list_map (λ (e : ℕ × Candidate). e.1) es)) (filter (λ c. not (q c)) (list_map (λ (e : ℕ × Candidate). e.1) es))) (sym t)
    by false t same = ap (λ xs. e.1 ∷ xs) same ∙ ap (λ b. cond (not b) (e.1 ∷ filter (λ c. not (q c)) (list_map (λ (e : ℕ × Candidate). e.1) es)) (filter (λ c. not (q c)) (list_map (λ (e : ℕ × Candidate). e.1) es))) (sym t)

pub values-remove : (m : map.FinMap nat_cmp Candidate) (n : ℕ) (q : Candidate → Bool) → ((k : ℕ) (c : Candidate) → map.get m k ≡ Some c → q c ≡ eq_by_cmp nat_cmp n k)
    → map.values (map.remove m n) ≡ filter (λ c. not (q c)) (map.values m)
values-remove m n q h =
    ap (list_map (λ (e : ℕ × Candidate). e.1)) (entries-remove m n) ∙ values_where (eq_by_cmp nat_cmp n) q (map.entries m) (each m (λ k c. q c ≡ eq_by_cmp nat_cmp n k) h)

-- ---- tests of the list

-- a test that no candidate passes
none_passes : (q : Candidate → Bool) (es : List (ℕ × Candidate)) → AllByRecursion (λ e. q e.1 ≡ false) es → list_any q (list_map (λ e. e.1) es) ≡ false
none_passes q [] h = refl
none_passes q (e ∷ es) h = ap (λ b. b || list_any q (list_map (λ e. e.1) es)) h.0 ∙ none_passes q es h.1

pub none_of : (m : map.FinMap nat_cmp Candidate) (q : Candidate → Bool) → ((k : ℕ) (c : Candidate) → map.get m k ≡ Some c → q c ≡ false) → list_any q (map.values m) ≡ false
none_of m q h = none_passes q (map.entries m) (each m (λ k c. q c ≡ false) h)

one_passes : (q : Candidate → Bool) (es : List (ℕ × Candidate)) (n : ℕ) (c : Candidate) → find nat_cmp n es ≡ Some c → q c ≡ true → list_any q (list_map (λ e. e.1) es) ≡ true
one_passes q [] n c f h = absurd (let g : None ≡ Some c = f in cc)
one_passes q (e ∷ es) n c f h = by (eq_by_cmp nat_cmp n e.0) f (λ g. one_passes q es n c g h)
  where
    by : (b : Bool) → cond b (Some e.1) (find nat_cmp n es) ≡ Some c → (find nat_cmp n es ≡ Some c → list_any q (list_map (λ e. e.1) es) ≡ true) → (q e.1 || list_any q (list_map (λ e. e.1) es)) ≡ true
    by true g rest = let same : e.1 ≡ c = cc in ap (λ d. q d || list_any q (list_map (λ e. e.1) es)) same ∙ ap (λ b. b || list_any q (list_map (λ e. e.1) es)) h
    by false g rest = ap (λ b. q e.1 || b) (rest g) ∙ or-true (q e.1)

pub one_of : (m : map.FinMap nat_cmp Candidate) (q : Candidate → Bool) (n : ℕ) (c : Candidate) → map.get m n ≡ Some c → q c ≡ true → list_any q (map.values m) ≡ true
one_of m q n c f h = one_passes q (map.entries m) n c (sym (get-entries m n) ∙ f) h

-- where no candidate passes, all stay
pub all_stay : (q : Candidate → Bool) (xs : List Candidate) → list_any q xs ≡ false → filter (λ c. not (q c)) xs ≡ xs
all_stay q [] h = refl
all_stay q (x ∷ xs) h = by (q x) refl h (all_stay q xs)
  where
    by : (b : Bool) → q x ≡ b → (b || list_any q xs) ≡ false → (list_any q xs ≡ false → filter (λ c. not (q c)) xs ≡ xs) → cond (not b) (x ∷ filter (λ c. not (q c)) xs) (filter (λ c. not (q c)) xs) ≡ x ∷ xs
    by true t g rest = both_ways_absurd true refl g
    by false t g rest = ap (λ ys. x ∷ ys) (rest g)

-- all pass the test that is always true
pub all_pass : (xs : List Candidate) → filter (λ c. true) xs ≡ xs
all_pass [] = refl
all_pass (x ∷ xs) = ap (λ ys. x ∷ ys) (all_pass xs)

-- ---- the candidates that pass a test, in order

-- the name of a candidate that passes
abbrev pub chosen : (Candidate → Bool) → Option Candidate → Option Named
chosen q None = None
chosen q (Some c) = cond (q c) (Some c.0) None

-- the entries that pass
picked : (Candidate → Bool) → List (ℕ × Candidate) → List (ℕ × Named)
picked q [] = []
picked q (e ∷ es) = cond (q e.1) ((e.0, e.1.0) ∷ picked q es) (picked q es)

below-picked : (q : Candidate → Bool) (n : ℕ) (es : List (ℕ × Candidate)) → T (below_all nat_cmp n es) → T (below_all nat_cmp n (picked q es))
unfolding picked
below-picked q n [] h = tt
below-picked q n (e ∷ es) h =
    let rest = below-picked q n es (T_second _ _ h) in
    elim (q e.1) as (λ b. T (below_all nat_cmp n (cond b ((e.0, e.1.0) ∷ picked q es) (picked q es)))) [
      | true ↦ T_both _ _ (T_first _ _ h) rest
      | false ↦ rest
    ]

sorted-picked : (q : Candidate → Bool) (es : List (ℕ × Candidate)) → T (is_sorted nat_cmp es) → T (is_sorted nat_cmp (picked q es))
unfolding picked
sorted-picked q [] h = tt
sorted-picked q (e ∷ es) h =
    let rest = sorted-picked q es (T_second _ _ h) in
    elim (q e.1) as (λ b. T (is_sorted nat_cmp (cond b ((e.0, e.1.0) ∷ picked q es) (picked q es)))) [
      | true ↦ T_both _ _ (below-picked q e.0 es (T_first _ _ h)) rest
      | false ↦ rest
    ]

find-picked : (q : Candidate → Bool) (n : ℕ) (es : List (ℕ × Candidate)) → T (is_sorted nat_cmp es) → find nat_cmp n (picked q es) ≡ chosen q (find nat_cmp n es)
unfolding picked
find-picked q n [] s = refl
find-picked q n (e ∷ es) s = by (q e.1) refl (eq_by_cmp nat_cmp n e.0) refl (find-picked q n es (T_second _ _ s))
  where
    by : (a : Bool) → q e.1 ≡ a → (b : Bool) → eq_by_cmp nat_cmp n e.0 ≡ b → find nat_cmp n (picked q es) ≡ chosen q (find nat_cmp n es)
        → find nat_cmp n (cond a ((e.0, e.1.0) ∷ picked q es) (picked q es)) ≡ chosen q (cond b (Some e.1) (find nat_cmp n es))
    by true p true t rest = ap (λ b. cond b (Some e.1.0) (find nat_cmp n (picked q es))) t ∙ ap (λ b. cond b (Some e.1.0) None) (sym p)
    by true p false t rest = ap (λ b. cond b (Some e.1.0) (find nat_cmp n (picked q es))) t ∙ rest
    by false p true t rest =
        rest ∙ ap (λ k. chosen q (find nat_cmp k es)) (eq_by_nat_cmp-true n e.0 t) ∙ ap (chosen q) (missing e.0 es (T_first _ _ s)) ∙ ap (λ b. cond b (Some e.1.0) None) (sym p)
    by false p false t rest = rest

values-picked : (q : Candidate → Bool) (es : List (ℕ × Candidate)) → values_of (picked q es) ≡ names_of (filter q (list_map (λ e. e.1) es))
unfolding picked
values-picked q [] = refl
values-picked q (e ∷ es) =
    let rest = values-picked q es in
    elim (q e.1) as (λ b. values_of (cond b ((e.0, e.1.0) ∷ picked q es) (picked q es)) ≡ names_of (cond b (e.1 ∷ filter q (list_map (λ e. e.1) es)) (filter q (list_map (λ e. e.1) es)))) [
      | true ↦ ap (λ xs. e.1.0 ∷ xs) rest
      | false ↦ rest
    ]

-- entries whose keys rise are in order
front : (n : ℕ) (es : List (ℕ × Named)) → AllByRecursion (λ k. nat_cmp n k ≡ Less) (keys_of es) → T (below_all nat_cmp n es)
front n [] less = tt
front n (e ∷ es) less = T_both _ _ (subst (λ o. T (is_lt o)) (sym less.0) tt) (front n es less.1)

in_order : (es : List (ℕ × Named)) → IsStrictlySortedBy nat_cmp (keys_of es) → T (is_sorted nat_cmp es)
unfolding IsStrictlySortedBy
in_order [] sorted = tt
in_order (e ∷ es) sorted = T_both _ _ (front e.0 es sorted.0) (in_order es sorted.1)

find-lookup : (es : List (ℕ × Named)) (n : ℕ) → find nat_cmp n es ≡ lookup (is_at (nat_cmp n)) es
find-lookup [] n = refl
find-lookup (e ∷ es) n = ap (cond (eq_by_cmp nat_cmp n e.0) (Some e.1)) (find-lookup es n)

-- a list in order that has the candidates that pass, by their numbers, has their names in the order of the list
pub names_in_order : (m : map.FinMap nat_cmp Candidate) (q : Candidate → Bool) (es : List (ℕ × Named)) → IsStrictlySortedBy nat_cmp (keys_of es)
    → ((n : ℕ) → lookup (is_at (nat_cmp n)) es ≡ chosen q (map.get m n)) → values_of es ≡ names_of (filter q (map.values m))
names_in_order m q es sorted has =
    ap values_of (same_entries nat_cmp nat_cmp_total nat_cmp-IsAntisymmetric es (picked q (map.entries m)) (in_order es sorted) (sorted-picked q (map.entries m) (entries_sorted m))
    (λ n. find-lookup es n ∙ has n ∙ ap (chosen q) (get-entries m n) ∙ sym (find-picked q n (map.entries m) (entries_sorted m))))
    ∙ values-picked q (map.entries m)

-- where no number has a candidate that passes, none passes
pub no_names : (m : map.FinMap nat_cmp Candidate) (q : Candidate → Bool) → ((n : ℕ) → None ≡ chosen q (map.get m n)) → [] ≡ names_of (filter q (map.values m))
unfolding IsStrictlySortedBy
no_names m q has = names_in_order m q [] tt has
