-- Entries of a list that rises: what is found in them as they come behind the last and go.
use Rattle.due_queue.proofs.Common.{◌≡◌, ◌∙◌, sym, ap, refl, subst, ℕ, List, [], ◌∷◌, Bool, true, false, cond, not, ◌&&◌, Option, Some, None, arith, ◌<◌}
use Rattle.due_queue.proofs.Common.{length, Ordering, Less, Equal, Greater, is_eq, is_gt, is_at, eq_by_cmp_equiv, IsTotalOrder, AllByRecursion, upto}
use Rattle.due_queue.proofs.Common.{tied_itself, found, pair_cmp, is_moment, is_due, Bound, is_past_end, ordering_then, ordering_reverse, is_eq-true}
use Rattle.due_queue.{proofs.Common.{alike_right, filter, inl, inr}, specs.{declared.rising.Entry.{Entry}, Rising.{with_value, live, one_of, value_at}}}
use Rattle.due_queue.{specs.Rising.{emptied, is_front_live, IsBehind, Rises, Stands, AreApart}, proofs.Orders.{found_same, gt_first, less_then, past_later}}
use Rattle.std.specs.{Prelude.{zero, suc, ◌++◌, ◌≤◌, is_some, slice_index_or, slice_set, drop}, Ordering.{ordering_index}, List.Sorted.{IsNonDecreasingBy}}
use Rattle.std.{specs.List.{HoldsAt, Sorted.{IsPartitionPoint}}, proofs.lemmas.Bool.{cases_lt}}

-- kernels: choices that exclude each other may change places
swapped : {X : Type 0} (a b : Bool) (x y z : X) → (b ≡ true → a ≡ false) → cond a x (cond b y z) ≡ cond b y (cond a x z)
swapped true true x y z apart = let f : true ≡ false = apart refl in cc
swapped true false x y z apart = refl
swapped false true x y z apart = refl
swapped false false x y z apart = refl

-- a test that fails passes over
passed_over : {X : Type 0} (a b : Bool) (x y : X) → b ≡ false → cond (a && b) x y ≡ y
passed_over true b x y e = ap (λ b. cond b x y) e
passed_over false b x y e = refl

fails_both : (a b : Bool) → b ≡ false → (a && b) ≡ false
fails_both true b e = e
fails_both false b e = refl

-- a choice that is the same either way
same_both : {X : Type 0} (b : Bool) (x y : X) → (b ≡ true → x ≡ y) → cond b x y ≡ y
same_both true x y e = e refl
same_both false x y e = refl

all_pushed : {X : Type 0} (P : X → Type 0) (xs : List X) (y : X) → AllByRecursion P xs → P y → AllByRecursion P (xs ++ y ∷ [])
all_pushed P [] y all p = (p, tt)
all_pushed P (x ∷ xs) y all p = (all.0, all_pushed P xs y all.1 p)

all_at : {X : Type 0} (P : X → Type 0) (xs : List X) (i : ℕ) (d : X) → AllByRecursion P xs → i < length xs → P (slice_index_or xs i d)
all_at P [] i d all within = absurd (omega arith)
all_at P (x ∷ xs) zero d all within = all.0
all_at P (x ∷ xs) (suc i) d all within = all_at P xs i d all.1 (omega arith)

all_kept : {X : Type 0} (P : X → Type 0) (test : X → Bool) (xs : List X) → AllByRecursion P xs → AllByRecursion P (filter test xs)
all_kept P test [] all = tt
all_kept P test (x ∷ xs) all = elim (test x) as (λ b. AllByRecursion P (cond b (x ∷ filter test xs) (filter test xs))) [
  | true ↦ (all.0, all_kept P test xs all.1)
  | false ↦ all_kept P test xs all.1
]

greater : (o p : Ordering) → o ≡ ordering_reverse p → p ≡ Less → is_eq o ≡ false
greater o p e less = ap is_eq (e ∙ ap ordering_reverse less)

pub flip : {K : Type 0} {keys : K → K → Ordering} (kt : IsTotalOrder keys) (a b : K) → is_eq (keys a b) ≡ is_eq (keys b a)
flip kt a b = (eq_by_cmp_equiv kt).symm a b

-- keys that rise compare with one key in rising order
index_rises : {K : Type 0} {keys : K → K → Ordering} (kt : IsTotalOrder keys) (a b key : K) → keys a b ≡ Less → ordering_index (keys a key) ≤ ordering_index (keys b key)
index_rises {keys = keys} kt a b key less = by (keys b key) refl
  where
    most : (o : Ordering) → ordering_index o ≤ 2
    most Less = omega arith
    most Equal = omega arith
    most Greater = omega arith

    at_least : (o : Ordering) (n : ℕ) → o ≡ Less → ordering_index o ≤ n
    at_least o n e = subst (λ o. ordering_index o ≤ n) (sym e) (omega arith)

    by : (o : Ordering) → keys b key ≡ o → ordering_index (keys a key) ≤ ordering_index o
    by Less e = at_least (keys a key) _ (kt.trans a b key less e)
    by Equal e = at_least (keys a key) _ (sym (alike_right kt b key a e) ∙ less)
    by Greater e = most (keys a key)

module _ {M K V : Type 0} where
  -- an entry without a value is as none
  pub live_gone : (w : Entry M K V) (ws : List (Entry M K V)) → is_some w.value ≡ false → live (w ∷ ws) ≡ live ws
  live_gone w ws e = by w.value e
    where
      by : (o : Option V) → is_some o ≡ false → with_value w.key w.at o (live ws) ≡ live ws
      by None e = refl
      by (Some v) e = let f : true ≡ false = e in cc

  -- and those that have one are all that wait
  pub live_kept : (entries : List (Entry M K V)) → live (filter (λ (w : Entry M K V). is_some w.value) entries) ≡ live entries
  live_kept [] = refl
  live_kept (w ∷ ws) = elim (is_some w.value) as (λ b. is_some w.value ≡ b → live (cond b (w ∷ filter (λ (w : Entry M K V). is_some w.value) ws) (filter (λ (w : Entry M K V). is_some w.value) ws)) ≡ live (w ∷ ws)) [
    | true ↦ λ e. ap (with_value w.key w.at w.value) (live_kept ws)
    | false ↦ λ e. live_kept ws ∙ sym (live_gone w ws e)
  ] refl

  pub front_kept : (entries : List (Entry M K V)) → is_front_live (filter (λ (w : Entry M K V). is_some w.value) entries) ≡ true
  front_kept [] = refl
  front_kept (w ∷ ws) = elim (is_some w.value) as (λ b. is_some w.value ≡ b → is_front_live (cond b (w ∷ filter (λ (w : Entry M K V). is_some w.value) ws) (filter (λ (w : Entry M K V). is_some w.value) ws)) ≡ true) [
    | true ↦ λ e. e
    | false ↦ λ e. front_kept ws
  ] refl

  pub front_pushed : (entries : List (Entry M K V)) (last : Entry M K V) → is_front_live entries ≡ true → is_some last.value ≡ true → is_front_live (entries ++ last ∷ []) ≡ true
  front_pushed [] last front some = some
  front_pushed (w ∷ ws) last front some = front

module _ {M K V : Type 0} (keys : K → K → Ordering) where
  -- what is found behind an entry
  pub found_behind : (key : K) (at : M) (value : Option V) (rest : List (K × (M × V))) (k : K) → found keys (with_value key at value rest) k ≡ cond (is_some value && is_eq (keys k key)) (one_of at value) (found keys rest k)
  found_behind key at None rest k = refl
  found_behind key at (Some v) rest k = refl

module _ {M K V : Type 0} (moments : M → M → Ordering) (keys : K → K → Ordering) where
  pub rises_kept : (test : Entry M K V → Bool) (entries : List (Entry M K V)) → Rises moments keys entries → Rises moments keys (filter test entries)
  unfolding Rises
  rises_kept test [] rises = tt
  rises_kept test (w ∷ ws) rises = elim (test w) as (λ b. Rises moments keys (cond b (w ∷ filter test ws) (filter test ws))) [
    | true ↦ (all_kept _ test ws rises.0, rises_kept test ws rises.1)
    | false ↦ rises_kept test ws rises.1
  ]

  -- what the first leaves rises
  pub rises_rest : (entries : List (Entry M K V)) → Rises moments keys entries → Rises moments keys (drop 1 entries)
  unfolding Rises
  rises_rest [] rises = tt
  rises_rest (w ∷ ws) rises = rises.1

  all_emptied : (w : Entry M K V) (ws : List (Entry M K V)) (i : ℕ) → AllByRecursion (λ (after : Entry M K V). IsBehind moments keys after.at after.key w) ws → AllByRecursion (λ (after : Entry M K V). IsBehind moments keys after.at after.key w) (emptied ws i)
  all_emptied w [] i all = tt
  all_emptied w (v ∷ vs) zero all = (all.0, all.1)
  all_emptied w (v ∷ vs) (suc i) all = (all.0, all_emptied w vs i all.1)

  pub rises_emptied : (entries : List (Entry M K V)) (i : ℕ) → Rises moments keys entries → Rises moments keys (emptied entries i)
  unfolding Rises
  rises_emptied [] i rises = tt
  rises_emptied (w ∷ ws) zero rises = (rises.0, rises.1)
  rises_emptied (w ∷ ws) (suc i) rises = (all_emptied w ws i rises.0, rises_emptied ws i rises.1)

  pub rises_pushed : (entries : List (Entry M K V)) (last : Entry M K V) → Rises moments keys entries → AllByRecursion (IsBehind moments keys last.at last.key) entries → Rises moments keys (entries ++ last ∷ [])
  unfolding Rises
  rises_pushed [] last rises all = (tt, tt)
  rises_pushed (w ∷ ws) last rises all = (all_pushed _ ws last rises.0 all.0, rises_pushed ws last rises.1 all.1)

module _ {M K V : Type 0} {moments : M → M → Ordering} {keys : K → K → Ordering} (mt : IsTotalOrder moments) (kt : IsTotalOrder keys) where
  step : (at : M) (key : K) (w v : Entry M K V) → IsBehind moments keys v.at v.key w → IsBehind moments keys at key v → IsBehind moments keys at key w
  step at key w v low high = (kt.trans w.key v.key key low.0 high.0, upto mt w.at v.at at low.1 high.1)

  -- where the last entry is below a key, all are
  pub all_behind : (at : M) (key : K) (entries : List (Entry M K V)) (i : ℕ) (x : Entry M K V) → suc i ≡ length entries → Rises moments keys entries → x ≡ slice_index_or entries i x
      → IsBehind moments keys at key x → AllByRecursion (IsBehind moments keys at key) entries
  unfolding Rises
  all_behind at key [] i x len rises e b = tt
  all_behind at key (w ∷ []) zero x len rises e b = (subst (IsBehind moments keys at key) e b, tt)
  all_behind at key (w ∷ []) (suc i) x len rises e b = absurd (omega arith)
  all_behind at key (w ∷ v ∷ ws) zero x len rises e b = absurd (omega arith)
  all_behind at key (w ∷ v ∷ ws) (suc i) x len rises e b =
      let rest = all_behind at key (v ∷ ws) i x (omega arith) rises.1 e b in
      (step at key w v rises.0.0 rest.0, rest)

  -- what is below a key is not found at it
  pub none_below : (at : M) (key : K) (entries : List (Entry M K V)) → AllByRecursion (IsBehind moments keys at key) entries → found keys (live entries) key ≡ None
  none_below at key [] all = refl
  none_below at key (w ∷ ws) all =
      found_behind keys w.key w.at w.value (live ws) key ∙ ap (cond (is_some w.value && is_eq (keys key w.key)) (one_of w.at w.value)) (none_below at key ws all.1)
      ∙ passed_over (is_some w.value) (is_eq (keys key w.key)) (one_of w.at w.value) None (greater (keys key w.key) (keys w.key key) (kt.antisymm key w.key) all.0.0)

  -- nor is one above the last
  pub none_above : (key : K) (entries : List (Entry M K V)) (i : ℕ) (x : Entry M K V) → suc i ≡ length entries → Rises moments keys entries → x ≡ slice_index_or entries i x → keys x.key key ≡ Less → found keys (live entries) key ≡ None
  none_above key entries i x len rises e less =
      none_below x.at key entries (all_behind x.at key entries i x len rises e (less, ap is_gt (tied_itself mt x.at)))

  -- nor what is apart from it
  pub none_apart : (key : K) (entries : List (Entry M K V)) → ((i : ℕ) (d : Entry M K V) → i < length entries → is_eq (keys (slice_index_or entries i d).key key) ≡ false) → found keys (live entries) key ≡ None
  none_apart key [] apart = refl
  none_apart key (w ∷ ws) apart =
      found_behind keys w.key w.at w.value (live ws) key ∙ ap (cond (is_some w.value && is_eq (keys key w.key)) (one_of w.at w.value)) (none_apart key ws (λ i d within. apart (suc i) d (omega arith)))
      ∙ passed_over (is_some w.value) (is_eq (keys key w.key)) (one_of w.at w.value) None (flip kt key w.key ∙ apart zero w (omega arith))

  -- one more behind all others
  pub found_pushed : (entries : List (Entry M K V)) (at : M) (key : K) (value : V) → AllByRecursion (IsBehind moments keys at key) entries → (k : K)
      → found keys (live (entries ++ (record { at = at; key = key; value = Some value }) ∷ [])) k ≡ cond (is_at (keys key) k) (Some (at, value)) (found keys (live entries) k)
  found_pushed [] at key value all k = ap (λ b. cond b (Some (at, value)) None) (flip kt k key)
  found_pushed (w ∷ ws) at key value all k =
      found_behind keys w.key w.at w.value (live (ws ++ (record { at = at; key = key; value = Some value }) ∷ [])) k
      ∙ ap (cond (is_some w.value && is_eq (keys k w.key)) (one_of w.at w.value)) (found_pushed ws at key value all.1 k)
      ∙ swapped (is_some w.value && is_eq (keys k w.key)) (is_eq (keys key k)) (one_of w.at w.value) (Some (at, value)) (found keys (live ws) k)
      (λ e. fails_both (is_some w.value) (is_eq (keys k w.key)) (ap is_eq (sym (kt.congr key k w.key (is_eq-true (keys key k) e))) ∙ greater (keys key w.key) (keys w.key key) (kt.antisymm key w.key) all.0.0))
      ∙ ap (cond (is_eq (keys key k)) (Some (at, value))) (sym (found_behind keys w.key w.at w.value (live ws) k))

  -- behind an entry its key is not found
  pub none_after : (w : Entry M K V) (key : K) → keys w.key key ≡ Equal → (ws : List (Entry M K V)) → AllByRecursion (λ (after : Entry M K V). IsBehind moments keys after.at after.key w) ws → found keys (live ws) key ≡ None
  none_after w key e [] all = refl
  none_after w key e (v ∷ vs) all =
      found_behind keys v.key v.at v.value (live vs) key ∙ ap (cond (is_some v.value && is_eq (keys key v.key)) (one_of v.at v.value)) (none_after w key e vs all.1)
      ∙ passed_over (is_some v.value) (is_eq (keys key v.key)) (one_of v.at v.value) None (ap is_eq (sym (kt.congr w.key key v.key e) ∙ all.0.0))

  differs : (w : Entry M K V) (key k : K) → keys w.key key ≡ Less → keys key k ≡ Equal → is_eq (keys k w.key) ≡ false
  differs w key k less e = ap is_eq (sym (kt.congr key k w.key e)) ∙ greater (keys key w.key) (keys w.key key) (kt.antisymm key w.key) less

  less_at : (w : Entry M K V) (ws : List (Entry M K V)) (i : ℕ) (d : Entry M K V) (key : K) → AllByRecursion (λ (after : Entry M K V). IsBehind moments keys after.at after.key w) ws → i < length ws → keys (slice_index_or ws i d).key key ≡ Equal → keys w.key key ≡ Less
  less_at w ws i d key all within e = sym (alike_right kt (slice_index_or ws i d).key key w.key e) ∙ (all_at _ ws i d all within).0

  -- what waits at the place of a key is what is found
  pub value_found : (entries : List (Entry M K V)) (i : ℕ) (key : K) → Rises moments keys entries → i < length entries → HoldsAt (λ (w : Entry M K V). keys w.key key ≡ Equal) entries i → value_at entries i ≡ found keys (live entries) key
  unfolding Rises
  value_found [] i key rises within there = absurd (omega arith)
  value_found (w ∷ ws) zero key rises within there =
      here w.value ∙ ap (λ b. cond (is_some w.value && b) (one_of w.at w.value) None) (sym (flip kt key w.key ∙ ap is_eq (there w)))
      ∙ ap (cond (is_some w.value && is_eq (keys key w.key)) (one_of w.at w.value)) (sym (none_after w key (there w) ws rises.0)) ∙ sym (found_behind keys w.key w.at w.value (live ws) key)
    where
      here : (o : Option V) → one_of w.at o ≡ cond (is_some o && true) (one_of w.at o) None
      here None = refl
      here (Some v) = refl
  value_found (w ∷ ws) (suc i) key rises within there =
      value_found ws i key rises.1 (omega arith) there
      ∙ sym (found_behind keys w.key w.at w.value (live ws) key
      ∙ passed_over (is_some w.value) (is_eq (keys key w.key)) (one_of w.at w.value) (found keys (live ws) key) (differs w key key (less_at w ws i w key rises.0 (omega arith) (there w)) (tied_itself kt key)))

  -- a key that was taken out
  pub found_rest : (w : Entry M K V) (ws : List (Entry M K V)) (key : K) → keys w.key key ≡ Equal → AllByRecursion (λ (after : Entry M K V). IsBehind moments keys after.at after.key w) ws → (k : K)
      → found keys (live ws) k ≡ cond (is_at (keys key) k) None (found keys (live (w ∷ ws)) k)
  found_rest w ws key e all k =
      by (is_eq (keys key k)) refl ∙ ap (cond (is_eq (keys key k)) None) (sym (found_behind keys w.key w.at w.value (live ws) k))
    where
      own : is_eq (keys k w.key) ≡ is_eq (keys key k)
      own = flip kt k w.key ∙ ap is_eq (kt.congr w.key key k e)

      by : (b : Bool) → is_eq (keys key k) ≡ b → found keys (live ws) k ≡ cond b None (cond (is_some w.value && is_eq (keys k w.key)) (one_of w.at w.value) (found keys (live ws) k))
      by true f = none_after w k (kt.congr w.key key k e ∙ is_eq-true (keys key k) f) ws all
      by false f = sym (passed_over (is_some w.value) (is_eq (keys k w.key)) (one_of w.at w.value) (found keys (live ws) k) (own ∙ f))

  pub found_emptied : (entries : List (Entry M K V)) (i : ℕ) (key : K) → Rises moments keys entries → i < length entries → HoldsAt (λ (w : Entry M K V). keys w.key key ≡ Equal) entries i → (k : K)
      → found keys (live (emptied entries i)) k ≡ cond (is_at (keys key) k) None (found keys (live entries) k)
  unfolding Rises
  found_emptied [] i key rises within there k = absurd (omega arith)
  found_emptied (w ∷ ws) zero key rises within there k = found_rest w ws key (there w) rises.0 k
  found_emptied (w ∷ ws) (suc i) key rises within there k =
      found_behind keys w.key w.at w.value (live (emptied ws i)) k
      ∙ ap (cond (is_some w.value && is_eq (keys k w.key)) (one_of w.at w.value)) (found_emptied ws i key rises.1 (omega arith) there k)
      ∙ swapped (is_some w.value && is_eq (keys k w.key)) (is_eq (keys key k)) (one_of w.at w.value) None (found keys (live ws) k)
      (λ f. fails_both (is_some w.value) (is_eq (keys k w.key)) (differs w key k (less_at w ws i w key rises.0 (omega arith) (there w)) (is_eq-true (keys key k) f)))
      ∙ ap (cond (is_eq (keys key k)) None) (sym (found_behind keys w.key w.at w.value (live ws) k))

  -- where a key does not wait, taking it out changes nothing
  pub kept_none : (waiting : List (K × (M × V))) (key : K) → found keys waiting key ≡ None → (k : K) → found keys waiting k ≡ cond (is_at (keys key) k) None (found keys waiting k)
  kept_none waiting key none k = sym (same_both (is_eq (keys key k)) None (found keys waiting k) (λ e. sym none ∙ found_same kt key k (is_eq-true (keys key k) e) waiting))

  -- the first key is found
  pub found_first : (w : Entry M K V) (ws : List (Entry M K V)) (v : V) → w.value ≡ Some v → found keys (live (w ∷ ws)) w.key ≡ Some (w.at, v)
  found_first w ws v e =
      found_behind keys w.key w.at w.value (live ws) w.key ∙ ap (λ o. cond (is_some o && is_eq (keys w.key w.key)) (one_of w.at o) (found keys (live ws) w.key)) e
      ∙ ap (λ b. cond b (Some (w.at, v)) (found keys (live ws) w.key)) (ap is_eq (tied_itself kt w.key))

  -- what waits behind an entry comes after it
  pub comes_after : (w : Entry M K V) (ws : List (Entry M K V)) (at : M) (key : K) → AllByRecursion (λ (after : Entry M K V). IsBehind moments keys after.at after.key w) ws → is_moment moments at (found keys (live ws) key) ≡ true → IsBehind moments keys at key w
  comes_after w [] at key all e = absurd (let f : false ≡ true = e in cc)
  comes_after w (v ∷ vs) at key all e =
      by v.value (is_eq (keys key v.key)) refl (comes_after w vs at key all.1) (sym (ap (is_moment moments at) (found_behind keys v.key v.at v.value (live vs) key)) ∙ e)
    where
      by : (o : Option V) (b : Bool) → is_eq (keys key v.key) ≡ b → (is_moment moments at (found keys (live vs) key) ≡ true → IsBehind moments keys at key w)
          → is_moment moments at (cond (is_some o && b) (one_of v.at o) (found keys (live vs) key)) ≡ true → IsBehind moments keys at key w
      by None b s more f = more f
      by (Some x) false s more f = more f
      by (Some x) true s more f = (
        alike_right kt key v.key w.key (is_eq-true (keys key v.key) s) ∙ all.0.0,
        ap is_gt (sym (alike_right mt v.at at w.at (is_eq-true (moments v.at at) f))) ∙ all.0.1,
      )

  -- the first is the least
  pub least_first : (w : Entry M K V) (ws : List (Entry M K V)) (at : M) (key : K) → Rises moments keys (w ∷ ws) → is_moment moments at (found keys (live (w ∷ ws)) key) ≡ true → is_gt (pair_cmp moments keys (w.at, w.key) (at, key)) ≡ false
  unfolding Rises
  least_first w ws at key rises e = by w.value (is_eq (keys key w.key)) refl (sym (ap (is_moment moments at) (found_behind keys w.key w.at w.value (live ws) key)) ∙ e)
    where
      after : is_moment moments at (found keys (live ws) key) ≡ true → is_gt (pair_cmp moments keys (w.at, w.key) (at, key)) ≡ false
      after f = let b = comes_after w ws at key rises.0 f in ap (λ o. is_gt (ordering_then (moments w.at at) o)) b.0 ∙ ap is_gt (less_then (moments w.at at) b.1)

      by : (o : Option V) (b : Bool) → is_eq (keys key w.key) ≡ b → is_moment moments at (cond (is_some o && b) (one_of w.at o) (found keys (live ws) key)) ≡ true → is_gt (pair_cmp moments keys (w.at, w.key) (at, key)) ≡ false
      by None b s f = after f
      by (Some x) false s f = after f
      by (Some x) true s f =
          ap (λ o. is_gt (ordering_then o (keys w.key key))) (is_eq-true (moments w.at at) f) ∙ ap is_gt (is_eq-true (keys w.key key) (flip kt w.key key ∙ s))

  -- where the first is not due, none is
  pub none_due_behind : (bound : Bound M) (w : Entry M K V) (ws : List (Entry M K V)) → Rises moments keys (w ∷ ws) → is_past_end moments bound w.at ≡ true → (k : K) → is_due moments bound (found keys (live (w ∷ ws)) k) ≡ false
  none_due_behind bound w ws rises past k = by (found keys (live (w ∷ ws)) k) refl
    where
      by : (o : Option (M × V)) → found keys (live (w ∷ ws)) k ≡ o → is_due moments bound o ≡ false
      by None e = refl
      by (Some one) e =
          ap not (past_later mt bound w.at one.0 (gt_first (moments w.at one.0) (keys w.key k) (least_first w ws one.0 k rises (ap (is_moment moments one.0) e ∙ (eq_by_cmp_equiv mt).refl one.0))) past)

  pub indexes_rise : (key : K) (entries : List (Entry M K V)) → Rises moments keys entries → IsNonDecreasingBy (λ (w : Entry M K V). ordering_index (keys w.key key)) entries
  unfolding Rises
  indexes_rise key [] rises i j d le within = absurd (omega arith)
  indexes_rise key (w ∷ ws) rises zero zero d le within = omega arith
  indexes_rise key (w ∷ ws) rises zero (suc j) d le within = index_rises kt w.key (slice_index_or ws j d).key key (all_at _ ws j d rises.0 (omega arith)).0
  indexes_rise key (w ∷ ws) rises (suc i) zero d le within = absurd (omega arith)
  indexes_rise key (w ∷ ws) rises (suc i) (suc j) d le within = indexes_rise key ws rises.1 i j d (omega arith) (omega arith)

  -- where a key is between the entries, it is not found
  pub none_between : (key : K) (entries : List (Entry M K V)) (place : ℕ) → IsPartitionPoint (λ (w : Entry M K V). keys w.key key ≡ Less) (λ (w : Entry M K V). keys w.key key ≡ Greater) entries place → found keys (live entries) key ≡ None
  none_between key entries place parted = none_apart key entries (λ i d within. elim (cases_lt i place) [
    | inl lt ↦ ap is_eq (parted.0 i d (omega arith) lt)
    | inr le ↦ ap is_eq (parted.1 i d le within)
  ])

module _ {M K V : Type 0} where
  pub value_at_is : (entries : List (Entry M K V)) (place : ℕ) (d : Entry M K V) → place < length entries → d ≡ slice_index_or entries place d → one_of d.at d.value ≡ value_at entries place
  value_at_is [] place d within e = absurd (omega arith)
  value_at_is (w ∷ ws) zero d within e = ap (λ (w : Entry M K V). one_of w.at w.value) e
  value_at_is (w ∷ ws) (suc place) d within e = value_at_is ws place d (omega arith) e

  pub set_is_emptied : (entries : List (Entry M K V)) (place : ℕ) (d : Entry M K V) → place < length entries → d ≡ slice_index_or entries place d → slice_set entries place (record { at = d.at; key = d.key; value = None }) ≡ emptied entries place
  set_is_emptied [] place d within e = refl
  set_is_emptied (w ∷ ws) zero d within e = ap (λ (x : Entry M K V). (record { at = x.at; key = x.key; value = None }) ∷ ws) e
  set_is_emptied (w ∷ ws) (suc place) d within e = ap (λ ws. w ∷ ws) (set_is_emptied ws place d (omega arith) e)

  pub live_rest : (entries : List (Entry M K V)) (d : Entry M K V) → 0 < length entries → d ≡ slice_index_or entries 0 d → is_some d.value ≡ false → live (drop 1 entries) ≡ live entries
  live_rest [] d some e gone = refl
  live_rest (w ∷ ws) d some e gone = sym (live_gone w ws (sym (ap (λ (w : Entry M K V). is_some w.value) e) ∙ gone))

  pub front_is : (entries : List (Entry M K V)) (d : Entry M K V) → d ≡ slice_index_or entries 0 d → is_some d.value ≡ true → is_front_live entries ≡ true
  front_is [] d e some = refl
  front_is (w ∷ ws) d e some = sym (ap (λ (w : Entry M K V). is_some w.value) e) ∙ some

  pub front_none : (entries : List (Entry M K V)) → length entries ≤ 0 → is_front_live entries ≡ true
  front_none [] e = refl
  front_none (w ∷ ws) e = absurd (omega arith)

module _ {M K V : Type 0} {moments : M → M → Ordering} {keys : K → K → Ordering} (mt : IsTotalOrder moments) (kt : IsTotalOrder keys) where
  -- the first entry, as it is seen
  pub waits_at : (entries : List (Entry M K V)) (d : Entry M K V) → 0 < length entries → d ≡ slice_index_or entries 0 d → Stands moments keys entries → is_moment moments d.at (found keys (live entries) d.key) ≡ true
  waits_at [] d some e stands = absurd (omega arith)
  waits_at (w ∷ ws) d some e stands =
      ap (λ (d : Entry M K V). is_moment moments d.at (found keys (live (w ∷ ws)) d.key)) e ∙ by w.value refl stands.front
    where
      by : (o : Option V) → w.value ≡ o → is_some o ≡ true → is_moment moments w.at (found keys (live (w ∷ ws)) w.key) ≡ true
      by None f some = absurd (let g : false ≡ true = some in cc)
      by (Some v) f some = ap (is_moment moments w.at) (found_first mt kt w ws v f) ∙ (eq_by_cmp_equiv mt).refl w.at

  pub least_at : (entries : List (Entry M K V)) (d : Entry M K V) (at : M) (key : K) → d ≡ slice_index_or entries 0 d → Rises moments keys entries → is_moment moments at (found keys (live entries) key) ≡ true
      → is_gt (pair_cmp moments keys (d.at, d.key) (at, key)) ≡ false
  least_at [] d at key e rises is = absurd (let f : false ≡ true = is in cc)
  least_at (w ∷ ws) d at key e rises is = ap (λ (d : Entry M K V). is_gt (pair_cmp moments keys (d.at, d.key) (at, key))) e ∙ least_first mt kt w ws at key rises is

  pub rest_at : (entries : List (Entry M K V)) (d : Entry M K V) → 0 < length entries → d ≡ slice_index_or entries 0 d → Rises moments keys entries → (k : K) → found keys (live (drop 1 entries)) k ≡ cond (is_at (keys d.key) k) None (found keys (live entries) k)
  unfolding Rises
  rest_at [] d some e rises k = absurd (omega arith)
  rest_at (w ∷ ws) d some e rises k = found_rest mt kt w ws d.key (ap (keys w.key) (ap (λ (w : Entry M K V). w.key) e) ∙ tied_itself kt w.key) rises.0 k

  pub none_due_at : (bound : Bound M) (entries : List (Entry M K V)) (d : Entry M K V) → d ≡ slice_index_or entries 0 d → Rises moments keys entries → is_past_end moments bound d.at ≡ true → (k : K) → is_due moments bound (found keys (live entries) k) ≡ false
  none_due_at bound [] d e rises past k = refl
  none_due_at bound (w ∷ ws) d e rises past k = none_due_behind mt kt bound w ws rises (sym (ap (λ (w : Entry M K V). is_past_end moments bound w.at) e) ∙ past) k

module _ {M K V : Type 0} (moments : M → M → Ordering) (keys : K → K → Ordering) where
  pub stands_none : (entries : List (Entry M K V)) → entries ≡ [] → Stands moments keys entries
  unfolding Rises
  stands_none entries e = subst (Stands moments keys) (sym e) (record { rises = tt; front = refl })

pub apart_none : {M K V : Type 0} (keys : K → K → Ordering) (entries : List (Entry M K V)) (others : List (K × (M × V))) → entries ≡ [] → AreApart keys (live entries) others
unfolding AreApart
apart_none {M = M} {V = V} keys entries others e k f = let g : false ≡ true = sym (ap (λ (entries : List (Entry M _ V)). is_some (found keys (live entries) k)) e) ∙ f in absurd (cc)
