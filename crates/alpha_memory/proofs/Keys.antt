-- The keys of all buckets of a join index.
use Rattle.alpha_memory.proofs.Common.{◌≡◌, ◌∙◌, sym, ap, refl, Bool, true, false, ◌||◌, ◌++◌, cond, List, [], ◌∷◌, Some, list_any, AllByRecursion, Ordering}
use Rattle.alpha_memory.proofs.{Common.{is_at, IsEquivalence, keys_of, lookup, is_some, eq_by_cmp, entries, Bucket, JoinIndex, AreKeys}, Buckets.{found_in}}
use Rattle.std.{proofs.lemmas.{Bool.{or_left, or_right}, List.Folds.{list_any-append}, Map.Made.{is_some-lookup}}, specs.List.{IsDistinct}}

-- the keys of these buckets
abbrev pub keys_in : {J K S : Type 0} → List (J × Bucket K S) → List K
keys_in [] = []
keys_in (e ∷ es) = keys_of (entries e.1) ++ keys_in es

module _ {J K S : Type 0} (same : J → J → Bool) (laws : IsEquivalence same) (order : K → K → Ordering) (k : K) where
  -- the key stands in the bucket of a join value
  abbrev pub under : J → List (J × Bucket K S) → Bool
  under j es = is_some (found_in order k (lookup (same j) es))

  in_bucket : (b : Bucket K S) → is_some (found_in order k (Some b)) ≡ list_any (eq_by_cmp order k) (keys_of (entries b))
  in_bucket b = is_some-lookup (is_at (order k)) (entries b)

  -- what stands under a join value is among the keys
  pub listed : (j : J) (es : List (J × Bucket K S)) → under j es ≡ true → list_any (eq_by_cmp order k) (keys_in es) ≡ true
  listed j [] e = let f : false ≡ true = e in cc
  listed j (x ∷ es) e = list_any-append (eq_by_cmp order k) (keys_of (entries x.1)) (keys_in es) ∙ by (same j x.0) e (listed j es)
    where
      by : (b : Bool) → is_some (found_in order k (cond b (Some x.1) (lookup (same j) es))) ≡ true → (under j es ≡ true → list_any (eq_by_cmp order k) (keys_in es) ≡ true)
          → (list_any (eq_by_cmp order k) (keys_of (entries x.1)) || list_any (eq_by_cmp order k) (keys_in es)) ≡ true
      by true f rest = or_left (list_any (eq_by_cmp order k) (keys_of (entries x.1))) (list_any (eq_by_cmp order k) (keys_in es)) (sym (in_bucket x.1) ∙ f)
      by false f rest = or_right (list_any (eq_by_cmp order k) (keys_of (entries x.1))) (list_any (eq_by_cmp order k) (keys_in es)) (rest f)

  -- a join value that has a bucket is none that differs from all of them
  has_bucket : (j i : J) (es : List (J × Bucket K S)) → same j i ≡ true → AllByRecursion (λ y. same i y ≡ false) (keys_of es) → under j es ≡ true → true ≡ false
  has_bucket j i [] s all e = sym e
  has_bucket j i (x ∷ es) s all e =
      let differs : same j x.0 ≡ false = laws.congr j i x.0 s ∙ all.0 in
      has_bucket j i es s all.1 (sym (ap (λ b. is_some (found_in order k (cond b (Some x.1) (lookup (same j) es)))) differs) ∙ e)

  -- and each of the keys stands under one
  pub stands : (es : List (J × Bucket K S)) → IsDistinct same (keys_of es) → list_any (eq_by_cmp order k) (keys_in es) ≡ true → (j : J) × (under j es ≡ true)
  unfolding IsDistinct
  stands [] once e = let f : false ≡ true = e in cc
  stands (x ∷ es) once e = by (list_any (eq_by_cmp order k) (keys_of (entries x.1))) refl (sym (list_any-append (eq_by_cmp order k) (keys_of (entries x.1)) (keys_in es)) ∙ e) (stands es once.1)
    where
      by : (b : Bool) → list_any (eq_by_cmp order k) (keys_of (entries x.1)) ≡ b → (b || list_any (eq_by_cmp order k) (keys_in es)) ≡ true
          → (list_any (eq_by_cmp order k) (keys_in es) ≡ true → (j : J) × (under j es ≡ true)) → (j : J) × (is_some (found_in order k (cond (same j x.0) (Some x.1) (lookup (same j) es))) ≡ true)
      by true f g rest = (x.0, ap (λ b. is_some (found_in order k (cond b (Some x.1) (lookup (same x.0) es)))) (laws.refl x.0) ∙ in_bucket x.1 ∙ f)
      by false f g rest =
          let r = rest g in
          (r.0, ap (λ b. is_some (found_in order k (cond b (Some x.1) (lookup (same r.0) es)))) (other r.0 r.1 (same r.0 x.0) refl) ∙ r.1)
        where
          other : (j : J) → under j es ≡ true → (b : Bool) → same j x.0 ≡ b → same j x.0 ≡ false
          other j u true s = s ∙ has_bucket j x.0 es s once.0 u
          other j u false s = s

pub are_keys : {J K S : Type 0} (same : J → J → Bool) (laws : IsEquivalence same) (order : K → K → Ordering) (index : JoinIndex J K S) (keys : List K)
    → IsDistinct same (keys_of index.buckets.entries) → keys ≡ keys_in index.buckets.entries → AreKeys same order index keys
are_keys same laws order index keys once is k = (
  λ e. stands same laws order k index.buckets.entries once (sym (ap (list_any (eq_by_cmp order k)) is) ∙ e),
  λ p. ap (list_any (eq_by_cmp order k)) is ∙ listed same laws order k p.0 index.buckets.entries p.1,
)
