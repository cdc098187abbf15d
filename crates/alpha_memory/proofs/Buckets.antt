-- What a join index has once one of its buckets is written, or a first one.
use Rattle.alpha_memory.proofs.Common.{◌≡◌, ◌∙◌, sym, ap, refl, Bool, true, false, ◌&&◌, cond, List, [], ◌∷◌, Option, Some, Ordering, is_at, IsEquivalence}
use Rattle.{alpha_memory.proofs.Common.{lookup, option_map, option_and_then, entries, at, bucket_at, Bucket, JoinIndex, found}, indexmap.specs.IndexMap.{get}}

-- equal keys find the same
lookup_tied : {J X : Type 0} {same : J → J → Bool} → IsEquivalence same → (a b : J) → same a b ≡ true → (es : List (J × X)) → lookup (same b) es ≡ lookup (same a) es
lookup_tied laws a b e [] = refl
lookup_tied {same = same} laws a b e (x ∷ es) =
    ap (λ t. cond t (Some x.1) (lookup (same b) es)) (sym (laws.congr a b x.0 e)) ∙ ap (cond (same a x.0) (Some x.1)) (lookup_tied laws a b e es)

-- what is found in a bucket, if there is one
abbrev pub found_in : {K S : Type 0} → (K → K → Ordering) → K → Option (Bucket K S) → Option S
found_in order k o = option_and_then (lookup (is_at (order k))) (option_map entries o)

module _ {J K S : Type 0} {same : J → J → Bool} (laws : IsEquivalence same) (was is : JoinIndex J K S) (join : J) (before : Option (Bucket K S)) (next : Bucket K S)
    (here : get same was.buckets join ≡ before) (written : (j : J) → get same is.buckets j ≡ cond (same join j) (Some next) (get same was.buckets j)) where
  -- a bucket that is written with the entries that it had
  pub same_buckets : Some (entries next) ≡ option_map entries before → (j : J) → bucket_at same is j ≡ bucket_at same was j
  same_buckets e j =
      ap (option_map entries) (written j)
      ∙ elim (same join j) as (λ b. same join j ≡ b → option_map entries (cond b (Some next) (get same was.buckets j)) ≡ bucket_at same was j) [
        | true ↦ λ t. e ∙ sym (ap (option_map entries) (lookup_tied laws join j t was.buckets.entries ∙ here))
        | false ↦ λ t. refl
      ] refl

  -- a bucket that has something else beside one key
  pub one_kept : (order : K → K → Ordering) (key : K) (kept : Option S) → ((k : K) → found order next k ≡ cond (is_at (order key) k) kept (found_in order k before))
      → (j : J) (k : K) → at same order is j k ≡ cond (same join j && is_at (order key) k) kept (at same order was j k)
  one_kept order key kept changed j k =
      ap (found_in order k) (written j)
      ∙ elim (same join j) as (λ b. same join j ≡ b → found_in order k (cond b (Some next) (get same was.buckets j)) ≡ cond (b && is_at (order key) k) kept (at same order was j k)) [
        | true ↦ λ t. changed k ∙ ap (cond (is_at (order key) k) kept) (sym (ap (found_in order k) (lookup_tied laws join j t was.buckets.entries ∙ here)))
        | false ↦ λ t. refl
      ] refl
