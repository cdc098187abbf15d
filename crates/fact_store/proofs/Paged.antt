-- The pages of the tags, as an index.
use Rattle.fact_store.proofs.Common.{◌≡◌, ◌∙◌, sym, ap, refl, subst, ℕ, List, [], ◌∷◌, Bool, true, false, cond, Option, Some, None, nat_eq, option_and_then}
use Rattle.fact_store.proofs.Common.{nat_cmp, eq_by_cmp, nat_cmp_total, unsigned_tied, IsDistinct, keys_of, lookup, find, get-entries, get-insert, get-remove}
use Rattle.fact_store.proofs.Common.{entries_sorted, same_map, nat_cmp-IsAntisymmetric, Slab, get, NumberMap, Fact, stored, Names}
use Rattle.std.specs.FinMap as map
use Rattle.{std.proofs.lemmas.Map.Keys.{IsDistinct-from_sorted}, fact_store.proofs.{Stored.{slot_of, tied, named, not_empty, get-stored}, Members.{keys_rise}}}
use Rattle.fx_base.proofs.Orders.{eq_by_nat_cmp-flip}

same_find : (q : ℕ) (es : List (ℕ × ℕ)) → find nat_cmp q es ≡ lookup (nat_eq q) es
same_find q [] = refl
same_find q (e ∷ es) = ap (λ b. cond b (Some e.1) (find nat_cmp q es)) (unsigned_tied q e.0) ∙ ap (cond (nat_eq q e.0) (Some e.1)) (same_find q es)

-- what a tag leads to
pub slot_is : (m : NumberMap) (q : ℕ) → slot_of (map.entries m) q ≡ map.get m q
slot_is m q = sym (get-entries m q ∙ same_find q (map.entries m))

-- each tag stands once
pub once : (m : NumberMap) → IsDistinct nat_eq (keys_of (map.entries m))
once m = subst (λ test. IsDistinct test (keys_of (map.entries m))) (λ i a b. unsigned_tied a b i) (IsDistinct-from_sorted nat_cmp (keys_of (map.entries m)) (keys_rise (map.entries m) (entries_sorted m)))

-- a tag is put in
pub slots_put : (was is : NumberMap) (tag at : ℕ) → is ≡ map.insert was tag at → (q : ℕ) → slot_of (map.entries is) q ≡ cond (nat_eq tag q) (Some at) (slot_of (map.entries was) q)
slots_put was is tag at e q =
    slot_is is q ∙ ap (λ m. map.get m q) e ∙ get-insert nat_cmp_total was tag at q ∙ ap (λ b. cond b (Some at) (map.get was q)) (eq_by_nat_cmp-flip q tag ∙ unsigned_tied tag q)
    ∙ ap (cond (nat_eq tag q) (Some at)) (sym (slot_is was q))

-- a tag is taken out
pub slots_taken : (was is : NumberMap) (tag : ℕ) → is ≡ map.remove was tag → (q : ℕ) → slot_of (map.entries is) q ≡ cond (nat_eq tag q) None (slot_of (map.entries was) q)
slots_taken was is tag e q =
    slot_is is q ∙ ap (λ m. map.get m q) e ∙ get-remove nat_cmp_total was tag q ∙ ap (λ b. cond b None (map.get was q)) (eq_by_nat_cmp-flip q tag ∙ unsigned_tied tag q)
    ∙ ap (cond (nat_eq tag q) None) (sym (slot_is was q))

-- where nothing is, nothing is taken out
pub number_absent : (m : NumberMap) (tag : ℕ) → map.get m tag ≡ None → m ≡ map.remove m tag
number_absent m tag none =
    same_map nat_cmp_total nat_cmp-IsAntisymmetric m (map.remove m tag) (λ q. sym (get-remove nat_cmp_total m tag q ∙ by q (eq_by_cmp nat_cmp q tag) refl))
  where
    by : (q : ℕ) (b : Bool) → eq_by_cmp nat_cmp q tag ≡ b → cond b None (map.get m q) ≡ map.get m q
    by q true p = sym (ap (map.get m) (tied q tag p) ∙ none)
    by q false p = refl

-- a tag put in and taken out again
pub tag_undone : (was mid is : NumberMap) (tag at : ℕ) → map.get was tag ≡ None → mid ≡ map.insert was tag at → is ≡ map.remove mid tag → was ≡ is
tag_undone was mid is tag at none put back =
    same_map nat_cmp_total nat_cmp-IsAntisymmetric was is (λ q. sym (ap (λ m. map.get m q) (back ∙ ap (λ m. map.remove m tag) put) ∙ get-remove nat_cmp_total (map.insert was tag at) tag q
    ∙ ap (cond (eq_by_cmp nat_cmp q tag) None) (get-insert nat_cmp_total was tag at q) ∙ by q (eq_by_cmp nat_cmp q tag) refl))
  where
    by : (q : ℕ) (b : Bool) → eq_by_cmp nat_cmp q tag ≡ b → cond b None (cond b (Some at) (map.get was q)) ≡ map.get was q
    by q true p = sym (ap (map.get was) (tied q tag p) ∙ none)
    by q false p = refl

-- a tag under which nothing is held names no slot
pub names_none : (slots : Slab Fact) (tags : NumberMap) (tag : ℕ) → Names slots (map.entries tags) → map.get (stored slots (map.entries tags)) tag ≡ None → map.get tags tag ≡ None
names_none slots tags tag names none = sym (slot_is tags tag) ∙ by (slot_of (map.entries tags) tag) refl
  where
    by : (o : Option ℕ) → slot_of (map.entries tags) tag ≡ o → o ≡ None
    by None e = refl
    by (Some at) e =
        not_empty (get slots at) tag (named slots (map.entries tags) tag at names e)
        (sym (get-stored slots (map.entries tags) tag names ∙ ap (option_and_then (get slots)) e) ∙ none)
