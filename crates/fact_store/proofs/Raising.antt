-- The counts of ids by type, after one version is put in or taken out.
use Rattle.fact_store.proofs.Common.{◌≡◌, ◌∙◌, sym, ap, refl, subst, ℕ, ◌+◌, ◌-◌, ◌≤◌, List, [], ◌∷◌, length, get_or, Bool, true, false, cond, not, ◌&&◌, arith}
use Rattle.fact_store.proofs.Common.{nat_eq, Ordering, Less, Equal, Greater, nat_cmp, ordering_then, is_eq, is_at, get-empty, nat_cmp-IsAntisymmetric, OnTrue}
use Rattle.fact_store.proofs.Common.{OnFalse, list_any, exact_unsigned_eq, HeldFacts, is_of, Version, version_cmp, is_version, IsTotalOrder, CountsIds}
use Rattle.fact_store.proofs.Common.{CountsType}
use Rattle.std.specs.FinMap as map
use Rattle.{std.{specs.List.{IsDistinct}, proofs.lemmas.Cmp.{on_total, then_total, nat_cmp_total, eq_by_cmp_equiv}}, fact_store.specs.Versions.{Counted}}
use Rattle.fact_store.proofs.Counting.{without, length-without, AreIds-same, AreIds-first, AreIds-again, AreIds-last, AreIds-still}
use Rattle.fx_base.proofs.{Orders.{eqb-self}, Tests.{both_ways_absurd}}

-- the order of versions is total
version_total : IsTotalOrder version_cmp
version_total = then_total (then_total (on_total (λ (v : Version). v.0) nat_cmp_total) (on_total (λ (v : Version). v.1) nat_cmp_total)) (on_total (λ (v : Version). v.2) nat_cmp_total)

-- what ties is equal in both parts
pub then_equal : (a b : Ordering) → is_eq (ordering_then a b) ≡ true → (a ≡ Equal) × (b ≡ Equal)
then_equal Less b e = both_ways_absurd false e refl
then_equal Greater b e = both_ways_absurd false e refl
then_equal Equal Less e = both_ways_absurd false e refl
then_equal Equal Greater e = both_ways_absurd false e refl
then_equal Equal Equal e = (refl, refl)

-- versions that tie are the same
pub same_version : (a b : Version) → is_at (version_cmp a) b ≡ true → (a.0 ≡ b.0) × (a.1 ≡ b.1) × (a.2 ≡ b.2)
same_version a b e =
    let ends = then_equal (ordering_then (nat_cmp a.0 b.0) (nat_cmp a.1 b.1)) (nat_cmp a.2 b.2) e in
    let front = then_equal (nat_cmp a.0 b.0) (nat_cmp a.1 b.1) (ap is_eq ends.0) in
    (nat_cmp-IsAntisymmetric a.0 b.0 front.0, nat_cmp-IsAntisymmetric a.1 b.1 front.1, nat_cmp-IsAntisymmetric a.2 b.2 ends.1)

-- a version ties with itself
pub version_itself : (a : Version) → is_at (version_cmp a) a ≡ true
version_itself = (eq_by_cmp_equiv version_total).refl

-- the same counts
pub Counted-same : (was : Version → Bool) (counts after : List ℕ) → Counted was counts → ((k : ℕ) → get_or after k 0 ≡ get_or counts k 0) → Counted was after
unfolding Counted
Counted-same was counts after counted alike ty = let c = counted ty in (c.0, c.1, alike ty ∙ c.2)

-- no versions
pub Counted-none : Counted (is_version map.empty) []
unfolding Counted IsDistinct
Counted-none ty = (
  [],
  record {
    once = tt;
    some = λ id e. both_ways_absurd false e refl;
    all = λ id tag e. both_ways_absurd (is_of ty id (map.get map.empty tag)) e (ap (is_of ty id) (get-empty nat_cmp tag));
  },
  refl,
)

module _ (was is : Version → Bool) (counts after : List ℕ) (ty id tag : ℕ) (counted : Counted was counts) where
  -- the version, among those of its type
  abbrev at : ℕ → ℕ → Bool
  at q t = is_at (version_cmp (ty, id, tag)) (ty, q, t)

  -- it has this id
  own : (q t : ℕ) → is_at (version_cmp (ty, id, tag)) (ty, q, t) ≡ true → q ≡ id
  own q t e = sym (same_version (ty, id, tag) (ty, q, t) e).1

  -- a version of another type is another
  elsewhere : (other q t : ℕ) → nat_eq other ty ≡ false → is_at (version_cmp (ty, id, tag)) (other, q, t) ≡ false
  elsewhere other q t apart = by (is_at (version_cmp (ty, id, tag)) (other, q, t)) refl
    where
      by : (b : Bool) → is_at (version_cmp (ty, id, tag)) (other, q, t) ≡ b → b ≡ false
      by true e = both_ways_absurd (nat_eq other ty) (ap (λ n. nat_eq n ty) (sym (same_version (ty, id, tag) (other, q, t) e).0) ∙ eqb-self ty) apart
      by false e = refl

  -- another type's ids stay
  others : (now : Bool) → ((other : Version) → is other ≡ cond (is_at (version_cmp (ty, id, tag)) other) now (was other)) → (other : ℕ)
      → nat_eq other ty ≡ false → get_or after other 0 ≡ get_or counts other 0 → CountsIds (λ q t. is (other, q, t)) (get_or after other 0)
  unfolding Counted
  others now changed other apart e =
      let c = counted other in (
        c.0,
        AreIds-same (λ q t. was (other, q, t)) (λ q t. is (other, q, t)) c.0 c.1
            (λ q t. changed (other, q, t) ∙ ap (λ b. cond b now (was (other, q, t))) (elsewhere other q t apart)),
        e ∙ c.2,
      )

  -- the counts, where this type's and the others' are right
  by_types : (now : Bool) → ((other : Version) → is other ≡ cond (is_at (version_cmp (ty, id, tag)) other) now (was other))
      → CountsIds (λ q t. is (ty, q, t)) (get_or after ty 0) → ((other : ℕ) → nat_eq other ty ≡ false → get_or after other 0 ≡ get_or counts other 0) → Counted is after
  unfolding Counted
  by_types now changed mine rest other = by (nat_eq other ty) refl
    where
      by : (b : Bool) → nat_eq other ty ≡ b → CountsIds (λ q t. is (other, q, t)) (get_or after other 0)
      by true e = subst (λ n. CountsIds (λ q t. is (n, q, t)) (get_or after n 0)) (sym (exact_unsigned_eq other ty e)) mine
      by false e = others now changed other e (rest other e)

  -- a type that has a version has an id
  pub count_above : was (ty, id, tag) ≡ true → 1 ≤ get_or counts ty 0
  unfolding Counted
  count_above held = let c = counted ty in by c.0 (c.1.all id tag held) c.2
    where
      by : (ids : List ℕ) → list_any (nat_eq id) ids ≡ true → get_or counts ty 0 ≡ length ids → 1 ≤ get_or counts ty 0
      by [] e is = both_ways_absurd false e refl
      by (x ∷ ids) e is = omega (arith, is)

  -- a version is put in
  pub raised : ((other : Version) → is other ≡ cond (is_at (version_cmp (ty, id, tag)) other) true (was other)) → (held : Bool)
      → OnTrue held ((t : ℕ) × (was (ty, id, t) ≡ true)) → OnFalse held ((t : ℕ) → was (ty, id, t) ≡ false)
      → ((k : ℕ) → get_or after k 0 ≡ cond (not held && nat_eq k ty) (get_or counts k 0 + 1) (get_or counts k 0)) → Counted is after
  unfolding Counted
  raised put true some none numbers =
      let c = counted ty in
      by_types true put
      (c.0, AreIds-again (λ q t. was (ty, q, t)) (λ q t. is (ty, q, t)) at id tag c.0 c.1 own (version_itself (ty, id, tag)) some.0 some.1 (λ q u. put (ty, q, u)), numbers ty ∙ c.2)
      (λ other apart. numbers other)
  raised put false some none numbers =
      let c = counted ty in
      let was_so = c.2 in
      let more : get_or after ty 0 ≡ get_or counts ty 0 + 1 = numbers ty ∙ ap (λ b. cond b (get_or counts ty 0 + 1) (get_or counts ty 0)) (eqb-self ty) in
      by_types true put (
        id ∷ c.0,
        AreIds-first (λ q t. was (ty, q, t)) (λ q t. is (ty, q, t)) at id tag c.0 c.1 own (version_itself (ty, id, tag)) none (λ q t. put (ty, q, t)),
        omega (arith, more, was_so),
      )
      (λ other apart. numbers other ∙ ap (λ b. cond b (get_or counts other 0 + 1) (get_or counts other 0)) apart)

  -- a version is taken out
  pub lowered : was (ty, id, tag) ≡ true → ((other : Version) → is other ≡ cond (is_at (version_cmp (ty, id, tag)) other) false (was other)) → (held : Bool)
      → OnTrue held ((t : ℕ) × (is (ty, id, t) ≡ true)) → OnFalse held ((t : ℕ) → is (ty, id, t) ≡ false)
      → ((k : ℕ) → get_or after k 0 ≡ cond (not held && nat_eq k ty) (get_or counts k 0 - 1) (get_or counts k 0)) → Counted is after
  unfolding Counted
  lowered there taken true some none numbers =
      let c = counted ty in
      by_types false taken
      (c.0, AreIds-still (λ q t. was (ty, q, t)) (λ q t. is (ty, q, t)) at id tag c.0 c.1 own (version_itself (ty, id, tag)) some.0 some.1 (λ q u. taken (ty, q, u)), numbers ty ∙ c.2)
      (λ other apart. numbers other)
  lowered there taken false some none numbers =
      let c = counted ty in
      let was_so = c.2 in
      let fewer = length-without id c.0 c.1.once (c.1.all id tag there) in
      let less : get_or after ty 0 ≡ get_or counts ty 0 - 1 = numbers ty ∙ ap (λ b. cond b (get_or counts ty 0 - 1) (get_or counts ty 0)) (eqb-self ty) in
      by_types false taken (
        without id c.0,
        AreIds-last (λ q t. was (ty, q, t)) (λ q t. is (ty, q, t)) at id tag c.0 c.1 own (version_itself (ty, id, tag)) none (λ q t. taken (ty, q, t)),
        omega (arith, less, was_so, fewer),
      )
      (λ other apart. numbers other ∙ ap (λ b. cond b (get_or counts other 0 - 1) (get_or counts other 0)) apart)

-- the number at a type's place is the count of its ids
pub counts_ids : (held seen : HeldFacts) (counts : List ℕ) (ty count : ℕ) → Counted (is_version held) counts → held ≡ seen → count ≡ get_or counts ty 0 → CountsType seen ty count
unfolding Counted
counts_ids held seen counts ty count counted is e = let c = counted ty in subst (λ h. CountsType h ty count) is (c.0, c.1, e ∙ c.2)
