-- The newest versions of ids and the older ones, after one version is put in or taken out.
use Rattle.fact_store.proofs.Common.{◌≡◌, ◌∙◌, sym, ap, refl, subst, ℕ, ◌<◌, ◌≤◌, ◌^◌, ◌-◌, ◌⊎◌, inl, inr, List, [], ◌∷◌, ◌++◌, Bool, true, false, cond, ◌||◌}
use Rattle.fact_store.proofs.Common.{◌&&◌, Option, Some, None, length, Result, Ok, Err, arith, T, nat_eq, IfSome, IfNone, Ordering, Less, Equal, Greater}
use Rattle.fact_store.proofs.Common.{nat_cmp, is_eq, is_lt, nat_cmp_total, unsigned_tied, is_at, below_all, find, is_sorted, get-entries, get-insert}
use Rattle.fact_store.proofs.Common.{get-remove, entries_sorted, exact_unsigned_eq, cases_lt, NumberMap, id_tag_cmp, has_pair, LeadsToNewest, OnSome, OnOk}
use Rattle.{fact_store.proofs.Common.{OnErr, len-entries, len-empty, IsAboveNumber}, std.proofs.{lemmas.Bool.{and_parts}, Math.Bool.{or-false, or-true}}}
use Rattle.{std.proofs.Math.Bool.{or_assoc}, fx_base.proofs.{Orders.{eqb-flip, eqb-self, is_eq-then}, Tests.{T_first, T_second, both_ways_absurd}}}
use Rattle.std.specs.FinMap as map

-- whether there is a tag, and it is this one
abbrev pub is_tag : ℕ → Option ℕ → Bool
is_tag tag None = false
is_tag tag (Some other) = nat_eq other tag

pub tells : (id tag q t : ℕ) → is_at (id_tag_cmp (id, tag)) (q, t) ≡ (nat_eq id q && nat_eq tag t)
tells id tag q t = is_eq-then (nat_cmp id q) (nat_cmp tag t) ∙ ap (λ b. b && is_eq (nat_cmp tag t)) (unsigned_tied id q) ∙ ap (λ b. nat_eq id q && b) (unsigned_tied tag t)

pub has_either : (xs ys : List (ℕ × ℕ)) (pair : ℕ × ℕ) → has_pair (xs ++ ys) pair ≡ (has_pair xs pair || has_pair ys pair)
has_either [] ys pair = refl
has_either (x ∷ xs) ys pair = ap (λ b. is_at (id_tag_cmp pair) x || b) (has_either xs ys pair) ∙ sym (or_assoc (is_at (id_tag_cmp pair) x) (has_pair xs pair) (has_pair ys pair))

-- an id below all ids is none of them
missed : (id : ℕ) (es : List (ℕ × ℕ)) → T (below_all nat_cmp id es) → find nat_cmp id es ≡ None
missed id [] below = refl
missed id (e ∷ es) below = by (nat_cmp id e.0) (T_first _ _ below) ∙ missed id es (T_second _ _ below)
  where
    by : (o : Ordering) → T (is_lt o) → cond (is_eq o) (Some e.1) (find nat_cmp id es) ≡ find nat_cmp id es
    by Less p = refl
    by Equal p = absurd p
    by Greater p = absurd p

-- an id has one tag in a map
one_tag : (id tag : ℕ) (es : List (ℕ × ℕ)) → T (is_sorted nat_cmp es) → has_pair es (id, tag) ≡ is_tag tag (find nat_cmp id es)
one_tag id tag [] sorted = refl
one_tag id tag (e ∷ es) sorted = ap (λ b. b || has_pair es (id, tag)) (tells id tag e.0 e.1) ∙ by (nat_eq id e.0) refl (one_tag id tag es (T_second _ _ sorted))
    ∙ ap (λ b. is_tag tag (cond b (Some e.1) (find nat_cmp id es))) (sym (unsigned_tied id e.0))
  where
    by : (b : Bool) → nat_eq id e.0 ≡ b → has_pair es (id, tag) ≡ is_tag tag (find nat_cmp id es) → ((b && nat_eq tag e.1) || has_pair es (id, tag)) ≡ is_tag tag (cond b (Some e.1) (find nat_cmp id es))
    by true p rest =
        let same = exact_unsigned_eq id e.0 p in
        ap (λ b. nat_eq tag e.1 || b) (rest ∙ ap (is_tag tag) (missed id es (subst (λ n. T (below_all nat_cmp n es)) (sym same) (T_first _ _ sorted)))) ∙ or-false (nat_eq tag e.1) ∙ eqb-flip tag e.1
    by false p rest = rest

-- the pairs of the newest tags and the others
abbrev pub all_of : NumberMap → List (ℕ × ℕ) → List (ℕ × ℕ)
all_of newest older = map.entries newest ++ older

-- a pair is that of the newest tag, or another
pub stands : (newest : NumberMap) (older : List (ℕ × ℕ)) (id tag : ℕ) → has_pair (all_of newest older) (id, tag) ≡ (is_tag tag (map.get newest id) || has_pair older (id, tag))
stands newest older id tag =
    has_either (map.entries newest) older (id, tag)
    ∙ ap (λ b. b || has_pair older (id, tag)) (one_tag id tag (map.entries newest) (entries_sorted newest) ∙ ap (is_tag tag) (sym (get-entries newest id)))

-- the newest tag of each id, after a write
put_at : (newest : NumberMap) (id tag q : ℕ) → map.get (map.insert newest id tag) q ≡ cond (nat_eq id q) (Some tag) (map.get newest q)
put_at newest id tag q = get-insert nat_cmp_total newest id tag q ∙ ap (λ b. cond b (Some tag) (map.get newest q)) (unsigned_tied q id ∙ eqb-flip q id)

gone_at : (newest : NumberMap) (id q : ℕ) → map.get (map.remove newest id) q ≡ cond (nat_eq id q) None (map.get newest q)
gone_at newest id q = get-remove nat_cmp_total newest id q ∙ ap (λ b. cond b None (map.get newest q)) (unsigned_tied q id ∙ eqb-flip q id)

-- ---- one pair, by cases

or_cond : (a b : Bool) → (a || b) ≡ cond a true b
or_cond true b = refl
or_cond false b = refl

first_put : (tag t : ℕ) (a o : Bool) (m : Option ℕ) → (a ≡ true → m ≡ None) → (is_tag t (cond a (Some tag) m) || o) ≡ cond (a && nat_eq tag t) true (is_tag t m || o)
first_put tag t true o m none = or_cond (nat_eq tag t) o ∙ ap (λ x. cond (nat_eq tag t) true (is_tag t x || o)) (sym (none refl))
first_put tag t false o m none = refl

newer_put : (tag n t : ℕ) (a o : Bool) (m : Option ℕ) → (a ≡ true → m ≡ Some n) → (is_tag t (cond a (Some tag) m) || cond (a && nat_eq n t) true o) ≡ cond (a && nat_eq tag t) true (is_tag t m || o)
newer_put tag n t true o m some =
    or_cond (nat_eq tag t) (cond (nat_eq n t) true o) ∙ ap (cond (nat_eq tag t) true) (sym (or_cond (nat_eq n t) o)) ∙ ap (λ x. cond (nat_eq tag t) true (is_tag t x || o)) (sym (some refl))
newer_put tag n t false o m some = refl

older_put : (x z o : Bool) → (x || cond z true o) ≡ cond z true (x || o)
older_put x true o = or-true x
older_put x false o = refl

next_comes : (tag u t : ℕ) (a o : Bool) (m : Option ℕ) → (a ≡ true → m ≡ Some tag) → (a ≡ true → nat_eq u t ≡ true → (nat_eq tag t ≡ false) × (o ≡ true)) → (a ≡ true → nat_eq tag t ≡ true → o ≡ false)
    → (is_tag t (cond a (Some u) m) || cond (a && nat_eq u t) false o) ≡ cond (a && nat_eq tag t) false (is_tag t m || o)
next_comes tag u t false o m some there absent = refl
next_comes tag u t true o m some there absent = by (nat_eq u t) refl (nat_eq tag t) refl ∙ ap (λ x. cond (nat_eq tag t) false (is_tag t x || o)) (sym (some refl))
  where
    by : (c : Bool) → nat_eq u t ≡ c → (b : Bool) → nat_eq tag t ≡ b → (c || cond c false o) ≡ cond b false (b || o)
    by true p true q = both_ways_absurd (nat_eq tag t) q (there refl p).0
    by true p false q = sym (there refl p).1
    by false p true q = absent refl q
    by false p false q = refl

last_goes : (tag t : ℕ) (a o : Bool) (m : Option ℕ) → (a ≡ true → m ≡ Some tag) → (a ≡ true → o ≡ false) → (is_tag t (cond a None m) || o) ≡ cond (a && nat_eq tag t) false (is_tag t m || o)
last_goes tag t false o m some none = refl
last_goes tag t true o m some none = by (nat_eq tag t) ∙ ap (λ x. cond (nat_eq tag t) false (is_tag t x || o)) (sym (some refl))
  where
    by : (b : Bool) → o ≡ cond b false (b || o)
    by true = none refl
    by false = refl

older_goes : (x z o : Bool) → (z ≡ true → x ≡ false) → (x || cond z false o) ≡ cond z false (x || o)
older_goes x true o apart = or-false x ∙ apart refl
older_goes x false o apart = refl

-- a tag is below the newest
above_some : (o : Option ℕ) (t n : ℕ) → o ≡ Some n → IsAboveNumber t o → t < n
above_some None t n e is = absurd is
above_some (Some m) t n e is = let same : m ≡ n = cc in omega (arith, same, is)

-- ---- all pairs, and that each has a newest

module _ (newest next : NumberMap) (older : List (ℕ × ℕ)) (leads : LeadsToNewest newest older) (id tag : ℕ) where
  -- the pairs of an id are below its newest tag
  below_newest : (n q t : ℕ) → nat_eq id q ≡ true → map.get newest id ≡ Some n → has_pair older (q, t) ≡ true → t < n
  below_newest n q t p some held = above_some (map.get newest q) t n (ap (map.get newest) (sym (exact_unsigned_eq id q p)) ∙ some) (leads q t held)

  at_id : (q : ℕ) (o : Option ℕ) → map.get newest id ≡ o → nat_eq id q ≡ true → map.get newest q ≡ o
  at_id q o e p = ap (map.get newest) (sym (exact_unsigned_eq id q p)) ∙ e

  module _ (now : next ≡ map.insert newest id tag) where
    got : (q : ℕ) → map.get next q ≡ cond (nat_eq id q) (Some tag) (map.get newest q)
    got q = ap (λ m. map.get m q) now ∙ put_at newest id tag q

    -- the first version of an id
    pub has_first : map.get newest id ≡ None → (p : ℕ × ℕ) → has_pair (all_of next older) p ≡ cond (is_at (id_tag_cmp (id, tag)) p) true (has_pair (all_of newest older) p)
    has_first none p =
        stands next older p.0 p.1 ∙ ap (λ o. is_tag p.1 o || has_pair older p) (got p.0)
        ∙ first_put tag p.1 (nat_eq id p.0) (has_pair older p) (map.get newest p.0) (at_id p.0 None none)
        ∙ ap (λ b. cond b true (is_tag p.1 (map.get newest p.0) || has_pair older p)) (sym (tells id tag p.0 p.1)) ∙ ap (cond (is_at (id_tag_cmp (id, tag)) p) true) (sym (stands newest older p.0 p.1))

    pub leads_first : map.get newest id ≡ None → LeadsToNewest next older
    leads_first none q t held = subst (IsAboveNumber t) (sym (got q)) (by (nat_eq id q) refl)
      where
        by : (b : Bool) → nat_eq id q ≡ b → IsAboveNumber t (cond b (Some tag) (map.get newest q))
        by true p = absurd (subst (IsAboveNumber t) (at_id q None none p) (leads q t held))
        by false p = leads q t held

    -- a newer version of an id
    module _ (n : ℕ) (some : map.get newest id ≡ Some n) (more : List (ℕ × ℕ)) (put : (p : ℕ × ℕ) → has_pair more p ≡ cond (is_at (id_tag_cmp (id, n)) p) true (has_pair older p)) where
      pub has_newer : (p : ℕ × ℕ) → has_pair (all_of next more) p ≡ cond (is_at (id_tag_cmp (id, tag)) p) true (has_pair (all_of newest older) p)
      has_newer p =
          stands next more p.0 p.1 ∙ ap (λ o. is_tag p.1 o || has_pair more p) (got p.0)
          ∙ ap (λ b. is_tag p.1 (cond (nat_eq id p.0) (Some tag) (map.get newest p.0)) || b) (put p ∙ ap (λ b. cond b true (has_pair older p)) (tells id n p.0 p.1))
          ∙ newer_put tag n p.1 (nat_eq id p.0) (has_pair older p) (map.get newest p.0) (at_id p.0 (Some n) some)
          ∙ ap (λ b. cond b true (is_tag p.1 (map.get newest p.0) || has_pair older p)) (sym (tells id tag p.0 p.1)) ∙ ap (cond (is_at (id_tag_cmp (id, tag)) p) true) (sym (stands newest older p.0 p.1))

      pub leads_newer : n < tag → LeadsToNewest next more
      leads_newer rises q t held = subst (IsAboveNumber t) (sym (got q)) (by (nat_eq id q) refl (nat_eq n t) refl (sym (put (q, t) ∙ ap (λ b. cond b true (has_pair older (q, t))) (tells id n q t)) ∙ held))
        where
          by : (a : Bool) → nat_eq id q ≡ a → (b : Bool) → nat_eq n t ≡ b → cond (a && b) true (has_pair older (q, t)) ≡ true → IsAboveNumber t (cond a (Some tag) (map.get newest q))
          by true p true r e = let same = exact_unsigned_eq n t r in omega (arith, same, rises)
          by true p false r e = let l = below_newest n q t p some e in omega (arith, l, rises)
          by false p b r e = leads q t e

  -- an older version of an id is put in
  module _ (more : List (ℕ × ℕ)) (put : (p : ℕ × ℕ) → has_pair more p ≡ cond (is_at (id_tag_cmp (id, tag)) p) true (has_pair older p)) where
    pub has_older : (p : ℕ × ℕ) → has_pair (all_of newest more) p ≡ cond (is_at (id_tag_cmp (id, tag)) p) true (has_pair (all_of newest older) p)
    has_older p =
        stands newest more p.0 p.1 ∙ ap (λ b. is_tag p.1 (map.get newest p.0) || b) (put p) ∙ older_put (is_tag p.1 (map.get newest p.0)) (is_at (id_tag_cmp (id, tag)) p) (has_pair older p)
        ∙ ap (cond (is_at (id_tag_cmp (id, tag)) p) true) (sym (stands newest older p.0 p.1))

    pub leads_older : (n : ℕ) → map.get newest id ≡ Some n → tag ≤ n → has_pair (all_of newest older) (id, tag) ≡ false → LeadsToNewest newest more
    leads_older n some most new q t held = by (nat_eq id q) refl (nat_eq tag t) refl (sym (put (q, t) ∙ ap (λ b. cond b true (has_pair older (q, t))) (tells id tag q t)) ∙ held)
      where
        by : (a : Bool) → nat_eq id q ≡ a → (b : Bool) → nat_eq tag t ≡ b → cond (a && b) true (has_pair older (q, t)) ≡ true → IsAboveNumber t (map.get newest q)
        by true p true r e =
            let same = exact_unsigned_eq tag t r in
            let apart : n ≡ tag → ⊥ = λ is. both_ways_absurd (has_pair (all_of newest older) (id, tag)) (stands newest older id tag ∙ ap (λ o. is_tag tag o || has_pair older (id, tag)) some
            ∙ ap (λ b. b || has_pair older (id, tag)) (ap (λ m. nat_eq m tag) is ∙ eqb-self tag)) new in
            subst (IsAboveNumber t) (sym (at_id q (Some n) some p)) (omega (arith, same, most, apart))
        by true p false r e = leads q t e
        by false p b r e = leads q t e

  -- the newest version of an id is taken out, and another comes in its place
  module _ (some : map.get newest id ≡ Some tag) (fits : tag < 2 ^ 64) where
    pub comes_below : (u : ℕ) → has_pair older (id, u) ≡ true → u < tag
    comes_below u held = below_newest tag id u (eqb-self id) some held

    module _ (u : ℕ) (there : has_pair older (id, u) ≡ true) (now : next ≡ map.insert newest id u) (left : List (ℕ × ℕ))
        (taken : (p : ℕ × ℕ) → has_pair left p ≡ cond (is_at (id_tag_cmp (id, u)) p) false (has_pair older p)) where
      placed : (q : ℕ) → map.get next q ≡ cond (nat_eq id q) (Some u) (map.get newest q)
      placed q = ap (λ m. map.get m q) now ∙ put_at newest id u q

      pub has_next : (p : ℕ × ℕ) → has_pair (all_of next left) p ≡ cond (is_at (id_tag_cmp (id, tag)) p) false (has_pair (all_of newest older) p)
      has_next p =
          stands next left p.0 p.1 ∙ ap (λ o. is_tag p.1 o || has_pair left p) (placed p.0)
          ∙ ap (λ b. is_tag p.1 (cond (nat_eq id p.0) (Some u) (map.get newest p.0)) || b) (taken p ∙ ap (λ b. cond b false (has_pair older p)) (tells id u p.0 p.1))
          ∙ next_comes tag u p.1 (nat_eq id p.0) (has_pair older p) (map.get newest p.0) (at_id p.0 (Some tag) some) here gone
          ∙ ap (λ b. cond b false (is_tag p.1 (map.get newest p.0) || has_pair older p)) (sym (tells id tag p.0 p.1)) ∙ ap (cond (is_at (id_tag_cmp (id, tag)) p) false) (sym (stands newest older p.0 p.1))
        where
          here : nat_eq id p.0 ≡ true → nat_eq u p.1 ≡ true → (nat_eq tag p.1 ≡ false) × (has_pair older p ≡ true)
          here a b =
              let same = exact_unsigned_eq u p.1 b in
              let l = comes_below u there in (
                by (nat_eq tag p.1) refl,
                ap (λ n. has_pair older (n, p.1)) (sym (exact_unsigned_eq id p.0 a)) ∙ ap (λ n. has_pair older (id, n)) (sym same) ∙ there,
              )
            where
              by : (x : Bool) → nat_eq tag p.1 ≡ x → x ≡ false
              by true e = let l = comes_below u there in let s = exact_unsigned_eq u p.1 b in let r = exact_unsigned_eq tag p.1 e in absurd (omega (arith, l, s, r))
              by false e = refl

          gone : nat_eq id p.0 ≡ true → nat_eq tag p.1 ≡ true → has_pair older p ≡ false
          gone a b = by (has_pair older p) refl
            where
              by : (x : Bool) → has_pair older p ≡ x → x ≡ false
              by true e = let l = below_newest tag p.0 p.1 a some e in let r = exact_unsigned_eq tag p.1 b in absurd (omega (arith, l, r))
              by false e = refl

      pub leads_next : ((other : ℕ) → other ≤ 18446744073709551615 → has_pair older (id, other) ≡ true → other ≤ u) → LeadsToNewest next left
      leads_next greatest q t held = subst (IsAboveNumber t) (sym (placed q)) (by (nat_eq id q) refl (nat_eq u t) refl (sym (taken (q, t) ∙ ap (λ b. cond b false (has_pair older (q, t))) (tells id u q t)) ∙ held))
        where
          by : (a : Bool) → nat_eq id q ≡ a → (b : Bool) → nat_eq u t ≡ b → cond (a && b) false (has_pair older (q, t)) ≡ true → IsAboveNumber t (cond a (Some u) (map.get newest q))
          by true p true r e = both_ways_absurd false e refl
          by true p false r e =
              let l = below_newest tag q t p some e in
              let most = greatest t (omega (arith, l, fits)) (ap (λ n. has_pair older (n, t)) (exact_unsigned_eq id q p) ∙ e) in
              let apart : u ≡ t → ⊥ = λ is. both_ways_absurd (nat_eq u t) (ap (λ n. nat_eq n t) is ∙ eqb-self t) r in omega (arith, most, apart)
          by false p b r e = leads q t e

    -- and none comes
    module _ (none : (other : ℕ) → other ≤ 18446744073709551615 → has_pair older (id, other) ≡ false) (now : next ≡ map.remove newest id) where
      away : (q : ℕ) → map.get next q ≡ cond (nat_eq id q) None (map.get newest q)
      away q = ap (λ m. map.get m q) now ∙ gone_at newest id q

      no_pair : (q t : ℕ) → nat_eq id q ≡ true → has_pair older (q, t) ≡ false
      no_pair q t p = by (has_pair older (q, t)) refl
        where
          by : (x : Bool) → has_pair older (q, t) ≡ x → x ≡ false
          by true e =
              let l = below_newest tag q t p some e in
              both_ways_absurd (has_pair older (q, t)) e (ap (λ n. has_pair older (n, t)) (sym (exact_unsigned_eq id q p)) ∙ none t (omega (arith, l, fits)))
          by false e = refl

      pub has_fewer : (p : ℕ × ℕ) → has_pair (all_of next older) p ≡ cond (is_at (id_tag_cmp (id, tag)) p) false (has_pair (all_of newest older) p)
      has_fewer p =
          stands next older p.0 p.1 ∙ ap (λ o. is_tag p.1 o || has_pair older p) (away p.0)
          ∙ last_goes tag p.1 (nat_eq id p.0) (has_pair older p) (map.get newest p.0) (at_id p.0 (Some tag) some) (no_pair p.0 p.1)
          ∙ ap (λ b. cond b false (is_tag p.1 (map.get newest p.0) || has_pair older p)) (sym (tells id tag p.0 p.1)) ∙ ap (cond (is_at (id_tag_cmp (id, tag)) p) false) (sym (stands newest older p.0 p.1))

      pub leads_fewer : LeadsToNewest next older
      leads_fewer q t held = subst (IsAboveNumber t) (sym (away q)) (by (nat_eq id q) refl)
        where
          by : (b : Bool) → nat_eq id q ≡ b → IsAboveNumber t (cond b None (map.get newest q))
          by true p = both_ways_absurd (has_pair older (q, t)) held (no_pair q t p)
          by false p = leads q t held

  -- a version that is not the newest is taken out
  module _ (left : List (ℕ × ℕ)) (taken : (p : ℕ × ℕ) → has_pair left p ≡ cond (is_at (id_tag_cmp (id, tag)) p) false (has_pair older p)) where
    pub has_others : is_tag tag (map.get newest id) ≡ false → (p : ℕ × ℕ) → has_pair (all_of newest left) p ≡ cond (is_at (id_tag_cmp (id, tag)) p) false (has_pair (all_of newest older) p)
    has_others apart p =
        stands newest left p.0 p.1 ∙ ap (λ b. is_tag p.1 (map.get newest p.0) || b) (taken p)
        ∙ older_goes (is_tag p.1 (map.get newest p.0)) (is_at (id_tag_cmp (id, tag)) p) (has_pair older p) (λ e.
        let ends = and_parts (nat_eq id p.0) (nat_eq tag p.1) (sym (tells id tag p.0 p.1) ∙ e) in
        ap (λ n. is_tag n (map.get newest p.0)) (sym (exact_unsigned_eq tag p.1 ends.1)) ∙ ap (λ n. is_tag tag (map.get newest n)) (sym (exact_unsigned_eq id p.0 ends.0)) ∙ apart)
        ∙ ap (cond (is_at (id_tag_cmp (id, tag)) p) false) (sym (stands newest older p.0 p.1))

    pub leads_others : LeadsToNewest newest left
    leads_others q t held = leads q t (by (is_at (id_tag_cmp (id, tag)) (q, t)) (sym (taken (q, t)) ∙ held))
      where
        by : (b : Bool) → cond b false (has_pair older (q, t)) ≡ true → has_pair older (q, t) ≡ true
        by true e = both_ways_absurd false e refl
        by false e = e

-- ---- the newest tag of an id

module _ (newest : NumberMap) (older : List (ℕ × ℕ)) (leads : LeadsToNewest newest older) (seen : List (ℕ × ℕ)) (view : all_of newest older ≡ seen) (id : ℕ) where
  pub newest_found : (o : Option ℕ) → o ≡ map.get newest id → IfSome o (λ tag. has_pair seen (id, tag) ≡ true)
  newest_found None e = tt
  newest_found (Some tag) e =
      subst (λ ps. has_pair ps (id, tag) ≡ true) view (stands newest older id tag ∙ ap (λ o. is_tag tag o || has_pair older (id, tag)) (sym e) ∙ ap (λ b. b || has_pair older (id, tag)) (eqb-self tag))

  told : (tag : ℕ) → has_pair seen (id, tag) ≡ true → (is_tag tag (map.get newest id) || has_pair older (id, tag)) ≡ true
  told tag held = sym (stands newest older id tag) ∙ subst (λ ps. has_pair ps (id, tag) ≡ true) (sym view) held

  pub newest_greatest : (o : Option ℕ) → o ≡ map.get newest id → IfSome o (λ tag. (other : ℕ) → has_pair seen (id, other) ≡ true → other ≤ tag)
  newest_greatest None e = tt
  newest_greatest (Some tag) e = λ other held. by other (is_tag other (map.get newest id)) refl (told other held)
    where
      by : (other : ℕ) (b : Bool) → is_tag other (map.get newest id) ≡ b → (b || has_pair older (id, other)) ≡ true → other ≤ tag
      by other true p is = let same = exact_unsigned_eq tag other (ap (is_tag other) e ∙ p) in omega (arith, same)
      by other false p is = let l = above_some (map.get newest id) other tag (sym e) (leads id other is) in omega (arith, l)

  pub newest_none : (o : Option ℕ) → o ≡ map.get newest id → IfNone o ((other : ℕ) → has_pair seen (id, other) ≡ false)
  newest_none (Some tag) e = tt
  newest_none None e = λ other. by other (has_pair seen (id, other)) refl
    where
      by : (other : ℕ) (b : Bool) → has_pair seen (id, other) ≡ b → b ≡ false
      by other true held = absurd (subst (IsAboveNumber other) (sym e) (leads id other (ap (λ o. is_tag other o || has_pair older (id, other)) e ∙ told other held)))
      by other false held = refl

  -- a tag below one of the id's tags is not the newest
  below_one : (tag other : ℕ) → has_pair seen (id, tag) ≡ true → has_pair seen (id, other) ≡ true → other < tag → has_pair older (id, other) ≡ true
  below_one tag other held there less = by (is_tag other (map.get newest id)) refl (told other there)
    where
      at : (o : Option ℕ) → o ≡ map.get newest id → is_tag other o ≡ true → tag ≤ other
      at None e p = both_ways_absurd false p refl
      at (Some n) e p =
          let same = exact_unsigned_eq n other p in
          let most = newest_greatest (Some n) e tag held in omega (arith, same, most)

      by : (b : Bool) → is_tag other (map.get newest id) ≡ b → (b || has_pair older (id, other)) ≡ true → has_pair older (id, other) ≡ true
      by true p is = let l = at (map.get newest id) refl p in absurd (omega (arith, l, less))
      by false p is = is

  shown : (other : ℕ) → has_pair older (id, other) ≡ true → has_pair seen (id, other) ≡ true
  shown other held = subst (λ ps. has_pair ps (id, other) ≡ true) view (stands newest older id other ∙ ap (λ b. is_tag other (map.get newest id) || b) held ∙ or-true (is_tag other (map.get newest id)))

  module _ (tag : ℕ) (some : 0 < tag) (held : has_pair seen (id, tag) ≡ true) where
    pub below_found : (o : Option ℕ) → IfSome o (λ lower. (has_pair older (id, lower) ≡ true) × (lower ≤ tag - 1)) → IfSome o (λ lower. (has_pair seen (id, lower) ≡ true) × (lower < tag))
    below_found None f = tt
    below_found (Some lower) f = (shown lower f.0, let l = f.1 in omega (arith, l, some))

    pub below_greatest : (o : Option ℕ) → IfSome o (λ lower. (other : ℕ) → other ≤ tag - 1 → has_pair older (id, other) ≡ true → other ≤ lower)
        → IfSome o (λ lower. (other : ℕ) → has_pair seen (id, other) ≡ true → other < tag → other ≤ lower)
    below_greatest None f = tt
    below_greatest (Some lower) f = λ other there less. f other (omega (arith, less)) (below_one tag other held there less)

    pub below_none : (o : Option ℕ) → IfNone o ((other : ℕ) → other ≤ tag - 1 → has_pair older (id, other) ≡ false) → IfNone o ((other : ℕ) → has_pair seen (id, other) ≡ true → tag ≤ other)
    below_none (Some lower) f = tt
    below_none None f = λ other there. by other there (cases_lt other tag)
      where
        by : (other : ℕ) → has_pair seen (id, other) ≡ true → (other < tag) ⊎ (tag ≤ other) → tag ≤ other
        by other there (inl less) = both_ways_absurd (has_pair older (id, other)) (below_one tag other held there less) (f other (omega (arith, less)))
        by other there (inr most) = most

-- ---- what a call tells

pub on_some : {P : Type 0} (o : Option ℕ) (n : ℕ) → o ≡ Some n → OnSome o P → P
on_some None n e p = absurd (let x : None ≡ Some n = e in cc)
on_some (Some m) n e p = p

pub another_tag : (newest : NumberMap) (id n tag : ℕ) → Some n ≡ map.get newest id → (n ≡ tag → ⊥) → is_tag tag (map.get newest id) ≡ false
another_tag newest id n tag e differ = ap (is_tag tag) (sym e) ∙ by (nat_eq n tag) refl
  where
    by : (b : Bool) → nat_eq n tag ≡ b → b ≡ false
    by true p = absurd (differ (exact_unsigned_eq n tag p))
    by false p = refl

no_length : (es : List (ℕ × ℕ)) → length es ≡ 0 → es ≡ []
no_length [] e = refl
no_length (x ∷ es) e = absurd (omega (arith, e))

pub empty_entries : (m : NumberMap) → m ≡ map.empty → map.entries m ≡ []
empty_entries m e = no_length (map.entries m) (sym (len-entries m) ∙ ap map.len e ∙ len-empty nat_cmp ℕ)

pub no_entries : all_of map.empty [] ≡ []
no_entries = ap (λ es. es ++ []) (empty_entries map.empty refl)

pub either : {T E A B C : Type 0} (r : Result T E) → OnOk r A → OnErr r B → (A → C) → (B → C) → C
either (Ok x) a b f g = f a
either (Err x) a b f g = g b
