-- How often a list of matches names a tag, as matches come and go.
use Rattle.agenda.proofs.Common.{◌≡◌, ℕ, ◌+◌, ◌-◌, ◌==◌, Bool, true, false, cond, ◌||◌, List, [], ◌∷◌, find, Some, option_map, unwrap_or, refl, sym, ◌∙◌, ap}
use Rattle.agenda.proofs.Common.{arith, list_any, Ordering, Less, Equal, Greater, eq_by_cmp, is_eq, match_ordering, insert_key, remove_key, Ranked, matches}
use Rattle.{agenda.proofs.Common.{names_tag, rank_cmp, times_in, times, sum_by, rank_equiv, namings, CountsNamings}, std.specs.Prelude.{nat_lt}}
use Rattle.std.{specs.BTreeMap.{is_at}, proofs.lemmas.{List.Sums.{sum_by-cons}, Map.{Made.{sum_by-remove_key}, Steps.{list_any_congr}}, Bool.{or_parts}}}
use Rattle.{std.proofs.lemmas.Bool.Decides.{nat_tests}, row_delta.specs.declared.row.Named.{Named}}

placed_sum : (f : Ranked → ℕ) (o : Ordering) (k x : Ranked) (ks ls : List Ranked) → is_eq o ≡ false → sum_by f ls ≡ sum_by f ks + f k
    → sum_by f (match_ordering o (k ∷ x ∷ ks) (x ∷ ks) (x ∷ ls)) ≡ sum_by f (x ∷ ks) + f k
placed_sum f Less k x ks ls e h = let a = sum_by-cons f k (x ∷ ks) in omega (arith, a)
placed_sum f Equal k x ks ls e h = let g : true ≡ false = e in cc
placed_sum f Greater k x ks ls e h = let a = sum_by-cons f x ls in let b = sum_by-cons f x ks in omega (arith, a, b, h)

-- a key that is not there adds its own number to a sum
inserted : (f : Ranked → ℕ) (ks : List Ranked) (k : Ranked) → list_any (is_at (rank_cmp k)) ks ≡ false → sum_by f (insert_key rank_cmp ks k) ≡ sum_by f ks + f k
inserted f [] k e = refl
inserted f (x ∷ ks) k e =
    let parts = or_parts (is_eq (rank_cmp k x)) (list_any (is_at (rank_cmp k)) ks) e in
    placed_sum f (rank_cmp k x) k x ks (insert_key rank_cmp ks k) parts.0 (inserted f ks k parts.1)

pub put_counts : (old now : List (ℕ × ℕ)) (ks : List Ranked) (k : Ranked) → list_any (is_at (rank_cmp k)) ks ≡ false
    → ((tag : ℕ) → times now tag ≡ times old tag + times_in tag k.matched.row.facts) → CountsNamings old ks → CountsNamings now (insert_key rank_cmp ks k)
put_counts old now ks k e more counts = record {
  each = λ tag. let a = inserted (λ (m : Ranked). times_in tag m.matched.row.facts) ks k e in let b = counts.each tag in let c = more tag in omega (arith, a, b, c);
}

pub take_counts : (old now : List (ℕ × ℕ)) (ks : List Ranked) (k gone : Ranked) → Some gone ≡ find (is_at (rank_cmp k)) ks
    → ((tag : ℕ) → times now tag ≡ times old tag - times_in tag gone.matched.row.facts) → CountsNamings old ks → CountsNamings now (remove_key (is_at (rank_cmp k)) ks)
take_counts old now ks k gone found less counts = record {
  each = λ tag.
      let f = λ (m : Ranked). times_in tag m.matched.row.facts in
      let a = sum_by-remove_key f (is_at (rank_cmp k)) ks in let p = ap (λ o. unwrap_or (option_map f o) 0) found in
      let b = counts.each tag in let c = less tag in omega (arith, a, p, b, c);
}

pub pop_counts : (old now : List (ℕ × ℕ)) (ks ls : List Ranked) (k : Ranked) → ks ≡ k ∷ ls
    → ((tag : ℕ) → times now tag ≡ times old tag - times_in tag k.matched.row.facts) → CountsNamings old ks → CountsNamings now ls
pop_counts old now ks ls k e less counts = record {
  each = λ tag.
      let f = λ (m : Ranked). times_in tag m.matched.row.facts in
      let a = sum_by-cons f k ls in let p = ap (sum_by f) e in
      let b = counts.each tag in let c = less tag in omega (arith, a, p, b, c);
}

-- a key that is there stays there
pub put_again : (k q : Ranked) (ks : List Ranked) → list_any (is_at (rank_cmp k)) ks ≡ true
    → list_any (eq_by_cmp rank_cmp q) ks ≡ cond (eq_by_cmp rank_cmp k q) true (list_any (eq_by_cmp rank_cmp q) ks)
put_again k q ks h = by (eq_by_cmp rank_cmp k q) refl
  where
    by : (t : Bool) → eq_by_cmp rank_cmp k q ≡ t → list_any (eq_by_cmp rank_cmp q) ks ≡ cond t true (list_any (eq_by_cmp rank_cmp q) ks)
    by true e = sym (list_any_congr rank_equiv k q ks e) ∙ h
    by false e = refl

either_counts : (a b : ℕ) → nat_lt 0 (a + b) ≡ (nat_lt 0 a || nat_lt 0 b)
either_counts a b = grind (arith, nat_tests)

one_counts : (t : Bool) → nat_lt 0 (cond t 1 0) ≡ t
one_counts true = refl
one_counts false = refl

row_names : (tag : ℕ) (facts : List Named) → nat_lt 0 (times_in tag facts) ≡ list_any (λ (n : Named). tag == n.tag.0) facts
row_names tag [] = refl
row_names tag (n ∷ facts) =
    ap (nat_lt 0) (sum_by-cons (λ (x : Named). cond (tag == x.tag.0) 1 0) n facts)
    ∙ either_counts (cond (tag == n.tag.0) 1 0) (times_in tag facts)
    ∙ ap (λ t. t || nat_lt 0 (times_in tag facts)) (one_counts (tag == n.tag.0))
    ∙ ap (λ t. (tag == n.tag.0) || t) (row_names tag facts)

-- a tag is named where its number is not 0
pub named_is : (tag : ℕ) (ks : List Ranked) → nat_lt 0 (namings ks tag) ≡ list_any (names_tag tag) (matches ks)
named_is tag [] = refl
named_is tag (k ∷ ks) =
    ap (nat_lt 0) (sum_by-cons (λ (x : Ranked). times_in tag x.matched.row.facts) k ks)
    ∙ either_counts (times_in tag k.matched.row.facts) (namings ks tag)
    ∙ ap (λ t. t || nat_lt 0 (namings ks tag)) (row_names tag k.matched.row.facts)
    ∙ ap (λ t. names_tag tag k.matched || t) (named_is tag ks)
