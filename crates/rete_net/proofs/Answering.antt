-- The changes of rules, out of what their last nodes answered.
use Rattle.rete_net.proofs.Common.{◌≡◌, ◌∙◌, sym, ap, refl, ℕ, zero, suc, ◌+◌, ◌<◌, ◌^◌, ◌==◌, length, arith, ◌&&◌, not, Bool, true, false, cond, List, [], ◌∷◌}
use Rattle.rete_net.proofs.Common.{◌++◌, map, Option, Some, None, slice_get, Less, nat_cmp_is, AllByRecursion, nat_cmp, nat_tests, Delta, Row, has}
use Rattle.rete_net.proofs.Common.{IsDifference, are_none, changes_nothing, Program, IsRunnable, RuleChange, change_of, IsChange, delta_at, change_at}
use Rattle.{rete_net.proofs.Common.{changes_from}, std.specs.List.Sorted.{IsStrictlySortedBy}, row_delta.specs.Differences.{IsBetween}}

-- a program has fewer rules than numbers of rules can name
pub few_ends : (p : Program) (ends : List ℕ) → length ends ≡ length p.rules → IsRunnable p → length ends < 2 ^ 16
few_ends p ends same runnable = let few = runnable.few_rules in omega (arith, same, few)

-- ---- the rows of one rule

none_goes : (gone come : List Row) → are_none gone come ≡ true → (row : Row) → false ≡ has gone row
none_goes [] come e row = refl
none_goes (r ∷ gone) come e row = absurd (let no : false ≡ true = e in cc)

none_comes : (gone come : List Row) → are_none gone come ≡ true → (row : Row) → false ≡ has come row
none_comes [] [] e row = refl
none_comes [] (r ∷ come) e row = absurd (let no : false ≡ true = e in cc)
none_comes (r ∷ gone) come e row = absurd (let no : false ≡ true = e in cc)

same_sets : (a b : Bool) → false ≡ (a && not b) → false ≡ (b && not a) → a ≡ b
same_sets true true e f = refl
same_sets true false e f = absurd (cc)
same_sets false true e f = absurd (cc)
same_sets false false e f = refl

between_of : (old new : List Row) (delta : Delta) → IsDifference (has old) (has new) delta → IsBetween old new delta
between_of old new delta is = record {
  gone_in_order = is.gone_in_order;
  come_in_order = is.come_in_order;
  gone = is.leads.goes;
  come = is.leads.comes;
}

-- a difference, if it has a row
abbrev pub some_change : Delta → Option Delta
some_change delta = cond (changes_nothing delta) None (Some delta)

pub is_change : (old new : List Row) (delta : Delta) → IsDifference (has old) (has new) delta → IsChange (some_change delta) old new
is_change old new delta is = by (changes_nothing delta) refl
  where
    by : (t : Bool) → changes_nothing delta ≡ t → IsChange (cond t None (Some delta)) old new
    by true e = λ row. same_sets (has old row) (has new row) (none_goes delta.gone delta.come e row ∙ is.leads.goes row) (none_comes delta.gone delta.come e row ∙ is.leads.comes row)
    by false e = (between_of old new delta is, e)

-- ---- the changes of all rules

module _ (none : Delta) (deltas : List Delta) where
  abbrev from_here : ℕ → List ℕ → List RuleChange
  from_here from ends = changes_from none deltas from ends

  abbrev one : ℕ → Delta → RuleChange
  one place delta = record { rule = record { 0 = place }; delta = delta }

  other_place : (at place : ℕ) (delta : Delta) (rest : List RuleChange) → (at == place) ≡ false → change_of (change_at at delta ++ rest) place ≡ change_of rest place
  other_place at place delta rest e = by (changes_nothing delta)
    where
      by : (t : Bool) → change_of (cond t [] (one at delta ∷ []) ++ rest) place ≡ change_of rest place
      by true = refl
      by false = ap (λ b. cond b (Some delta) (change_of rest place)) e

  earlier_place : (place from : ℕ) (ends : List ℕ) → place < from → change_of (from_here from ends) place ≡ None
  earlier_place place from [] h = refl
  earlier_place place from (end ∷ ends) h =
      let other : (from == place) ≡ false = grind (arith, nat_tests) in
      other_place from place (delta_at none deltas end) (from_here (from + 1) ends) other ∙ earlier_place place (from + 1) ends (omega arith)

  this_place : (from : ℕ) (delta : Delta) (rest : List RuleChange) → change_of rest (from + 0) ≡ None → change_of (change_at from delta ++ rest) (from + 0) ≡ some_change delta
  this_place from delta rest none_there = by (changes_nothing delta)
    where
      by : (t : Bool) → change_of (cond t [] (one from delta ∷ []) ++ rest) (from + 0) ≡ cond t None (Some delta)
      by true = none_there
      by false = let same : (from == (from + 0)) ≡ true = grind (arith, nat_tests) in ap (λ b. cond b (Some delta) (change_of rest (from + 0))) same

  -- the change of a rule is what its last node answered
  pub found_change : (from n : ℕ) (ends : List ℕ) (end : ℕ) → slice_get ends n ≡ Some end → change_of (from_here from ends) (from + n) ≡ some_change (delta_at none deltas end)
  found_change from n [] end e = absurd (let no : None ≡ Some end = e in cc)
  found_change from zero (x ∷ ends) end e =
      let is : x ≡ end = cc in
      this_place from (delta_at none deltas x) (from_here (from + 1) ends) (earlier_place (from + 0) (from + 1) ends (omega arith)) ∙ ap (λ y. some_change (delta_at none deltas y)) is
  found_change from (suc n) (x ∷ ends) end e =
      let other : (from == (from + suc n)) ≡ false = grind (arith, nat_tests) in
      let next : from + suc n ≡ (from + 1) + n = omega arith in
      other_place from (from + suc n) (delta_at none deltas x) (from_here (from + 1) ends) other
      ∙ ap (change_of (from_here (from + 1) ends)) next ∙ found_change (from + 1) n ends end e

  pub past_change : (from n : ℕ) (ends : List ℕ) → slice_get ends n ≡ None → change_of (from_here from ends) (from + n) ≡ None
  past_change from n [] e = refl
  past_change from zero (x ∷ ends) e = absurd (let no : Some x ≡ None = e in cc)
  past_change from (suc n) (x ∷ ends) e =
      let other : (from == (from + suc n)) ≡ false = grind (arith, nat_tests) in
      let next : from + suc n ≡ (from + 1) + n = omega arith in
      other_place from (from + suc n) (delta_at none deltas x) (from_here (from + 1) ends) other
      ∙ ap (change_of (from_here (from + 1) ends)) next ∙ past_change (from + 1) n ends e

  abbrev places : List RuleChange → List ℕ
  places changes = map (λ (c : RuleChange). c.rule.0) changes

  later : (at from : ℕ) (ends : List ℕ) → at < from → AllByRecursion (λ n. nat_cmp at n ≡ Less) (places (from_here from ends))
  later at from [] h = tt
  later at from (end ∷ ends) h = by (changes_nothing (delta_at none deltas end)) (later at (from + 1) ends (omega arith))
    where
      by : (t : Bool) → AllByRecursion (λ n. nat_cmp at n ≡ Less) (places (from_here (from + 1) ends))
          → AllByRecursion (λ n. nat_cmp at n ≡ Less) (places (cond t [] (one from (delta_at none deltas end) ∷ []) ++ from_here (from + 1) ends))
      by true rest = rest
      by false rest = (sym (nat_cmp_is at from Less h), rest)

  pub in_order : (from : ℕ) (ends : List ℕ) → IsStrictlySortedBy nat_cmp (places (from_here from ends))
  unfolding IsStrictlySortedBy
  in_order from [] = tt
  in_order from (end ∷ ends) = by (changes_nothing (delta_at none deltas end)) (in_order (from + 1) ends)
    where
      by : (t : Bool) → IsStrictlySortedBy nat_cmp (places (from_here (from + 1) ends))
          → IsStrictlySortedBy nat_cmp (places (cond t [] (one from (delta_at none deltas end) ∷ []) ++ from_here (from + 1) ends))
      by true rest = rest
      by false rest = (later from (from + 1) ends (omega arith), rest)
