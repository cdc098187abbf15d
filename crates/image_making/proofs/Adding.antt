-- What is put into an ordered set, one after the other.
use Rattle.std.proofs.Common.{List, [], ap, arith, cond, get_or, inl, inr, length, suc, sym, take, true, zero, ℕ, ◌&&◌, ◌++◌, ◌+◌, ◌<◌, ◌==◌, ◌||◌, ◌∙◌, ◌∷◌}
use Rattle.{std.{proofs.{Common.{◌≡◌}, Math.Bool.{or_assoc}, lemmas.List.{take_more}}, specs.Ordering.{eq_by_cmp, nat_cmp}}, fx_base.specs.Lists.{In}}
use Rattle.{fx_base.proofs.{Orders.{eq_by_nat_cmp, is_eq-then}, Tests.{cond_true_first, or_and_join}}, row_delta.specs.declared.row.Row.{Row}}
use Rattle.{row_delta.specs.{RowOrder.{same_equiv}, Rows.{has, row_cmp}}, rule_model.specs.{declared.matched.Match.{Match}, Matches.{has_match, match_cmp}}}
use Rattle.{rete_net.specs.declared.changes.RuleChange.{RuleChange}, image_making.specs.Loads.{comes_by}}

-- ---- turns over a slice

pub next_taken : {A : Type 0} (xs : List A) (i : ℕ) (x : A) → i < length xs → x ≡ get_or xs i x → take (i + 1) xs ≡ take i xs ++ x ∷ []
next_taken xs i x below is = take_more xs i x below ∙ ap (λ y. take i xs ++ y ∷ []) (sym is)

pub in_at : {A : Type 0} (xs : List A) (i : ℕ) (x : A) → i < length xs → x ≡ get_or xs i x → In x xs
in_at [] i x below is = absurd (omega (arith, below))
in_at (y ∷ xs) zero x below is = inl is
in_at (y ∷ xs) (suc i) x below is = inr (in_at xs i x (omega (arith, below)) is)

-- ---- turns over matches

-- a match is another by its rule and its row
parts : (n q : Match) → eq_by_cmp match_cmp n q ≡ (n.rule.0 == q.rule.0 && eq_by_cmp row_cmp q.row n.row)
parts n q =
    is_eq-then (nat_cmp n.rule.0 q.rule.0) (row_cmp n.row q.row)
    ∙ ap (λ b. b && eq_by_cmp row_cmp n.row q.row) (eq_by_nat_cmp n.rule.0 q.rule.0)
    ∙ ap (λ b. n.rule.0 == q.rule.0 && b) (same_equiv.symm n.row q.row)

-- one row more is in the set, and no longer to come
pub one_added : (now new : List Match) (n : Match) (rest : List Row) → ((q : Match) → has_match new q ≡ cond (eq_by_cmp match_cmp n q) true (has_match now q))
    → (q : Match) → (has_match new q || (n.rule.0 == q.rule.0 && has rest q.row)) ≡ (has_match now q || (n.rule.0 == q.rule.0 && has (n.row ∷ rest) q.row))
one_added now new n rest put q =
    ap (λ b. b || (n.rule.0 == q.rule.0 && has rest q.row))
    (put q ∙ cond_true_first (has_match now q) (eq_by_cmp match_cmp n q) ∙ ap (λ b. has_match now q || b) (parts n q))
    ∙ or_and_join (has_match now q) (n.rule.0 == q.rule.0) (eq_by_cmp row_cmp q.row n.row) (has rest q.row)

-- the rows of one change more are in the set
pub one_come : (now new : List Match) (c : RuleChange) (rest : List RuleChange)
    → ((m : Match) → has_match new m ≡ (has_match now m || (c.rule.0 == m.rule.0 && has c.delta.come m.row)))
    → (m : Match) → (has_match new m || comes_by rest m) ≡ (has_match now m || comes_by (c ∷ rest) m)
one_come now new c rest put m =
    ap (λ b. b || comes_by rest m) (put m) ∙ or_assoc (has_match now m) (c.rule.0 == m.rule.0 && has c.delta.come m.row) (comes_by rest m)
