-- Snapshots with the same members at the same clock have the same matches.
use Rattle.session_model.proofs.Common.{◌≡◌, inl, inr, true, false, List, [], ◌∷◌, refl, sym, subst, eq_by_cmp, tells_apart, In, Row, has, row_cmp, row_exact}
use Rattle.session_model.proofs.Common.{same_equiv, or_split, Condition, Match, Program, Rule, matches_of, has_match, rows, HaveDistinctTags, Snapshot, AllOf}
use Rattle.{session_model.proofs.{Common.{rows_over}, Rules.{same_found}}, std.proofs.lemmas.Bool.{or_left, or_right}, fx_base.proofs.Tests.{same_test}}

in_has : (row : Row) (rs : List Row) → In row rs → has rs row ≡ true
in_has row [] i = absurd i
in_has row (other ∷ rs) (inl e) = or_left (eq_by_cmp row_cmp row other) (has rs row) (subst (λ (z : Row). eq_by_cmp row_cmp row z ≡ true) e (same_equiv.refl row))
in_has row (other ∷ rs) (inr i) = or_right (eq_by_cmp row_cmp row other) (has rs row) (in_has row rs i)

has_in : (row : Row) (rs : List Row) → has rs row ≡ true → In row rs
has_in row [] e = absurd (let n : false ≡ true = e in cc)
has_in row (other ∷ rs) e = elim (or_split (eq_by_cmp row_cmp row other) (has rs row) e) [ inl h ↦ inl (tells_apart row_exact row other h) | inr h ↦ inr (has_in row rs h) ]

module _ (p : Program) (s o : Snapshot) (clock : o.clock ≡ s.clock) (reached : o.reached ≡ s.reached) (ds : HaveDistinctTags s.facts) (dt : HaveDistinctTags o.facts) (a : AllOf o.facts s.facts) (b : AllOf s.facts o.facts) where
  same_row : (cs : List Condition) (row : Row) → has (rows p s cs) row ≡ has (rows p o cs) row
  same_row cs row =
      same_test _ _ (λ e. in_has row (rows p o cs) (rows_over p s o clock reached ds dt (λ f. (a f, b f)) cs row (has_in row (rows p s cs) e)))
      (λ e. in_has row (rows p s cs) (rows_over p o s (sym clock) (sym reached) dt ds (λ f. (b f, a f)) cs row (has_in row (rows p o cs) e)))

  -- the rules have the same rows
  pub same_rows : (rule : Rule) (row : Row) → has (rows p s rule.conditions) row ≡ has (rows p o rule.conditions) row
  same_rows rule row = same_row rule.conditions row

  pub same_matches : (rules : List Rule) (m : Match) → has_match (matches_of p s rules) m ≡ has_match (matches_of p o rules) m
  same_matches rules m = same_found (λ (rule : Rule). rows p s rule.conditions) (λ (rule : Rule). rows p o rule.conditions) same_rows rules m
