-- The rows of the node of an accumulate, and the facts over which its function goes.
use Rattle.beta_node.proofs.Common.{◌≡◌, ◌∙◌, sym, ap, refl, cond, map, ℤ, int_eq, slice_get, ℕ, List, [], ◌∷◌, Bool, true, false, ◌&&◌, ◌||◌, Option, Some}
use Rattle.beta_node.proofs.Common.{None, if◌then◌else◌, fun_ext, eq_by_cmp, EachOnce, Fact, name_cmp, Named, Row, Accumulate, Folded, Pattern, Program}
use Rattle.beta_node.proofs.Common.{HaveDistinctTags, Holds, bound_in, Snapshot, name_of, Bindings, one_fact, once_map, Look, joins, has_name, cleaned, AlikeOn}
use Rattle.beta_node.proofs.Common.{without_value, shows_value, name_decides, AreDistinct, result_for, tested, is_result, all_passing, shown, line, HasAllOf}
use Rattle.beta_node.proofs.Common.{NameHeld, held, candidates_of, held_all, candidates_named, FoldNode, FoldsFor, filter, Decides-int_eq, result_of}
use Rattle.beta_node.proofs.Common.{named_alike, gathered_shown, false_from_ne_true, results_hold, name_in, held_known, row_alike, and_implied, or_and_excluded}
use Rattle.{beta_node.proofs.Common.{or_and_implied, partner_in, partners_once, valued_clean}, condition_rows.specs.Lines.{is_result as is_given, gives}}
use Rattle.{condition_rows.specs.Sets.{partners}, rule_model.specs.Candidates.{candidates}}

pub distinct : (names : List Named) → EachOnce names → AreDistinct names
distinct [] once = tt
distinct (n ∷ names) once = (false_from_ne_true (has_name names n) (λ e. once.0 (name_in n names e)), distinct names once.1)

module _ (test : Named → Bool) (who : Named) where
  named_step : (b : Bool) (f : Fact) (kept : List Fact) (h : Bool) → test (name_of f) ≡ b → has_name (map name_of kept) who ≡ (h && test who)
      → has_name (map name_of (cond b (f ∷ kept) kept)) who ≡ ((eq_by_cmp name_cmp who (name_of f) || h) && test who)
  named_step true f kept h is rest =
      ap (λ b. eq_by_cmp name_cmp who (name_of f) || b) rest
      ∙ or_and_implied (eq_by_cmp name_cmp who (name_of f)) h (test who) (λ e. ap test ((name_decides who (name_of f)).0 e) ∙ is)
  named_step false f kept h is rest =
      rest ∙ or_and_excluded (eq_by_cmp name_cmp who (name_of f)) h (test who) (λ e. ap test ((name_decides who (name_of f)).0 e) ∙ is)

  -- the names of the facts whose names pass a test are the names that pass it
  pub named_where : (facts : List Fact) → has_name (map name_of (filter (λ (f : Fact). test (name_of f)) facts)) who ≡ (has_name (map name_of facts) who && test who)
  named_where [] = refl
  named_where (f ∷ facts) = named_step (test (name_of f)) f (filter (λ (f : Fact). test (name_of f)) facts) (has_name (map name_of facts) who) refl (named_where facts)

module _ (p : Program) (s : Snapshot) (tags : HaveDistinctTags s.facts) (q : Pattern) (row : Row) where
  pub partners_held : Holds (held s) (partners p q s row)
  partners_held = held_all s tags (partners p q s row) (partner_in p s tags q row)

  pub partners_distinct : AreDistinct (map name_of (partners p q s row))
  partners_distinct =
      distinct (map name_of (partners p q s row))
      (once_map name_of (partners p q s row) (partners_once p s tags q row) (λ f g i j e. one_fact s.facts tags f g (partner_in p s tags q row f i) (partner_in p s tags q row g j) (ap (λ (n : Named). n.tag) e)))

  pub partners_named : (who : Named) → has_name (map name_of (partners p q s row)) who ≡ all_passing (joins q (held s)) (candidates_of p q s) row who
  unfolding partners
  partners_named who =
      named_where (joins q (held s) row) who (candidates p q s) ∙ ap (λ b. b && joins q (held s) row who) (candidates_named p s tags q who)

-- ---- the result
abbrev looking : (ℕ → Option Fact) → Row → Bindings
looking facts row = record { fact = facts; result = slice_get row.values }

bound_alike : (look other : Look) (row : Row) → AlikeOn look other row.facts → bound_in look row ≡ bound_in other row
bound_alike look other row h = ap (λ facts. looking facts row) (fun_ext (named_alike look other row.facts h))

none_of_one : (e r : Bool) → (e ≡ true → r ≡ false) → false ≡ (e && r)
none_of_one true r h = sym (h refl)
none_of_one false r h = refl

tested_given : (a : Accumulate) (bound : Bindings) (o : Option ℤ) (v : ℤ) → is_result (tested a bound o) v ≡ (is_given o v && results_hold bound v a.tests)
tested_given a bound None v = refl
tested_given a bound (Some n) v = by (results_hold bound n a.tests) refl
  where
    same : int_eq n v ≡ true → results_hold bound v a.tests ≡ results_hold bound n a.tests
    same e = ap (λ n. results_hold bound n a.tests) (sym ((Decides-int_eq n v).0 e))

    by : (b : Bool) → results_hold bound n a.tests ≡ b → is_result (if b then Some n else None) v ≡ (int_eq n v && results_hold bound v a.tests)
    by true h = and_implied (int_eq n v) (results_hold bound v a.tests) (λ e. same e ∙ h)
    by false h = none_of_one (int_eq n v) (results_hold bound v a.tests) (λ e. same e ∙ h)

-- ---- the rows of the node
module _ (p : Program) (look : Look) (s : Snapshot) (rows : Row → Bool) (forgotten : Named → Bool) (known : HasAllOf look s forgotten) (named : NameHeld s rows) (tags : HaveDistinctTags s.facts) where
  given_alike : (a : Accumulate) (q : Pattern) → q ≡ a.pattern → (left : Row) (v : ℤ) → cleaned rows forgotten left ≡ true
      → is_result (tested a (bound_in look left) (result_of a (partners p q s left))) v ≡ gives p a s left v
  unfolding gives
  given_alike a q is left v e =
      ap (λ bound. is_result (tested a bound (result_of a (partners p q s left))) v) (bound_alike look (held s) left (row_alike look (held s) s forgotten known (held_known s forgotten) p q rows named left e))
      ∙ ap (λ (q : Pattern). is_result (tested a (bound_in (held s) left) (result_of a (partners p q s left))) v) is
      ∙ tested_given a (bound_in (held s) left) (result_of a (partners p a.pattern s left)) v

  pub fold_shown : (fold : FoldNode) → FoldsFor p fold look s rows forgotten
      → (row : Row) → shown without_value shows_value (result_for fold.accumulate) fold.tally.memories look row ≡ cleaned (line p s (Folded fold.accumulate) rows) forgotten row
  fold_shown fold folds row =
      let a = fold.accumulate in
      let m = fold.tally.memories in
      let q = m.pattern in
      gathered_shown a m look (held s) (joins q (held s)) rows (candidates_of p q s) forgotten (partners p q s) folds.counts (partners_held p s tags q) (partners_distinct p s tags q) (partners_named p s tags q) row
      ∙ valued_clean rows forgotten (λ left v. is_result (tested a (bound_in look left) (result_of a (partners p q s left))) v) (gives p a s) (given_alike a q folds.pattern) row
