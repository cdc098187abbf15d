-- Rows that name no forgotten fact, and what conditions make of them.
use Rattle.rete_net.proofs.Common.{◌≡◌, ◌∙◌, sym, ap, refl, ℤ, ◌&&◌, not, Bool, true, false, List, [], ◌∷◌, Option, Some, None, fun_ext, and-false, and_assoc}
use Rattle.rete_net.proofs.Common.{filter, list_any, Named, Row, same_equiv, has, Condition, Plain, Negated, Existing, Folded, Program, rows, Snapshot, joins}
use Rattle.rete_net.proofs.Common.{joined, clean, cleaned, either, remembered, no_names, unvalued, splits_value, row_decides, from_unvalued, joined_clean}
use Rattle.{rete_net.proofs.Common.{clean_either, gives, is_ripe, line, held, candidates_of, has_partner}, std.proofs.lemmas.Map.Made.{is_member-filter}}
use Rattle.{join_memory.specs.Valued.{valued}, fx_base.proofs.Sequences.{filter-all}}

-- ---- where nothing is forgotten

none_named : (names : List Named) → list_any no_names names ≡ false
none_named [] = refl
none_named (n ∷ names) = none_named names

clean_none : (row : Row) → clean no_names row ≡ true
clean_none row = ap not (none_named row.facts)

pub all_clean : (rows : List Row) → filter (clean no_names) rows ≡ rows
all_clean rows = filter-all (clean no_names) rows (λ row i. clean_none row)

-- ---- cleaned once more

kept_twice : (a k : Bool) → ((a && k) && k) ≡ (a && k)
kept_twice true true = refl
kept_twice true false = refl
kept_twice false k = refl

cleaned_twice : (rows : Row → Bool) (forgotten : Named → Bool) → cleaned (cleaned rows forgotten) forgotten ≡ cleaned rows forgotten
cleaned_twice rows forgotten = fun_ext (λ row. kept_twice (rows row) (clean forgotten row))

pub cleaned_either : (rows : Row → Bool) (forgotten old : Named → Bool) → cleaned rows (either forgotten old) ≡ cleaned (cleaned rows forgotten) old
cleaned_either rows forgotten old =
    fun_ext (λ row. ap (λ b. rows row && b) (clean_either forgotten old row.facts) ∙ sym (and_assoc (rows row) (clean forgotten row) (clean old row)))

-- ---- what a condition makes of clean rows, of what is clean

asked_again : (a k x : Bool) → (((a && k) && x) && k) ≡ ((a && x) && k)
asked_again true true x = refl
asked_again true false x = sym (and-false x)
asked_again false k x = refl

module _ (rows : Row → Bool) (forgotten : Named → Bool) (test : Row → ℤ → Bool) where
  valued_if : (row : Row) (o : Option (Row × ℤ)) → unvalued row ≡ o
      → (splits_value (λ left v. cleaned rows forgotten left && test left v) o && clean forgotten row) ≡ (splits_value (λ left v. rows left && test left v) o && clean forgotten row)
  valued_if row None e = refl
  valued_if row (Some r) e =
      ap (λ k. ((rows r.0 && clean forgotten r.0) && test r.0 r.1) && k) (ap (clean forgotten) (from_unvalued row r e))
      ∙ asked_again (rows r.0) (clean forgotten r.0) (test r.0 r.1)
      ∙ ap (λ k. (rows r.0 && test r.0 r.1) && k) (sym (ap (clean forgotten) (from_unvalued row r e)))

  valued_again : (row : Row) → (valued (λ left v. cleaned rows forgotten left && test left v) row && clean forgotten row) ≡ (valued (λ left v. rows left && test left v) row && clean forgotten row)
  unfolding valued
  valued_again row = valued_if row (unvalued row) refl

module _ (p : Program) (s : Snapshot) (forgotten : Named → Bool) (rows : Row → Bool) where
  line_again : (c : Condition) (row : Row) → cleaned (line p s c (cleaned rows forgotten)) forgotten row ≡ cleaned (line p s c rows) forgotten row
  line_again (Plain q) row =
      sym (joined_clean (joins q (held s)) (joins q (held s)) (cleaned rows forgotten) (candidates_of p q s) forgotten (λ r who e f. refl) row)
      ∙ ap (λ (left : Row → Bool). joined (joins q (held s)) left (remembered (candidates_of p q s) forgotten) row) (cleaned_twice rows forgotten)
      ∙ joined_clean (joins q (held s)) (joins q (held s)) rows (candidates_of p q s) forgotten (λ r who e f. refl) row
  line_again (Negated q) row = asked_again (rows row) (clean forgotten row) (not (has_partner p q s row) && is_ripe p q s row)
  line_again (Existing q) row = asked_again (rows row) (clean forgotten row) (has_partner p q s row)
  line_again (Folded a) row = valued_again rows forgotten (gives p a s) row

  pub line_cleaned : (c : Condition) → cleaned (line p s c (cleaned rows forgotten)) forgotten ≡ cleaned (line p s c rows) forgotten
  line_cleaned c = fun_ext (line_again c)

-- ---- a list of rows

pub has_clean : (rows : List Row) (forgotten : Named → Bool) → has (filter (clean forgotten) rows) ≡ cleaned (has rows) forgotten
has_clean rows forgotten = fun_ext (λ row. is_member-filter same_equiv (clean forgotten) row (λ other e. ap (clean forgotten) ((row_decides row other).0 e)) rows)
