-- The candidates that join a row stand once; what is asked of clean rows is asked of the rows, and then which are clean.
use Rattle.condition_rows.proofs.Common.{◌≡◌, ◌∙◌, sym, ap, refl, ℤ, [], Bool, true, false, ◌&&◌, ◌||◌, Option, Some, None, In, EachOnce, Fact, Named, Row}
use Rattle.condition_rows.proofs.Common.{Pattern, Program, HaveDistinctTags, Snapshot, name_of, of_filter, joins, clean, cleaned, unvalued, splits_value, held}
use Rattle.{condition_rows.{proofs.Common.{is_candidate, candidates, from_unvalued}, specs.Sets.{partners}}, join_memory.specs.Valued.{valued}}
use Rattle.{std.proofs.Math.Bool.{and-false, and-true}, rule_model.proofs.Once.{once_filter, once_facts}}

module _ (p : Program) (s : Snapshot) (tags : HaveDistinctTags s.facts) (q : Pattern) (row : Row) where
  pub partner_in : (f : Fact) → In f (partners p q s row) → In f s.facts
  unfolding partners
  partner_in f i = of_filter (is_candidate p q s) f s.facts (of_filter (λ (g : Fact). joins q (held s) row (name_of g)) f (candidates p q s) i)

  pub partners_once : EachOnce (partners p q s row)
  unfolding partners
  partners_once = once_filter (λ (g : Fact). joins q (held s) row (name_of g)) (candidates p q s) (once_filter (is_candidate p q s) s.facts (once_facts s.facts tags))

-- what is asked of the clean rows is asked of the rows, and then which are clean
pub asked_first : (a k r g : Bool) → ((a && k) ≡ true → r ≡ g) → ((a && k) && r) ≡ ((a && g) && k)
asked_first true true r g h = h refl ∙ sym (and-true g)
asked_first true false r g h = sym (and-false g)
asked_first false k r g h = refl

module _ (rows : Row → Bool) (forgotten : Named → Bool) (here given : Row → ℤ → Bool) (same : (left : Row) (v : ℤ) → cleaned rows forgotten left ≡ true → here left v ≡ given left v) where
  split_clean : (row : Row) (o : Option (Row × ℤ)) → unvalued row ≡ o
      → splits_value (λ left v. cleaned rows forgotten left && here left v) o ≡ (splits_value (λ left v. rows left && given left v) o && clean forgotten row)
  split_clean row None e = refl
  split_clean row (Some r) e =
      asked_first (rows r.0) (clean forgotten r.0) (here r.0 r.1) (given r.0 r.1) (same r.0 r.1)
      ∙ ap (λ b. (rows r.0 && given r.0 r.1) && b) (sym (ap (clean forgotten) (from_unvalued row r e)))

  -- a test of what is clean and a value makes the clean rows
  pub valued_clean : (row : Row) → valued (λ left v. cleaned rows forgotten left && here left v) row ≡ cleaned (valued (λ left v. rows left && given left v)) forgotten row
  unfolding valued
  valued_clean row = split_clean row (unvalued row) refl
