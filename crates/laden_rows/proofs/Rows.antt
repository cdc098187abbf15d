-- The rows of kept facts, with the extras, are the rows of all facts that name kept ones alone.
use Rattle.laden_rows.proofs.Common.{◌≡◌, ◌∙◌, ◌&&◌, ◌||◌, not, ℕ, zero, suc, ◌+◌, ℤ, Bool, true, false, List, [], ◌∷◌, ◌++◌, map, length, inl, inr, Option}
use Rattle.laden_rows.proofs.Common.{Some, None, refl, sym, ap, subst, arith, take, filter, is_some, tells_apart, In, Fact, HaveSame, Extra, Named, Row}
use Rattle.laden_rows.proofs.Common.{row_exact, Condition, Negated, Existing, Folded, Plain, Pattern, Program, Rule, candidates, HaveDistinctTags, argument}
use Rattle.laden_rows.proofs.Common.{pattern_of, binds, Snapshot, floor, name_of, Bindings, of_filter, in_filter, passed, same_length, same_values, joins}
use Rattle.laden_rows.proofs.Common.{clean, cleaned, NameHeld, rows_of, candidates_of, held, partners_once, valued_clean, asked_first, held_known}
use Rattle.laden_rows.proofs.Common.{joining_alike, row_alike, list_any-In, list_any-from, lost_partners, AreExtras, extra_values_of, count_of, extra_at}
use Rattle.laden_rows.proofs.Common.{AreOwners, IsKeptOf, laden_line, laden_with, joined, or_left, or_right, is_result, line, is_empty_row, empty_row}
use Rattle.laden_rows.{proofs.{Common.{same_test}, Extras.{to_extra, of_extra, extra_values, extra_count}}, specs.Laden.{laden_gives, laden}}
use Rattle.laden_rows.proofs.{Gathered.{parted_values}, Kept.{known, to_kept, from_kept, candidates_kept, joins_same, partners_kept, partners_once_kept}}
use Rattle.{std.{specs.Prelude.{slice_get}, proofs.lemmas.List.Filters.{length-filter_both}}, rule_model.specs.{Rows.{rows}, Tests.{results_hold}}}
use Rattle.rule_model.{specs.{declared.condition.Accumulate.{Accumulate}, Lent.{bound_in}}, proofs.{Listed.{in_map, of_map}, RuleOf.{in_place}}}
use Rattle.{rule_model.{proofs.{Firsts.{or_split}, Floors.{same_floor}}, specs.Maturity.{is_mature}}, condition_rows.specs.Sets.{has_partner, partners}}
use Rattle.{condition_rows.{specs.Lines.{gives, is_ripe}, proofs.{Naming.{rows_named}, Whole.{one_more}}}, fold_fn.proofs.ResultLemmas.{result_same}}
use Rattle.{fold_fn.specs.Results.{fold_result}, join_memory.proofs.{Moving.{named_alike}, Worlds.{joined_clean}}}
use mathlib.Core.Path.{fun_ext}

-- ---- the first conditions of a list

none_more : {A : Type 0} (n : ℕ) (xs : List A) → slice_get xs n ≡ None → take (suc n) xs ≡ take n xs
none_more zero [] e = refl
none_more (suc n) [] e = refl
none_more zero (x ∷ xs) e = absurd cc
none_more (suc n) (x ∷ xs) e = ap (λ zs. x ∷ zs) (none_more n xs e)

one_at_end : {A : Type 0} (n : ℕ) (xs : List A) (x : A) → slice_get xs n ≡ Some x → take (suc n) xs ≡ take n xs ++ x ∷ []
one_at_end zero [] x e = absurd cc
one_at_end (suc n) [] x e = absurd cc
one_at_end zero (y ∷ xs) x e = let same : y ≡ x = cc in ap (λ z. z ∷ []) same
one_at_end (suc n) (y ∷ xs) x e = ap (λ zs. y ∷ zs) (one_at_end n xs x e)

-- ---- some candidate joins a row

partner_there : (p : Program) (q : Pattern) (s : Snapshot) (row : Row) → has_partner p q s row ≡ true → (f : Fact) × In f (candidates p q s) × (joins q (held s) row (name_of f) ≡ true)
unfolding has_partner
partner_there p q s row e =
    let n = list_any-In (joins q (held s) row) (map name_of (candidates p q s)) e in
    let f = of_map name_of n.0 (candidates p q s) n.1 in
    (f.0, f.1, ap (joins q (held s) row) f.2 ∙ n.2)

there_partner : (p : Program) (q : Pattern) (s : Snapshot) (row : Row) (f : Fact) → In f (candidates p q s) → joins q (held s) row (name_of f) ≡ true → has_partner p q s row ≡ true
unfolding has_partner
there_partner p q s row f i e = list_any-from (joins q (held s) row) (name_of f) (map name_of (candidates p q s)) (in_map name_of f (candidates p q s) i) e

-- the forgotten ones of them
pub lost_in : (p : Program) (q : Pattern) (s : Snapshot) (forgotten : Named → Bool) (row : Row) (f : Fact) → In f (candidates p q s) → joins q (held s) row (name_of f) ≡ true → forgotten (name_of f) ≡ true
    → In f (lost_partners p s forgotten q row)
unfolding partners
lost_in p q s forgotten row f i e h =
    in_filter (λ (g : Fact). forgotten (name_of g)) f (partners p q s row) h (in_filter (λ (g : Fact). joins q (held s) row (name_of g)) f (candidates p q s) e i)

pub in_lost : (p : Program) (q : Pattern) (s : Snapshot) (forgotten : Named → Bool) (row : Row) (f : Fact) → In f (lost_partners p s forgotten q row)
    → In f (candidates p q s) × (joins q (held s) row (name_of f) ≡ true)
unfolding partners
in_lost p q s forgotten row f i =
    let j = of_filter (λ (g : Fact). forgotten (name_of g)) f (partners p q s row) i in
    (of_filter (λ (g : Fact). joins q (held s) row (name_of g)) f (candidates p q s) j, passed (λ (g : Fact). joins q (held s) row (name_of g)) f (candidates p q s) j)

module _ (p : Program) (s t : Snapshot) (forgotten : Named → Bool) (extras : List Extra) (owners : ℕ → ℕ → ℕ)
    (d : HaveDistinctTags s.facts) (of : IsKeptOf p s forgotten t) (are : AreExtras p s forgotten extras) (own : AreOwners p owners)
    (place : ℕ) (rule : Rule) (stands : slice_get p.rules place ≡ Some rule) where
  in_rules : In rule p.rules
  in_rules = in_place p.rules place rule stands

  abbrev rows_before : ℕ → Row → Bool
  rows_before k = rows_of p s (take k rule.conditions)

  abbrev beyond : ℕ → Row → Option Extra
  beyond k row = extra_at extras (owners place k) k row

  names : (k : ℕ) → NameHeld s (rows_before k)
  names k = rows_named p s d (take k rule.conditions)

  -- ---- what a row has bound

  abbrev looking : (ℕ → Option Fact) → Row → Bindings
  looking facts row = record { fact = facts; result = slice_get row.values }

  bound_kept : (k : ℕ) (q : Pattern) (row : Row) → cleaned (rows_before k) forgotten row ≡ true → bound_in (held t) row ≡ bound_in (held s) row
  bound_kept k q row is =
      ap (λ facts. looking facts row)
      (fun_ext (named_alike (held t) (held s) row.facts (row_alike (held t) (held s) s forgotten (known p s t forgotten d of) (held_known s forgotten) p q (rows_before k) (names k) row is)))

  module _ (k : ℕ) (c : Condition) (at_k : slice_get rule.conditions k ≡ Some c) where
    -- ---- whether a candidate joins

    partner_kept : binds c ≡ false → (row : Row) → cleaned (rows_before k) forgotten row ≡ true
        → (has_partner p (pattern_of c) t row || is_some (beyond k row)) ≡ has_partner p (pattern_of c) s row
    partner_kept aside row is = same_test (has_partner p (pattern_of c) t row || is_some (beyond k row)) (has_partner p (pattern_of c) s row) to from
      where
        to : (has_partner p (pattern_of c) t row || is_some (beyond k row)) ≡ true → has_partner p (pattern_of c) s row ≡ true
        to e = elim (or_split (has_partner p (pattern_of c) t row) (is_some (beyond k row)) e) [
          | inl h ↦
              (let f = partner_there p (pattern_of c) t row h in
              let kept = from_kept p s t forgotten d of rule in_rules k c at_k f.0 f.1 in
              there_partner p (pattern_of c) s row f.0 kept.0 (sym (joins_same p s t forgotten d of rule in_rules k c at_k (rows_before k) (names k) row is f.0 kept.0 kept.1) ∙ f.2))
          | inr h ↦
              (let f = of_extra p s forgotten extras are owners own place rule stands k c at_k aside row is h in
              let j = in_lost p (pattern_of c) s forgotten row f.0 f.1 in
              there_partner p (pattern_of c) s row f.0 j.0 j.1)
        ]

        by : (f : Fact) → In f (candidates p (pattern_of c) s) → joins (pattern_of c) (held s) row (name_of f) ≡ true → (b : Bool) → forgotten (name_of f) ≡ b → (has_partner p (pattern_of c) t row || is_some (beyond k row)) ≡ true
        by f i e true h =
            or_right (has_partner p (pattern_of c) t row) (is_some (beyond k row)) (to_extra p s forgotten extras are owners own place rule stands k c at_k aside row is f (lost_in p (pattern_of c) s forgotten row f i e h))
        by f i e false h =
            or_left (has_partner p (pattern_of c) t row) (is_some (beyond k row))
            (there_partner p (pattern_of c) t row f (to_kept p s t forgotten d of rule in_rules k c at_k f i h) (joins_same p s t forgotten d of rule in_rules k c at_k (rows_before k) (names k) row is f i h ∙ e))

        from : has_partner p (pattern_of c) s row ≡ true → (has_partner p (pattern_of c) t row || is_some (beyond k row)) ≡ true
        from e = let f = partner_there p (pattern_of c) s row e in by f.0 f.1 f.2 (forgotten (name_of f.0)) refl

    ripe_kept : (row : Row) → cleaned (rows_before k) forgotten row ≡ true → is_ripe p (pattern_of c) t row ≡ is_ripe p (pattern_of c) s row
    unfolding is_ripe
    ripe_kept row is =
        ap (λ bound. is_mature p (pattern_of c) bound (floor p t (pattern_of c).entry.0)) (bound_kept k (pattern_of c) row is)
        ∙ ap (is_mature p (pattern_of c) (bound_in (held s) row)) (same_floor p t s (pattern_of c).entry.0 of.clock of.reached)

    -- ---- how many candidates join

    pub counted_kept : binds c ≡ false → (row : Row) → cleaned (rows_before k) forgotten row ≡ true
        → length (partners p (pattern_of c) t row) + count_of (beyond k row) ≡ length (partners p (pattern_of c) s row)
    counted_kept aside row is =
        let q = pattern_of c in
        let kept = filter (λ (f : Fact). not (forgotten (name_of f))) (partners p q s row) in
        let here : length (partners p q t row) ≡ length kept =
        same_length (partners p q t row) kept (partners_once p t of.tags q row)
        (partners_once_kept p s t forgotten d of rule in_rules k c at_k (rows_before k) (names k) row is)
        (partners_kept p s t forgotten d of rule in_rules k c at_k (rows_before k) (names k) row is) in
        let lost : count_of (beyond k row) ≡ length (lost_partners p s forgotten q row) = extra_count p s forgotten extras are owners own place rule stands k c at_k aside row is in
        let all : length (lost_partners p s forgotten q row) + length kept ≡ length (partners p q s row) =
        length-filter_both (λ (f : Fact). forgotten (name_of f)) (λ (f : Fact). not (forgotten (name_of f))) (λ f. refl) (partners p q s row) in
        omega (arith, here, lost, all)

  -- ---- what an accumulate gives

  module _ (k : ℕ) (a : Accumulate) (at_k : slice_get rule.conditions k ≡ Some (Folded a)) (row : Row) (is : cleaned (rows_before k) forgotten row ≡ true) where
    abbrev given : Fact → ℤ
    given = argument a.arg

    -- the values of the candidates and those of the extra are, in some order, those of all candidates
    pub gathered_kept : HaveSame (map given (partners p a.pattern t row) ++ extra_values_of (beyond k row)) (map given (partners p a.pattern s row))
    gathered_kept =
        subst (λ more. HaveSame (map given (partners p a.pattern t row) ++ more) (map given (partners p a.pattern s row)))
        (sym (extra_values p s forgotten extras are owners own place rule stands k (Folded a) at_k refl row is))
        (parted_values given (λ (f : Fact). forgotten (name_of f)) (partners p a.pattern t row) (partners p a.pattern s row)
        (same_values given (partners p a.pattern t row) _ (partners_once p t of.tags a.pattern row)
        (partners_once_kept p s t forgotten d of rule in_rules k (Folded a) at_k (rows_before k) (names k) row is)
        (partners_kept p s t forgotten d of rule in_rules k (Folded a) at_k (rows_before k) (names k) row is)))

    values_kept : fold_result a.kind (map given (partners p a.pattern t row) ++ extra_values_of (beyond k row)) ≡ fold_result a.kind (map given (partners p a.pattern s row))
    values_kept = result_same a.kind _ (map given (partners p a.pattern s row)) gathered_kept

    gives_kept : (v : ℤ) → laden_gives p a t (extra_values_of (beyond k row)) row v ≡ gives p a s row v
    unfolding laden_gives gives
    gives_kept v =
        ap (λ o. is_result o v && results_hold (bound_in (held t) row) v a.tests) values_kept
        ∙ ap (λ bound. is_result (fold_result a.kind (map given (partners p a.pattern s row))) v && results_hold bound v a.tests) (bound_kept k a.pattern row is)

  -- ---- one condition more

  line_kept : (k : ℕ) (c : Condition) → slice_get rule.conditions k ≡ Some c → (row : Row)
      → laden_line p t (beyond k) c (cleaned (rows_before k) forgotten) row ≡ cleaned (line p s c (rows_before k)) forgotten row
  line_kept k (Plain q) at_k row =
      ap (λ (right : Named → Bool). joined (joins q (held t)) (cleaned (rows_before k) forgotten) right row)
      (fun_ext (candidates_kept p s t forgotten d of rule in_rules k (Plain q) at_k))
      ∙ joined_clean (joins q (held s)) (joins q (held t)) (rows_before k) (candidates_of p q s) forgotten
      (joining_alike (held t) (held s) s forgotten (known p s t forgotten d of) (held_known s forgotten) p q (rows_before k) (names k)) row
  line_kept k (Negated q) at_k row =
      asked_first (rows_before k row) (clean forgotten row) (not (has_partner p q t row || is_some (beyond k row)) && is_ripe p q t row) (not (has_partner p q s row) && is_ripe p q s row)
      (λ is. ap (λ b. not b && is_ripe p q t row) (partner_kept k (Negated q) at_k refl row is) ∙ ap (λ b. not (has_partner p q s row) && b) (ripe_kept k (Negated q) at_k row is))
  line_kept k (Existing q) at_k row =
      asked_first (rows_before k row) (clean forgotten row) (has_partner p q t row || is_some (beyond k row)) (has_partner p q s row) (partner_kept k (Existing q) at_k refl row)
  line_kept k (Folded a) at_k row =
      valued_clean (rows_before k) forgotten (λ left v. laden_gives p a t (extra_values_of (beyond k left)) left v) (gives p a s) (λ left v is. gives_kept k a at_k left is v) row

  -- ---- conditions one after the other

  laden_next : (k : ℕ) (o : Option Condition) → slice_get rule.conditions k ≡ o → (left : Row → Bool) → left ≡ cleaned (rows_before k) forgotten → (row : Row)
      → laden_with p t (beyond k) o left row ≡ cleaned (rows_before (suc k)) forgotten row
  laden_next k None at_k left is row = ap (λ set. set row) is ∙ ap (λ cs. cleaned (rows_of p s cs) forgotten row) (sym (none_more k rule.conditions at_k))
  laden_next k (Some c) at_k left is row =
      ap (λ set. laden_line p t (beyond k) c set row) is
      ∙ line_kept k c at_k row
      ∙ ap (λ b. b && clean forgotten row) (sym (one_more p s d (take k rule.conditions) c row))
      ∙ ap (λ cs. cleaned (rows_of p s cs) forgotten row) (sym (one_at_end k rule.conditions c at_k))

  pub laden_rows : (n : ℕ) (row : Row) → laden p t extras (owners place) rule.conditions n row ≡ cleaned (rows_before n) forgotten row
  unfolding laden rows
  laden_rows zero row = of_nothing (is_empty_row row) refl
    where
      of_nothing : (b : Bool) → is_empty_row row ≡ b → b ≡ ((b || false) && clean forgotten row)
      of_nothing true e = sym (ap (clean forgotten) (tells_apart row_exact row empty_row e))
      of_nothing false e = refl
  laden_rows (suc n) row = laden_next n (slice_get rule.conditions n) refl (laden p t extras (owners place) rule.conditions n) (fun_ext (laden_rows n)) row
