-- What the extras of a snapshot say of one condition at one row.
use Rattle.laden_rows.proofs.Common.{◌≡◌, ◌∙◌, ◌&&◌, ◌==◌, ◌<◌, ℕ, zero, suc, Bool, true, false, List, [], ◌∷◌, length, cond, inl, inr, Option, Some, None}
use Rattle.laden_rows.proofs.Common.{refl, sym, ap, subst, arith, take, find, is_some, tells_apart, In, Fact, Extra, Named, Row, row_exact, same_equiv}
use Rattle.laden_rows.proofs.Common.{Condition, Negated, Existing, Folded, Plain, Program, Rule, pattern_of, binds, Snapshot, clean, cleaned, rows_of}
use Rattle.laden_rows.proofs.Common.{lost_partners, values_gathered, AreExtras, IsFirstWith, extra_values_of, count_of, extra_at, AreOwners, is_extra_at}
use Rattle.{laden_rows.proofs.Common.{and_from, and_parts, eq-eqb, eqb-true, is_some-cond}, std.specs.{Prelude.{slice_get}, Ordering.{eq_by_cmp}}}
use Rattle.{std.proofs.lemmas.Option.{slice_get_within}, row_delta.specs.Rows.{row_cmp}}

-- ---- what is found

found_in_if : {A : Type 0} (b : Bool) (test : A → Bool) (x y : A) (xs : List A) (rest : Option A) → test x ≡ b → (rest ≡ Some y → In y xs × (test y ≡ true)) → cond b (Some x) rest ≡ Some y
    → In y (x ∷ xs) × (test y ≡ true)
found_in_if true test x y xs rest is later e = let same : x ≡ y = cc in (inl (sym same), ap test (sym same) ∙ is)
found_in_if false test x y xs rest is later e = let r = later e in (inr r.0, r.1)

pub found_in : {A : Type 0} (test : A → Bool) (xs : List A) (y : A) → find test xs ≡ Some y → In y xs × (test y ≡ true)
found_in test [] y e = absurd cc
found_in test (x ∷ xs) y e = found_in_if (test x) test x y xs (find test xs) refl (found_in test xs y) e

some_if : {A : Type 0} (b : Bool) (x : A) (rest : Option A) → b ≡ true → is_some (cond b (Some x) rest) ≡ true
some_if true x rest e = refl
some_if false x rest e = absurd (let n : false ≡ true = e in cc)

pub finds : {A : Type 0} (test : A → Bool) (xs : List A) (y : A) → In y xs → test y ≡ true → is_some (find test xs) ≡ true
finds test [] y i e = absurd i
finds test (x ∷ xs) y (inl h) e = some_if (test x) x (find test xs) (ap test (sym h) ∙ e)
finds test (x ∷ xs) y (inr i) e = is_some-cond (test x) x (find test xs) (finds test xs y i e)

-- ---- lists that begin alike

fewer : {A : Type 0} (n : ℕ) (xs : List A) → take n (take (suc n) xs) ≡ take n xs
fewer zero xs = refl
fewer (suc n) [] = refl
fewer (suc n) (x ∷ xs) = ap (λ zs. x ∷ zs) (fewer n xs)

at_last : {A : Type 0} (n : ℕ) (xs : List A) → slice_get (take (suc n) xs) n ≡ slice_get xs n
at_last n [] = refl
at_last zero (x ∷ xs) = refl
at_last (suc n) (x ∷ xs) = at_last n xs

pub begin_fewer : {A : Type 0} (n : ℕ) (xs ys : List A) → take (suc n) xs ≡ take (suc n) ys → take n xs ≡ take n ys
begin_fewer n xs ys e = sym (fewer n xs) ∙ ap (take n) e ∙ fewer n ys

pub last_alike : {A : Type 0} (n : ℕ) (xs ys : List A) → take (suc n) xs ≡ take (suc n) ys → slice_get xs n ≡ slice_get ys n
last_alike n xs ys e = sym (at_last n xs) ∙ ap (λ zs. slice_get zs n) e ∙ at_last n ys

more_than_none : {A : Type 0} (x : A) (xs : List A) → In x xs → 0 < length xs
more_than_none x [] i = absurd i
more_than_none x (y ∷ xs) i = omega arith

pub first_of_some : {A : Type 0} (xs : List A) → 0 < length xs → (x : A) × In x xs
first_of_some [] h = absurd (omega arith)
first_of_some (x ∷ xs) h = (x, inl refl)

-- ---- one condition that binds no fact, at a row that names kept facts alone

module _ (p : Program) (s : Snapshot) (forgotten : Named → Bool) (extras : List Extra) (are : AreExtras p s forgotten extras) (owners : ℕ → ℕ → ℕ) (own : AreOwners p owners)
    (place : ℕ) (rule : Rule) (stands : slice_get p.rules place ≡ Some rule) (k : ℕ) (c : Condition) (at_k : slice_get rule.conditions k ≡ Some c) (aside : binds c ≡ false) where
  abbrev owner : ℕ
  owner = owners place k

  first : IsFirstWith p (suc k) rule.conditions owner
  first = own place k rule stands (slice_get_within rule.conditions k c at_k)

  abbrev lost : Row → List Fact
  lost row = lost_partners p s forgotten (pattern_of c) row

  -- what an extra says of this condition at a row
  pub record Says (row : Row) (e : Extra) : Type 0 where
    pub some : 0 < e.count
    pub counted : e.count ≡ length (lost row)
    pub gathered : e.values ≡ values_gathered c (lost row)

  placed : slice_get first.rule.conditions k ≡ Some c
  placed = last_alike k first.rule.conditions rule.conditions first.begins ∙ at_k

  says : (row : Row) (e : Extra) → In e extras → is_extra_at owner k row e ≡ true → Says row e
  says row e i h =
      let x = (are.exact e).0 i in
      let of_rule = and_parts (e.rule.0 == owner) (e.condition == k && eq_by_cmp row_cmp e.row row) h in
      let of_row = and_parts (e.condition == k) (eq_by_cmp row_cmp e.row row) of_rule.1 in
      let number : e.rule.0 ≡ owner = eqb-true e.rule.0 owner of_rule.0 in
      let place_is : e.condition ≡ k = eqb-true e.condition k of_row.0 in
      let row_is : e.row ≡ row = tells_apart row_exact e.row row of_row.1 in
      let same_rule : Some x.rule ≡ Some first.rule = sym x.stands ∙ ap (slice_get p.rules) number ∙ first.stands in
      let rule_is : x.rule ≡ first.rule = cc in
      let same_condition : Some x.condition ≡ Some c = sym x.placed ∙ ap (λ (r : Rule). slice_get r.conditions e.condition) rule_is ∙ ap (slice_get first.rule.conditions) place_is ∙ placed in
      let condition_is : x.condition ≡ c = cc in
      record {
        some = x.some;
        counted = x.counted ∙ ap (λ (z : Condition). length (lost_partners p s forgotten (pattern_of z) e.row)) condition_is ∙ ap (λ (r : Row). length (lost r)) row_is;
        gathered = x.gathered ∙ ap (λ (z : Condition). values_gathered z (lost_partners p s forgotten (pattern_of z) e.row)) condition_is ∙ ap (λ (r : Row). values_gathered c (lost r)) row_is;
      }

  abbrev extra_of : Row → Extra
  extra_of row = record { rule = record { 0 = owner }; condition = k; row = row; count = length (lost row); values = values_gathered c (lost row) }

  module _ (row : Row) (is : cleaned (rows_of p s (take k rule.conditions)) forgotten row ≡ true) where
    is_one : (f : Fact) → In f (lost row) → In (extra_of row) extras
    is_one f i =
        let parts = and_parts (rows_of p s (take k rule.conditions) row) (clean forgotten row) is in
        (are.exact (extra_of row)).1 (record {
          rule = first.rule;
          stands = first.stands;
          condition = c;
          placed = placed;
          aside = aside;
          first = record { rule = first.rule; stands = first.stands; begins = refl; earlier = λ j other less at_j e. first.earlier j other less at_j (e ∙ first.begins) };
          there = ap (λ cs. rows_of p s cs row) (begin_fewer k first.rule.conditions rule.conditions first.begins) ∙ parts.0;
          kept = parts.1;
          some = more_than_none f (lost row) i;
          counted = refl;
          gathered = refl;
        })

    is_found : is_extra_at owner k row (extra_of row) ≡ true
    is_found = and_from (owner == owner) (k == k && eq_by_cmp row_cmp row row) (eq-eqb owner owner refl) (and_from (k == k) (eq_by_cmp row_cmp row row) (eq-eqb k k refl) (same_equiv.refl row))

    -- an extra is found where some forgotten candidate joins the row
    pub to_extra : (f : Fact) → In f (lost row) → is_some (extra_at extras owner k row) ≡ true
    to_extra f i = finds (is_extra_at owner k row) extras (extra_of row) (is_one f i) is_found

    pub of_extra : is_some (extra_at extras owner k row) ≡ true → (f : Fact) × In f (lost row)
    of_extra e = by (extra_at extras owner k row) refl e
      where
        by : (o : Option Extra) → extra_at extras owner k row ≡ o → is_some o ≡ true → (f : Fact) × In f (lost row)
        by None at e = absurd cc
        by (Some x) at e =
            let i = found_in (is_extra_at owner k row) extras x at in
            let told = says row x i.0 i.1 in
            first_of_some (lost row) (subst (λ n. 0 < n) told.counted told.some)

    -- what it gathers is what is gathered of them
    pub extra_values : extra_values_of (extra_at extras owner k row) ≡ values_gathered c (lost row)
    extra_values = by (extra_at extras owner k row) refl
      where
        none : (fs : List Fact) → ((f : Fact) → In f fs → ⊥) → values_gathered c fs ≡ values_gathered c []
        none [] h = refl
        none (f ∷ fs) h = absurd (h f (inl refl))

        gathers_nothing : (z : Condition) → values_gathered z [] ≡ []
        gathers_nothing (Plain q) = refl
        gathers_nothing (Negated q) = refl
        gathers_nothing (Existing q) = refl
        gathers_nothing (Folded a) = refl

        by : (o : Option Extra) → extra_at extras owner k row ≡ o → extra_values_of o ≡ values_gathered c (lost row)
        by None at = sym (none (lost row) (λ f i. let n : false ≡ true = ap is_some (sym at) ∙ to_extra f i in absurd cc) ∙ gathers_nothing c)
        by (Some x) at = let i = found_in (is_extra_at owner k row) extras x at in (says row x i.0 i.1).gathered

    -- it counts them
    pub extra_count : count_of (extra_at extras owner k row) ≡ length (lost row)
    extra_count = by (extra_at extras owner k row) refl
      where
        none : (fs : List Fact) → ((f : Fact) → In f fs → ⊥) → 0 ≡ length fs
        none [] h = refl
        none (f ∷ fs) h = absurd (h f (inl refl))

        by : (o : Option Extra) → extra_at extras owner k row ≡ o → count_of o ≡ length (lost row)
        by None at = none (lost row) (λ f i. let n : false ≡ true = ap is_some (sym at) ∙ to_extra f i in absurd cc)
        by (Some x) at = let i = found_in (is_extra_at owner k row) extras x at in (says row x i.0 i.1).counted
