-- The rows of conditions under other places are the rows of the conditions.
use Rattle.rule_change.proofs.Common.{◌≡◌, ◌&&◌, ◌||◌, ◌==◌, ◌<◌, ◌-ℤ◌, not, ℕ, ℤ, Bool, true, false, cond, List, [], ◌∷◌, ◌++◌, map, Option, Some, None, inl}
use Rattle.rule_change.proofs.Common.{inr, refl, sym, ◌∙◌, ap, ap₂, map-append, length-map, map-map, filter, flat_map, length, nat_lt, if◌then◌else◌, In, Fact}
use Rattle.rule_change.proofs.Common.{Row, fun_ext, Program, is_within, fits, is_behind, count_behind, is_inside, is_candidate, candidates, passes, passing}
use Rattle.rule_change.proofs.Common.{is_past, window_by_lists, start_window_at, argument, result_of, with_result, extended, tuples, Snapshot, floor_by}
use Rattle.rule_change.proofs.Common.{tests_hold, results_hold, Tuple, bound_by, unbound, empty_tuple, with_fact, with_value, row_of, name_of, is_event}
use Rattle.rule_change.proofs.{Common.{lateness_of, moved_fact, moved_pattern, moved_condition, new_entry, HasPlaces}, Places.{Moves, same_event, same_expiry}}
use Rattle.rule_change.proofs.{Places.{same_point, same_lateness, same_types, same_entries}, Tests.{moved_tuple, tests_same, times_same, results_same}}
use Rattle.{rule_change.proofs.Tests.{bounds_same}, fold_fn.specs.Results.{fold_result}, temporal_ops.specs.declared.window.Window.{Window}}
use Rattle.{row_delta.specs.declared.row.Named.{Named}, rule_model.specs.declared.condition.{Accumulate.{Accumulate}, Condition.{Condition}}}
use Rattle.rule_model.specs.declared.condition.{Condition.TheVariants.{Plain, Negated, Existing, Folded}, Pattern.{Pattern}, WindowTag.{WindowTag}}
use Rattle.rule_model.specs.{declared.condition.WindowTag.TheVariants.{Whole, Time, Length}, Candidates.{is_present}, Maturity.{is_mature}, Rows.{rows}}
use Rattle.rule_model.specs.Snapshots.{floor}

-- ---- lists

-- what a filter leaves of mapped members
pub filter_mapped : {A B : Type 0} (g : A → B) (test : A → Bool) (other : B → Bool) (xs : List A) → ((x : A) → In x xs → other (g x) ≡ test x)
    → filter other (map g xs) ≡ map g (filter test xs)
filter_mapped g test other [] same = refl
filter_mapped {A} {B} g test other (x ∷ xs) same =
    ap₂ (λ (b : Bool) (kept : List B). cond b (g x ∷ kept) kept) (same x (inl refl)) (filter_mapped g test other xs (λ y i. same y (inr i))) ∙ by (test x)
  where
    by : (b : Bool) → cond b (g x ∷ map g (filter test xs)) (map g (filter test xs)) ≡ map g (cond b (x ∷ filter test xs) (filter test xs))
    by true = refl
    by false = refl

flat_mapped : {A B C : Type 0} (g : A → B) (h : A → List C) (k : B → List C) (xs : List A) → ((x : A) → k (g x) ≡ h x) → flat_map k (map g xs) ≡ flat_map h xs
flat_mapped g h k [] same = refl
flat_mapped g h k (x ∷ xs) same = ap₂ (λ a b. a ++ b) (same x) (flat_mapped g h k xs same)

map_flat : {A B C : Type 0} (g : B → C) (h : A → List B) (xs : List A) → flat_map (λ (x : A). map g (h x)) xs ≡ map g (flat_map h xs)
map_flat g h [] = refl
map_flat g h (x ∷ xs) = ap (λ rest. map g (h x) ++ rest) (map_flat g h xs) ∙ sym (map-append g (h x) (flat_map h xs))

-- ---- facts that have the program's places

pub record HasPlace (p : Program) (f : Fact) : Type 0 where
  pub type : f.ty.0 < length p.types
  pub entry : f.entry.0 < length p.entries

module _ (p q : Program) (m : Moves p q) where
  pub present_same : (clock : ℤ) (f : Fact) → HasPlace p f → is_present q clock (moved_fact p q f) ≡ is_present p clock f
  unfolding is_present
  present_same clock f at =
      ap₂ (λ (e : Bool) (x : Option ℤ). not e || is_within x (clock -ℤ f.times.start)) (same_event p q m f.ty.0 at.type) (same_expiry p q m f.ty.0 at.type)

  alone_same : (f : Fact) (pattern : Pattern) → tests_hold unbound (moved_fact p q f) pattern.alone ≡ tests_hold unbound f pattern.alone
  alone_same f pattern = tests_same p q empty_tuple f pattern.alone

  fits_same : (pattern : Pattern) (clock : ℤ) (f : Fact) → pattern.ty.0 < length p.types → pattern.entry.0 < length p.entries → HasPlace p f
      → fits q (moved_pattern p q pattern) clock (moved_fact p q f) ≡ fits p pattern clock f
  fits_same pattern clock f ty entry at =
      ap₂ (λ (a b : Bool). a && b) (present_same clock f at)
      (ap₂ (λ (a b : Bool). a && b) (same_types p q m f.ty.0 pattern.ty.0 at.type ty)
      (ap₂ (λ (a b : Bool). a && b) (same_entries p q m f.entry.0 pattern.entry.0 at.entry entry) (alone_same f pattern)))

  pub passes_same : (pattern : Pattern) (t : Tuple) (f : Fact) → passes (moved_pattern p q pattern) (moved_tuple p q t) (moved_fact p q f) ≡ passes pattern t f
  passes_same pattern t f = ap₂ (λ (a b : Bool). a && b) (tests_same p q t f pattern.joined) (times_same p q t f.times pattern.times)

  pub arguments_same : (arg : Option ℕ) (facts : List Fact) → map (argument arg) (map (moved_fact p q) facts) ≡ map (argument arg) facts
  arguments_same arg facts = map-map (argument arg) (moved_fact p q) facts ∙ by arg
    where
      by : (arg : Option ℕ) → map (λ (f : Fact). argument arg (moved_fact p q f)) facts ≡ map (argument arg) facts
      by None = refl
      by (Some field) = refl

  result_same : (a : Accumulate) (facts : List Fact) → result_of (record a { pattern = moved_pattern p q a.pattern }) (map (moved_fact p q) facts) ≡ result_of a facts
  result_same a facts = ap (fold_result a.kind) (arguments_same a.arg facts)

  bound_more : (t : Tuple) (f : Fact) → with_fact (moved_tuple p q t) (moved_fact p q f) ≡ moved_tuple p q (with_fact t f)
  bound_more t f = ap (λ (facts : List Fact). tuple_of facts t.values) (sym (map-append (moved_fact p q) t.facts (f ∷ [])))
    where
      tuple_of : List Fact → List ℤ → Tuple
      tuple_of facts values = record { facts = facts; values = values }

  bound_mapped : (t : Tuple) (facts : List Fact) → map (with_fact (moved_tuple p q t)) (map (moved_fact p q) facts) ≡ map (moved_tuple p q) (map (with_fact t) facts)
  bound_mapped t facts =
      map-map (with_fact (moved_tuple p q t)) (moved_fact p q) facts ∙ ap (λ (h : Fact → Tuple). map h facts) (fun_ext (bound_more t)) ∙ sym (map-map (moved_tuple p q) (with_fact t) facts)

  row_same : (t : Tuple) → row_of (moved_tuple p q t) ≡ row_of t
  row_same t = ap (λ (names : List Named). row_with names t.values) (map-map name_of (moved_fact p q) t.facts)
    where
      row_with : List Named → List ℤ → Row
      row_with names values = record { facts = names; values = values }

  -- two snapshots of the same moment
  pub record AreMoved (s o : Snapshot) : Type 0 where
    pub places : (f : Fact) → In f s.facts → HasPlace p f
    pub facts : o.facts ≡ map (moved_fact p q) s.facts
    pub clock : o.clock ≡ s.clock
    pub last_starts : (entry : ℕ) → entry < length p.entries → o.reached.last_start (new_entry p q entry) ≡ s.reached.last_start entry
    pub promises : (entry : ℕ) → entry < length p.entries → o.reached.promise (new_entry p q entry) ≡ s.reached.promise entry

  module _ (s o : Snapshot) (are : AreMoved s o) where
    pub floor_same : (entry : ℕ) → entry < length p.entries → floor q o (new_entry p q entry) ≡ floor p s entry
    unfolding floor
    floor_same entry lt =
        ap₂ (λ (l c : ℤ). floor_by l (o.reached.last_start (new_entry p q entry)) (o.reached.promise (new_entry p q entry)) c) (same_lateness p q m entry lt) are.clock
        ∙ ap₂ (λ (l r : ℤ). floor_by (lateness_of p entry) l r s.clock) (are.last_starts entry lt) (are.promises entry lt)

    module _ (pattern : Pattern) (ty : pattern.ty.0 < length p.types) (entry : pattern.entry.0 < length p.entries) where
      behind_same : (f : Fact) → count_behind q (moved_pattern p q pattern) s.clock (moved_fact p q f) (map (moved_fact p q) s.facts) ≡ count_behind p pattern s.clock f s.facts
      behind_same f =
          ap length (filter_mapped (moved_fact p q) (is_behind p pattern s.clock f) (is_behind q (moved_pattern p q pattern) s.clock (moved_fact p q f)) s.facts
          (λ later i. ap (λ (b : Bool). nat_lt f.tag.0 later.tag.0 && b) (fits_same pattern s.clock later ty entry (are.places later i))))
          ∙ length-map (filter (is_behind p pattern s.clock f) s.facts) (moved_fact p q)

      inside_same : (w : WindowTag) (f : Fact) → is_inside q (moved_pattern p q pattern) w s.clock (map (moved_fact p q) s.facts) (moved_fact p q f) ≡ is_inside p pattern w s.clock s.facts f
      inside_same Whole f = refl
      inside_same (Time span) f = refl
      inside_same (Length count) f = ap (λ (n : ℕ). nat_lt n count) (behind_same f)

      candidate_same : (f : Fact) → In f s.facts → is_candidate q (moved_pattern p q pattern) o (moved_fact p q f) ≡ is_candidate p pattern s f
      candidate_same f i =
          let there = moved_pattern p q pattern in
          let g = moved_fact p q f in
          ap₂ (λ (c : ℤ) (facts : List Fact). fits q there c g && is_inside q there pattern.window c facts g) are.clock are.facts
          ∙ ap₂ (λ (a b : Bool). a && b) (fits_same pattern s.clock f ty entry (are.places f i)) (inside_same pattern.window f)

      pub candidates_same : candidates q (moved_pattern p q pattern) o ≡ map (moved_fact p q) (candidates p pattern s)
      candidates_same =
          ap (filter (is_candidate q (moved_pattern p q pattern) o)) are.facts
          ∙ filter_mapped (moved_fact p q) (is_candidate p pattern s) (is_candidate q (moved_pattern p q pattern) o) s.facts candidate_same

      passing_same : (t : Tuple) → passing q (moved_pattern p q pattern) o (moved_tuple p q t) ≡ map (moved_fact p q) (passing p pattern s t)
      passing_same t =
          ap (filter (passes (moved_pattern p q pattern) (moved_tuple p q t))) candidates_same
          ∙ filter_mapped (moved_fact p q) (passes pattern t) (passes (moved_pattern p q pattern) (moved_tuple p q t)) (candidates p pattern s) (λ f i. passes_same pattern t f)

      count_same : (t : Tuple) → length (passing q (moved_pattern p q pattern) o (moved_tuple p q t)) ≡ length (passing p pattern s t)
      count_same t = ap length (passing_same t) ∙ length-map (passing p pattern s t) (moved_fact p q)

      window_same : (t : Tuple) → start_window_at q (moved_pattern p q pattern) (bound_by (moved_tuple p q t)) ≡ start_window_at p pattern (bound_by t)
      window_same t = ap₂ window_by_lists (same_point p q m pattern.ty.0 ty) (bounds_same p q t pattern.times)

      mature_same : (t : Tuple)
          → is_mature q (moved_pattern p q pattern) (bound_by (moved_tuple p q t)) (floor q o (new_entry p q pattern.entry.0)) ≡ is_mature p pattern (bound_by t) (floor p s pattern.entry.0)
      unfolding is_mature
      mature_same t =
          ap₂ (λ (event : Bool) (starts : Window). not event || is_past starts (floor q o (new_entry p q pattern.entry.0))) (same_event p q m pattern.ty.0 ty) (window_same t)
          ∙ ap (λ (moment : ℤ). not (is_event p pattern.ty.0) || is_past (start_window_at p pattern (bound_by t)) moment) (floor_same pattern.entry.0 entry)

    abbrev moved_fold : Accumulate → Accumulate
    moved_fold a = record a { pattern = moved_pattern p q a.pattern }

    extended_same : (c : Condition) (t : Tuple) → HasPlaces p c → extended q o (moved_condition p q c) (moved_tuple p q t) ≡ map (moved_tuple p q) (extended p s c t)
    extended_same (Plain pattern) t at = ap (map (with_fact (moved_tuple p q t))) (passing_same pattern at.0 at.1 t) ∙ bound_mapped t (passing p pattern s t)
    extended_same (Negated pattern) t at =
        ap₂ (λ (n : ℕ) (b : Bool). if n == 0 && b then moved_tuple p q t ∷ [] else []) (count_same pattern at.0 at.1 t) (mature_same pattern at.0 at.1 t)
        ∙ by (length (passing p pattern s t) == 0 && is_mature p pattern (bound_by t) (floor p s pattern.entry.0))
      where
        by : (b : Bool) → (if b then moved_tuple p q t ∷ [] else []) ≡ map (moved_tuple p q) (if b then t ∷ [] else [])
        by true = refl
        by false = refl
    extended_same (Existing pattern) t at =
        ap (λ (n : ℕ). if n == 0 then [] else (moved_tuple p q t ∷ [])) (count_same pattern at.0 at.1 t) ∙ by (length (passing p pattern s t) == 0)
      where
        by : (b : Bool) → (if b then [] else (moved_tuple p q t ∷ [])) ≡ map (moved_tuple p q) (if b then [] else (t ∷ []))
        by true = refl
        by false = refl
    extended_same (Folded a) t at =
        ap (λ (facts : List Fact). with_result (moved_fold a) (moved_tuple p q t) (result_of (moved_fold a) facts)) (passing_same a.pattern at.0 at.1 t)
        ∙ ap (with_result (moved_fold a) (moved_tuple p q t)) (result_same a (passing p a.pattern s t)) ∙ of (result_of a (passing p a.pattern s t))
      where
        by : (v : ℤ) (b : Bool) → (if b then with_value (moved_tuple p q t) v ∷ [] else []) ≡ map (moved_tuple p q) (if b then with_value t v ∷ [] else [])
        by v true = refl
        by v false = refl

        of : (v : Option ℤ) → with_result (moved_fold a) (moved_tuple p q t) v ≡ map (moved_tuple p q) (with_result a t v)
        of None = refl
        of (Some v) = ap (λ (b : Bool). if b then with_value (moved_tuple p q t) v ∷ [] else []) (results_same p q t v a.tests) ∙ by v (results_hold (bound_by t) v a.tests)

    tuples_same : (cs : List Condition) (t : Tuple) → ((c : Condition) → In c cs → HasPlaces p c)
        → tuples q o (map (moved_condition p q) cs) (moved_tuple p q t) ≡ map (moved_tuple p q) (tuples p s cs t)
    tuples_same [] t at = refl
    tuples_same (c ∷ cs) t at =
        ap (flat_map (tuples q o (map (moved_condition p q) cs))) (extended_same c t (at c (inl refl)))
        ∙ flat_mapped (moved_tuple p q) (λ (u : Tuple). map (moved_tuple p q) (tuples p s cs u)) (tuples q o (map (moved_condition p q) cs)) (extended p s c t) (λ u. tuples_same cs u (λ d i. at d (inr i)))
        ∙ map_flat (moved_tuple p q) (tuples p s cs) (extended p s c t)

    -- the rows of conditions
    pub rows_same : (cs : List Condition) → ((c : Condition) → In c cs → HasPlaces p c) → rows q o (map (moved_condition p q) cs) ≡ rows p s cs
    unfolding rows
    rows_same cs at = ap (map row_of) (tuples_same cs empty_tuple at) ∙ map-map row_of (moved_tuple p q) (tuples p s cs empty_tuple)
        ∙ ap (λ (h : Tuple → Row). map h (tuples p s cs empty_tuple)) (fun_ext row_same)
