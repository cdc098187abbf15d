-- The rows of a node that is loaded are those of the line of its condition, with what the extras count.
use Rattle.beta_node.proofs.Common.{◌≡◌, ◌∙◌, ◌&&◌, ◌||◌, not, sym, ap, refl, inl, inr, ℕ, zero, suc, ◌+◌, ◌<◌, ◌==◌, ℤ, int_eq, arith, append-nil}
use Rattle.beta_node.proofs.Common.{if◌then◌else◌, Bool, true, false, List, [], ◌∷◌, ◌++◌, map, slice_get, Option, Some, None, list_any, is_some, option_map}
use Rattle.beta_node.proofs.Common.{In, Fact, Extra, Named, Row, Plain, Pattern, Program, HaveDistinctTags, Snapshot, floor, Look, joins, line, HasAllOf}
use Rattle.beta_node.proofs.Common.{NameHeld, held, candidates_of, candidate_names, partners, and_from, and_parts, fun_ext, in_rising_order, times, result_same}
use Rattle.beta_node.proofs.Common.{result-rising, Accumulate, Holds, bound_in, argument, results_hold, Bindings, name_of, cleaned, no_names, AlikeOn}
use Rattle.beta_node.proofs.Common.{named_alike, candidates_named, CountsLaden, Laden, WaitsLaden, node_rows, held_known, row_alike, not_not, nat_tests}
use Rattle.beta_node.proofs.Common.{Decides-int_eq, Held, Memories, left_at, unvalued, splits_value, without_value, shows_value, Blockers, Witnesses, IsNumber}
use Rattle.beta_node.proofs.Common.{zero_where, counts_blockers, counts_witnesses, where_unblocked, where_witnessed, IsTallyLaden, counts_more, blockers_laden}
use Rattle.beta_node.proofs.Common.{witnesses_laden, gathered_laden, argument_given, argument_of, gathers, tested, result_for, is_result, all_passing, itself}
use Rattle.beta_node.proofs.Common.{shows_any, output_some, output_from, offers, shown, same_values, NotNode, moment_at, not_rows, unblocked, mature}
use Rattle.beta_node.proofs.Common.{row_mature, moment_alike, quiet_law, in_name, name_in, Node, condition_of, NodeStands, blocker_tallies, blocking_pattern}
use Rattle.beta_node.proofs.{Common.{joined_pattern}, Folding.{fold_shown, partners_distinct, partners_held, partners_named}, Shown.{join_shown, exists_shown}}
use Rattle.{beta_node.proofs.{Shown.{not_shown}, Loading.{all_clean}}, condition_rows.specs.{Lines.{is_ripe, is_result as is_given}, Sets.{has_partner}}}
use Rattle.{join_memory.specs.Valued.{valued}, laden_rows.specs.Laden.{laden_line, extra_values_of, laden_gives}, fold_fn.specs.Laws.{HaveSame}}
use Rattle.{fold_fn.{specs.Results.{fold_result}, proofs.Rising.{times-nil, times-cons, times-rising}}, counting_node.proofs.Counting.{nobody, somebody}}
use Rattle.beta_node.specs.declared.node.Node.TheVariants as node

-- ---- a node that stands

-- its rows are those of its line that name no forgotten fact
pub node_shown : (p : Program) (look : Look) (s : Snapshot) (rows : Row → Bool) (forgotten : Named → Bool) → HaveDistinctTags s.facts → HasAllOf look s forgotten → NameHeld s rows → (n : Node)
    → NodeStands p n look s rows forgotten → (row : Row) → node_rows p look n row ≡ cleaned (line p s (condition_of n) rows) forgotten row
node_shown p look s rows forgotten tags known named (node.Join join) stands = join_shown p look s rows forgotten known named join.memories stands
node_shown p look s rows forgotten tags known named (node.Not waiting) stands = not_shown p look s rows forgotten known named tags waiting stands
node_shown p look s rows forgotten tags known named (node.Exists tally) stands = exists_shown p look s rows forgotten known named tags tally.memories stands
node_shown p look s rows forgotten tags known named (node.Fold fold) stands = fold_shown p look s rows forgotten known named tags fold stands

-- ---- numbers

where_passing : (test : Named → Bool) (names : List Named) (who : Named) → In who names → test who ≡ true → list_any test names ≡ true
where_passing test [] who i e = absurd i
where_passing test (n ∷ names) who (inl is) e = ap (λ b. b || list_any test names) (ap test (sym is) ∙ e)
where_passing test (n ∷ names) who (inr i) e = later (test n) (list_any test names) (where_passing test names who i e)
  where
    later : (a b : Bool) → b ≡ true → (a || b) ≡ true
    later true b e = refl
    later false b e = e

passing_one : (test : Named → Bool) (names : List Named) → list_any test names ≡ true → (who : Named) × In who names × (test who ≡ true)
passing_one test [] e = absurd (let no : false ≡ true = e in cc)
passing_one test (n ∷ names) e = by (test n) refl e (passing_one test names)
  where
    by : (b : Bool) → test n ≡ b → (b || list_any test names) ≡ true → (list_any test names ≡ true → (who : Named) × In who names × (test who ≡ true)) → (who : Named) × In who (n ∷ names) × (test who ≡ true)
    by true is e rest = (n, inl refl, is)
    by false is e rest = let one = rest e in (one.0, inr one.1, one.2)

-- the number of the candidates that join a row is zero where none does
number_tells : (p : Program) (q : Pattern) (t : Snapshot) → HaveDistinctTags t.facts → (row : Row) (k : ℕ) → IsNumber (all_passing (joins q (held t)) (candidates_of p q t) row) k → (k == 0) ≡ not (has_partner p q t row)
unfolding has_partner
number_tells p q t tags row k is = by k is (list_any (joins q (held t) row) (candidate_names p q t)) refl
  where
    by : (k : ℕ) → IsNumber (all_passing (joins q (held t)) (candidates_of p q t) row) k → (b : Bool) → list_any (joins q (held t) row) (candidate_names p q t) ≡ b → (k == 0) ≡ not b
    by zero is true e =
        let one = passing_one (joins q (held t) row) (candidate_names p q t) e in
        let there = and_from (candidates_of p q t one.0) (joins q (held t) row one.0) (sym (candidates_named p t tags q one.0) ∙ in_name one.0 (candidate_names p q t) one.1) one.2 in
        absurd (let torn : true ≡ false = sym there ∙ nobody (all_passing (joins q (held t)) (candidates_of p q t) row) is one.0 in cc)
    by zero is false e = refl
    by (suc k) is true e = let other : (suc k == 0) ≡ false = grind (arith, nat_tests) in other
    by (suc k) is false e =
        let one = somebody (all_passing (joins q (held t)) (candidates_of p q t) row) (suc k) is (λ z. absurd (omega (arith, z))) in
        let parts = and_parts (candidates_of p q t one.0) (joins q (held t) row one.0) one.1 in
        let there = where_passing (joins q (held t) row) (candidate_names p q t) one.0 (name_in one.0 (candidate_names p q t) (candidates_named p t tags q one.0 ∙ parts.0)) parts.1 in
        absurd (let torn : true ≡ false = sym there ∙ e in cc)

-- with what an extra counts more it is zero where none joins and there is no extra
abbrev Counted : ℕ → (Named → Bool) → Option Extra → Type 0
Counted n set None = IsNumber set n
Counted n set (Some e) = counts_more n set e × (0 < e.count)

counted_tells : (p : Program) (q : Pattern) (t : Snapshot) → HaveDistinctTags t.facts → (row : Row) (n : ℕ) (o : Option Extra) → Counted n (all_passing (joins q (held t)) (candidates_of p q t) row) o
    → (n == 0) ≡ not (has_partner p q t row || is_some o)
counted_tells p q t tags row n None is = number_tells p q t tags row n is ∙ ap not (or_none (has_partner p q t row))
  where
    or_none : (b : Bool) → b ≡ (b || false)
    or_none true = refl
    or_none false = refl
counted_tells p q t tags row n (Some e) is =
    let many = is.0.2 in
    let some = is.1 in
    let other : (n == 0) ≡ false = grind (arith, nat_tests, many, some) in
    other ∙ ap not (or_some (has_partner p q t row))
  where
    or_some : (b : Bool) → true ≡ (b || true)
    or_some true = refl
    or_some false = refl

shown_as : {T : Type 0} (output : T → Option ℤ) (row : Row) (b l : Bool) (o : Option T) → is_some o ≡ b → ((t : T) → o ≡ Some t → output t ≡ zero_where l) → offers shows_any (output_some output o) row ≡ (b && l)
shown_as output row b l None e h = ap (λ x. x && l) e
shown_as output row b l (Some t) e h = ap (λ o. offers shows_any o row) (h t refl) ∙ given_none l ∙ ap (λ x. x && l) e
  where
    given_none : (l : Bool) → offers shows_any (zero_where l) row ≡ l
    given_none true = refl
    given_none false = refl

-- ---- values

times_append : (v : ℤ) (xs ys : List ℤ) → times v (xs ++ ys) ≡ times v xs + times v ys
times_append v [] ys = let none : times v [] ≡ 0 = times-nil v in omega (arith, none)
times_append v (x ∷ xs) ys = grind (arith, times-cons, times_append v xs ys)

arguments_are : (a : Accumulate) (world : Look) (facts : List Fact) → Holds world facts → map (argument_of a world) (map name_of facts) ≡ map (argument a.arg) facts
arguments_are a world [] h = refl
arguments_are a world (f ∷ facts) h = ap (λ o. argument_given a.arg o ∷ map (argument_of a world) (map name_of facts)) h.0 ∙ ap (λ rest. argument a.arg f ∷ rest) (arguments_are a world facts h.1)

-- the result of values that are the same rising, and of more
result_with : (a : Accumulate) (xs ys more : List ℤ) → in_rising_order xs ≡ in_rising_order ys → fold_result a.kind (in_rising_order (xs ++ more)) ≡ fold_result a.kind (ys ++ more)
result_with a xs ys more same = result-rising a.kind (xs ++ more) ∙ result_same a.kind (xs ++ more) (ys ++ more) all
  where
    each : (v : ℤ) → times v xs ≡ times v ys
    each v = sym (times-rising v xs) ∙ ap (times v) same ∙ times-rising v ys

    all : HaveSame (xs ++ more) (ys ++ more)
    all v = times_append v xs more ∙ ap (λ n. n + times v more) (each v) ∙ sym (times_append v ys more)

abbrev looking : (ℕ → Option Fact) → Row → Bindings
looking facts row = record { fact = facts; result = slice_get row.values }

bound_alike : (look other : Look) (row : Row) → AlikeOn look other row.facts → bound_in look row ≡ bound_in other row
bound_alike look other row h = ap (λ facts. looking facts row) (fun_ext (named_alike look other row.facts h))

tested_given : (a : Accumulate) (bound : Bindings) (o : Option ℤ) (v : ℤ) → is_result (tested a bound o) v ≡ (is_given o v && results_hold bound v a.tests)
tested_given a bound None v = refl
tested_given a bound (Some n) v = by (results_hold bound n a.tests) refl
  where
    same : int_eq n v ≡ true → results_hold bound v a.tests ≡ results_hold bound n a.tests
    same e = ap (λ n. results_hold bound n a.tests) (sym ((Decides-int_eq n v).0 e))

    all_of_one : (e r : Bool) → (e ≡ true → r ≡ true) → e ≡ (e && r)
    all_of_one true r h = sym (h refl)
    all_of_one false r h = refl

    none_of_one : (e r : Bool) → (e ≡ true → r ≡ false) → false ≡ (e && r)
    none_of_one true r h = sym (h refl)
    none_of_one false r h = refl

    by : (b : Bool) → results_hold bound n a.tests ≡ b → is_result (if b then Some n else None) v ≡ (int_eq n v && results_hold bound v a.tests)
    by true h = all_of_one (int_eq n v) (results_hold bound v a.tests) (λ e. same e ∙ h)
    by false h = none_of_one (int_eq n v) (results_hold bound v a.tests) (λ e. same e ∙ h)

-- the result of the tally that is kept for a left row, where one is
result_at : {T : Type 0} (kept : Bool) (g : Bool) (v : ℤ) (output : T → Option ℤ) (o : Option T) → is_some o ≡ kept → ((t : T) → o ≡ Some t → is_result (output t) v ≡ g) → is_result (output_some output o) v ≡ (kept && g)
result_at kept g v output None e h = ap (λ b. b && g) e
result_at kept g v output (Some t) e h = h t refl ∙ ap (λ b. b && g) e

offers_some : (o : Option ℤ) (row : Row) (p : Row × ℤ) → unvalued row ≡ Some p → offers shows_value o row ≡ is_result o p.1
offers_some None row p e = refl
offers_some (Some v) row p e = ap (splits_value (λ left last. int_eq v last)) e

-- ---- a node that is loaded

module _ (p : Program) (look : Look) (t : Snapshot) (rows : Row → Bool) (extra : Row → Option Extra) (known : HasAllOf look t no_names) (named : NameHeld t rows) (tags : HaveDistinctTags t.facts)
    (some : (row : Row) (e : Extra) → extra row ≡ Some e → 0 < e.count) where
  blockers_of : (q : Pattern) (row : Row) (b : Blockers) (o : Option Extra) → extra row ≡ o → IsTallyLaden counts_blockers blockers_laden b (held t) (all_passing (joins q (held t)) (candidates_of p q t) row) o
      → Counted b.0 (all_passing (joins q (held t)) (candidates_of p q t) row) o
  blockers_of q row b None is counts = counts
  blockers_of q row b (Some e) is counts = (counts, some row e is)

  witnesses_of : (q : Pattern) (row : Row) (w : Witnesses) (o : Option Extra) → extra row ≡ o → IsTallyLaden counts_witnesses witnesses_laden w (held t) (all_passing (joins q (held t)) (candidates_of p q t) row) o
      → Counted w.0 (all_passing (joins q (held t)) (candidates_of p q t) row) o
  witnesses_of q row w None is counts = counts
  witnesses_of q row w (Some e) is counts = (counts, some row e is)

  exists_laden : (m : Memories Witnesses) → CountsLaden counts_witnesses witnesses_laden p m look (held t) t rows extra
      → (row : Row) → shown itself shows_any where_witnessed m look row ≡ (rows row && (has_partner p m.pattern t row || is_some (extra row)))
  exists_laden m counts row =
      let q = m.pattern in
      shown_as (where_witnessed look row) row (cleaned rows no_names row) (has_partner p q t row || is_some (extra row)) (left_at m look row) (counts.stands.rows row)
      (λ w is. ap zero_where (ap not (counted_tells p q t tags row w.0 (extra row) (witnesses_of q row w (extra row) refl (counts.counts row w is))) ∙ not_not (has_partner p q t row || is_some (extra row))))
      ∙ ap (λ b. b && (has_partner p q t row || is_some (extra row))) (sym (all_clean rows row))

  unblocked_laden : (m : Memories Blockers) → CountsLaden counts_blockers blockers_laden p m look (held t) t rows extra
      → (row : Row) → unblocked m look row ≡ (rows row && not (has_partner p m.pattern t row || is_some (extra row)))
  unblocked_laden m counts row =
      let q = m.pattern in
      shown_as (where_unblocked look row) row (cleaned rows no_names row) (not (has_partner p q t row || is_some (extra row))) (left_at m look row) (counts.stands.rows row)
      (λ b is. ap zero_where (counted_tells p q t tags row b.0 (extra row) (blockers_of q row b (extra row) refl (counts.counts row b is))))
      ∙ ap (λ b. b && not (has_partner p q t row || is_some (extra row))) (sym (all_clean rows row))

  -- a row is mature by the store where it is by the snapshot
  ripe_alike : (q : Pattern) (row : Row) → rows row ≡ true → mature (floor p t q.entry.0) (moment_at p q look row) ≡ is_ripe p q t row
  unfolding is_ripe
  ripe_alike q row e =
      ap (mature (floor p t q.entry.0)) (sym (moment_alike p q look (held t) row (row_alike look (held t) t no_names known (held_known t no_names) p q rows named row (sym (all_clean rows row) ∙ e))))
      ∙ row_mature p q (held t) row (floor p t q.entry.0)

  regroup : (a b c d : Bool) → (a ≡ true → c ≡ d) → ((a && b) && c) ≡ (a && (b && d))
  regroup true b c d h = ap (λ x. b && x) (h refl)
  regroup false b c d h = refl

  not_laden : (waiting : NotNode) → WaitsLaden p waiting look (held t) t rows extra
      → (row : Row) → not_rows p look waiting row ≡ (rows row && (not (has_partner p (blocking_pattern waiting) t row || is_some (extra row)) && is_ripe p (blocking_pattern waiting) t row))
  not_laden waiting waits row =
      let m = blocker_tallies waiting in
      let now = floor p t m.pattern.entry.0 in
      sym ((quiet_law p waiting look now waits.in_step waits.floor waits.none_due).1 row)
      ∙ ap (λ b. b && mature now (moment_at p m.pattern look row)) (unblocked_laden m waits.counts row)
      ∙ regroup (rows row) (not (has_partner p m.pattern t row || is_some (extra row))) (mature now (moment_at p m.pattern look row)) (is_ripe p m.pattern t row) (ripe_alike m.pattern row)

  -- ---- an accumulate

  module _ (a : Accumulate) (m : Memories Held) (meant : m.pattern ≡ a.pattern) (counts : CountsLaden (gathers a) (gathered_laden a) p m look (held t) t rows extra) where
    values_are : (left : Row) (h : Held) (o : Option Extra) → IsTallyLaden (gathers a) (gathered_laden a) h (held t) (all_passing (joins m.pattern (held t)) (candidates_of p m.pattern t) left) o
        → fold_result h.kind h.values ≡ fold_result a.kind (map (argument a.arg) (partners p m.pattern t left) ++ extra_values_of o)
    values_are left h None is =
        let listed = map name_of (partners p m.pattern t left) in
        ap (λ k. fold_result k h.values) is.kind
        ∙ ap (fold_result a.kind) (is.values ∙ ap in_rising_order (sym (append-nil (map (argument_of a (held t)) is.names))))
        ∙ result_with a (map (argument_of a (held t)) is.names) (map (argument_of a (held t)) listed) []
        (same_values (argument_of a (held t)) is.names listed is.distinct (partners_distinct p t tags m.pattern left) (λ c. is.all c ∙ sym (partners_named p t tags m.pattern left c)))
        ∙ ap (λ xs. fold_result a.kind (xs ++ [])) (arguments_are a (held t) (partners p m.pattern t left) (partners_held p t tags m.pattern left))
    values_are left h (Some e) is =
        let listed = map name_of (partners p m.pattern t left) in
        ap (λ k. fold_result k h.values) is.kind
        ∙ ap (fold_result a.kind) is.values
        ∙ result_with a (map (argument_of a (held t)) is.names) (map (argument_of a (held t)) listed) e.values
        (same_values (argument_of a (held t)) is.names listed is.distinct (partners_distinct p t tags m.pattern left) (λ c. is.all c ∙ sym (partners_named p t tags m.pattern left c)))
        ∙ ap (λ xs. fold_result a.kind (xs ++ e.values)) (arguments_are a (held t) (partners p m.pattern t left) (partners_held p t tags m.pattern left))

    gives_laden : (left : Row) (h : Held) → left_at m look left ≡ Some h → (v : ℤ) → is_result (result_for a look left h) v ≡ laden_gives p a t (extra_values_of (extra left)) left v
    unfolding laden_gives
    gives_laden left h is v =
        let kept : cleaned rows no_names left ≡ true = sym (counts.stands.rows left) ∙ ap is_some is in
        ap (λ o. is_result (tested a (bound_in look left) o) v) (values_are left h (extra left) (counts.counts left h is))
        ∙ ap (λ bound. is_result (tested a bound (fold_result a.kind (map (argument a.arg) (partners p m.pattern t left) ++ extra_values_of (extra left)))) v)
        (bound_alike look (held t) left (row_alike look (held t) t no_names known (held_known t no_names) p m.pattern rows named left kept))
        ∙ ap (λ (q : Pattern). is_result (tested a (bound_in (held t) left) (fold_result a.kind (map (argument a.arg) (partners p q t left) ++ extra_values_of (extra left)))) v) meant
        ∙ tested_given a (bound_in (held t) left) (fold_result a.kind (map (argument a.arg) (partners p a.pattern t left) ++ extra_values_of (extra left))) v

    from_left : Row → Option (Row × ℤ) → Bool
    from_left row o = offers shows_value (output_from (result_for a) m look (option_map (λ (r : Row × ℤ). r.0) o)) row

    abbrev line_of : Row → ℤ → Bool
    line_of left v = rows left && laden_gives p a t (extra_values_of (extra left)) left v

    gathered_laden_rows : (row : Row) → shown without_value shows_value (result_for a) m look row ≡ valued line_of row
    unfolding valued from_left
    gathered_laden_rows row = by (unvalued row) refl
      where
        by : (o : Option (Row × ℤ)) → unvalued row ≡ o → from_left row (unvalued row) ≡ splits_value line_of (unvalued row)
        by None s = ap (from_left row) s ∙ sym (ap (splits_value line_of) s)
        by (Some r) s =
            ap (from_left row) s
            ∙ offers_some (output_some (result_for a look r.0) (left_at m look r.0)) row r s
            ∙ result_at (cleaned rows no_names r.0) (laden_gives p a t (extra_values_of (extra r.0)) r.0 r.1) r.1 (result_for a look r.0) (left_at m look r.0) (counts.stands.rows r.0) (λ h is. gives_laden r.0 h is r.1)
            ∙ ap (λ b. b && laden_gives p a t (extra_values_of (extra r.0)) r.0 r.1) (sym (all_clean rows r.0))
            ∙ sym (ap (splits_value line_of) s)

  pub node_laden : (n : Node) → Laden p n look (held t) t rows extra → (row : Row) → node_rows p look n row ≡ laden_line p t extra (condition_of n) rows row
  node_laden (node.Join join) stands row = join_shown p look t rows no_names known named join.memories stands row ∙ sym (all_clean (line p t (Plain (joined_pattern join)) rows) row)
  node_laden (node.Not waiting) waits row = not_laden waiting waits row
  node_laden (node.Exists tally) counts row = exists_laden tally.memories counts row
  node_laden (node.Fold fold) folds row = gathered_laden_rows fold.accumulate fold.tally.memories folds.pattern folds.counts row
