-- The lines of the conditions that keep a row or drop it.
use Rattle.condition_rows.proofs.Common.{◌≡◌, ◌∙◌, sym, ap, refl, ◌==◌, inl, inr, List, [], ◌∷◌, ◌++◌, map, length, cond, Bool, true, false, not, ◌&&◌, ◌||◌}
use Rattle.condition_rows.proofs.Common.{filter, list_any, In, Row, Condition, Negated, Existing, Pattern, Program, is_candidate, candidates, passes, passing}
use Rattle.condition_rows.proofs.Common.{HaveDistinctTags, extended, Snapshot, floor, Tuple, Bindings, empty_tuple, name_of, row_of, bound_by, in_if, of_if}
use Rattle.condition_rows.proofs.Common.{in_unless, of_unless, not_empty, of_filter, joins, rows_of, held, line, bound_in, and_from, and_parts, not-true}
use Rattle.condition_rows.{proofs.{Common.{not_not, same_test}, Ends.{IsMade, tuple_of_row, row_of_tuple, split_end, with_end}}, specs.Sets.{has_partner}}
use Rattle.{condition_rows.{specs.Lines.{is_ripe}, proofs.Joined.{made_facts, joins_made}}, rule_model.specs.Maturity.{is_mature}}
use Rattle.rule_model.proofs.Naming.{bound_named}

-- ---- a condition that asks something of a row

module _ (p : Program) (s : Snapshot) (front : List Condition) (c : Condition) (test : Row → Bool) (keeps : (t : Tuple) → IsMade p s front t → test (row_of t) ≡ true → In t (extended p s c t))
    (kept : (t next : Tuple) → IsMade p s front t → In next (extended p s c t) → (test (row_of t) ≡ true) × (next ≡ t)) where
  to_kept : (row : Row) → rows_of p s (front ++ c ∷ []) row ≡ true → (rows_of p s front row && test row) ≡ true
  to_kept row e =
      let r = tuple_of_row p s (front ++ c ∷ []) row e in
      let n = split_end p s c front empty_tuple r.0 r.1 in
      let k = kept n.0 r.0 n.1 n.2 in
      let same : row_of n.0 ≡ row = ap row_of (sym k.1) ∙ r.2 in
      and_from (rows_of p s front row) (test row) (row_of_tuple p s front row (n.0, n.1, same)) (ap test (sym same) ∙ k.0)

  from_kept : (row : Row) → (rows_of p s front row && test row) ≡ true → rows_of p s (front ++ c ∷ []) row ≡ true
  from_kept row e =
      let h = and_parts (rows_of p s front row) (test row) e in
      let t = tuple_of_row p s front row h.0 in
      row_of_tuple p s (front ++ c ∷ []) row (t.0, with_end p s c front empty_tuple t.0 t.0 t.1 (keeps t.0 t.1 (ap test t.2 ∙ h.1)), t.2)

  kept_rows : (row : Row) → rows_of p s (front ++ c ∷ []) row ≡ (rows_of p s front row && test row)
  kept_rows row = same_test (rows_of p s (front ++ c ∷ []) row) (rows_of p s front row && test row) (to_kept row) (from_kept row)

-- ---- whether a candidate joins

any_step : {A : Type 0} (a b : Bool) (x : A) (rest : Bool) (kept : List A) → a ≡ b → rest ≡ not (length kept == 0) → (a || rest) ≡ not (length (cond b (x ∷ kept) kept) == 0)
any_step a true x rest kept e h = ap (λ (v : Bool). v || rest) e ∙ ap not (sym (not_empty x (x ∷ kept) (inl refl)))
any_step a false x rest kept e h = ap (λ (v : Bool). v || rest) e ∙ h

-- a test holds somewhere where one that answers alike leaves something
any_left : {A B : Type 0} (name : A → B) (test : B → Bool) (pass : A → Bool) (xs : List A) → ((x : A) → In x xs → test (name x) ≡ pass x) → list_any test (map name xs) ≡ not (length (filter pass xs) == 0)
any_left name test pass [] h = refl
any_left name test pass (x ∷ xs) h = any_step (test (name x)) (pass x) x (list_any test (map name xs)) (filter pass xs) (h x (inl refl)) (any_left name test pass xs (λ y i. h y (inr i)))

module _ (p : Program) (s : Snapshot) (d : HaveDistinctTags s.facts) (front : List Condition) where
  partner_made : (q : Pattern) (t : Tuple) → IsMade p s front t → has_partner p q s (row_of t) ≡ not (length (passing p q s t) == 0)
  unfolding has_partner
  partner_made q t i =
      any_left name_of (joins q (held s) (row_of t)) (passes q t) (candidates p q s)
      (λ f j. joins_made p s d front t i q f (of_filter (is_candidate p q s) f s.facts j))

  -- what the row of a tuple has bound is what the tuple has
  pub bound_made : (t : Tuple) → IsMade p s front t → bound_in (held s) (row_of t) ≡ bound_by t
  bound_made t i = bound_named (held s) (row_of t) t refl (made_facts p s d front t i)

  ripe_made : (q : Pattern) (t : Tuple) → IsMade p s front t → is_ripe p q s (row_of t) ≡ is_mature p q (bound_by t) (floor p s q.entry.0)
  unfolding is_ripe
  ripe_made q t i = ap (λ (b : Bindings). is_mature p q b (floor p s q.entry.0)) (bound_made t i)

  pub existing_line : (q : Pattern) (row : Row) → rows_of p s (front ++ Existing q ∷ []) row ≡ line p s (Existing q) (rows_of p s front) row
  existing_line q row =
      kept_rows p s front (Existing q) (has_partner p q s)
      (λ t i e. in_unless (length (passing p q s t) == 0) t (not-true (length (passing p q s t) == 0) (sym (partner_made q t i) ∙ e)))
      (λ t next i j. let r = of_unless (length (passing p q s t) == 0) t next j in (partner_made q t i ∙ ap not r.0, r.1)) row

  abbrev waits_not : Pattern → Row → Bool
  waits_not q row = not (has_partner p q s row) && is_ripe p q s row

  waits_made : (q : Pattern) (t : Tuple) → IsMade p s front t → waits_not q (row_of t) ≡ (length (passing p q s t) == 0 && is_mature p q (bound_by t) (floor p s q.entry.0))
  waits_made q t i =
      ap (λ b. not b && is_ripe p q s (row_of t)) (partner_made q t i)
      ∙ ap (λ b. b && is_ripe p q s (row_of t)) (not_not (length (passing p q s t) == 0))
      ∙ ap (λ b. length (passing p q s t) == 0 && b) (ripe_made q t i)

  pub negated_line : (q : Pattern) (row : Row) → rows_of p s (front ++ Negated q ∷ []) row ≡ line p s (Negated q) (rows_of p s front) row
  negated_line q row =
      kept_rows p s front (Negated q) (waits_not q)
      (λ t i e. in_if (length (passing p q s t) == 0 && is_mature p q (bound_by t) (floor p s q.entry.0)) t (sym (waits_made q t i) ∙ e))
      (λ t next i j. let r = of_if (length (passing p q s t) == 0 && is_mature p q (bound_by t) (floor p s q.entry.0)) t next j in (waits_made q t i ∙ r.0, r.1)) row
