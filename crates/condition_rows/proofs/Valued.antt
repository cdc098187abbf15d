-- The line of an accumulate.
use Rattle.condition_rows.proofs.Common.{◌≡◌, ◌∙◌, sym, ap, refl, subst, ℤ, inl, inr, List, [], ◌∷◌, ◌++◌, cond, Bool, true, false, ◌&&◌, Option, Some, None}
use Rattle.condition_rows.proofs.Common.{filter, In, Fact, Row, Condition, Folded, Program, is_candidate, candidates, passes, passing, HaveDistinctTags}
use Rattle.condition_rows.proofs.Common.{Snapshot, Tuple, Bindings, empty_tuple, name_of, row_of, bound_by, with_value, in_if, of_result, of_filter, joins}
use Rattle.condition_rows.proofs.Common.{rows_of, held, line, is_result, result_of, with_result, and_from, and_parts, valued, valued_with, valued_from}
use Rattle.condition_rows.{proofs.{Common.{same_test}, Ends.{IsMade, tuple_of_row, row_of_tuple, split_end, with_end}}, specs.{Sets.{partners}, Lines.{gives}}}
use Rattle.{condition_rows.proofs.{Joined.{joins_made}, Kept.{bound_made}}, rule_model.specs.{declared.condition.Accumulate.{Accumulate}, Tests.{results_hold}}}
use Rattle.{join_memory.specs.Valued.{with_row_value as with_last_value}, std.proofs.lemmas.Cmp.{int_eq_equiv}, fx_base.proofs.Orders.{int_eq-true}}

of_is_result : (o : Option ℤ) (v : ℤ) → is_result o v ≡ true → o ≡ Some v
of_is_result None v e = absurd (let n : false ≡ true = e in cc)
of_is_result (Some n) v e = ap (λ (m : ℤ). Some m) (int_eq-true n v e)

to_is_result : (o : Option ℤ) (v : ℤ) → o ≡ Some v → is_result o v ≡ true
to_is_result o v e = ap (λ r. is_result r v) e ∙ int_eq_equiv.refl v

in_result : (a : Accumulate) (t : Tuple) (o : Option ℤ) (v : ℤ) → o ≡ Some v → results_hold (bound_by t) v a.tests ≡ true → In (with_value t v) (with_result a t o)
in_result a t o v e h = subst (λ r. In (with_value t v) (with_result a t r)) (sym e) (in_if (results_hold (bound_by t) v a.tests) (with_value t v) h)

same_step : {A : Type 0} (a b : Bool) (x : A) (kept left : List A) → a ≡ b → kept ≡ left → cond a (x ∷ kept) kept ≡ cond b (x ∷ left) left
same_step {A} a b x kept left e h = ap (λ v. cond v (x ∷ kept) kept) e ∙ ap (λ (zs : List A). cond b (x ∷ zs) zs) h

-- tests that answer alike leave the same
same_left : {A : Type 0} (test pass : A → Bool) (xs : List A) → ((x : A) → In x xs → test x ≡ pass x) → filter test xs ≡ filter pass xs
same_left test pass [] h = refl
same_left test pass (x ∷ xs) h = same_step (test x) (pass x) x (filter test xs) (filter pass xs) (h x (inl refl)) (same_left test pass xs (λ y i. h y (inr i)))

module _ (p : Program) (s : Snapshot) (d : HaveDistinctTags s.facts) (front : List Condition) (a : Accumulate) where
  partners_made : (t : Tuple) → IsMade p s front t → partners p a.pattern s (row_of t) ≡ passing p a.pattern s t
  unfolding partners
  partners_made t i =
      same_left (λ (f : Fact). joins a.pattern (held s) (row_of t) (name_of f)) (passes a.pattern t) (candidates p a.pattern s)
      (λ f j. joins_made p s d front t i a.pattern f (of_filter (is_candidate p a.pattern s) f s.facts j))

  gives_made : (t : Tuple) → IsMade p s front t → (v : ℤ) → gives p a s (row_of t) v ≡ (is_result (result_of a (passing p a.pattern s t)) v && results_hold (bound_by t) v a.tests)
  unfolding gives
  gives_made t i v =
      ap (λ (b : Bindings). is_result (result_of a (partners p a.pattern s (row_of t))) v && results_hold b v a.tests) (bound_made p s d front t i)
      ∙ ap (λ fs. is_result (result_of a fs) v && results_hold (bound_by t) v a.tests) (partners_made t i)

  abbrev value_test : Row → ℤ → Bool
  value_test left v = rows_of p s front left && gives p a s left v

  to_valued : (row : Row) → rows_of p s (front ++ Folded a ∷ []) row ≡ true → valued value_test row ≡ true
  to_valued row e =
      let r = tuple_of_row p s (front ++ Folded a ∷ []) row e in
      let n = split_end p s (Folded a) front empty_tuple r.0 r.1 in
      let g = of_result a n.0 r.0 (result_of a (passing p a.pattern s n.0)) n.2 in
      let given = gives_made n.0 n.1 g.0 ∙ and_from (is_result (result_of a (passing p a.pattern s n.0)) g.0) (results_hold (bound_by n.0) g.0 a.tests) (to_is_result (result_of a (passing p a.pattern s n.0)) g.0 g.1) g.2 in
      let holds = and_from (rows_of p s front (row_of n.0)) (gives p a s (row_of n.0) g.0) (row_of_tuple p s front (row_of n.0) (n.0, n.1, refl)) given in
      subst (λ (row : Row). valued value_test row ≡ true) (ap row_of (sym g.3) ∙ r.2) (valued_with value_test (row_of n.0) g.0 ∙ holds)

  from_valued : (row : Row) → valued value_test row ≡ true → rows_of p s (front ++ Folded a ∷ []) row ≡ true
  from_valued row e =
      let r = valued_from value_test row e in
      let h = and_parts (rows_of p s front r.0) (gives p a s r.0 r.1) r.3 in
      let t = tuple_of_row p s front r.0 h.0 in
      let given = sym (gives_made t.0 t.1 r.1) ∙ ap (λ (left : Row). gives p a s left r.1) t.2 ∙ h.1 in
      let g = and_parts (is_result (result_of a (passing p a.pattern s t.0)) r.1) (results_hold (bound_by t.0) r.1 a.tests) given in
      let next = in_result a t.0 (result_of a (passing p a.pattern s t.0)) r.1 (of_is_result (result_of a (passing p a.pattern s t.0)) r.1 g.0) g.1 in
      row_of_tuple p s (front ++ Folded a ∷ []) row (
        with_value t.0 r.1,
        with_end p s (Folded a) front empty_tuple t.0 (with_value t.0 r.1) t.1 next,
        ap (λ (left : Row). with_last_value left r.1) t.2 ∙ sym r.2,
      )

  pub folded_line : (row : Row) → rows_of p s (front ++ Folded a ∷ []) row ≡ line p s (Folded a) (rows_of p s front) row
  folded_line row = same_test (rows_of p s (front ++ Folded a ∷ []) row) (valued value_test row) (to_valued row) (from_valued row)
