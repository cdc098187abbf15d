-- A snapshot without a forgotten fact of a type that no condition observes: of what names no forgotten fact, candidates and rows are the
-- same.
use Rattle.rete_net.proofs.Common.{◌≡◌, ◌∙◌, sym, ap, refl, subst, inl, inr, ℕ, zero, suc, ℤ, ◌==◌, ◌&&◌, ◌||◌, not, nat_lt, Bool, true, false, cond, arith}
use Rattle.rete_net.proofs.Common.{List, [], ◌∷◌, ◌++◌, map, take, length, append-nil, Option, Some, None, slice_get, fun_ext, and-false, nat_tests}
use Rattle.rete_net.proofs.Common.{append_assoc, filter, list_any, eq_by_cmp, In, Fact, Tag, name_cmp, Named, Row, Condition, Plain, Negated, Existing, Folded}
use Rattle.rete_net.proofs.Common.{Pattern, WindowTag, Whole, Time, Length, Program, Rule, fits, is_behind, is_present, is_candidate, is_inside, candidates}
use Rattle.rete_net.proofs.Common.{HaveDistinctTags, bound_in, pattern_of, result_of, is_length, observes, is_observed_in, Snapshot, results_hold, tests_hold}
use Rattle.rete_net.proofs.Common.{Bindings, name_of, unbound, of_map, of_filter, one_fact, in_filter, passed, filter_same, filter_swap, joins, has_name}
use Rattle.rete_net.proofs.Common.{joined, clean, cleaned, remembered, AlikeOn, unvalued, splits_value, name_decides, from_unvalued, joined_clean, is_result}
use Rattle.rete_net.proofs.Common.{line, HasAllOf, NameHeld, held, candidates_of, candidate_names, rows_of, held_fact, candidate_of, candidates_named}
use Rattle.rete_net.proofs.{Common.{filter_among, filter_both, is_other, facts_alike, held_known, joining_alike, snapshot_without}, Advancing.{rows_made}}
use Rattle.{rete_net.proofs.{Advancing.{same_first}, Beside.{held_at}, Chaining.{AreMade}, Cleaning.{line_cleaned}}, std.proofs.lemmas.Bool.{and_parts}}
use Rattle.{std.proofs.lemmas.Bool.{eqb-true, false_from_ne_true, or_parts}, rule_model.specs.declared.condition.Accumulate.{Accumulate}}
use Rattle.{rule_model.specs.{Maturity.{is_mature}, Snapshots.{floor}}, join_memory.{specs.Valued.{valued}, proofs.Moving.{joins_alike, named_alike}}}
use Rattle.{condition_rows.specs.{Lines.{gives, is_ripe}, Sets.{has_partner, partners}}, fx_base.proofs.Tests.{and_implied, both_ways_absurd, or_and_excluded}}
use Rattle.fx_base.proofs.Tests.{or_and_implied}

-- ---- Booleans and lists

other_way : (m n : ℕ) → (m == n) ≡ false → (n == m) ≡ false
other_way m n e = grind (arith, nat_tests)

abbrev pub tag_of : ℕ → Tag
tag_of n = record { 0 = n }

none_of_any : {A : Type 0} (test : A → Bool) (xs : List A) → list_any test xs ≡ false → (x : A) → In x xs → test x ≡ false
none_of_any test [] e x i = absurd i
none_of_any test (y ∷ xs) e x (inl h) = ap test h ∙ (or_parts (test y) (list_any test xs) e).0
none_of_any test (y ∷ xs) e x (inr i) = none_of_any test xs (or_parts (test y) (list_any test xs) e).1 x i

any_among : {A : Type 0} (test other : A → Bool) (xs : List A) → ((x : A) → In x xs → test x ≡ other x) → list_any test xs ≡ list_any other xs
any_among test other [] h = refl
any_among test other (x ∷ xs) h = ap (λ b. b || list_any test xs) (h x (inl refl)) ∙ ap (λ b. other x || b) (any_among test other xs (λ y i. h y (inr i)))

kept_of : (c t k : Bool) → (c ≡ true → k ≡ true → t ≡ true) → (c && k) ≡ ((c && t) && k)
kept_of true t true h = ap (λ b. b && true) (sym (h refl refl))
kept_of true t false h = sym (and-false t)
kept_of false t k h = refl

in_take : {A : Type 0} (n : ℕ) (xs : List A) (x : A) → In x (take n xs) → In x xs
in_take zero xs x i = absurd i
in_take (suc n) [] x i = i
in_take (suc n) (y ∷ xs) x (inl e) = inl e
in_take (suc n) (y ∷ xs) x (inr i) = inr (in_take n xs x i)

where_clean : (a k x y : Bool) → ((a && k) ≡ true → x ≡ y) → ((a && x) && k) ≡ ((a && y) && k)
where_clean true true x y h = ap (λ b. b && true) (h refl)
where_clean true false x y h = and-false x ∙ sym (and-false y)
where_clean false k x y h = refl

abbrev looking : (ℕ → Option Fact) → Row → Bindings
looking facts row = record { fact = facts; result = slice_get row.values }

-- whether the condition's pattern is of another type
abbrev pub IsApart : Pattern → Fact → Type 0
IsApart q f = (f.ty.0 == q.ty.0) ≡ false

-- a condition which observes nothing is a pattern that binds a fact, without a window of length
pub data Unobserved (f : Fact) (c : Condition) : Type 0 where
  of_other : IsApart (pattern_of c) f → Unobserved f c
  of_binding : (q : Pattern) → c ≡ Plain q → is_length q.window ≡ false → Unobserved f c

unobserved_if : (f : Fact) (c : Condition) → (observes c && (pattern_of c).ty.0 == f.ty.0) ≡ false → Unobserved f c
unobserved_if f (Plain q) e = by (is_length q.window) refl e
  where
    by : (b : Bool) → is_length q.window ≡ b → (b && q.ty.0 == f.ty.0) ≡ false → Unobserved f (Plain q)
    by true is e = of_other (other_way q.ty.0 f.ty.0 e)
    by false is e = of_binding q refl is
unobserved_if f (Negated q) e = of_other (other_way q.ty.0 f.ty.0 e)
unobserved_if f (Existing q) e = of_other (other_way q.ty.0 f.ty.0 e)
unobserved_if f (Folded a) e = of_other (other_way a.pattern.ty.0 f.ty.0 e)

pub unobserved_of : (p : Program) (f : Fact) → is_observed_in p.rules f.ty.0 ≡ false → (rule : Rule) → In rule p.rules → (c : Condition) → In c rule.conditions → Unobserved f c
unobserved_of p f none rule i c j =
    unobserved_if f c (none_of_any (λ (d : Condition). observes d && (pattern_of d).ty.0 == f.ty.0) rule.conditions
    (none_of_any (λ (r : Rule). list_any (λ (d : Condition). observes d && (pattern_of d).ty.0 == f.ty.0) r.conditions) p.rules none rule i) c j)

module _ (p : Program) (s : Snapshot) (f : Fact) (forgotten : Named → Bool) (d : HaveDistinctTags s.facts) (d_less : HaveDistinctTags (snapshot_without s f).facts) (there : In f s.facts) (known : forgotten (name_of f) ≡ true) where
  abbrev less : Snapshot
  less = snapshot_without s f

  -- a fact that is not the one is another by its tag
  is_other_than : (g : Fact) → In g s.facts → (g ≡ f → ⊥) → is_other f g ≡ true
  is_other_than g i h = ap not (false_from_ne_true (f.tag.0 == g.tag.0) (λ e. h (one_fact s.facts d g f i there (ap tag_of (sym (eqb-true f.tag.0 g.tag.0 e))))))

  kept_in : (g : Fact) → In g s.facts → (g ≡ f → ⊥) → In g less.facts
  kept_in g i h = in_filter (is_other f) g s.facts (is_other_than g i h) i

  -- a test that the fact does not pass leaves the same
  pub same_left : (test : Fact → Bool) → test f ≡ false → filter test less.facts ≡ filter test s.facts
  same_left test e =
      filter_both (is_other f) test s.facts ∙ filter_among (λ (g : Fact). is_other f g && test g) test s.facts (λ g i. by g i (test g) refl)
    where
      by : (g : Fact) → In g s.facts → (b : Bool) → test g ≡ b → (is_other f g && test g) ≡ test g
      by g i true is = ap (λ o. o && test g) (is_other_than g i (λ same. both_ways_absurd (test g) is (ap test same ∙ e)))
      by g i false is = ap (λ b. is_other f g && b) is ∙ and-false (is_other f g) ∙ sym is

  -- ---- a pattern of another type

  module _ (q : Pattern) (apart : IsApart q f) where
    pub no_fit : (clock : ℤ) → fits p q clock f ≡ false
    no_fit clock = ap (λ b. is_present p clock f && (b && (f.entry.0 == q.entry.0 && tests_hold unbound f q.alone))) apart ∙ and-false (is_present p clock f)

    same_inside : (w : WindowTag) (g : Fact) → is_inside p q w s.clock less.facts g ≡ is_inside p q w s.clock s.facts g
    same_inside Whole g = refl
    same_inside (Time span) g = refl
    same_inside (Length count) g =
        ap (λ (gs : List Fact). nat_lt (length gs) count) (same_left (is_behind p q s.clock g) (ap (λ b. nat_lt g.tag.0 f.tag.0 && b) (no_fit s.clock) ∙ and-false (nat_lt g.tag.0 f.tag.0)))

    pub same_candidates : candidates p q less ≡ candidates p q s
    same_candidates =
        filter_same (is_candidate p q less) (is_candidate p q s) less.facts (λ g. ap (λ b. fits p q s.clock g && b) (same_inside q.window g))
        ∙ same_left (is_candidate p q s) (ap (λ b. b && is_inside p q q.window s.clock s.facts f) (no_fit s.clock))

    pub candidates_apart : (who : Named) → candidates_of p q less who ≡ candidates_of p q s who
    candidates_apart who =
        sym (candidates_named p less d_less q who) ∙ ap (λ (gs : List Fact). has_name (map name_of gs) who) same_candidates ∙ candidates_named p s d q who

    -- a candidate is another fact
    pub candidate_other : (g : Fact) → In g (candidates p q s) → In g s.facts × (g ≡ f → ⊥)
    candidate_other g i = (
      of_filter (is_candidate p q s) g s.facts i,
      λ same. both_ways_absurd (fits p q s.clock g) (and_parts (fits p q s.clock g) (is_inside p q q.window s.clock s.facts g) (passed (is_candidate p q s) g s.facts i)).0 (ap (fits p q s.clock) same ∙ no_fit s.clock),
    )

  -- ---- what is held

  pub held_still : (g : Fact) → In g s.facts → (g ≡ f → ⊥) → held less g.tag ≡ held s g.tag
  held_still g i h = held_fact less d_less g (kept_in g i h) ∙ sym (held_fact s d g i)

  pub less_known : HasAllOf (held less) s forgotten
  less_known tag g e clean =
      let at = held_at s tag g e in
      ap (held less) (sym at.1)
      ∙ held_still g at.0 (λ same. both_ways_absurd (forgotten (name_of g)) (ap (λ (h : Fact). forgotten (name_of h)) same ∙ known) clean)
      ∙ ap (held s) at.1 ∙ e

  -- ---- a pattern without a window of length

  module _ (q : Pattern) (short : is_length q.window ≡ false) where
    inside_by : (w : WindowTag) → is_length w ≡ false → (g : Fact) → is_inside p q w s.clock less.facts g ≡ is_inside p q w s.clock s.facts g
    inside_by Whole e g = refl
    inside_by (Time span) e g = refl
    inside_by (Length count) e g = absurd (let n : true ≡ false = e in cc)

    left_candidates : candidates p q less ≡ filter (is_other f) (candidates p q s)
    left_candidates =
        filter_same (is_candidate p q less) (is_candidate p q s) less.facts (λ g. ap (λ b. fits p q s.clock g && b) (inside_by q.window short g)) ∙ filter_swap (is_candidate p q s) (is_other f) s.facts

    named_where : (test : Named → Bool) (who : Named) (gs : List Fact) → has_name (map name_of (filter (λ (g : Fact). test (name_of g)) gs)) who ≡ (has_name (map name_of gs) who && test who)
    named_where test who [] = refl
    named_where test who (g ∷ gs) = by (named_where test who gs) (test (name_of g)) refl
      where
        by : has_name (map name_of (filter (λ (g : Fact). test (name_of g)) gs)) who ≡ (has_name (map name_of gs) who && test who) → (b : Bool) → test (name_of g) ≡ b
            → has_name (map name_of (cond b (g ∷ filter (λ (g : Fact). test (name_of g)) gs) (filter (λ (g : Fact). test (name_of g)) gs))) who ≡ ((eq_by_cmp name_cmp who (name_of g) || has_name (map name_of gs) who) && test who)
        by rest true e =
            ap (λ b. eq_by_cmp name_cmp who (name_of g) || b) rest
            ∙ or_and_implied (eq_by_cmp name_cmp who (name_of g)) (has_name (map name_of gs) who) (test who) (λ same. ap test ((name_decides who (name_of g)).0 same) ∙ e)
        by rest false e = rest ∙ or_and_excluded (eq_by_cmp name_cmp who (name_of g)) (has_name (map name_of gs) who) (test who) (λ same. ap test ((name_decides who (name_of g)).0 same) ∙ e)

    candidates_short : (who : Named) → candidates_of p q less who ≡ (candidates_of p q s who && not (f.tag.0 == who.tag.0))
    candidates_short who =
        sym (candidates_named p less d_less q who)
        ∙ ap (λ (gs : List Fact). has_name (map name_of gs) who) left_candidates
        ∙ named_where (λ (n : Named). not (f.tag.0 == n.tag.0)) who (candidates p q s)
        ∙ ap (λ b. b && not (f.tag.0 == who.tag.0)) (candidates_named p s d q who)

  -- ---- candidates of any condition that does not observe the fact

  -- the candidates are those that do not have its tag
  pub candidates_less : (c : Condition) → Unobserved f c → (who : Named) → candidates_of p (pattern_of c) less who ≡ (candidates_of p (pattern_of c) s who && not (f.tag.0 == who.tag.0))
  candidates_less c (of_other is) who =
      let q = pattern_of c in
      candidates_apart q is who
      ∙ and_implied (candidates_of p q s who) (not (f.tag.0 == who.tag.0)) (λ e.
      let r = candidate_of p s d q who e in
      let other = candidate_other q is r.0 r.1 in
      ap (λ (n : Named). not (f.tag.0 == n.tag.0)) (sym r.2) ∙ is_other_than r.0 other.0 other.1)
  candidates_less c (of_binding q same short) who =
      subst (λ (c : Condition). candidates_of p (pattern_of c) less who ≡ (candidates_of p (pattern_of c) s who && not (f.tag.0 == who.tag.0))) (sym same) (candidates_short q short who)

  -- of what is remembered they are the same
  pub remembered_same : (c : Condition) → Unobserved f c → remembered (candidates_of p (pattern_of c) less) forgotten ≡ remembered (candidates_of p (pattern_of c) s) forgotten
  remembered_same c u =
      fun_ext (λ who.
      ap (λ b. b && not (forgotten who)) (candidates_less c u who)
      ∙ sym (kept_of (candidates_of p (pattern_of c) s who) (not (f.tag.0 == who.tag.0)) (not (forgotten who)) (λ e k.
      let r = candidate_of p s d (pattern_of c) who e in
      let i = of_filter (is_candidate p (pattern_of c) s) r.0 s.facts r.1 in
      ap (λ (n : Named). not (f.tag.0 == n.tag.0)) (sym r.2)
      ∙ is_other_than r.0 i (λ same. both_ways_absurd (not (forgotten who)) k (ap (λ (n : Named). not (forgotten n)) (sym r.2) ∙ ap (λ (g : Fact). not (forgotten (name_of g))) same ∙ ap not known)))))

  -- ---- the line of a condition

  module _ (rows : Row → Bool) (named : NameHeld s rows) where
    alike : (row : Row) → cleaned rows forgotten row ≡ true → AlikeOn (held less) (held s) row.facts
    alike row e = let is = and_parts (rows row) (clean forgotten row) e in facts_alike (held less) (held s) s forgotten less_known (held_known s forgotten) row.facts (named row is.0) is.1

    pub bound_same : (row : Row) → cleaned rows forgotten row ≡ true → bound_in (held less) row ≡ bound_in (held s) row
    bound_same row e = ap (λ (fact : ℕ → Option Fact). looking fact row) (fun_ext (named_alike (held less) (held s) row.facts (alike row e)))

    module _ (q : Pattern) (apart : IsApart q f) (row : Row) (e : cleaned rows forgotten row ≡ true) where
      pub joins_same : (g : Fact) → In g (candidates p q s) → joins q (held less) row (name_of g) ≡ joins q (held s) row (name_of g)
      joins_same g i = let is = candidate_other q apart g i in joins_alike (held less) (held s) q row (name_of g) (alike row e) (held_still g is.0 is.1)

      pub joins_named : (who : Named) → candidates_of p q s who ≡ true → joins q (held less) row who ≡ joins q (held s) row who
      joins_named who is =
          let r = candidate_of p s d q who is in
          subst (λ (n : Named). joins q (held less) row n ≡ joins q (held s) row n) r.2 (joins_same r.0 r.1)

      partner_same : has_partner p q less row ≡ has_partner p q s row
      unfolding has_partner
      partner_same =
          ap (λ (gs : List Fact). list_any (joins q (held less) row) (map name_of gs)) (same_candidates q apart)
          ∙ any_among (joins q (held less) row) (joins q (held s) row) (candidate_names p q s)
          (λ who i. let r = of_map name_of who (candidates p q s) i in subst (λ (n : Named). joins q (held less) row n ≡ joins q (held s) row n) r.2 (joins_same r.0 r.1))

      partners_same : partners p q less row ≡ partners p q s row
      unfolding partners
      partners_same =
          ap (filter (λ (g : Fact). joins q (held less) row (name_of g))) (same_candidates q apart)
          ∙ filter_among (λ (g : Fact). joins q (held less) row (name_of g)) (λ (g : Fact). joins q (held s) row (name_of g)) (candidates p q s) joins_same

      ripe_same : is_ripe p q less row ≡ is_ripe p q s row
      unfolding is_ripe floor
      ripe_same = ap (λ (bound : Bindings). is_mature p q bound (floor p s q.entry.0)) (bound_same row e)

    gives_same : (a : Accumulate) → IsApart a.pattern f → (row : Row) → cleaned rows forgotten row ≡ true → (v : ℤ) → gives p a less row v ≡ gives p a s row v
    unfolding gives
    gives_same a apart row e v =
        ap (λ (fs : List Fact). is_result (result_of a fs) v && results_hold (bound_in (held less) row) v a.tests) (partners_same a.pattern apart row e)
        ∙ ap (λ (bound : Bindings). is_result (result_of a (partners p a.pattern s row)) v && results_hold bound v a.tests) (bound_same row e)

    valued_if : (test other : Row → ℤ → Bool) → ((l : Row) (v : ℤ) → cleaned rows forgotten l ≡ true → test l v ≡ other l v) → (row : Row) (o : Option (Row × ℤ)) → unvalued row ≡ o
        → (splits_value (λ l v. rows l && test l v) o && clean forgotten row) ≡ (splits_value (λ l v. rows l && other l v) o && clean forgotten row)
    valued_if test other same row None e = refl
    valued_if test other same row (Some r) e =
        let facts = ap (clean forgotten) (from_unvalued row r e) in
        ap (λ k. (rows r.0 && test r.0 r.1) && k) facts ∙ where_clean (rows r.0) (clean forgotten r.0) (test r.0 r.1) (other r.0 r.1) (same r.0 r.1) ∙ ap (λ k. (rows r.0 && other r.0 r.1) && k) (sym facts)

    valued_same : (test other : Row → ℤ → Bool) → ((l : Row) (v : ℤ) → cleaned rows forgotten l ≡ true → test l v ≡ other l v) → (row : Row)
        → (valued (λ l v. rows l && test l v) row && clean forgotten row) ≡ (valued (λ l v. rows l && other l v) row && clean forgotten row)
    unfolding valued
    valued_same test other same row = valued_if test other same row (unvalued row) refl

    plain_same : (q : Pattern) → remembered (candidates_of p q less) forgotten ≡ remembered (candidates_of p q s) forgotten
        → (row : Row) → cleaned (line p less (Plain q) rows) forgotten row ≡ cleaned (line p s (Plain q) rows) forgotten row
    plain_same q same row =
        sym (joined_clean (joins q (held less)) (joins q (held less)) rows (candidates_of p q less) forgotten (λ r who e g. refl) row)
        ∙ ap (λ (names : Named → Bool). joined (joins q (held less)) (cleaned rows forgotten) names row) same
        ∙ joined_clean (joins q (held s)) (joins q (held less)) rows (candidates_of p q s) forgotten (joining_alike (held less) (held s) s forgotten less_known (held_known s forgotten) p q rows named) row

    line_same : (c : Condition) → Unobserved f c → (row : Row) → cleaned (line p less c rows) forgotten row ≡ cleaned (line p s c rows) forgotten row
    line_same (Plain q) u row = plain_same q (remembered_same (Plain q) u) row
    line_same (Negated q) (of_other is) row =
        where_clean (rows row) (clean forgotten row) (not (has_partner p q less row) && is_ripe p q less row) (not (has_partner p q s row) && is_ripe p q s row)
        (λ e. ap (λ b. not b && is_ripe p q less row) (partner_same q is row e) ∙ ap (λ b. not (has_partner p q s row) && b) (ripe_same q is row e))
    line_same (Negated q) (of_binding r same short) row = absurd cc
    line_same (Existing q) (of_other is) row = where_clean (rows row) (clean forgotten row) (has_partner p q less row) (has_partner p q s row) (partner_same q is row)
    line_same (Existing q) (of_binding r same short) row = absurd cc
    line_same (Folded a) (of_other is) row = valued_same (gives p a less) (gives p a s) (λ l v e. gives_same a is l e v) row
    line_same (Folded a) (of_binding r same short) row = absurd cc

  -- ---- the rows of conditions

  abbrev Stay : List Condition → Type 0
  Stay cs = cleaned (rows_of p less cs) forgotten ≡ cleaned (rows_of p s cs) forgotten

  made : AreMade p s (rows_of p s)
  made = rows_made p s d

  made_less : AreMade p less (rows_of p less)
  made_less = rows_made p less d_less

  one_more : (front : List Condition) (c : Condition) → Unobserved f c → Stay front → Stay (front ++ c ∷ [])
  one_more front c u stay =
      ap (λ (set : Row → Bool). cleaned set forgotten) (made_less.more front c)
      ∙ sym (line_cleaned p less forgotten (rows_of p less front) c)
      ∙ ap (λ (set : Row → Bool). cleaned (line p less c set) forgotten) stay
      ∙ line_cleaned p less forgotten (rows_of p s front) c
      ∙ fun_ext (line_same (rows_of p s front) (made.named front) c u)
      ∙ ap (λ (set : Row → Bool). cleaned set forgotten) (sym (made.more front c))

  all_more : (front cs : List Condition) → ((c : Condition) → In c cs → Unobserved f c) → Stay front → Stay (front ++ cs)
  all_more front [] u stay = subst Stay (sym (append-nil front)) stay
  all_more front (c ∷ cs) u stay = subst Stay (append_assoc front (c ∷ []) cs) (all_more (front ++ c ∷ []) cs (λ e i. u e (inr i)) (one_more front c (u c (inl refl)) stay))

  pub front_same : (rule : Rule) → ((c : Condition) → In c rule.conditions → Unobserved f c) → (q : ℕ) → Stay (take q rule.conditions)
  front_same rule u q = all_more [] (take q rule.conditions) (λ c i. u c (in_take q rule.conditions c i)) (ap (λ (set : Row → Bool). cleaned set forgotten) (same_first p less s))
