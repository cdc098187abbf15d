-- The line of a pattern.
use Rattle.condition_rows.proofs.Common.{◌≡◌, ◌∙◌, sym, ap, refl, subst, List, [], ◌∷◌, ◌++◌, Bool, true, false, ◌&&◌, Option, Some, None, In, Fact, Named, Row}
use Rattle.condition_rows.proofs.Common.{Condition, Plain, Pattern, Program, is_candidate, candidates, passes, passing, HaveDistinctTags, Holds, Snapshot}
use Rattle.condition_rows.proofs.Common.{Tuple, empty_tuple, name_of, row_of, with_fact, in_map, of_map, of_filter, of_passing, made_of, version_at, joins}
use Rattle.condition_rows.proofs.Common.{has_name, with_name, joined, rows_of, held, is_candidate_given, candidate_names, line, map-append, and_from, and_parts}
use Rattle.condition_rows.{proofs.{Common.{same_test}, Holding.{version_of, joins_of_tuple, held_fact, held_all, version_in}}, specs.Sets.{candidates_of}}
use Rattle.{condition_rows.proofs.Ends.{in_name, name_in, IsMade, tuple_of_row, row_of_tuple, split_end, with_end}, join_memory.proofs.Joining.{joined_with}}
use Rattle.{join_memory.proofs.Joining.{joined_from}, rule_model.proofs.{Grown.{tuples_grow}, Order.{in_filter, passed}}}

abbrev named : List Named → Tuple → Row
named facts t = record { facts = facts; values = t.values }

-- the row of a tuple with one fact more
row_with : (t : Tuple) (f : Fact) → row_of (with_fact t f) ≡ with_name (row_of t) (name_of f)
row_with t f = ap (λ facts. named facts t) (map-append name_of t.facts (f ∷ []))

module _ (p : Program) (s : Snapshot) (d : HaveDistinctTags s.facts) where
  -- the facts of a tuple that conditions make are held
  pub made_facts : (cs : List Condition) (t : Tuple) → IsMade p s cs t → Holds (held s) t.facts
  made_facts cs t i = held_all s d t.facts (made_of p s cs empty_tuple t (tuples_grow p s cs empty_tuple t i) (λ g k. absurd k))

  -- a candidate joins the row of such a tuple where it passes for the tuple
  pub joins_made : (cs : List Condition) (t : Tuple) → IsMade p s cs t → (q : Pattern) (f : Fact) → In f s.facts → joins q (held s) (row_of t) (name_of f) ≡ passes q t f
  joins_made cs t i q f j = joins_of_tuple (held s) q t f (made_facts cs t i) (held_fact s d f j)

  -- a fact of the snapshot is of the candidates by its name where it is one
  pub candidate_named : (q : Pattern) (f : Fact) → In f s.facts → candidates_of p q s (name_of f) ≡ is_candidate p q s f
  unfolding candidates_of
  candidate_named q f i = ap (is_candidate_given p q s) (version_of (held s) f (held_fact s d f i))

  pub candidate_given : (q : Pattern) (o : Option Fact) → is_candidate_given p q s o ≡ true → (f : Fact) × (o ≡ Some f) × (is_candidate p q s f ≡ true)
  candidate_given q None e = absurd (let n : false ≡ true = e in cc)
  candidate_given q (Some f) e = (f, refl, e)

  -- what is of the candidates names one
  pub candidate_of : (q : Pattern) (who : Named) → candidates_of p q s who ≡ true → (f : Fact) × In f (candidates p q s) × (name_of f ≡ who)
  unfolding candidates_of
  candidate_of q who e =
      let r = candidate_given q (version_at (held s) who) e in
      let is = version_in s who r.0 r.1 in
      (r.0, in_filter (is_candidate p q s) r.0 s.facts r.2 is.0, is.1)

  -- the names of the candidates are what is of the candidates
  named_in : (q : Pattern) (who : Named) → has_name (candidate_names p q s) who ≡ true → candidates_of p q s who ≡ true
  named_in q who e =
      let r = of_map name_of who (candidates p q s) (name_in who (candidate_names p q s) e) in
      subst (λ (n : Named). candidates_of p q s n ≡ true) r.2 (candidate_named q r.0 (of_filter (is_candidate p q s) r.0 s.facts r.1) ∙ passed (is_candidate p q s) r.0 s.facts r.1)

  in_named : (q : Pattern) (who : Named) → candidates_of p q s who ≡ true → has_name (candidate_names p q s) who ≡ true
  in_named q who e =
      let r = candidate_of q who e in
      in_name who (candidate_names p q s) (subst (λ (n : Named). In n (candidate_names p q s)) r.2 (in_map name_of r.0 (candidates p q s) r.1))

  pub candidates_named : (q : Pattern) (who : Named) → has_name (candidate_names p q s) who ≡ candidates_of p q s who
  candidates_named q who = same_test (has_name (candidate_names p q s) who) (candidates_of p q s who) (named_in q who) (in_named q who)

  module _ (front : List Condition) (q : Pattern) where
    abbrev pattern_line : Row → Bool
    pattern_line = joined (joins q (held s)) (rows_of p s front) (candidates_of p q s)

    of_next : (t : Tuple) → IsMade p s front t → (f : Fact) → In f (passing p q s t) → pattern_line (row_of (with_fact t f)) ≡ true
    of_next t i f j =
        let there = of_passing p q s t f j in
        let candidate = candidate_named q f there ∙ passed (is_candidate p q s) f s.facts (of_filter (passes q t) f (candidates p q s) j) in
        let joining = joins_made front t i q f there ∙ passed (passes q t) f (candidates p q s) j in
        ap pattern_line (row_with t f)
        ∙ joined_with (joins q (held s)) (rows_of p s front) (candidates_of p q s) (row_of t) (name_of f)
        ∙ and_from (rows_of p s front (row_of t)) (candidates_of p q s (name_of f) && joins q (held s) (row_of t) (name_of f)) (row_of_tuple p s front (row_of t) (t, i, refl))
        (and_from (candidates_of p q s (name_of f)) (joins q (held s) (row_of t) (name_of f)) candidate joining)

    to_line : (row : Row) → rows_of p s (front ++ Plain q ∷ []) row ≡ true → pattern_line row ≡ true
    to_line row e =
        let r = tuple_of_row p s (front ++ Plain q ∷ []) row e in
        let n = split_end p s (Plain q) front empty_tuple r.0 r.1 in
        let g = of_map (with_fact n.0) r.0 (passing p q s n.0) n.2 in
        subst (λ (row : Row). pattern_line row ≡ true) (ap row_of g.2 ∙ r.2) (of_next n.0 n.1 g.0 g.1)

    of_joined : (left : Row) (who : Named) → (rows_of p s front left && (candidates_of p q s who && joins q (held s) left who)) ≡ true → rows_of p s (front ++ Plain q ∷ []) (with_name left who) ≡ true
    of_joined left who e =
        let a = and_parts (rows_of p s front left) (candidates_of p q s who && joins q (held s) left who) e in
        let b = and_parts (candidates_of p q s who) (joins q (held s) left who) a.1 in
        let t = tuple_of_row p s front left a.0 in
        let f = candidate_of q who b.0 in
        let there = of_filter (is_candidate p q s) f.0 s.facts f.1 in
        let joining : joins q (held s) (row_of t.0) (name_of f.0) ≡ true = ap (λ (row : Row). joins q (held s) row (name_of f.0)) t.2 ∙ ap (joins q (held s) left) f.2 ∙ b.1 in
        let passing_for = sym (joins_made front t.0 t.1 q f.0 there) ∙ joining in
        let next = in_map (with_fact t.0) f.0 (passing p q s t.0) (in_filter (passes q t.0) f.0 (candidates p q s) passing_for f.1) in
        row_of_tuple p s (front ++ Plain q ∷ []) (with_name left who) (
          with_fact t.0 f.0,
          with_end p s (Plain q) front empty_tuple t.0 (with_fact t.0 f.0) t.1 next,
          row_with t.0 f.0 ∙ ap (λ (row : Row). with_name row (name_of f.0)) t.2 ∙ ap (with_name left) f.2,
        )

    from_line : (row : Row) → pattern_line row ≡ true → rows_of p s (front ++ Plain q ∷ []) row ≡ true
    from_line row e =
        let r = joined_from (joins q (held s)) (rows_of p s front) (candidates_of p q s) row e in
        let holds = sym (joined_with (joins q (held s)) (rows_of p s front) (candidates_of p q s) r.0 r.1) ∙ ap pattern_line (sym r.2) ∙ e in
        subst (λ (row : Row). rows_of p s (front ++ Plain q ∷ []) row ≡ true) (sym r.2) (of_joined r.0 r.1 holds)

    pub plain_line : (row : Row) → rows_of p s (front ++ Plain q ∷ []) row ≡ line p s (Plain q) (rows_of p s front) row
    plain_line row = same_test (rows_of p s (front ++ Plain q ∷ []) row) (pattern_line row) (to_line row) (from_line row)
