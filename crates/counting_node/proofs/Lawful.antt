-- Tallies of all candidates stay those of all candidates.
use Rattle.counting_node.proofs.Common.{◌≡◌, ◌∙◌, sym, ap, refl, subst, ℕ, zero, suc, ◌==◌, arith, cond, map, List, [], ◌∷◌, Bool, true, false, not, ◌&&◌, ◌||◌}
use Rattle.counting_node.proofs.Common.{Option, Some, None, ℤ, fun_ext, list_any, is_some, option_map, eq_by_cmp, Held, Named, Row, Delta, has, name_cmp}
use Rattle.counting_node.proofs.Common.{name_equiv, Accumulate, Look, joins, Memories, has_name, left_at, has_left, has_right, cleaned, either, clean}
use Rattle.counting_node.proofs.Common.{remembered, PassesAlike, StandsFor, name_decides, unvalued, splits_value, without_value, shows_value, from_unvalued}
use Rattle.counting_node.proofs.Common.{Blockers, Witnesses, IsNumber, counts_blockers, counts_witnesses, where_unblocked, where_witnessed, zero_where}
use Rattle.counting_node.proofs.Common.{argument_given, argument_of, result_for, tested, is_result, all_passing, StandsCounted, ForgottenStay, EmptyTallyLaw}
use Rattle.counting_node.proofs.Common.{TallyLaw, TallyForgetLaw, TallyDropLaw, TallyMoveLaw, ShownLaw, GatheredLaw, itself, shows_any, TallyStep, counted}
use Rattle.counting_node.proofs.Common.{SeeAlike, output_some, output_from, offers, shown, result-rising, LeadsRows, IsNameDifference, IsStepped, and_right}
use Rattle.counting_node.proofs.{Common.{not-true, or_left, or_right, is_some-value, and_first, and_is, and_second, not_not}, Counting.{nobody, somebody}}
use Rattle.{counting_node.proofs.Gathering.{same_values}, std.{specs.Ordering.{int_eq}, proofs.Math.Dec.{eqb-suc-zero}}, join_memory.specs.Valued.{valued}}
use Rattle.{join_memory.proofs.{Moving.{move_law as memories_move}, Steps.{steps_law, forgets_law}}, fx_base.specs.declared.fact.Fact.{Fact}}
use Rattle.{fold_fn.specs.Results.{fold_result}, rule_model.specs.{Lent.{Holds, bound_in}, Rows.{argument, result_of}, Tuples.{name_of}}}

-- kernels: a that it is a candidate, f that it is forgotten, j and p that it passes by the facts at hand and in the world
counted_all : (a f j p x : Bool) → ((a && not f) ≡ true → j ≡ p) → (f ≡ true → x ≡ (a && p)) → (f ≡ false → x ≡ false) → (((a && not f) && j) || x) ≡ (a && p)
counted_all true true j p x h k l = k refl
counted_all false true j p x h k l = k refl
counted_all true false true p x h k l = h refl
counted_all true false false p x h k l = l refl ∙ h refl
counted_all false false j p x h k l = l refl

only_kept : (a f j p : Bool) → ((a && not f) ≡ true → j ≡ p) → (f ≡ true → (a && p) ≡ false) → ((a && not f) && j) ≡ (a && p)
only_kept true true j p h k = sym (k refl)
only_kept true false j p h k = h refl
only_kept false f j p h k = refl

of_two : (a b f : Bool) → ((a && f) || (b && f)) ≡ true → f ≡ true
of_two true b true e = refl
of_two false b true e = refl
of_two true true false e = e
of_two true false false e = e
of_two false true false e = e
of_two false false false e = e

other_of : (a b : Bool) → a ≡ false → (a || b) ≡ true → b ≡ true
other_of true b f e = let g : true ≡ false = f in cc
other_of false b f e = e

module _ {T : Type 0} (holds : T → Look → (Named → Bool) → Type 0) (m n : Memories T) (look world : Look) (pass : Row → Named → Bool) (rows rows_now : Row → Bool) (names names_now forgotten : Named → Bool) (left right : Delta)
    (was : StandsCounted holds m look world pass rows names forgotten) (alike : PassesAlike m.pattern look pass rows names forgotten) (alike_now : PassesAlike m.pattern look pass rows_now names_now forgotten)
    (rows_lead : LeadsRows (cleaned rows forgotten) (cleaned rows_now forgotten) left.gone left.come) (names_lead : IsNameDifference (remembered names forgotten) (remembered names_now forgotten) right)
    (alike_world : SeeAlike (either (remembered names forgotten) (remembered names_now forgotten)) look world) (fixed : ForgottenStay pass rows rows_now names names_now forgotten left) (stepped : IsStepped m n look left right) (step : TallyStep holds look m n left right) where
  now : StandsFor n look rows_now names_now forgotten
  now = steps_law T m n look rows rows_now names names_now forgotten left right was.stands rows_lead names_lead stepped

  -- what is in scope is not forgotten
  scope : Named → Bool
  scope c = either (remembered names forgotten) (remembered names_now forgotten) c

  in_scope : (c : Named) → scope c ≡ true → forgotten c ≡ false
  unfolding scope
  in_scope c s = not-true (forgotten c) (of_two (names c) (names_now c) (not (forgotten c)) s)

  extra : Row → Named → Bool
  extra row c = all_passing pass names row c && forgotten c

  module _ (row : Row) (t : T) (is : left_at n look row ≡ Some t) where
    clean_now : cleaned rows_now forgotten row ≡ true
    clean_now = sym (now.rows row) ∙ ap is_some is

    of_stayed : (has_left m look row && not (has left.gone row)) ≡ true → holds t world (all_passing pass names_now row)
    unfolding scope extra
    of_stayed e =
        let old = is_some-value (left_at m look row) (and_first (has_left m look row) (not (has left.gone row)) e) in
        let clean : cleaned rows forgotten row ≡ true = sym (was.stands.rows row) ∙ and_first (has_left m look row) (not (has left.gone row)) e in
        let after = step.stays world scope alike_world (λ c g. or_left (remembered names forgotten c) (remembered names_now forgotten c) (and_first (remembered names forgotten c) (not (remembered names_now forgotten c)) (sym (names_lead.goes c) ∙ g)))
        (λ c g. or_right (remembered names forgotten c) (remembered names_now forgotten c) (and_first (remembered names_now forgotten c) (not (remembered names forgotten c)) (sym (names_lead.comes c) ∙ g))) row old.0 old.1 (not-true (has left.gone row) (and_second (has_left m look row) (not (has left.gone row)) e)) in
        let same : Some after.0 ≡ Some t = sym after.1 ∙ is in
        let equal : after.0 ≡ t = cc in
        let before : holds old.0 world (counted (has_right m look) (joins m.pattern look row) (extra row)) =
        subst (holds old.0 world) (fun_ext (λ c. sym (ap (λ b. (b && joins m.pattern look row c) || extra row c) (was.stands.names c)
        ∙ counted_all (names c) (forgotten c) (joins m.pattern look row c) (pass row c) (extra row c) (alike row c clean) (λ f. and_is (all_passing pass names row c) (forgotten c) f) (λ f. and_right (all_passing pass names row c) (forgotten c) f)))) (was.counts row old.0 old.1) in
        subst (λ x. holds x world (all_passing pass names_now row)) equal
        (subst (holds after.0 world) (fun_ext (λ c. ap (λ b. (b && joins m.pattern look row c) || extra row c) (now.names c)
        ∙ counted_all (names_now c) (forgotten c) (joins m.pattern look row c) (pass row c) (extra row c) (alike_now row c clean_now) (λ f. and_is (all_passing pass names row c) (forgotten c) f ∙ fixed.stays row c clean clean_now f) (λ f. and_right (all_passing pass names row c) (forgotten c) f)))
        (after.2 (extra row) (λ c s. and_right (all_passing pass names row c) (forgotten c) (in_scope c s)) before))

    of_fresh : (has_left m look row && not (has left.gone row)) ≡ false → holds t world (all_passing pass names_now row)
    of_fresh e =
        let comes : has left.come row ≡ true = other_of (has_left m look row && not (has left.gone row)) (has left.come row) e (sym (stepped.rows row) ∙ ap is_some is) in
        let after = step.fresh world (λ c h. alike_world c (or_right (remembered names forgotten c) (remembered names_now forgotten c) (sym (now.names c) ∙ h))) row e comes in
        let same : Some after.0 ≡ Some t = sym after.1 ∙ is in
        let equal : after.0 ≡ t = cc in
        subst (λ x. holds x world (all_passing pass names_now row)) equal
        (subst (holds after.0 world) (fun_ext (λ c. ap (λ b. b && joins m.pattern look row c) (now.names c)
        ∙ only_kept (names_now c) (forgotten c) (joins m.pattern look row c) (pass row c) (alike_now row c clean_now) (fixed.comes row c comes))) after.2)

    of_either : (b : Bool) → (has_left m look row && not (has left.gone row)) ≡ b → holds t world (all_passing pass names_now row)
    of_either true e = of_stayed e
    of_either false e = of_fresh e

  stands_counted : StandsCounted holds n look world pass rows_now names_now forgotten
  stands_counted = record { stands = now; counts = λ row t is. of_either row t is (has_left m look row && not (has left.gone row)) refl }

pub tally_law : (T : Type 0) (holds : T → Look → (Named → Bool) → Type 0) → TallyLaw T holds
tally_law T holds m n look world pass rows rows_now names names_now forgotten left right was alike alike_now rows_lead names_lead alike_world fixed stepped step =
    stands_counted holds m n look world pass rows rows_now names names_now forgotten left right was alike alike_now rows_lead names_lead alike_world fixed stepped step

-- ---- forgetting
not_dropped : {X : Type 0} (b : Bool) (o : Option X) (x : X) → cond b None o ≡ Some x → o ≡ Some x
not_dropped true o x e = let f : None ≡ Some x = e in cc
not_dropped false o x e = e

pub forget_law : (T : Type 0) (holds : T → Look → (Named → Bool) → Type 0) → TallyForgetLaw T holds
forget_law T holds m n look world pass rows names forgotten old dropped was drops keeps left = record {
  stands = forgets_law T m n look rows names forgotten old dropped was.stands drops keeps;
  counts = λ row t is. was.counts row t (not_dropped (has dropped row) (left_at m look row) t (sym (left row) ∙ is));
}

-- ---- what shows
any_passing : (test : Named → Bool) (names : List Named) → ((c : Named) → (has_name names c && test c) ≡ false) → list_any test names ≡ false
any_passing test [] h = refl
any_passing test (x ∷ xs) h = both_none (test x) (list_any test xs) (head (test x) (name_equiv.refl x) (h x)) (any_passing test xs (λ c. tail (eq_by_cmp name_cmp c x) (has_name xs c) (test c) (h c)))
  where
    both_none : (a b : Bool) → a ≡ false → b ≡ false → (a || b) ≡ false
    both_none true b e f = e
    both_none false b e f = f

    head : (t : Bool) → eq_by_cmp name_cmp x x ≡ true → ((eq_by_cmp name_cmp x x || has_name xs x) && t) ≡ false → t ≡ false
    head t e f = sym (ap (λ b. (b || has_name xs x) && t) e) ∙ f

    tail : (a b t : Bool) → ((a || b) && t) ≡ false → (b && t) ≡ false
    tail true true t e = e
    tail true false t e = refl
    tail false b t e = e

some_passing : (test : Named → Bool) (names : List Named) (c : Named) → (has_name names c && test c) ≡ true → list_any test names ≡ true
some_passing test [] c e = let f : false ≡ true = e in cc
some_passing test (x ∷ xs) c e = by (eq_by_cmp name_cmp c x) refl e (some_passing test xs c)
  where
    either_one : (a b : Bool) → b ≡ true → (a || b) ≡ true
    either_one true b f = refl
    either_one false b f = f

    by : (b : Bool) → eq_by_cmp name_cmp c x ≡ b → ((b || has_name xs c) && test c) ≡ true → ((has_name xs c && test c) ≡ true → list_any test xs ≡ true) → (test x || list_any test xs) ≡ true
    by true s f rest = ap (λ b. b || list_any test xs) (ap test (sym ((name_decides c x).0 s)) ∙ f)
    by false s f rest = either_one (test x) (list_any test xs) (rest f)

number_tells : (test : Named → Bool) (names : List Named) (n : ℕ) → IsNumber (λ c. has_name names c && test c) n → (n == 0) ≡ not (list_any test names)
number_tells test names zero is = ap not (sym (any_passing test names (nobody _ is)))
number_tells test names (suc n) is = let one = somebody _ (suc n) is (λ e. absurd (omega (arith, e))) in eqb-suc-zero n ∙ ap not (sym (some_passing test names one.0 one.1))

no_row : (b : Bool) → false ≡ (false && b)
no_row b = refl

shown_as : {T : Type 0} (output : T → Option ℤ) (line : Bool → Bool) (row : Row) (b any : Bool) (o : Option T) → is_some o ≡ b → ((t : T) → o ≡ Some t → output t ≡ zero_where (line any)) → offers shows_any (output_some output o) row ≡ (b && line any)
shown_as output line row b any None e h = ap (λ x. x && line any) e
shown_as output line row b any (Some t) e h = ap (λ o. offers shows_any o row) (h t refl) ∙ given_none (line any) ∙ ap (λ x. x && line any) e
  where
    given_none : (l : Bool) → offers shows_any (zero_where l) row ≡ l
    given_none true = refl
    given_none false = refl

pub blockers_shown : ShownLaw Blockers counts_blockers where_unblocked (λ b. not b)
blockers_shown m look world pass rows names forgotten was row =
    shown_as (where_unblocked look row) (λ b. not b) row (cleaned rows forgotten row) (list_any (pass row) names) (left_at m look row) (was.stands.rows row) (λ t is. ap zero_where (number_tells (pass row) names t.0 (was.counts row t is)))

pub witnesses_shown : ShownLaw Witnesses counts_witnesses where_witnessed (λ b. b)
witnesses_shown m look world pass rows names forgotten was row =
    shown_as (where_witnessed look row) (λ b. b) row (cleaned rows forgotten row) (list_any (pass row) names) (left_at m look row) (was.stands.rows row)
    (λ t is. ap zero_where (ap not (number_tells (pass row) names t.0 (was.counts row t is)) ∙ not_not (list_any (pass row) names)))

-- the result of the tally that is kept for a left row, where one is
result_at : (kept : Bool) (result : Option ℤ) (v : ℤ) (output : Held → Option ℤ) (o : Option Held) → is_some o ≡ kept → ((t : Held) → o ≡ Some t → output t ≡ result) → is_result (output_some output o) v ≡ (kept && is_result result v)
result_at kept result v output None e h = ap (λ b. b && is_result result v) e
result_at kept result v output (Some t) e h = ap (λ n. is_result n v) (h t refl) ∙ ap (λ b. b && is_result result v) e

-- a row that is read backward shows the number that there is where its last value is that number
offers_some : (o : Option ℤ) (row : Row) (p : Row × ℤ) → unvalued row ≡ Some p → offers shows_value o row ≡ is_result o p.1
offers_some None row p e = refl
offers_some (Some v) row p e = ap (splits_value (λ left last. int_eq v last)) e

-- what is taken of candidates is what is taken of the facts that a world knows of them
arguments_are : (a : Accumulate) (world : Look) (facts : List Fact) → Holds world facts → map (argument_of a world) (map name_of facts) ≡ map (argument a.arg) facts
arguments_are a world [] h = refl
arguments_are a world (f ∷ facts) h = ap (λ o. argument_given a.arg o ∷ map (argument_of a world) (map name_of facts)) h.0 ∙ ap (λ rest. argument a.arg f ∷ rest) (arguments_are a world facts h.1)

pub gathered_shown : (a : Accumulate) → GatheredLaw a
unfolding valued
gathered_shown a m look world pass rows names forgotten of was known distinct all row = by (unvalued row) refl
  where
    line : Row → ℤ → Bool
    line left v = cleaned rows forgotten left && is_result (tested a (bound_in look left) (result_of a (of left))) v

    result_is : (left : Row) (t : Held) → left_at m look left ≡ Some t → result_for a look left t ≡ tested a (bound_in look left) (result_of a (of left))
    result_is left t is =
        let g = was.counts left t is in
        let arg = argument_of a world in
        let listed = map name_of (of left) in
        ap (tested a (bound_in look left))
        (ap (λ k. fold_result k t.values) g.kind
        ∙ ap (fold_result a.kind) (g.values ∙ same_values arg g.names listed g.distinct (distinct left) (λ c. g.all c ∙ sym (all left c)))
        ∙ result-rising a.kind (map arg listed)
        ∙ ap (fold_result a.kind) (arguments_are a world (of left) (known left)))

    from_left : Option (Row × ℤ) → Bool
    from_left o = offers shows_value (output_from (result_for a) m look (option_map (λ (p : Row × ℤ). p.0) o)) row

    by : (o : Option (Row × ℤ)) → unvalued row ≡ o → from_left (unvalued row) ≡ splits_value line (unvalued row)
    by None s = ap from_left s ∙ sym (ap (splits_value line) s)
    by (Some p) s =
        ap from_left s
        ∙ offers_some (output_some (result_for a look p.0) (left_at m look p.0)) row p s
        ∙ result_at (cleaned rows forgotten p.0) (tested a (bound_in look p.0) (result_of a (of p.0))) p.1 (result_for a look p.0) (left_at m look p.0) (was.stands.rows p.0) (result_is p.0)
        ∙ sym (ap (splits_value line) s)

-- ---- a new node, what is dropped, and another store
pub start_law : (T : Type 0) (holds : T → Look → (Named → Bool) → Type 0) → EmptyTallyLaw T holds
start_law T holds m look world pass forgotten stands = record { stands = stands; counts = λ row t is. let f : false ≡ true = sym (stands.rows row) ∙ ap is_some is in cc }

pub move_law : (T : Type 0) (holds : T → Look → (Named → Bool) → Type 0) → TallyMoveLaw T holds
move_law T holds m look other world pass rows names forgotten was alike =
    let moved = memories_move T m look other was.stands.agrees alike in
    record {
      stands = record { rows = λ row. ap is_some (moved.1 row) ∙ was.stands.rows row; names = λ who. moved.2 who ∙ was.stands.names who; agrees = moved.0 };
      counts = λ row t is. was.counts row t (sym (moved.1 row) ∙ is);
    }

shows_kept : {T : Type 0} (gives : ℤ → Row → Bool) (output : T → Option ℤ) (row : Row) (o : Option T) → offers gives (output_some output o) row ≡ true → is_some o ≡ true
shows_kept gives output row None e = let f : false ≡ true = e in cc
shows_kept gives output row (Some t) e = refl

shows_after : {T : Type 0} (gives : ℤ → Row → Bool) (output : T → Option ℤ) (row : Row) (o : Option T) (b : Bool) → offers gives (output_some output o) row ≡ true → offers gives (output_some output (cond b None o)) row ≡ not b
shows_after gives output row o true e = refl
shows_after gives output row o false e = e

pub drop_law : (T : Type 0) (origin : Row → Option Row) (gives : ℤ → Row → Bool) (output : Look → Row → T → Option ℤ) → ((row left : Row) → origin row ≡ Some left → left.facts ≡ row.facts) → TallyDropLaw T origin gives output
drop_law T origin gives output same_facts m n look rows names forgotten old dropped gone stands drops left went row is = by (origin row) refl
  where
    by : (o : Option Row) → origin row ≡ o → has gone row ≡ not (clean old row)
    by None e = let f : false ≡ true = sym (ap (λ o. offers gives (output_from output m look o) row) e) ∙ is in cc
    by (Some l) e =
        let was : offers gives (output_some (output look l) (left_at m look l)) row ≡ true = sym (ap (λ o. offers gives (output_from output m look o) row) e) ∙ is in
        let drop : has dropped l ≡ not (clean old l) = drops l (sym (stands.rows l) ∙ shows_kept gives (output look l) row (left_at m look l) was) in
        went row ∙ ap (λ b. b && not (shown origin gives output n look row)) is
        ∙ ap not (ap (λ o. offers gives (output_from output n look o) row) e ∙ ap (λ o. offers gives (output_some (output look l) o) row) (left l) ∙ shows_after gives (output look l) row (left_at m look l) (has dropped l) was)
        ∙ not_not (has dropped l) ∙ drop ∙ ap (λ facts. not (not (list_any old facts))) (same_facts row l e)

pub itself_facts : (row left : Row) → itself row ≡ Some left → left.facts ≡ row.facts
itself_facts row left e = let f : row ≡ left = cc in ap (λ (r : Row). r.facts) (sym f)

pub without_value_facts : (row left : Row) → without_value row ≡ Some left → left.facts ≡ row.facts
without_value_facts row left e = by (unvalued row) refl e
  where
    by : (o : Option (Row × ℤ)) → unvalued row ≡ o → option_map (λ (p : Row × ℤ). p.0) o ≡ Some left → left.facts ≡ row.facts
    by None s f = let h : None ≡ Some left = f in cc
    by (Some p) s f = let h : p.0 ≡ left = cc in ap (λ (r : Row). r.facts) (sym h) ∙ ap (λ (r : Row). r.facts) (sym (from_unvalued row p s))
