-- A snapshot of kept facts sees what is kept of the whole one as that does: versions, candidates, and which of them join a clean row.
use Rattle.laden_rows.proofs.Common.{◌≡◌, ◌∙◌, ◌&&◌, ◌==◌, not, ℕ, Bool, true, false, List, [], ◌∷◌, length, nat_lt, cond, Option, Some, refl, sym, ap, subst}
use Rattle.laden_rows.proofs.Common.{filter, find, In, EachOnce, Fact, Named, Row, Condition, Pattern, Program, Rule, fits, is_inside, is_candidate, candidates}
use Rattle.laden_rows.proofs.Common.{is_behind, HaveDistinctTags, pattern_of, Snapshot, name_of, of_filter, Same, in_filter, passed, same_length, joins}
use Rattle.laden_rows.proofs.Common.{cleaned, remembered, NameHeld, HasAllOf, candidates_of, partners_once, held_known, joining_alike, IsKeptOf, and_from}
use Rattle.{laden_rows.proofs.Common.{and_parts, eqb-true, not-true, not_from_false, same_test}, condition_rows.specs.Sets.{held, partners}}
use Rattle.{condition_rows.proofs.{Joined.{candidate_named, candidate_of}, Holding.{held_fact, held_in}}, std.specs.Prelude.{slice_get}}
use Rattle.{fx_base.specs.declared.ids.Tag.{Tag}, rule_model.specs.declared.condition.WindowTag.{WindowTag, TheVariants.{Length, Whole, Time}}}
use Rattle.rule_model.proofs.Once.{once_filter, once_facts}

abbrev tag_of : ℕ → Tag
tag_of n = record { 0 = n }

passed_if : (b : Bool) (test : Fact → Bool) (x f : Fact) (rest : Option Fact) → test x ≡ b → (rest ≡ Some f → test f ≡ true) → cond b (Some x) rest ≡ Some f → test f ≡ true
passed_if true test x f rest is later e = let same : x ≡ f = cc in ap test (sym same) ∙ is
passed_if false test x f rest is later e = later e

find_passes : (test : Fact → Bool) (facts : List Fact) (f : Fact) → find test facts ≡ Some f → test f ≡ true
find_passes test [] f e = absurd cc
find_passes test (x ∷ facts) f e = passed_if (test x) test x f (find test facts) refl (find_passes test facts f) e

-- what a snapshot holds under a tag has the tag
held_tag : (s : Snapshot) (tag : Tag) (f : Fact) → held s tag ≡ Some f → f.tag ≡ tag
unfolding held
held_tag s tag f e = ap tag_of (eqb-true f.tag.0 tag.0 (find_passes (λ (g : Fact). g.tag.0 == tag.0) s.facts f e))

module _ (p : Program) (s t : Snapshot) (forgotten : Named → Bool) (d : HaveDistinctTags s.facts) (of : IsKeptOf p s forgotten t) where
  pub known : HasAllOf (held t) s forgotten
  known tag f e kept =
      subst (λ (z : Tag). held t z ≡ Some f) (held_tag s tag f e) (held_fact t of.tags f ((of.facts f).1 (held_in s tag f e, kept)))

  -- ---- one condition of a rule

  module _ (rule : Rule) (in_rules : In rule p.rules) (k : ℕ) (c : Condition) (at_k : slice_get rule.conditions k ≡ Some c) where
    abbrev q : Pattern
    q = pattern_of c

    behind_same : (count : ℕ) → q.window ≡ Length count → (f : Fact) → length (filter (is_behind p q s.clock f) t.facts) ≡ length (filter (is_behind p q s.clock f) s.facts)
    behind_same count is f =
        same_length (filter (is_behind p q s.clock f) t.facts) (filter (is_behind p q s.clock f) s.facts)
        (once_filter (is_behind p q s.clock f) t.facts (once_facts t.facts of.tags))
        (once_filter (is_behind p q s.clock f) s.facts (once_facts s.facts d))
        (λ g. (to g, from g))
      where
        to : (g : Fact) → In g (filter (is_behind p q s.clock f) t.facts) → In g (filter (is_behind p q s.clock f) s.facts)
        to g i = in_filter (is_behind p q s.clock f) g s.facts (passed (is_behind p q s.clock f) g t.facts i) ((of.facts g).0 (of_filter (is_behind p q s.clock f) g t.facts i)).0

        kept : (g : Fact) → In g s.facts → is_behind p q s.clock f g ≡ true → (b : Bool) → forgotten (name_of g) ≡ b → forgotten (name_of g) ≡ false
        kept g i e true h =
            let fitting = (and_parts (nat_lt f.tag.0 g.tag.0) (fits p q s.clock g) e).1 in
            let n : true ≡ false = sym fitting ∙ of.uncounted rule in_rules k c at_k count is g i h in
            absurd cc
        kept g i e false h = h

        from : (g : Fact) → In g (filter (is_behind p q s.clock f) s.facts) → In g (filter (is_behind p q s.clock f) t.facts)
        from g i =
            let there = of_filter (is_behind p q s.clock f) g s.facts i in
            let e = passed (is_behind p q s.clock f) g s.facts i in
            in_filter (is_behind p q s.clock f) g t.facts e ((of.facts g).1 (there, kept g there e (forgotten (name_of g)) refl))

    inside_same : (window : WindowTag) → q.window ≡ window → (f : Fact) → is_inside p q window s.clock t.facts f ≡ is_inside p q window s.clock s.facts f
    inside_same Whole is f = refl
    inside_same (Time span) is f = refl
    inside_same (Length count) is f = ap (λ n. nat_lt n count) (behind_same count is f)

    candidate_same : (f : Fact) → is_candidate p q t f ≡ is_candidate p q s f
    candidate_same f =
        ap (λ clock. fits p q clock f && is_inside p q q.window clock t.facts f) of.clock
        ∙ ap (λ b. fits p q s.clock f && b) (inside_same q.window refl f)

    -- a kept candidate is a candidate of the kept facts
    pub to_kept : (f : Fact) → In f (candidates p q s) → forgotten (name_of f) ≡ false → In f (candidates p q t)
    to_kept f i e = in_filter (is_candidate p q t) f t.facts (candidate_same f ∙ passed (is_candidate p q s) f s.facts i) ((of.facts f).1 (of_filter (is_candidate p q s) f s.facts i, e))

    pub from_kept : (f : Fact) → In f (candidates p q t) → In f (candidates p q s) × (forgotten (name_of f) ≡ false)
    from_kept f i =
        let there = (of.facts f).0 (of_filter (is_candidate p q t) f t.facts i) in
        (in_filter (is_candidate p q s) f s.facts (sym (candidate_same f) ∙ passed (is_candidate p q t) f t.facts i) there.0, there.1)

    named : (u : Snapshot) → HaveDistinctTags u.facts → (f : Fact) → In f (candidates p q u) → candidates_of p q u (name_of f) ≡ true
    named u du f i = candidate_named p u du q f (of_filter (is_candidate p q u) f u.facts i) ∙ passed (is_candidate p q u) f u.facts i

    pub candidates_kept : (who : Named) → candidates_of p q t who ≡ remembered (candidates_of p q s) forgotten who
    candidates_kept who = same_test (candidates_of p q t who) (remembered (candidates_of p q s) forgotten who) to from
      where
        to : candidates_of p q t who ≡ true → remembered (candidates_of p q s) forgotten who ≡ true
        to e =
            let f = candidate_of p t of.tags q who e in
            let there = from_kept f.0 f.1 in
            subst (λ (n : Named). remembered (candidates_of p q s) forgotten n ≡ true) f.2
            (and_from (candidates_of p q s (name_of f.0)) (not (forgotten (name_of f.0))) (named s d f.0 there.0) (not_from_false (forgotten (name_of f.0)) there.1))

        from : remembered (candidates_of p q s) forgotten who ≡ true → candidates_of p q t who ≡ true
        from e =
            let is = and_parts (candidates_of p q s who) (not (forgotten who)) e in
            let f = candidate_of p s d q who is.0 in
            subst (λ (n : Named). candidates_of p q t n ≡ true) f.2 (named t of.tags f.0 (to_kept f.0 f.1 (ap forgotten f.2 ∙ not-true (forgotten who) is.1)))

    -- ---- a row that names kept facts alone

    module _ (rows : Row → Bool) (names : NameHeld s rows) (row : Row) (is : cleaned rows forgotten row ≡ true) where
      pub joins_same : (f : Fact) → In f (candidates p q s) → forgotten (name_of f) ≡ false → joins q (held t) row (name_of f) ≡ joins q (held s) row (name_of f)
      joins_same f i e =
          joining_alike (held t) (held s) s forgotten known (held_known s forgotten) p q rows names row (name_of f) is
          (and_from (candidates_of p q s (name_of f)) (not (forgotten (name_of f))) (named s d f i) (not_from_false (forgotten (name_of f)) e))

      abbrev kept_partners : List Fact
      kept_partners = filter (λ (f : Fact). not (forgotten (name_of f))) (partners p q s row)

      abbrev kept_fact : Fact → Bool
      kept_fact f = not (forgotten (name_of f))

      abbrev joining : Snapshot → Fact → Bool
      joining u f = joins q (held u) row (name_of f)

      pub partners_kept : Same (partners p q t row) kept_partners
      unfolding partners
      partners_kept f = (to, from)
        where
          to : In f (filter (joining t) (candidates p q t)) → In f (filter kept_fact (filter (joining s) (candidates p q s)))
          to i =
              let there = from_kept f (of_filter (joining t) f (candidates p q t) i) in
              in_filter kept_fact f (filter (joining s) (candidates p q s)) (not_from_false (forgotten (name_of f)) there.1)
              (in_filter (joining s) f (candidates p q s) (sym (joins_same f there.0 there.1) ∙ passed (joining t) f (candidates p q t) i) there.0)

          from : In f (filter kept_fact (filter (joining s) (candidates p q s))) → In f (filter (joining t) (candidates p q t))
          from i =
              let e = not-true (forgotten (name_of f)) (passed kept_fact f (filter (joining s) (candidates p q s)) i) in
              let j = of_filter kept_fact f (filter (joining s) (candidates p q s)) i in
              let among = of_filter (joining s) f (candidates p q s) j in
              in_filter (joining t) f (candidates p q t) (joins_same f among e ∙ passed (joining s) f (candidates p q s) j) (to_kept f among e)

      pub partners_once_kept : EachOnce kept_partners
      partners_once_kept = once_filter (λ (f : Fact). not (forgotten (name_of f))) (partners p q s row) (partners_once p s d q row)
