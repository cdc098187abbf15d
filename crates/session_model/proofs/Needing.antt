-- The facts of a map that are the present ones of a world make the rows and have the candidates of the world.
use Rattle.session_model.proofs.Common.{◌≡◌, ◌∙◌, ◌==◌, ◌&&◌, ℕ, ℤ, true, nat_lt, List, length, refl, sym, ap, subst, In, Fact, Named, Row, has, HeldFacts}
use Rattle.session_model.proofs.Common.{facts_of, tag_of, Condition, Pattern, Program, is_present, fits, is_behind, count_behind, is_inside, is_candidate}
use Rattle.session_model.proofs.Common.{candidates, HaveDistinctTags, rows, Reached, Snapshot, name_of, unbound, of_filter, Same, passed, rows_over, World}
use Rattle.session_model.proofs.Common.{snapshot, present, only_present, distinct_filtered, filter_within, filter_same, kept_rows, rows_of, candidates_of}
use Rattle.{session_model.proofs.Common.{in_has, has_in, candidate_named, candidate_of, version_of, over}, std.proofs.lemmas.Bool.{and_parts}}
use Rattle.std.specs.FinMap as map
use Rattle.rule_model.specs.{declared.condition.WindowTag.{WindowTag, TheVariants.{Whole, Time, Length}}, Tests.{tests_hold}}
use Rattle.{rule_model.proofs.Order.{same_candidates as same_in_order}, session_model.proofs.Members.{Holds, of_versions, held_distinct, own_tags, listed}}
use Rattle.{session_model.proofs.Members.{all_listed}, fx_base.proofs.Tests.{same_test}}

-- ---- what is not present is no candidate, and is in no window

module _ (p : Program) (w : World) (q : Pattern) where
  fits_present : (f : Fact) → fits p q w.clock f ≡ true → is_present p w.clock f ≡ true
  fits_present f e = (and_parts (is_present p w.clock f) (f.ty.0 == q.ty.0 && (f.entry.0 == q.entry.0 && tests_hold unbound f q.alone)) e).0

  same_behind : (f : Fact) → count_behind p q w.clock f (present p w) ≡ count_behind p q w.clock f w.facts
  same_behind f =
      ap length (filter_within (is_behind p q w.clock f) (is_present p w.clock) w.facts
      (λ g e. fits_present g (and_parts (nat_lt f.tag.0 g.tag.0) (fits p q w.clock g) e).1))

  same_inside : (window : WindowTag) (f : Fact) → is_inside p q window w.clock (present p w) f ≡ is_inside p q window w.clock w.facts f
  same_inside Whole f = refl
  same_inside (Time span) f = refl
  same_inside (Length count) f = ap (λ n. nat_lt n count) (same_behind f)

  kept_candidates : candidates p q (snapshot (only_present p w)) ≡ candidates p q (snapshot w)
  kept_candidates =
      filter_same (is_candidate p q (snapshot (only_present p w))) (is_candidate p q (snapshot w)) (present p w) (λ f. ap (λ b. fits p q w.clock f && b) (same_inside q.window f))
      ∙ filter_within (is_candidate p q (snapshot w)) (is_present p w.clock) w.facts
      (λ f e. fits_present f (and_parts (fits p q w.clock f) (is_inside p q q.window w.clock w.facts f) e).0)

-- a candidate is one by its name
named_candidate : (p : Program) (s : Snapshot) → HaveDistinctTags s.facts → (q : Pattern) (f : Fact) → In f (candidates p q s) → candidates_of p q s (name_of f) ≡ true
named_candidate p s d q f i = candidate_named p s d q f (of_filter (is_candidate p q s) f s.facts i) ∙ passed (is_candidate p q s) f s.facts i

-- ---- a map of the present facts

module _ (p : Program) (w : World) (d : HaveDistinctTags w.facts) (stored : HeldFacts) (clock : ℤ) (now : clock ≡ w.clock) (reached : Reached) (same : reached ≡ w.reached)
    (at : (tag : ℕ) → map.get stored tag ≡ version_of (present p w) (tag_of tag)) where
  abbrev here : Snapshot
  here = over (facts_of stored) clock reached

  abbrev there : Snapshot
  there = snapshot (only_present p w)

  distinct_there : HaveDistinctTags (present p w)
  distinct_there = distinct_filtered (is_present p w.clock) w.facts d

  pub stored_present : Holds stored (present p w)
  stored_present = of_versions stored (present p w) distinct_there at

  pub distinct_here : HaveDistinctTags (facts_of stored)
  distinct_here = held_distinct stored (own_tags stored (present p w) stored_present)

  -- each of them is a fact of the world
  pub of_world : (f : Fact) → In f (facts_of stored) → In f w.facts
  of_world f i = of_filter (is_present p w.clock) f w.facts (listed stored (present p w) stored_present f i)

  alike : Same (facts_of stored) (present p w)
  alike f = (listed stored (present p w) stored_present f, all_listed stored (present p w) stored_present f)

  back : Same (present p w) (facts_of stored)
  back f = (all_listed stored (present p w) stored_present f, listed stored (present p w) stored_present f)

  pub world_rows : (cs : List Condition) (row : Row) → rows_of p here cs row ≡ rows_of p (snapshot w) cs row
  world_rows cs row =
      same_test (rows_of p here cs row) (rows_of p there cs row)
      (λ e. in_has row (rows p there cs) (rows_over p here there (sym now) (sym same) distinct_here distinct_there alike cs row (has_in row (rows p here cs) e)))
      (λ e. in_has row (rows p here cs) (rows_over p there here now same distinct_there distinct_here back cs row (has_in row (rows p there cs) e)))
      ∙ ap (λ rs. has rs row) (kept_rows p w cs)

  -- a pattern has the same candidates
  pub here_candidates : (q : Pattern) → Same (candidates p q here) (candidates p q (snapshot w))
  here_candidates q f = (
    λ i. subst (In f) (kept_candidates p w q) ((same_in_order p here there (sym now) (sym same) distinct_here distinct_there alike q f).0 i),
    λ i. (same_in_order p here there (sym now) (sym same) distinct_here distinct_there alike q f).1 (subst (In f) (sym (kept_candidates p w q)) i),
  )

  module _ (q : Pattern) (who : Named) where
    to_world : candidates_of p q here who ≡ true → candidates_of p q (snapshot w) who ≡ true
    to_world e =
        let f = candidate_of p here distinct_here q who e in
        let among = (same_in_order p here there (sym now) (sym same) distinct_here distinct_there alike q f.0).0 f.1 in
        ap (candidates_of p q (snapshot w)) (sym f.2) ∙ named_candidate p (snapshot w) d q f.0 (subst (In f.0) (kept_candidates p w q) among)

    from_world : candidates_of p q (snapshot w) who ≡ true → candidates_of p q here who ≡ true
    from_world e =
        let f = candidate_of p (snapshot w) d q who e in
        let among = (same_in_order p there here now same distinct_there distinct_here back q f.0).0 (subst (In f.0) (sym (kept_candidates p w q)) f.1) in
        ap (candidates_of p q here) (sym f.2) ∙ named_candidate p here distinct_here q f.0 among

    pub world_candidates : candidates_of p q here who ≡ candidates_of p q (snapshot w) who
    world_candidates = same_test (candidates_of p q here who) (candidates_of p q (snapshot w) who) to_world from_world
