-- In a step no rule needs a forgotten fact.
use Rattle.session_model.proofs.Common.{◌≡◌, ◌∙◌, inl, inr, refl, sym, ap, subst, ℕ, zero, suc, ◌<◌, ◌≤◌, ◌==◌, ◌&&◌, not, Bool, true, false, cond, List, []}
use Rattle.session_model.proofs.Common.{◌∷◌, filter_map, Option, Some, None, arith, take, cons_option, filter, option_to_list, In, Fact, Named, Row, HeldFacts}
use Rattle.session_model.proofs.Common.{facts_of, tag_of, from_list, Condition, Negated, Existing, Folded, Pattern, Rule, Step, is_candidate, HaveDistinctTags}
use Rattle.session_model.proofs.Common.{Holds, pattern_of, Reached, Snapshot, name_of, row_of, in_left, of_filter, one_fact, in_filter, IsOrdered, World}
use Rattle.session_model.proofs.Common.{snapshot, present, moved, step_fault, flagged, joins, held, rows_of, candidates_of, tuple_of_row, held_fact}
use Rattle.session_model.proofs.Common.{joins_of_tuple, version_in, made_facts, candidate_of, MovesSnapshot, shares_tag, CountsNone, is_forgotten, IsLawfulStep}
use Rattle.session_model.proofs.Common.{RowComes, there_same, forgotten_fact, tags_behind, only, same_kept, chosen, own_at, Memory, Setting, NeverFalls}
use Rattle.session_model.proofs.Common.{Instant, LeadsStep, facts_at, version_of, over, Contents, Runs, Standing, reached_of}
use Rattle.{fx_base.proofs.Sequences.{list_any-In, In-append}, std.proofs.lemmas.Bool.{and_from, and_parts, eqb-true, false_from_ne_true}}
use Rattle.std.specs.Prelude.{is_some, slice_get}
use Rattle.std.specs.FinMap as map
use Rattle.{rule_model.specs.{declared.condition.Condition.TheVariants.{Plain}, Rows.{binds}}, rule_world.specs.Worlds.{stepped}}
use Rattle.{condition_rows.proofs.Holding.{version_of as version_named}, kept_meaning.specs.Kept.{is_kept}, kept_laws.proofs.Coming.{row_meets_kept}}
use Rattle.session_model.proofs.{Leads.{leads_move}, Needing.{stored_present, distinct_here, of_world, world_rows, world_candidates}, Phases.{NotNeeded}}
use Rattle.{session_model.proofs.Reaching.{reaches_on}, fx_base.proofs.Tests.{same_test}}

-- ---- what a map gives at some tags

found_by : (stored : HeldFacts) (tag : ℕ) (tags : List ℕ) (f : Fact) (o : Option Fact) → map.get stored tag ≡ o
    → (In f (filter_map (map.get stored) tags) → (t : ℕ) × In t tags × (map.get stored t ≡ Some f))
    → In f (cons_option o (filter_map (map.get stored) tags)) → (t : ℕ) × In t (tag ∷ tags) × (map.get stored t ≡ Some f)
found_by stored tag tags f None e rest i = let r = rest i in (r.0, inr r.1, r.2)
found_by stored tag tags f (Some g) e rest (inl h) = (tag, inl refl, e ∙ ap Some (sym h))
found_by stored tag tags f (Some g) e rest (inr i) = let r = rest i in (r.0, inr r.1, r.2)

-- each of them stands at one of the tags
of_tags : (stored : HeldFacts) (tags : List ℕ) (f : Fact) → In f (filter_map (map.get stored) tags) → (tag : ℕ) × In tag tags × (map.get stored tag ≡ Some f)
of_tags stored [] f i = absurd i
of_tags stored (tag ∷ tags) f i = found_by stored tag tags f (map.get stored tag) refl (of_tags stored tags f) i

-- ---- places

-- what stands in a list has a place there
placed : {A : Type 0} (xs : List A) (x : A) → In x xs → (place : ℕ) × (slice_get xs place ≡ Some x)
placed [] x i = absurd i
placed (y ∷ ys) x (inl e) = (zero, ap Some (sym e))
placed (y ∷ ys) x (inr i) = let r = placed ys x i in (suc r.0, r.1)

-- ---- what is forgotten

module _ (s : Setting) (m : Memory) (k : Contents) (w : World) (st : Standing s m k w) (runs : Runs s) where
  abbrev all : HeldFacts
  all = st.seen.all

  abbrev forgotten : Named → Bool
  forgotten = st.seen.forgotten

  abbrev before : Snapshot
  before = over (facts_of all) k.clock (reached_of k)

  ordered : IsOrdered s.program w
  ordered = st.seen.whole.lawful.ordered

  before_distinct : HaveDistinctTags (facts_of all)
  before_distinct = distinct_here s.program w ordered.tags all k.clock st.seen.whole.mirrors.clock (reached_of k) st.seen.whole.mirrors.reached st.seen.whole.mirrors.facts

  in_world : (f : Fact) → In f (facts_of all) → In f w.facts
  in_world = of_world s.program w ordered.tags all k.clock st.seen.whole.mirrors.clock (reached_of k) st.seen.whole.mirrors.reached st.seen.whole.mirrors.facts

  before_world : (q : Pattern) (who : Named) → candidates_of s.program q before who ≡ candidates_of s.program q (snapshot w) who
  before_world = world_candidates s.program w ordered.tags all k.clock st.seen.whole.mirrors.clock (reached_of k) st.seen.whole.mirrors.reached st.seen.whole.mirrors.facts

  before_rows : (cs : List Condition) (row : Row) → rows_of s.program before cs row ≡ rows_of s.program (snapshot w) cs row
  before_rows = world_rows s.program w ordered.tags all k.clock st.seen.whole.mirrors.clock (reached_of k) st.seen.whole.mirrors.reached st.seen.whole.mirrors.facts

  at_own : (f : Fact) → In f (facts_of all) → map.get all f.tag.0 ≡ Some f
  at_own f i =
      let r = from_list all f i in
      let own = ((stored_present s.program w ordered.tags all k.clock st.seen.whole.mirrors.clock (reached_of k) st.seen.whole.mirrors.reached st.seen.whole.mirrors.facts).to r.0 f r.1).1 in
      ap (map.get all) own ∙ r.1

  -- the store has no forgotten fact
  not_stored : (f : Fact) → In f (facts_of all) → forgotten (name_of f) ≡ not (is_some (map.get k.facts f.tag.0))
  not_stored f i = st.seen.are.known f.tag.0 f (at_own f i)

  -- what is forgotten is forgotten of the world
  pub lost_in_world : (f : Fact) → In f (facts_of all) → forgotten (name_of f) ≡ is_forgotten s.program s.lives w (name_of f)
  lost_in_world f i =
      let inside = in_world f i in
      let stored : map.get k.facts f.tag.0 ≡ cond (is_kept s.program s.lives w f) (Some f) None =
      st.holds.store f.tag.0 ∙ same_kept s.program s.lives w runs.table.safe ordered f.tag.0 ∙ ap (only (is_kept s.program s.lives w)) (own_at w.facts ordered.tags f inside) in
      not_stored f i
      ∙ ap (λ o. not (is_some o)) stored
      ∙ ap not (chosen (is_kept s.program s.lives w f) f)
      ∙ sym (forgotten_fact s.program s.lives w ordered.tags f inside)

  -- ---- a step

  module _ (step : Step) (none : step_fault s.program w step ≡ None) (behind : HeldFacts) (to : Instant) (both : HeldFacts) (gone : List ℕ) (come : Option Fact)
      (leads : LeadsStep s.program all k.clock behind to.clock both gone come)
      (at : (tag : ℕ) → map.get behind tag ≡ version_of (present s.program (moved s.program w step)) (tag_of tag)) (now : to.clock ≡ (moved s.program w step).clock) (reached : to.reached ≡ (moved s.program w step).reached)
      (stored : (tag : ℕ) → In tag gone → (f : Fact) × (map.get k.facts tag ≡ Some f)) (new : (f : Fact) → come ≡ Some f → k.next_tag ≤ f.tag.0) where
    abbrev after : Snapshot
    after = facts_at behind to

    abbrev next : Snapshot
    next = snapshot (moved s.program w step)

    abbrev out : List Fact
    out = filter_map (map.get both) gone

    abbrev stays : Fact → Bool
    stays f = not (shares_tag out f)

    goes_on : NeverFalls (reached_of k) to.reached
    unfolding stepped
    goes_on =
        subst (λ (r : Reached). NeverFalls r to.reached) (sym st.seen.whole.mirrors.reached)
        (subst (NeverFalls w.reached) (sym reached) (reaches_on s.program w step st.seen.whole.lawful none))

    moves : MovesSnapshot s.program before after out come
    moves = leads_move s.program all behind both k.clock to.clock gone come leads (reached_of k) to.reached goes_on

    lawful_step : IsLawfulStep s.program s.lives w step
    lawful_step = record { flagged = flagged s.program runs.runnable; operators = runs.runnable.operators; safe = runs.table.safe; lawful = st.seen.whole.lawful; faultless = none }

    next_distinct : HaveDistinctTags next.facts
    next_distinct = tags_behind s.program w step ordered

    after_distinct : HaveDistinctTags (facts_of behind)
    after_distinct = distinct_here s.program (moved s.program w step) next_distinct behind to.clock now to.reached reached at

    in_next : (f : Fact) → In f (facts_of behind) → In f next.facts
    in_next = of_world s.program (moved s.program w step) next_distinct behind to.clock now to.reached reached at

    after_world : (q : Pattern) (who : Named) → candidates_of s.program q after who ≡ candidates_of s.program q next who
    after_world = world_candidates s.program (moved s.program w step) next_distinct behind to.clock now to.reached reached at

    after_rows : (cs : List Condition) (row : Row) → rows_of s.program after cs row ≡ rows_of s.program next cs row
    after_rows = world_rows s.program (moved s.program w step) next_distinct behind to.clock now to.reached reached at

    -- what goes is in the store
    none_goes : (f : Fact) → In f out → forgotten (name_of f) ≡ false
    none_goes f i =
        let r = of_tags both gone f i in
        let g = stored r.0 r.1 in
        let own : f.tag.0 ≡ r.0 = leads.own r.0 f r.2 in
        not_stored f (moves.held f i) ∙ ap (λ o. not (is_some o)) (ap (map.get k.facts) own ∙ g.1)

    -- what comes has a new tag
    none_comes : (f : Fact) → come ≡ Some f → forgotten (name_of f) ≡ false
    none_comes f e =
        false_from_ne_true (forgotten (name_of f)) (λ h.
        let below : f.tag.0 < k.next_tag = st.seen.are.below (name_of f) h in
        let above : k.next_tag ≤ f.tag.0 = new f e in
        absurd (omega (arith, below, above)))

    -- a forgotten fact that is there behind the step was there before it
    was_there : (f : Fact) → In f (facts_of behind) → forgotten (name_of f) ≡ true → In f (facts_of all)
    was_there f i known = elim (In-append f (filter stays (facts_of all)) (option_to_list come) (subst (In f) moves.facts i)) [
      | inl j ↦ of_filter stays f (facts_of all) j
      | inr j ↦ by come refl j
    ]
      where
        by : (o : Option Fact) → come ≡ o → In f (option_to_list o) → In f (facts_of all)
        by None e j = absurd j
        by (Some c) e (inl h) = absurd (let n : true ≡ false = sym known ∙ ap (λ (g : Fact). forgotten (name_of g)) h ∙ none_comes c e in cc)
        by (Some c) e (inr j) = absurd j

    -- and what was there is there
    is_there : (f : Fact) → In f (facts_of all) → forgotten (name_of f) ≡ true → In f (facts_of behind)
    is_there f i known =
        subst (In f) (sym moves.facts) (in_left f (filter stays (facts_of all)) (option_to_list come) (in_filter stays f (facts_of all) (ap not (false_from_ne_true (shares_tag out f) apart)) i))
      where
        apart : shares_tag out f ≡ true → ⊥
        apart e =
            let g = list_any-In (λ (g : Fact). g.tag.0 == f.tag.0) out e in
            let tags : g.0.tag ≡ f.tag = ap tag_of (eqb-true g.0.tag.0 f.tag.0 g.2) in
            let same : g.0 ≡ f = one_fact (facts_of all) before_distinct g.0 f (moves.held g.0 g.1) i tags in
            absurd (let n : true ≡ false = sym known ∙ ap (λ (x : Fact). forgotten (name_of x)) (sym same) ∙ none_goes g.0 g.1 in cc)

    -- ---- candidates

    module _ (rule : Rule) (in_rules : In rule s.program.rules) (place : ℕ) (c : Condition) (at_place : slice_get rule.conditions place ≡ Some c) where
      -- a forgotten fact that is there before and behind is a candidate as it was
      fact_same : (f : Fact) → In f (facts_of all) → In f (facts_of behind) → forgotten (name_of f) ≡ true
          → candidates_of s.program (pattern_of c) after (name_of f) ≡ candidates_of s.program (pattern_of c) before (name_of f)
      fact_same f i j known =
          after_world (pattern_of c) (name_of f)
          ∙ there_same s.program s.lives w step lawful_step rule in_rules place c at_place f (sym (lost_in_world f i) ∙ known) (in_next f j)
          ∙ sym (before_world (pattern_of c) (name_of f))

      module _ (who : Named) (known : forgotten who ≡ true) where
        was_candidate : candidates_of s.program (pattern_of c) after who ≡ true → candidates_of s.program (pattern_of c) before who ≡ true
        was_candidate e =
            let f = candidate_of s.program after after_distinct (pattern_of c) who e in
            let there = of_filter (is_candidate s.program (pattern_of c) after) f.0 (facts_of behind) f.1 in
            let known_too : forgotten (name_of f.0) ≡ true = ap forgotten f.2 ∙ known in
            ap (candidates_of s.program (pattern_of c) before) (sym f.2)
            ∙ sym (fact_same f.0 (was_there f.0 there known_too) there known_too)
            ∙ ap (candidates_of s.program (pattern_of c) after) f.2 ∙ e

        is_candidate_still : candidates_of s.program (pattern_of c) before who ≡ true → candidates_of s.program (pattern_of c) after who ≡ true
        is_candidate_still e =
            let f = candidate_of s.program before before_distinct (pattern_of c) who e in
            let there = of_filter (is_candidate s.program (pattern_of c) before) f.0 (facts_of all) f.1 in
            let known_too : forgotten (name_of f.0) ≡ true = ap forgotten f.2 ∙ known in
            ap (candidates_of s.program (pattern_of c) after) (sym f.2)
            ∙ fact_same f.0 there (is_there f.0 there known_too) known_too
            ∙ ap (candidates_of s.program (pattern_of c) before) f.2 ∙ e

        same_here : candidates_of s.program (pattern_of c) after who ≡ candidates_of s.program (pattern_of c) before who
        same_here = same_test (candidates_of s.program (pattern_of c) after who) (candidates_of s.program (pattern_of c) before who) was_candidate is_candidate_still

    same_candidates : (rule : Rule) → In rule s.program.rules → (c : Condition) → In c rule.conditions → (who : Named) → forgotten who ≡ true
        → candidates_of s.program (pattern_of c) after who ≡ candidates_of s.program (pattern_of c) before who
    same_candidates rule in_rules c in_conditions who known = let at = placed rule.conditions c in_conditions in same_here rule in_rules at.0 c at.1 who known

    -- ---- rows that come

    -- what is held behind the step is held of the world
    held_next : (fs : List Fact) → Holds (held after) fs → Holds (held next) fs
    held_next [] h = tt
    held_next (f ∷ fs) h = (
      held_fact next next_distinct f (in_next f (version_in after (name_of f) f (version_named (held after) f h.0)).0),
      held_next fs h.1,
    )

    module _ (rule : Rule) (in_rules : In rule s.program.rules) (place : ℕ) (c : Condition) (at_place : slice_get rule.conditions place ≡ Some c) (side : binds c ≡ false)
        (row : Row) (is : rows_of s.program after (take place rule.conditions) row ≡ true) (was_not : rows_of s.program before (take place rule.conditions) row ≡ false) where
      abbrev q : Pattern
      q = pattern_of c

      comes : RowComes s.program w step (take place rule.conditions) row
      comes = record { is = sym (after_rows (take place rule.conditions) row) ∙ is; was_not = sym (before_rows (take place rule.conditions) row) ∙ was_not }

      -- a fact joins the row by what is held of the world where it joins it
      joins_next : (f : Fact) → In f (facts_of behind) → joins q (held next) row (name_of f) ≡ joins q (held after) row (name_of f)
      joins_next f i =
          let t = tuple_of_row s.program after (take place rule.conditions) row is in
          let holds = made_facts s.program after after_distinct (take place rule.conditions) t.0 t.1 in
          let by : joins q (held next) (row_of t.0) (name_of f) ≡ joins q (held after) (row_of t.0) (name_of f) =
          joins_of_tuple (held next) q t.0 f (held_next t.0.facts holds) (held_fact next next_distinct f (in_next f i))
          ∙ sym (joins_of_tuple (held after) q t.0 f holds (held_fact after after_distinct f i)) in
          subst (λ (r : Row). joins q (held next) r (name_of f) ≡ joins q (held after) r (name_of f)) t.2 by

      meets_none : (who : Named) → forgotten who ≡ true → (candidates_of s.program q after who && joins q (held after) row who) ≡ true → ⊥
      meets_none who known e =
          let parts = and_parts (candidates_of s.program q after who) (joins q (held after) row who) e in
          let f = candidate_of s.program after after_distinct q who parts.0 in
          let there = of_filter (is_candidate s.program q after) f.0 (facts_of behind) f.1 in
          let known_too : forgotten (name_of f.0) ≡ true = ap forgotten f.2 ∙ known in
          let lost : is_forgotten s.program s.lives w who ≡ true = ap (is_forgotten s.program s.lives w) (sym f.2) ∙ sym (lost_in_world f.0 (was_there f.0 there known_too)) ∙ known_too in
          let joined : joins q (held next) row who ≡ true =
          ap (joins q (held next) row) (sym f.2) ∙ joins_next f.0 there ∙ ap (joins q (held after) row) f.2 ∙ parts.1 in
          let meets = and_from (candidates_of s.program q next who) (joins q (held next) row who) (sym (after_world q who) ∙ parts.0) joined in
          let none_met = row_meets_kept s.program s.lives w step lawful_step rule in_rules place c at_place side (held next) (λ tag g e known. e) row comes who lost in
          absurd (let n : true ≡ false = sym meets ∙ none_met in cc)

      counts_none : (who : Named) → forgotten who ≡ true → (candidates_of s.program q after who && joins q (held after) row who) ≡ false
      counts_none who known = false_from_ne_true (candidates_of s.program q after who && joins q (held after) row who) (meets_none who known)

    none_counted : (rule : Rule) → In rule s.program.rules → (place : ℕ) (c : Condition) → slice_get rule.conditions place ≡ Some c
        → (row : Row) → rows_of s.program after (take place rule.conditions) row ≡ true → rows_of s.program before (take place rule.conditions) row ≡ false
        → CountsNone c s.program after forgotten row
    none_counted rule in_rules place (Plain pattern) at_place row is was_not = tt
    none_counted rule in_rules place (Negated pattern) at_place row is was_not = counts_none rule in_rules place (Negated pattern) at_place refl row is was_not
    none_counted rule in_rules place (Existing pattern) at_place row is was_not = counts_none rule in_rules place (Existing pattern) at_place refl row is was_not
    none_counted rule in_rules place (Folded a) at_place row is was_not = counts_none rule in_rules place (Folded a) at_place refl row is was_not

pub not_needed : NotNeeded
unfolding stepped
not_needed s m k w st step runs none behind to both gone come leads at now reached stored new = record {
  none_goes = none_goes s m k w st runs step none behind to both gone come leads at now reached stored new;
  none_comes = none_comes s m k w st runs step none behind to both gone come leads at now reached stored new;
  same_candidates = same_candidates s m k w st runs step none behind to both gone come leads at now reached stored new;
  none_counted = none_counted s m k w st runs step none behind to both gone come leads at now reached stored new;
}
