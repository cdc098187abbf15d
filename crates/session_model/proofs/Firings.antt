-- What fires in the worlds for which a session stands: the agenda's first match is the world's, and its facts are all kept.
use Rattle.session_model.proofs.Common.{◌≡◌, ◌==◌, ℕ, Bool, true, false, cond, List, [], ◌∷◌, ◌++◌, map, Option, Some, None, is_some, option_map, slice_get, ℤ}
use Rattle.session_model.proofs.Common.{In, inl, inr, cons_option, filter_map, Detail, Result, refl, sym, ◌∙◌, ap, subst, option_and_then, fun_ext, Fact, Tag}
use Rattle.session_model.proofs.Common.{Named, Action, Code, Match, Program, Step, named_at, has_match, fire_cmp, saliences, fire_total, first, step_of, World}
use Rattle.session_model.proofs.Common.{present, pending, marked, first_pending, fire_exact, first_alike, first_in, in_place, all_of, by_fire, Marks, OutLine}
use Rattle.session_model.proofs.Common.{No, Yes, ends_by, is_kept_tag, is_kept_fact, only, fact_at, sight_of, pending_kept, sight_law, Memory, Setting}
use Rattle.session_model.proofs.Common.{actions_of, does_all, fire_line, fires_with, step_or_overflow, wanted, AllFit, held_at, planned, Contents, Runs}
use Rattle.session_model.{proofs.{Common.{Standing, FiringAnswers}, Acting.{wanted_fits}}, specs.{Gives.{fire_line_by, seen, version_of}, Places.{told}}}
use Rattle.{std.specs.Prelude.{if◌then◌else◌}, answer_lines.specs.declared.lines.{Detail.TheVariants.{Brief, Full}, OutLine.TheVariants.{FiredFor}}}
use Rattle.std.specs.FinMap as map_of

-- the pending match that fires first
abbrev pub top_of : Marks → Option Match
top_of a = first (fire_cmp a.saliences) a.pending

-- what is planned for the match that fires first, if there is one
abbrev pub plan_of : Program → Contents → Option Match → Option (List (Result Step Code))
plan_of p k o = option_map (λ (q : Match). planned k.facts q.row (actions_of (slice_get p.rules q.rule.0))) o

-- the line of the match that fires first, if there is one
abbrev pub line_of : Setting → Contents → Option Match → Option OutLine
line_of s k o = option_map (told s k) o

-- the match that fires first is pending
pub top_held : (a : Marks) (q : Match) → Some q ≡ top_of a → has_match a.pending q ≡ true
top_held a q top =
    let order = a.saliences in
    sym (by_fire order q a.pending) ∙ first_in (fire_cmp order) (fire_total order) (fire_exact order) a.pending q (sym top)

-- ---- facts that are kept

-- what passes is the fact itself
only_whole : (test : Fact → Bool) (o : Option Fact) → is_some (only test o) ≡ true → only test o ≡ o
only_whole test None e = refl
only_whole test (Some f) e = by (test f) e
  where
    by : (b : Bool) → is_some (cond b (Some f) None) ≡ true → cond b (Some f) None ≡ Some f
    by true h = refl
    by false h = absurd (let n : false ≡ true = h in cc)

fact_version : (facts : List Fact) (tag : Tag) → fact_at facts tag.0 ≡ version_of facts tag
unfolding version_of
fact_version [] tag = refl
fact_version (f ∷ facts) tag = ap (λ (rest : Option Fact). if f.tag.0 == tag.0 then Some f else rest) (fact_version facts tag)

-- two maps that have the same at the tags of the names
same_named : (look other : Tag → Option Fact) (names : List Named) (place : ℕ) (o : Option Named) → slice_get names place ≡ o
    → ((n : Named) → o ≡ Some n → look n.tag ≡ other n.tag) → option_and_then (λ (n : Named). look n.tag) o ≡ option_and_then (λ (n : Named). other n.tag) o
same_named look other names place None e same = refl
same_named look other names place (Some n) e same = same n refl

-- and what they have there one after the other
same_seen : (look other : Tag → Option Fact) (names : List Named) → ((n : Named) → In n names → look n.tag ≡ other n.tag)
    → filter_map (λ (n : Named). look n.tag) names ≡ filter_map (λ (n : Named). other n.tag) names
same_seen look other [] same = refl
same_seen look other (n ∷ names) same =
    ap (λ (o : Option Fact). cons_option o (filter_map (λ (n : Named). look n.tag) names)) (same n (inl refl))
    ∙ ap (λ (facts : List Fact). cons_option (other n.tag) facts) (same_seen look other names (λ m i. same m (inr i)))

-- a line tells what is seen of the row alone
seen_alike : (d : Detail) (p : Program) (clock : ℤ) (look other : Tag → Option Fact) (q : Match) → seen look q.row ≡ seen other q.row
    → fire_line_by d p clock look q ≡ fire_line_by d p clock other q
seen_alike Brief p clock look other q same = refl
seen_alike Full p clock look other q same = ap (λ (facts : List Fact). FiredFor q.rule clock facts q.row.values) same

-- ---- the match that fires first

module _ (s : Setting) (m : Memory) (k : Contents) (w : World) (st : Standing s m k w) where
  -- the agenda's first is the world's
  pub first_is : top_of k.agenda ≡ first_pending s.program w
  first_is =
      let order = saliences s.program.rules in
      ap (λ z. first (fire_cmp z) k.agenda.pending) st.seen.saliences
      ∙ first_alike (fire_cmp order) (fire_total order) (fire_exact order) k.agenda.pending (pending s.program w)
      (λ q. by_fire order q k.agenda.pending ∙ st.holds.pending q ∙ sym (by_fire order q (pending s.program w)))

  pub top_pending : (q : Match) → Some q ≡ top_of k.agenda → has_match (pending s.program w) q ≡ true
  top_pending q top = sym (st.holds.pending q) ∙ top_held k.agenda q top

  -- the facts that a pending match names are kept
  module _ (q : Match) (is : has_match (pending s.program w) q ≡ true) where
    named_kept : (n : Named) → In n q.row.facts → map_of.get k.facts n.tag.0 ≡ version_of (present s.program w) n.tag
    named_kept n i =
        let sight = sight_of s.program w in
        let lives = ends_by s.lives in
        let each = pending_kept lives sight (sight_law s.program w st.seen.whole.lawful.ordered) q is in
        let here : is_kept_tag lives sight n.tag.0 ≡ true = all_of (λ (n : Named). is_kept_tag lives sight n.tag.0) q.row.facts n each i in
        st.holds.store n.tag.0 ∙ only_whole (is_kept_fact lives sight n.tag.0) (fact_at (present s.program w) n.tag.0) here ∙ fact_version (present s.program w) n.tag

    -- so what is planned for it is what is wanted
    pub planned_wanted : (actions : List Action) → planned k.facts q.row actions ≡ wanted (present s.program w) q.row actions
    planned_wanted actions =
        ap
        (λ (fact : ℕ → Option Fact). map (λ (a : Action). step_or_overflow (step_of (record { fact = fact; result = slice_get q.row.values }) q.row.facts a)) actions)
        (fun_ext same)
      where
        same : (place : ℕ) → named_at (held_at k.facts) q.row.facts place ≡ named_at (version_of (present s.program w)) q.row.facts place
        same place = same_named (held_at k.facts) (version_of (present s.program w)) q.row.facts place (slice_get q.row.facts place) refl (λ n there. named_kept n (in_place q.row.facts place n there))

    -- and its line is the one of the world
    pub told_fires : told s k q ≡ fire_line s.detail s.program w q
    told_fires =
        ap (λ (z : ℤ). fire_line_by s.detail s.program z (held_at k.facts) q) st.seen.whole.mirrors.clock
        ∙ seen_alike s.detail s.program w.clock (held_at k.facts) (version_of (present s.program w)) q (same_seen (held_at k.facts) (version_of (present s.program w)) q.row.facts named_kept)

  -- ---- answers

  module _ (plan : List (Result Step Code)) (q : Match) (top : Some q ≡ top_of k.agenda) (is_planned : Some plan ≡ plan_of s.program k (top_of k.agenda)) where
    pub plan_wanted : plan ≡ wanted (present s.program w) q.row (actions_of (slice_get s.program.rules q.rule.0))
    plan_wanted =
        let actions = actions_of (slice_get s.program.rules q.rule.0) in
        let is : Some plan ≡ plan_of s.program k (Some q) = is_planned ∙ ap (plan_of s.program k) (sym top) in
        let given : plan ≡ planned k.facts q.row actions = cc in
        given ∙ planned_wanted q (top_pending q top) actions

    -- what is planned for the match that fires first fits the world
    pub plan_fits : Runs s → AllFit s.program w plan
    plan_fits runs = subst (AllFit s.program w) (sym plan_wanted) (wanted_fits s.program w q runs.runnable st.seen.whole.lawful (top_pending q top))

  some_fires : (o : Option Match) → is_some (fires_with s.detail s.program w o) ≡ is_some o
  some_fires None = refl
  some_fires (Some q) = refl

  pub due_fires : is_some (top_of k.agenda) ≡ is_some (fires_with s.detail s.program w (first_pending s.program w))
  due_fires = ap is_some first_is ∙ sym (some_fires (first_pending s.program w))

  pub no_fire : (o : Option Match) → o ≡ top_of k.agenda → None ≡ plan_of s.program k o → FiringAnswers (fires_with s.detail s.program w (first_pending s.program w)) No w (Standing s m k)
  no_fire None top e = subst (λ (z : Option Match). FiringAnswers (fires_with s.detail s.program w z) No w (Standing s m k)) (top ∙ first_is) (refl, st)
  no_fire (Some q) top e = absurd (cc)

abbrev pub answers : Setting → World → Memory → Contents → List OutLine → Option Match → Type 0
answers s w n t lines o = FiringAnswers (fires_with s.detail s.program w o) (Yes lines) w (Standing s n t)

-- What is planned for the match that fires first is done behind its mark.
abbrev pub FiresInto : Setting → Memory → Contents → List (Result Step Code) → Memory → Contents → Type 0
FiresInto s m k plan n t = (w : World) (q : Match) → Standing s m k w → Some q ≡ top_of k.agenda → AllFit s.program w plan → Standing s n t (does_all s.detail s.program (marked w q) plan).1

-- Behind a line the lines of what is planned are written.
abbrev pub WritesFiring : Setting → Memory → Contents → OutLine → List (Result Step Code) → List OutLine → Type 0
WritesFiring s m k line plan lines =
    (w : World) (q : Match) → Standing s m k w → Some q ≡ top_of k.agenda → AllFit s.program w plan → lines ≡ line ∷ [] ++ (does_all s.detail s.program (marked w q) plan).0

pub yes_fire : (s : Setting) (m : Memory) (k : Contents) (n : Memory) (t : Contents) (w : World) (line : OutLine) (plan : List (Result Step Code)) (lines : List OutLine) (o : Option Match) → Runs s
    → Standing s m k w → o ≡ top_of k.agenda → Some line ≡ line_of s k o → Some plan ≡ plan_of s.program k o → FiresInto s m k plan n t → WritesFiring s m k line plan lines → answers s w n t lines (first_pending s.program w)
yes_fire s m k n t w line plan lines None runs st top says e stands written = absurd (cc)
yes_fire s m k n t w line plan lines (Some q) runs st top says e stands written =
    let is_planned = e ∙ ap (plan_of s.program k) top in
    let fits = plan_fits s m k w st plan q top is_planned runs in
    let same = plan_wanted s m k w st plan q top is_planned in
    let given : line ≡ told s k q = cc in
    let is : line ≡ fire_line s.detail s.program w q = given ∙ told_fires s m k w st q (top_pending s m k w st q top) in
    subst (answers s w n t lines) (top ∙ first_is s m k w st) (
      ap Yes (written w q st top fits ∙ ap (λ (z : OutLine). z ∷ [] ++ (does_all s.detail s.program (marked w q) plan).0) is
          ∙ ap (λ z. fire_line s.detail s.program w q ∷ [] ++ (does_all s.detail s.program (marked w q) z).0) same),
      subst (λ z. Standing s n t (does_all s.detail s.program (marked w q) z).1) same (stands w q st top fits),
    )
