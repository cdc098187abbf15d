-- A step whose first phase is done awaits the second.
use Rattle.session_model.proofs.Common.{◌≡◌, ◌∙◌, sym, ap, refl, subst, ℕ, ◌&&◌, not, Bool, true, false, List, None, facts_of, Row, Match, Rule, Step, matches}
use Rattle.session_model.proofs.Common.{has_match, World, snapshot, stepped, step_fault, clean_rows, Covers, clean, flagged, IsLawfulStep, Lives, TagWorld}
use Rattle.session_model.proofs.Common.{ends_by, ends_of, each_tag, is_kept_tag, is_clean, TakesChanges, sight_of, comes, goes, world_step_kept, Memory}
use Rattle.session_model.proofs.Common.{Setting, over, matches_by, only_in, Contents, Runs, Seen, Standing, holding, with_facts, reached_of}
use Rattle.session_model.proofs.{Clean.{clean_matches, clean_kept, clean_next, clean_was, whole_matches}, Phases.{IsTaken, TakenAwaits}}
use Rattle.{std.proofs.lemmas.Bool.{and_from, and_parts}, fx_base.proofs.Tests.{and_where}}
use Rattle.std.specs.FinMap as map

stays : (a b : Bool) → a ≡ true → not (a && not b) ≡ true → b ≡ true
stays true true e h = refl
stays true false e h = h
stays false b e h = absurd (let n : false ≡ true = e in cc)

module _ (s : Setting) (m : Memory) (k : Contents) (w : World) (st : Standing s m k w) (step : Step) (n : Memory) (t : Contents) (left : ℕ → Bool)
    (runs : Runs s) (none : step_fault s.program w step ≡ None) (taken : IsTaken s m k w st step n t left) where
  abbrev next : World
  next = stepped s.program w step

  abbrev lives : Lives
  lives = ends_by s.lives

  abbrev sight : TagWorld
  sight = sight_of s.program w

  -- the rows by which the agenda went on
  abbrev old : Rule → List Row
  old = clean_rows s.program (over (facts_of st.seen.all) k.clock (reached_of k)) st.seen.forgotten

  abbrev new : Rule → List Row
  new = clean_rows s.program (over (facts_of taken.all) t.clock (reached_of t)) st.seen.forgotten

  lawful_step : IsLawfulStep s.program s.lives w step
  lawful_step = record { flagged = flagged s.program runs.runnable; operators = runs.runnable.operators; safe = runs.table.safe; lawful = st.seen.whole.lawful; faultless = none }

  -- their matches are those of the worlds that name nothing forgotten
  was_match : (q : Match) → has_match (matches_by old s.program.rules) q ≡ (has_match (matches s.program (snapshot w)) q && is_clean lives sight q)
  was_match q =
      clean_matches s.program (over (facts_of st.seen.all) k.clock (reached_of k)) st.seen.forgotten q
      ∙ ap (λ b. b && clean st.seen.forgotten q.row) (whole_matches s.program (with_facts k st.seen.all) w st.seen.whole q)
      ∙ and_where (has_match (matches s.program (snapshot w)) q) (clean st.seen.forgotten q.row) (is_clean lives sight q) (λ is. sym (clean_was s m k w st q is))

  next_match : (q : Match) → has_match (matches_by new s.program.rules) q ≡ (has_match (matches s.program (snapshot next)) q && is_clean lives sight q)
  next_match q =
      clean_matches s.program (over (facts_of taken.all) t.clock (reached_of t)) st.seen.forgotten q
      ∙ ap (λ b. b && clean st.seen.forgotten q.row) (whole_matches s.program (with_facts t taken.all) next taken.whole q)
      ∙ and_where (has_match (matches s.program (snapshot next)) q) (clean st.seen.forgotten q.row) (is_clean lives sight q)
      (λ is. sym (clean_next s m k w st next (with_facts t taken.all) taken.whole taken.later q is))

  takes : TakesChanges lives (comes s.program w step) (goes s.program w step) sight (sight_of s.program next) (holding k m.retention) (holding t n.retention) (only_in s.program.rules old new)
      (only_in s.program.rules new old)
  takes = record {
    store = taken.store;
    covered = subst (λ clock. Covers (ends_of lives (map.get t.facts)) clock n.retention) taken.whole.mirrors.clock taken.covered;
    lingering = taken.lingering;
    goes = λ q. ap (λ b. b && not (has_match (matches_by new s.program.rules) q)) (was_match q) ∙ ap (λ b. (has_match (matches s.program (snapshot w)) q && is_clean lives sight q) && not b) (next_match q);
    comes = λ q. ap (λ b. b && not (has_match (matches_by old s.program.rules) q)) (next_match q) ∙ ap (λ b. (has_match (matches s.program (snapshot next)) q && is_clean lives sight q) && not b) (was_match q);
    pending = taken.refreshed.pending;
    fired = taken.refreshed.fired;
  }

  -- a fired match is one of the next world, and names nothing forgotten
  still_fired : (q : Match) → has_match t.agenda.fired q ≡ true → (has_match (matches s.program (snapshot next)) q ≡ true) × (clean st.seen.forgotten q.row ≡ true)
  still_fired q e =
      let stood = and_parts (has_match k.agenda.fired q) (not (only_in s.program.rules old new q)) (sym (taken.refreshed.fired q) ∙ e) in
      let marked = and_parts (has_match w.fired q) (each_tag (is_kept_tag lives sight) q) (sym (st.holds.fired q) ∙ stood.0) in
      let matched = st.seen.whole.lawful.ordered.fired q marked.0 in
      let pure = clean_kept s m k w st q matched ∙ marked.1 in
      let was = was_match q ∙ and_from (has_match (matches s.program (snapshot w)) q) (is_clean lives sight q) matched pure in
      let is = stays (has_match (matches_by old s.program.rules) q) (has_match (matches_by new s.program.rules) q) was stood.1 in
      ((and_parts (has_match (matches s.program (snapshot next)) q) (is_clean lives sight q) (sym (next_match q) ∙ is)).0, sym (clean_was s m k w st q matched) ∙ pure)

  abbrev sees : Seen s.program n.net t next
  sees = record { all = taken.all; whole = taken.whole; forgotten = st.seen.forgotten; are = taken.are; stands = taken.stands; saliences = taken.refreshed.saliences ∙ st.seen.saliences }

pub taken_awaits : TakenAwaits
taken_awaits s m k w st step n t left runs none taken = record {
  seen = sees s m k w st step n t left runs none taken;
  fired = still_fired s m k w st step n t left runs none taken;
  finishes = λ after old forgets.
      world_step_kept s.program s.lives w step (holding k m.retention) (holding t n.retention) after
      (only_in s.program.rules (clean_rows s.program (over (facts_of st.seen.all) k.clock (reached_of k)) st.seen.forgotten) (clean_rows s.program (over (facts_of taken.all) t.clock (reached_of t)) st.seen.forgotten))
      (only_in s.program.rules (clean_rows s.program (over (facts_of taken.all) t.clock (reached_of t)) st.seen.forgotten) (clean_rows s.program (over (facts_of st.seen.all) k.clock (reached_of k)) st.seen.forgotten)) left old
      (lawful_step s m k w st step n t left runs none taken) st.holds (takes s m k w st step n t left runs none taken) taken.has_left forgets;
}
