-- A session whose first match is marked as fired awaits the second phase of the firing.
use Rattle.session_model.proofs.Common.{◌≡◌, ◌∙◌, ◌&&◌, ◌||◌, not, ℕ, Bool, true, inl, inr, Some, refl, sym, subst, eq_by_cmp, tells_apart, Match, Program}
use Rattle.session_model.proofs.Common.{first, fire_total, matches, has_match, match_cmp, fire_cmp, fire_exact, match_exact, first_in, or_split, World, marked}
use Rattle.session_model.proofs.Common.{pending, snapshot, firing_lawful, by_fire, has_pending, Marks, names_tag, clean, Lives, TagWorld, each_tag, ends_by}
use Rattle.session_model.proofs.Common.{is_kept_tag, sight_of, pending_kept, world_fire_kept, sight_law, Memory, Setting, Awaits, Contents, Seen, Standing}
use Rattle.{session_model.proofs.{Common.{holding}, Clean.{clean_kept, clean_was}, Stands.{contents}}, std.proofs.lemmas.Bool.{and_parts}}

module _ (s : Setting) (m : Memory) (k : Contents) (w : World) (st : Standing s m k w) (q : Match) (top : Some q ≡ first (fire_cmp k.agenda.saliences) k.agenda.pending) where
  abbrev p : Program
  p = s.program

  abbrev lives : Lives
  lives = ends_by s.lives

  abbrev sight : TagWorld
  sight = sight_of p w

  -- the first of the agenda is pending in the world
  agenda_pending : has_match k.agenda.pending q ≡ true
  agenda_pending =
      sym (by_fire k.agenda.saliences q k.agenda.pending) ∙ first_in (fire_cmp k.agenda.saliences) (fire_total k.agenda.saliences) (fire_exact k.agenda.saliences) k.agenda.pending q (sym top)

  pub top_pending : has_match (pending p w) q ≡ true
  top_pending = sym (st.holds.pending q) ∙ agenda_pending

  -- a match that names kept facts alone names nothing forgotten
  clean_of : (x : Match) → has_match (matches p (snapshot w)) x ≡ true → each_tag (is_kept_tag lives sight) x ≡ true → clean st.seen.forgotten x.row ≡ true
  clean_of x is each = sym (clean_was s m k w st x is) ∙ clean_kept s m k w st x is ∙ each

  module _ (b : Marks) (sal : b.saliences ≡ k.agenda.saliences) (pend : (x : Match) → has_match b.pending x ≡ (has_match k.agenda.pending x && not (eq_by_cmp match_cmp q x)))
      (fired : (x : Match) → has_match b.fired x ≡ (has_match k.agenda.fired x || eq_by_cmp match_cmp q x)) where
    abbrev t : Contents
    t = contents k.facts k.expiries k.clock k.course b k.next_id k.next_tag

    marked_seen : Seen p m.net t (marked w q)
    marked_seen =
        let mirrors = st.seen.whole.mirrors in
        let are = st.seen.are in
        record {
          all = st.seen.all;
          whole = record {
            lawful = firing_lawful p w q st.seen.whole.lawful top_pending;
            mirrors = record {
              facts = mirrors.facts;
              waits = mirrors.waits;
              clock = mirrors.clock;
              reached = mirrors.reached;
              begun = mirrors.begun;
              next_id = mirrors.next_id;
              next_tag = mirrors.next_tag;
            };
          };
          forgotten = st.seen.forgotten;
          are = record { held = are.held; known = are.known; below = are.below };
          stands = st.seen.stands;
          saliences = sal ∙ st.seen.saliences;
        }

    -- a fired match is one of the world and names nothing forgotten
    marked_clean : (x : Match) → has_match b.fired x ≡ true → (has_match (matches p (snapshot w)) x ≡ true) × (clean st.seen.forgotten x.row ≡ true)
    marked_clean x e = elim (or_split (has_match k.agenda.fired x) (eq_by_cmp match_cmp q x) (sym (fired x) ∙ e)) [
      | inl was ↦ (
          let parts = and_parts (has_match w.fired x) (each_tag (is_kept_tag lives sight) x) (sym (st.holds.fired x) ∙ was) in
          let is = st.seen.whole.lawful.ordered.fired x parts.0 in
          (is, clean_of x is parts.1))
      | inr same ↦ (
          let is = (and_parts (has_match (matches p (snapshot w)) q) (not (has_match w.fired q)) (sym (has_pending p w q) ∙ top_pending)).0 in
          let each = pending_kept lives sight (sight_law p w st.seen.whole.lawful.ordered) q top_pending in
          subst (λ (z : Match). (has_match (matches p (snapshot w)) z ≡ true) × (clean st.seen.forgotten z.row ≡ true)) (tells_apart match_exact q x same) (is, clean_of q is each))
    ]

    pub marked_awaits : (left : ℕ → Bool) → ((tag : ℕ) → names_tag tag q ≡ true → left tag ≡ true) → Awaits s m t left (marked w q)
    unfolding marked_seen
    marked_awaits left names = record {
      seen = marked_seen;
      fired = marked_clean;
      finishes = λ after old forgets.
          world_fire_kept p s.lives w q (holding k m.retention) (holding t m.retention) after left old st.seen.whole.lawful.ordered top_pending st.holds
          (record { store = λ tag. refl; retention = refl; pending = pend; fired = fired }) names forgets;
    }
