-- A session whose world has begun awaits the second phase of the step: nothing else has changed.
use Rattle.session_model.proofs.Common.{◌≡◌, ℕ, Bool, true, List, None, inl, refl, sym, subst, facts_of, Row, Program, Rule, Begin, IsLawful, World}
use Rattle.session_model.proofs.Common.{only_present, clean_rows, Memory, Setting, over, Contents, Awaits, Mirrors, Runs, Standing, with_facts, reached_of}
use Rattle.session_model.proofs.{Exactly.{after_begin}, Moving_on.{covered_at, on_time}, Passing.{none_left}, Rules.{not_refreshed}, Stands.{contents}}
use Rattle.{session_model.proofs.{Still.{none_out}, Taken.{taken_awaits}}, rule_world.specs.Worlds.{step_fault, stepped, moved}}
use Rattle.std.specs.FinMap as map

module _ (s : Setting) (m : Memory) (k : Contents) (w : World) (st : Standing s m k w) (runs : Runs s) (none : step_fault s.program w Begin ≡ None) (lawful : IsLawful s.program (stepped s.program w Begin)) where
  abbrev p : Program
  p = s.program

  abbrev t : Contents
  t = contents k.facts k.expiries k.clock (record k.course { begun = true }) k.agenda k.next_id k.next_tag

  mirrors : Mirrors p (with_facts t st.seen.all) (only_present p (stepped p w Begin))
  unfolding stepped moved
  mirrors =
      let m = st.seen.whole.mirrors in
      subst (Mirrors p (with_facts t st.seen.all)) (sym (after_begin p w)) (record {
        facts = m.facts;
        waits = m.waits;
        clock = m.clock;
        reached = m.reached;
        begun = refl;
        next_id = m.next_id;
        next_tag = m.next_tag;
      })

  abbrev rows_are : Rule → List Row
  rows_are = clean_rows p (over (facts_of st.seen.all) k.clock (reached_of k)) st.seen.forgotten

  pub begin_awaits : (left : ℕ → Bool) → Awaits s m t left (stepped p w Begin)
  begin_awaits left = taken_awaits s m k w st Begin m t left runs none (record {
    all = st.seen.all;
    whole = record { lawful = lawful; mirrors = mirrors };
    are = record { held = st.seen.are.held; known = st.seen.are.known; below = st.seen.are.below };
    later = λ u f e. inl e;
    stands = st.seen.stands;
    refreshed = not_refreshed p.rules rows_are rows_are (λ place rule at row. refl) k.agenda;
    has_left = none_left k.agenda left;
    store = λ u. sym (none_out (map.get k.facts u));
    covered = covered_at s m k w st k.clock (on_time s m k w st);
    lingering = λ u e. e;
  })

-- and a begin has no fault
pub begin_is_done : (p : Program) (w : World) → step_fault p w Begin ≡ None
unfolding step_fault
begin_is_done p w = refl
