-- A session that has taken a promise awaits the second phase of the step.
use Rattle.session_model.proofs.Common.{◌≡◌, ◌≤◌, ◌∙◌, ℕ, ℤ, Bool, List, [], None, refl, sym, ap, subst, arith, fun_ext, EntryId, Program, Step, Promise}
use Rattle.session_model.proofs.Common.{Reached, IsLawful, World, only_present, promise_with, step_fault, Marks, HasLeft, Memory, Setting, instant_of, Contents}
use Rattle.session_model.proofs.{Common.{Awaits, Mirrors, Runs, Standing, with_facts, Course, reached_by, moment_in}, Exactly.{after_promise}}
use Rattle.{session_model.proofs.{Stands.{contents}, Still.{AgendaFollows, NetFollows, still_awaits}}, rule_world.specs.Worlds.{stepped, moved}}

-- what entry points have reached where one has promised a moment
abbrev pub promised : ℕ → ℤ → Reached → Reached
promised entry from r = record r { promise = promise_with entry from r.promise }

-- the course of a world where one has promised it
pub record HasPromise (entry : ℕ) (from : ℤ) (was now : Course) : Type 0 where
  pub reached : reached_by now ≡ promised entry from (reached_by was)
  pub begun : now.begun ≡ was.begun

-- the same of the lists that are kept, place by place
pub has_promise : (entry : ℕ) (from : ℤ) (was now : Course) → ((other : ℕ) → moment_in now.promises other ≡ promise_with entry from (moment_in was.promises) other) → now.last_starts ≡ was.last_starts
    → now.begun ≡ was.begun → HasPromise entry from was now
has_promise entry from was now promises starts begun = record {
  reached =
      ap (λ (p : ℕ → ℤ). record { last_start = moment_in now.last_starts; promise = p }) (fun_ext promises)
      ∙ ap (λ (of : List ℤ). record { last_start = moment_in of; promise = promise_with entry from (moment_in was.promises) }) starts;
  begun = begun;
}

no_less : (n : ℕ) → n ≤ n
no_less n = omega arith

module _ (s : Setting) (m : Memory) (k : Contents) (w : World) (st : Standing s m k w) (entry : EntryId) (from : ℤ) (runs : Runs s) (none : step_fault s.program w (Promise entry from) ≡ None)
    (lawful : IsLawful s.program (stepped s.program w (Promise entry from))) (n : Memory) (course : Course) (b : Marks) (is : HasPromise entry.0 from k.course course) (kept : n.retention ≡ m.retention) where
  abbrev p : Program
  p = s.program

  abbrev step : Step
  step = Promise entry from

  abbrev t : Contents
  t = contents k.facts k.expiries k.clock course b k.next_id k.next_tag

  mirrors : Mirrors p (with_facts t st.seen.all) (only_present p (stepped p w step))
  unfolding stepped moved
  mirrors =
      let m = st.seen.whole.mirrors in
      subst (Mirrors p (with_facts t st.seen.all)) (sym (after_promise p w entry.0 from)) (record {
        facts = m.facts;
        waits = m.waits;
        clock = m.clock;
        reached = is.reached ∙ ap (promised entry.0 from) m.reached;
        begun = is.begun ∙ m.begun;
        next_id = m.next_id;
        next_tag = m.next_tag;
      })

  pub promise_awaits : (left : ℕ → Bool) → NetFollows p m.net n.net (instant_of t) k.facts [] None → AgendaFollows p m.net (instant_of t) k.facts [] None k.agenda b → HasLeft k.agenda b left
      → Awaits s n t left (stepped p w step)
  promise_awaits left net agenda has_left =
      still_awaits s m k w st step runs none lawful n course b k.next_id k.next_tag mirrors (no_less k.next_tag) refl (λ f. refl) kept left net agenda has_left
