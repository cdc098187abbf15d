-- A session whose facts a step leaves as they are, but not the floors of entry points.
use Rattle.session_model.proofs.Common.{◌≡◌, ◌≤◌, ◌≤ℤ◌, ℕ, suc, Bool, false, List, [], Option, Some, None, refl, sym, ◌∙◌, ap, subst, inl, arith, fun_ext, Fact}
use Rattle.session_model.proofs.Common.{HeldFacts, Named, Program, Step, IsLawful, World, only_present, step_fault, stepped, Marks, Rete, NetStands, clean_rows}
use Rattle.session_model.proofs.Common.{lingers, Covers, ends_by, ends_of, HasLeft, brought, changed, comes, goes, Memory, Setting, Instant, LeadsStep, LeadsOn}
use Rattle.session_model.proofs.Common.{facts_at, instant_of, IsRefreshed, Contents, Awaits, Mirrors, Runs, Standing, with_facts, Course}
use Rattle.session_model.proofs.{Moving_on.{covered_at, hand_of, leads_on, on_time, world_ready}, Stands.{contents}, Taken.{taken_awaits}}
use Rattle.std.specs.Int.Signed.{≤ℤ_refl}
use Rattle.std.specs.FinMap as map

-- ---- what the network and the agenda have followed

-- the network stands for the facts behind whatever leads on to them, if it did so before
abbrev pub NetFollows : Program → Rete → Rete → Instant → HeldFacts → List ℕ → Option Fact → Type 0
NetFollows p net next now facts gone come =
    (before behind all : HeldFacts) (from : Instant) (forgotten : Named → Bool) → LeadsOn p before from behind now all gone come forgotten facts
    → NetStands p net (facts_at before from) forgotten → NetStands p next (facts_at behind now) forgotten

-- and the agenda is refreshed by their rows
abbrev pub AgendaFollows : Program → Rete → Instant → HeldFacts → List ℕ → Option Fact → Marks → Marks → Type 0
AgendaFollows p net now facts gone come a b =
    (before behind all : HeldFacts) (from : Instant) (forgotten : Named → Bool) → LeadsOn p before from behind now all gone come forgotten facts
    → NetStands p net (facts_at before from) forgotten
    → IsRefreshed p.rules (clean_rows p (facts_at before from) forgotten) (clean_rows p (facts_at behind now) forgotten) a b

-- ---- the step

-- nothing goes out
pub none_out : (o : Option Fact) → changed None (λ g. false) o ≡ o
none_out None = refl
none_out (Some g) = refl

later_below : (a b c : ℕ) → suc a ≤ b → b ≤ c → suc a ≤ c
later_below a b c h k = omega arith

module _ (s : Setting) (m : Memory) (k : Contents) (w : World) (st : Standing s m k w) (step : Step) (runs : Runs s) (none : step_fault s.program w step ≡ None)
    (lawful : IsLawful s.program (stepped s.program w step)) (n : Memory) (course : Course) (b : Marks) (id tag : ℕ) where
  abbrev p : Program
  p = s.program

  abbrev all : HeldFacts
  all = st.seen.all

  abbrev t : Contents
  t = contents k.facts k.expiries k.clock course b id tag

  module _ (mirrors : Mirrors p (with_facts t all) (only_present p (stepped p w step))) (tags : k.next_tag ≤ tag) (none_comes : comes p w step ≡ None) (none_goes : (f : Fact) → goes p w step f ≡ false)
      (kept : n.retention ≡ m.retention) where
    leads : LeadsStep p all k.clock all k.clock all [] None
    leads = record {
      later = ≤ℤ_refl k.clock;
      kept_before = (world_ready s m k w st).kept;
      kept_behind = (world_ready s m k w st).kept;
      own = (world_ready s m k w st).own;
      comes = refl;
      once = tt;
      held = λ u i. absurd i;
      left = λ u. refl;
    }

    leads_still : LeadsOn p all (instant_of k) all (instant_of t) all [] None st.seen.forgotten k.facts
    leads_still =
        leads_on s m k w st step runs none t all all [] None k.facts leads mirrors (λ u i. absurd i) (λ f e. absurd (let no : None ≡ Some f = e in cc))
        (hand_of k all [] st.seen.forgotten st.seen.are (λ u i. absurd i))

    same_store : (u : ℕ) → map.get k.facts u ≡ changed (brought (comes p w step) u) (goes p w step) (map.get k.facts u)
    same_store u =
        sym (none_out (map.get k.facts u)) ∙ ap (λ o. changed (brought o u) (λ g. false) (map.get k.facts u)) (sym none_comes)
        ∙ ap (λ (test : Fact → Bool). changed (brought (comes p w step) u) test (map.get k.facts u)) (fun_ext (λ f. sym (none_goes f)))

    pub still_awaits : (left : ℕ → Bool) → NetFollows p m.net n.net (instant_of t) k.facts [] None → AgendaFollows p m.net (instant_of t) k.facts [] None k.agenda b → HasLeft k.agenda b left
        → Awaits s n t left (stepped p w step)
    still_awaits left net agenda has_left = taken_awaits s m k w st step n t left runs none (record {
      all = all;
      whole = record { lawful = lawful; mirrors = mirrors };
      are = record { held = st.seen.are.held; known = st.seen.are.known; below = λ who e. later_below who.tag.0 k.next_tag tag (st.seen.are.below who e) tags };
      later = λ u f e. inl e;
      stands = net all all all (instant_of k) st.seen.forgotten leads_still st.seen.stands;
      refreshed = agenda all all all (instant_of k) st.seen.forgotten leads_still st.seen.stands;
      has_left = has_left;
      store = same_store;
      covered = subst (Covers (ends_of (ends_by s.lives) (map.get k.facts)) k.clock) (sym kept) (covered_at s m k w st k.clock (on_time s m k w st));
      lingering = λ u e. ap (λ r. lingers r u) (sym kept) ∙ e;
    })
