-- What the first phase of a step leaves, and what it asks of the facts that are forgotten.
use Rattle.session_model.proofs.Common.{◌≡◌, ◌≤◌, ◌⊎◌, ℕ, Bool, true, List, filter_map, Option, Some, None, In, Fact, HeldFacts, facts_of, tag_of, Step, World}
use Rattle.session_model.proofs.Common.{present, stepped, step_fault, AreNotNeeded, NetStands, clean_rows, lingers, Covers, ends_by, ends_of, HasLeft, brought}
use Rattle.session_model.proofs.Common.{changed, comes, goes, Memory, Setting, Instant, LeadsStep, facts_at, version_of, over, IsRefreshed, Contents}
use Rattle.session_model.proofs.Common.{AreForgotten, Awaits, Runs, Standing, Whole, with_facts, reached_of}
use Rattle.std.specs.FinMap as map

-- the parts of a session behind the first phase of a step, which did not change what is forgotten
pub record IsTaken (s : Setting) (m : Memory) (k : Contents) (w : World) (st : Standing s m k w) (step : Step) (n : Memory) (t : Contents) (left : ℕ → Bool) : Type 0 where
  pub all : HeldFacts
  pub whole : Whole s.program (with_facts t all) (stepped s.program w step)
  pub are : AreForgotten t all st.seen.forgotten
  -- what comes has a new tag
  pub later : (tag : ℕ) (f : Fact) → map.get all tag ≡ Some f → (map.get st.seen.all tag ≡ Some f) ⊎ (k.next_tag ≤ tag)
  pub stands : NetStands s.program n.net (over (facts_of all) t.clock (reached_of t)) st.seen.forgotten
  pub refreshed : IsRefreshed s.program.rules (clean_rows s.program (over (facts_of st.seen.all) k.clock (reached_of k)) st.seen.forgotten) (clean_rows s.program (over (facts_of all) t.clock (reached_of t)) st.seen.forgotten) k.agenda t.agenda
  pub has_left : HasLeft k.agenda t.agenda left
  pub store : (tag : ℕ) → map.get t.facts tag ≡ changed (brought (comes s.program w step) tag) (goes s.program w step) (map.get k.facts tag)
  pub covered : Covers (ends_of (ends_by s.lives) (map.get t.facts)) t.clock n.retention
  pub lingering : (tag : ℕ) → lingers n.retention tag ≡ true → lingers m.retention tag ≡ true

-- then the second phase is what is left
abbrev pub TakenAwaits : Type 0
TakenAwaits = (s : Setting) (m : Memory) (k : Contents) (w : World) (st : Standing s m k w) (step : Step) (n : Memory) (t : Contents) (left : ℕ → Bool)
    → Runs s → step_fault s.program w step ≡ None → IsTaken s m k w st step n t left → Awaits s n t left (stepped s.program w step)

-- in a step of a world no rule needs a forgotten fact
abbrev pub NotNeeded : Type 0
NotNeeded = (s : Setting) (m : Memory) (k : Contents) (w : World) (st : Standing s m k w) (step : Step) → Runs s → step_fault s.program w step ≡ None
    → (behind : HeldFacts) (to : Instant) (both : HeldFacts) (gone : List ℕ) (come : Option Fact) → LeadsStep s.program st.seen.all k.clock behind to.clock both gone come
    → ((tag : ℕ) → map.get behind tag ≡ version_of (present s.program (stepped s.program w step)) (tag_of tag)) → to.clock ≡ (stepped s.program w step).clock → to.reached ≡ (stepped s.program w step).reached
    → ((tag : ℕ) → In tag gone → (f : Fact) × (map.get k.facts tag ≡ Some f)) → ((f : Fact) → come ≡ Some f → k.next_tag ≤ f.tag.0)
    → AreNotNeeded s.program st.seen.forgotten (over (facts_of st.seen.all) k.clock (reached_of k)) (facts_at behind to) (filter_map (map.get both) gone) come
