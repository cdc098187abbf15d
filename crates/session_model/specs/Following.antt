-- The network of a program behind the facts of a session.
use Rattle.std.specs.Prelude.{◌≡◌, ◌<◌, ℕ, ℤ, ◌≤ℤ◌, Bool, false, List, filter_map, Option, Some, None}
use Rattle.fx_base.specs.{Lists.{In, EachOnce}, declared.fact.Fact.{Fact}}
use Rattle.due_queue.specs.Timers.{Timers}
use Rattle.fact_store.specs.Held.{HeldFacts, facts_of}
use Rattle.rule_model.specs.{declared.program.Program.{Program}, Tuples.{name_of}}
use Rattle.session_model.specs.{Refreshed.{over}, Standing.{expiry_at, Contents, reached_of}, Waiting.{fact_left_at, HaveOwnTags}}
use Rattle.pattern_gate.specs.Moves.{IsOrderly}
use Rattle.row_delta.specs.declared.row.Named.{Named}
use Rattle.rete_net.specs.Forgetting.{AreNotNeeded}
use Rattle.std.specs.FinMap as map
use Rattle.rule_model.specs.{Snapshots.{Reached, nothing_reached, Snapshot}, declared.moment.Moment.{Moment}, Moments.{reached_in}}

-- Facts at a clock, where only these matter.
abbrev pub facts_at_clock : HeldFacts → ℤ → Snapshot
facts_at_clock held clock = over (facts_of held) clock nothing_reached

-- Each fact stands at its own tag and waits for the moment from which it is not present, and all of them are present at the clock.
pub record IsReady (p : Program) (facts : HeldFacts) (expiries : Timers) (clock : ℤ) : Type 0 where
  pub own : HaveOwnTags facts
  pub waits : (tag : ℕ) → map.get expiries tag ≡ expiry_at p (map.get facts tag)
  pub kept : IsOrderly p (facts_at_clock facts clock)

-- ---- a step of the network

-- the one that comes, if one does, has the greatest tag
abbrev pub ComesLast : HeldFacts → HeldFacts → Option Fact → Type 0
ComesLast before all None = all ≡ before
ComesLast before all (Some f) = (all ≡ map.insert before f.tag.0 f) × ((tag : ℕ) (g : Fact) → map.get before tag ≡ Some g → tag < f.tag.0)

-- Some facts go, by their tags, one may come, and the clock moves on or stands. `all` has the facts before and the one that comes.
pub record LeadsStep (p : Program) (before : HeldFacts) (from : ℤ) (behind : HeldFacts) (to : ℤ) (all : HeldFacts) (gone : List ℕ) (come : Option Fact) : Type 0 where
  pub later : from ≤ℤ to
  pub kept_before : IsOrderly p (facts_at_clock before from)
  pub kept_behind : IsOrderly p (facts_at_clock behind to)
  pub own : HaveOwnTags all
  pub comes : ComesLast before all come
  pub once : EachOnce gone
  pub held : (tag : ℕ) → In tag gone → (f : Fact) × (map.get before tag ≡ Some f)
  pub left : (tag : ℕ) → map.get behind tag ≡ fact_left_at all gone tag

-- what entry points have reached does not fall
pub record NeverFalls (was now : Reached) : Type 0 where
  pub last_start : (entry : ℕ) → was.last_start entry ≤ℤ now.last_start entry
  pub promise : (entry : ℕ) → was.promise entry ≤ℤ now.promise entry

-- the store has of all facts those that are not forgotten, and those that go
pub record HasAtHand (all facts : HeldFacts) (gone : List ℕ) (forgotten : Named → Bool) : Type 0 where
  pub known : (tag : ℕ) (f : Fact) → map.get all tag ≡ Some f → forgotten (name_of f) ≡ false → map.get facts tag ≡ Some f
  pub going : (tag : ℕ) → In tag gone → map.get facts tag ≡ map.get all tag

-- an instant of a session: the clock and what entry points have reached
pub record Instant : Type 0 where
  pub clock : ℤ
  pub reached : Reached

-- the instant of contents
abbrev pub instant_of : Contents → Instant
instant_of k = record { clock = k.clock; reached = (reached_of k) }

-- that of a moment
abbrev pub instant_at : Moment → Instant
instant_at m = record { clock = m.clock; reached = reached_in m.last_starts.now m.promises.now }

abbrev pub facts_at : HeldFacts → Instant → Snapshot
facts_at held at = over (facts_of held) at.clock at.reached

-- the same where some facts are forgotten, and no rule needs one of them
pub record LeadsOn (p : Program) (before : HeldFacts) (from : Instant) (behind : HeldFacts) (to : Instant) (all : HeldFacts) (gone : List ℕ) (come : Option Fact) (forgotten : Named → Bool) (facts : HeldFacts) : Type 0 where
  pub leads : LeadsStep p before from.clock behind to.clock all gone come
  pub goes_on : NeverFalls from.reached to.reached
  pub unneeded : AreNotNeeded p forgotten (facts_at before from) (facts_at behind to) (filter_map (map.get all) gone) come
  pub at_hand : HasAtHand all facts gone forgotten
