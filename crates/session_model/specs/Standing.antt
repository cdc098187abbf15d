-- Which worlds a session stands for, where events are forgotten.
use Rattle.std.specs.Prelude.{◌≡◌, ◌<◌, ◌≤◌, ℕ, ℤ, pos, Bool, true, not, List, length, Option, Some, None, is_some}
use Rattle.std.specs.FinMap as map
use Rattle.row_delta.specs.declared.row.Named.{Named}
use Rattle.fx_base.specs.declared.fact.Fact.{Fact}
use Rattle.fact_store.specs.Held.{HeldFacts, facts_of, tag_of}
use Rattle.due_queue.specs.Timers.{Timers}
use Rattle.rule_model.specs.{declared.{matched.Match.{Match}, program.Program.{Program}}, Matches.{matches, saliences, has_match}, Tuples.{name_of}}
use Rattle.rule_model.specs.{Snapshots.{Reached}, Moments.{reached_in}}
use Rattle.rule_world.specs.{Lawful.{IsLawful}, Programs.{IsRunnable}, Events.{end_of_presence}, Worlds.{World, snapshot, only_present}}
use Rattle.life_meaning.specs.Tables.{IsSafeTable}
use Rattle.agenda.specs.Agendas.{Marks}
use Rattle.join_memory.specs.Standing.{clean}
use Rattle.rete_net.specs.{declared.net.Rete.{Rete}, Nets.{NetStands}, Doors.{IsNetwork}}
use Rattle.retention.specs.declared.retention.Retention.{Retention}
use Rattle.forgetting_laws.specs.{Sights.{Holding, HoldsKept, ends_by}, Steps.{Forgets}, WorldSights.{sight_of}}
use Rattle.session_model.specs.{declared.{memory.Memory.{Memory}, setting.Setting.{Setting}}, Gives.{version_of}, Refreshed.{over}}

-- the course of a world so far: what its entry points have reached, by their places (beyond the end of a list it is 0), and whether it
-- has begun
pub record Course : Type 0 where
  pub last_starts : List ℤ
  pub promises : List ℤ
  pub begun : Bool

abbrev pub reached_by : Course → Reached
reached_by course = reached_in course.last_starts course.promises

-- What a session has: facts by their tags, the moments at which they expire, the clock, the course of its world, the agenda and the next
-- numbers.
pub record Contents : Type 0 where
  pub facts : HeldFacts
  pub expiries : Timers
  pub clock : ℤ
  pub course : Course
  pub agenda : Marks
  pub next_id : ℕ
  pub next_tag : ℕ

abbrev pub reached_of : Contents → Reached
reached_of k = reached_by k.course

-- the moment from which a fact is not present, where there is a fact and a moment
abbrev pub expiry_at : Program → Option Fact → Option ℤ
expiry_at p None = None
expiry_at p (Some f) = end_of_presence p f.ty.0 f.times.start

-- each fact waits for the moment from which it is not present, where it has one, and nothing else does
abbrev pub Waits : Program → Contents → Type 0
Waits p k = (tag : ℕ) → map.get k.expiries tag ≡ expiry_at p (map.get k.facts tag)

-- the contents of a session are those of a world, but for the agenda
pub record Mirrors (p : Program) (k : Contents) (w : World) : Type 0 where
  -- the store has exactly the facts of the world
  pub facts : (tag : ℕ) → map.get k.facts tag ≡ version_of w.facts (tag_of tag)
  pub waits : Waits p k
  pub clock : k.clock ≡ w.clock
  pub reached : (reached_of k) ≡ w.reached
  pub begun : k.course.begun ≡ w.begun
  pub next_id : k.next_id ≡ w.next_id
  pub next_tag : k.next_tag ≡ w.next_tag

-- the contents are those of a lawful world with all of its present facts, also those that are forgotten
pub record Whole (p : Program) (k : Contents) (w : World) : Type 0 where
  pub lawful : IsLawful p w
  pub mirrors : Mirrors p k (only_present p w)

-- contents with these facts in the place of their own
abbrev pub with_facts : Contents → HeldFacts → Contents
with_facts k facts = record k { facts = facts }

-- ---- what is forgotten

-- Of all present facts those are forgotten that the contents do not have; nothing is with a tag that no fact has had yet.
pub record AreForgotten (k : Contents) (all : HeldFacts) (forgotten : Named → Bool) : Type 0 where
  pub held : (tag : ℕ) (f : Fact) → map.get k.facts tag ≡ Some f → map.get all tag ≡ Some f
  pub known : (tag : ℕ) (f : Fact) → map.get all tag ≡ Some f → forgotten (name_of f) ≡ not (is_some (map.get k.facts tag))
  pub below : (who : Named) → forgotten who ≡ true → who.tag.0 < k.next_tag

-- The contents are those of a lawful world but for the forgotten facts, and the network stands for all present facts, of which it has
-- forgotten these.
pub record Seen (p : Program) (net : Rete) (k : Contents) (w : World) : Type 0 where
  pub all : HeldFacts
  pub whole : Whole p (with_facts k all) w
  pub forgotten : Named → Bool
  pub are : AreForgotten k all forgotten
  pub stands : NetStands p net (over (facts_of all) k.clock (reached_of k)) forgotten
  pub saliences : k.agenda.saliences ≡ saliences p.rules

-- what a session holds, as forgetting sees it
abbrev pub holding : Contents → Retention → Holding
holding k retention = record { store = map.get k.facts; retention = retention; agenda = k.agenda }

-- A session stands for a world where its parts hold exactly what is kept of it.
pub record Standing (s : Setting) (m : Memory) (k : Contents) (w : World) : Type 0 where
  pub seen : Seen s.program m.net k w
  pub holds : HoldsKept (ends_by s.lives) (sight_of s.program w) (holding k m.retention)

-- Between the two phases of a step: its parts have taken the change, and what is old is still to be forgotten, where `left` are the tags
-- of the matches that have stopped pending.
pub record Awaits (s : Setting) (m : Memory) (k : Contents) (left : ℕ → Bool) (w : World) : Type 0 where
  pub seen : Seen s.program m.net k w
  pub fired : (q : Match) → has_match k.agenda.fired q ≡ true → (has_match (matches s.program (snapshot w)) q ≡ true) × (clean seen.forgotten q.row ≡ true)
  pub finishes : (after : Holding) (old : ℕ → Bool) → Forgets w.clock left (holding k m.retention) after old → HoldsKept (ends_by s.lives) (sight_of s.program w) after

-- what a session runs: a program that engines run, and a safe table of lives
pub record Runs (s : Setting) : Type 0 where
  pub runnable : IsRunnable s.program
  pub table : IsSafeTable s.program s.lives

-- each of these matches is of one of so many rules
abbrev pub AreOfRules : ℕ → List Match → Type 0
AreOfRules rules found = (q : Match) → has_match found q ≡ true → q.rule.0 < rules

-- nothing is reached beyond the entry points of the program
abbrev pub ReachesNoMore : Program → Reached → Type 0
ReachesNoMore p reached = (entry : ℕ) → length p.entries ≤ entry → (reached.last_start entry ≡ pos 0) × (reached.promise entry ≡ pos 0)

-- What a session keeps to, whatever it stands for: its network is that of its program, what is pending are matches of the program's rules,
-- and only the program's entry points have reached anything.
pub record IsSound (p : Program) (m : Memory) (k : Contents) : Type 0 where
  pub net : IsNetwork p m.net
  pub pending : AreOfRules (length p.rules) k.agenda.pending
  pub reached : ReachesNoMore p (reached_of k)

-- what is sound before is sound behind
abbrev pub StaysSound : Program → Memory → Contents → Memory → Contents → Type 0
StaysSound p m k n t = IsSound p m k → IsSound p n t
