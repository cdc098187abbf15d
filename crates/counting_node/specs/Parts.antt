-- What a part of a step does to a node: to what it keeps, to its tallies and to what has changed so far.
use Rattle.std.specs.Prelude.{◌≡◌, cond, Bool, true, List, Option, None}
use Rattle.row_delta.specs.declared.{extra.Extra.{Extra}, row.{Named.{Named}, Row.{Row}}}
use Rattle.row_change.specs.{declared.change.Change.{Change}, Changes.{LeadsRows}}
use Rattle.join_tests.specs.Joins.{Look, joins}
use Rattle.join_memory.specs.{declared.memories.Memories.{Memories}, Handed.{moved, MayMove}, Joined.{has_name}, Memories.{left_at, has_right, KeepsMemories}}
use Rattle.counting_node.specs.{Extras.{IsTallyLaden}, Tallies.{TurnedIf, StepsTally, SeeAlike, FollowsCandidates, Arrives, passing}}

-- The memories then keep these rows and candidates, their tallies have become what the relation says, and what has changed so far leads
-- on to the rows that the node has then.
pub record PartStep {T : Type 0} (rows : Memories T → Look → Row → Bool) (becomes : Memories T → Memories T → Type 0) (before after : Memories T) (look : Look) (left : Row → Bool) (right : Named → Bool) (change changed : Change) : Type 0 where
  pub keeps : KeepsMemories before after look left right
  pub tallies : becomes before after
  pub leads : (old : Row → Bool) → LeadsRows old (rows before look) change.gone.keys change.come.keys → LeadsRows old (rows after look) changed.gone.keys changed.come.keys

-- ---- what tallies become

-- those of these rows take a turn, in which one candidate comes or goes, and the others stay
abbrev pub AllTurned : {T : Type 0} → (T → Look → (Named → Bool) → Type 0) → Look → Bool → Named → (Row → Bool) → Memories T → Memories T → Type 0
AllTurned holds look comes who turning before after = (world : Look) → world who.tag ≡ look who.tag → (r : Row)
    → StepsTally (TurnedIf (turning r) holds world comes who) (left_at before look r) (left_at after look r)

-- they follow the kept candidates, of which some of these come or go
abbrev pub AllFollow : {T : Type 0} → (T → Look → (Named → Bool) → Type 0) → Look → (Named → Bool) → Memories T → Memories T → Type 0
AllFollow holds look moving before after = (world : Look) (scope : Named → Bool) → SeeAlike scope look world → ((c : Named) → moving c ≡ true → scope c ≡ true) → (r : Row)
    → StepsTally (FollowsCandidates holds world scope (has_right before look) (has_right after look) (joins before.pattern look r)) (left_at before look r) (left_at after look r)

-- They follow candidates that are kept elsewhere: some of these come to any set to which they may, or go from one.
abbrev pub AllFollowMoved : {T : Type 0} → (T → Look → (Named → Bool) → Type 0) → Look → Bool → List Named → List Named → Memories T → Memories T → Type 0
AllFollowMoved holds look comes names some before after = (set : Named → Bool) → MayMove comes names set
    → (world : Look) (scope : Named → Bool) → SeeAlike scope look world → ((c : Named) → has_name names c ≡ true → scope c ≡ true) → (r : Row)
    → StepsTally (FollowsCandidates holds world scope set (moved comes (has_name some) set) (joins before.pattern look r)) (left_at before look r) (left_at after look r)

-- those of these rows are dropped, and the others stay
abbrev pub AllDropped : {T : Type 0} → Look → (Row → Bool) → Memories T → Memories T → Type 0
AllDropped look gone before after = (r : Row) → left_at after look r ≡ cond (gone r) None (left_at before look r)

-- those of these rows begin with the kept candidates that pass, where the row was not kept, and the others stay
abbrev pub AllArrive : {T : Type 0} → (T → Look → (Named → Bool) → Type 0) → Look → (Row → Bool) → Memories T → Memories T → Type 0
AllArrive holds look come before after = (world : Look) → SeeAlike (has_right before look) look world → (r : Row)
    → Arrives (come r) holds world (passing before.pattern look (has_right before look) r) (left_at before look r) (left_at after look r)

-- the same, where the tally of each row is to hold of its own
abbrev pub AllArriveAt : {T : Type 0} → (Row → T → Look → (Named → Bool) → Type 0) → Look → (Row → Bool) → Memories T → Memories T → Type 0
AllArriveAt holds look come before after = (world : Look) → SeeAlike (has_right before look) look world → (r : Row)
    → Arrives (come r) (holds r) world (passing before.pattern look (has_right before look) r) (left_at before look r) (left_at after look r)

-- those of these rows begin with the kept candidates that pass and with their extras, where the row was not kept, and the others stay
abbrev pub AllLoaded : {T : Type 0} → (T → Look → (Named → Bool) → Type 0) → (T → Look → (Named → Bool) → Extra → Type 0) → Look → (Row → Option Extra) → (Row → Bool) → Memories T → Memories T → Type 0
AllLoaded holds laden look extra come = AllArriveAt (λ r t world set. IsTallyLaden holds laden t world set (extra r)) look come

-- all stay
abbrev pub AllStay : {T : Type 0} → Look → Memories T → Memories T → Type 0
AllStay look before after = (r : Row) → left_at after look r ≡ left_at before look r
