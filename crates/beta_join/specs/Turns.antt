-- What a part of a step does.
use Rattle.std.specs.Prelude.{Bool, List}
use Rattle.row_delta.specs.declared.row.{Named.{Named}, Row.{Row}}
use Rattle.row_change.specs.{declared.change.Change.{Change}, Changes.{LeadsRows}}
use Rattle.join_tests.specs.Joins.{Look, joins}
use Rattle.join_memory.specs.{declared.memories.Memories.{Memories}, Handed.{moved, MayMove}, Joined.{has_name, joined}, Memories.{has_left, made}}
use Rattle.join_memory.specs.Memories.{KeepsMemories}

-- the memories then keep these rows and candidates, and what has changed so far leads on to the rows that are made then
pub record TurnedMemories {S : Type 0} (before after : Memories S) (look : Look) (left : Row → Bool) (right : Named → Bool) (change changed : Change) : Type 0 where
  pub keeps : KeepsMemories before after look left right
  pub leads : (old : Row → Bool) → LeadsRows old (made before look) change.gone.keys change.come.keys → LeadsRows old (made after look) changed.gone.keys changed.come.keys

-- For all candidates among which these may come, or go, what has changed so far leads on from the rows that are made of them to those that
-- are made once some of these did.
abbrev pub NamesTurned : {S : Type 0} → Memories S → Look → Bool → List Named → List Named → Change → Change → Type 0
NamesTurned m look comes names some change changed = (set : Named → Bool) (old : Row → Bool) → MayMove comes names set
    → LeadsRows old (joined (joins m.pattern look) (has_left m look) set) change.gone.keys change.come.keys
    → LeadsRows old (joined (joins m.pattern look) (has_left m look) (moved comes (has_name some) set)) changed.gone.keys changed.come.keys
