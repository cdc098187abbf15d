-- Candidates that come or go one after another, as they are handed to a node.
use Rattle.std.specs.Prelude.{◌≡◌, ◌&&◌, ◌||◌, not, Bool, true, false, List}
use Rattle.row_delta.specs.declared.row.Named.{Named}
use Rattle.join_memory.specs.Joined.{has_name, AreDistinct}

-- a set of candidates with these more, where they come, or these less, where they go
abbrev pub moved : Bool → (Named → Bool) → (Named → Bool) → Named → Bool
moved true moving set who = set who || moving who
moved false moving set who = set who && not (moving who)

-- These candidates, each once, may come to a set, in which none of them is, or go from it, in which all of them are.
pub record MayMove (comes : Bool) (names : List Named) (set : Named → Bool) : Type 0 where
  pub once : AreDistinct names
  pub there : (who : Named) → has_name names who ≡ true → set who ≡ not comes
