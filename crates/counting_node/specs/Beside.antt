-- What is counted beside one left row.
use Rattle.std.specs.Prelude.{◌≡◌, ◌<◌, ℕ, ℤ, Bool, true, List, [], ◌∷◌, Option, Some, None, IfSome}
use Rattle.fx_base.specs.declared.ids.RuleId.{RuleId}
use Rattle.row_delta.specs.declared.{extra.Extra.{Extra}, row.{Named.{Named}, Row.{Row}}}
use Rattle.join_tests.specs.Joins.{Look}
use Rattle.join_memory.specs.{declared.memories.Memories.{Memories}, Memories.{has_left}}
use Rattle.counting_node.specs.Extras.{CountsOthers, IsExtraFor}

-- the extra is that of a row, under this rule and condition, and counts something
pub record IsExtraBesideRow (under : RuleId) (place : ℕ) (beside : Row) (e : Extra) : Type 0 where
  pub rule : e.rule ≡ under
  pub condition : e.condition ≡ place
  pub row : e.row ≡ beside
  pub some : 0 < e.count

-- Where a row is kept, the extra tells what is counted of others beside it; where there is none, nothing is.
pub record TellsBeside {T : Type 0} (holds : T → Look → (Named → Bool) → Type 0) (gathered : Look → List Named → List ℤ) (m : Memories T) (look : Look) (under : RuleId) (place : ℕ) (beside : Row) (found : Option Extra) : Type 0 where
  pub own : IfSome found (IsExtraBesideRow under place beside)
  pub exact : (world : Look) (others : Row → Named → Bool) → CountsOthers holds m look world others → has_left m look beside ≡ true → IsExtraFor gathered world (others beside) found

-- the extra, where there is one
abbrev pub one_or_none : Option Extra → List Extra
one_or_none None = []
one_or_none (Some e) = e ∷ []
