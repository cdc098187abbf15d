-- Timers of facts, by their tags, and what is left where some facts go.
use Rattle.std.specs.{Prelude.{◌≡◌, ℕ, ℤ, List, Option, Some, None, nat_eq, if◌then◌else◌}, List.{list_any}}
use Rattle.fx_base.specs.declared.fact.Fact.{Fact}
use Rattle.due_queue.specs.Timers.{Timers}
use Rattle.fact_store.specs.Held.{HeldFacts}
use Rattle.std.specs.FinMap as map

-- timers and one more, if there is a moment for it
abbrev pub with_timer : Timers → ℕ → Option ℤ → Timers
with_timer timers tag None = timers
with_timer timers tag (Some moment) = map.insert timers tag moment

-- what a tag waits for where another one does not wait any more
abbrev pub without_timer : Timers → ℕ → ℕ → Option ℤ
without_timer timers tag other = if nat_eq tag other then None else map.get timers other

-- the fact at a tag where those of some tags are gone
abbrev pub fact_left_at : HeldFacts → List ℕ → ℕ → Option Fact
fact_left_at held gone tag = if list_any (nat_eq tag) gone then None else map.get held tag

-- each fact stands at its own tag
abbrev pub HaveOwnTags : HeldFacts → Type 0
HaveOwnTags held = (tag : ℕ) (f : Fact) → map.get held tag ≡ Some f → f.tag.0 ≡ tag
