-- What a retention stands for: for each held event of finite life, whether it is within it.
use Rattle.std.specs.Prelude.{◌≡◌, ℕ, ℤ, ◌==◌, ◌&&◌, Bool, true, cond, not, Option, Some, None}
use Rattle.std.specs.FinMap as map
use Rattle.due_queue.specs.Timers.{has_come}
use Rattle.retention.specs.{declared.retention.Retention.{Retention}, Retentions.{lingers}}

-- for each held event of finite life, by its tag, the first moment at which it is past its life
abbrev pub Ends : Type 0
Ends = ℕ → Option ℤ

-- these events and one more
abbrev pub with_end : Ends → ℕ → ℤ → Ends
with_end ends tag at other = cond (other == tag) (Some at) (ends other)

-- these events but for those that pass the test
abbrev pub without : Ends → (ℕ → Bool) → Ends
without ends gone tag = cond (gone tag) None (ends tag)

-- an event is old where it is past its life and nothing names it
abbrev pub is_old : Ends → ℤ → (ℕ → Bool) → ℕ → Bool
is_old ends clock named tag = has_come clock (ends tag) && not (named tag)

-- within a call: each event waits for its end or lingers, and one that lingers is past its life
pub record Covers (ends : Ends) (clock : ℤ) (r : Retention) : Type 0 where
  pub due : (tag : ℕ) → map.get r.due tag ≡ cond (lingers r tag) None (ends tag)
  pub past : (tag : ℕ) → lingers r tag ≡ true → has_come clock (ends tag) ≡ true

-- when a call returns: events within their lives wait for their ends, those past them linger, and each of these is named
pub record Watches (ends : Ends) (clock : ℤ) (named : ℕ → Bool) (r : Retention) : Type 0 where
  pub due : (tag : ℕ) → map.get r.due tag ≡ cond (has_come clock (ends tag)) None (ends tag)
  pub lingering : (tag : ℕ) → lingers r tag ≡ has_come clock (ends tag)
  pub needed : (tag : ℕ) → lingers r tag ≡ true → named tag ≡ true
