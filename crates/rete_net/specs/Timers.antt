-- Places that wait for moments.
use Rattle.std.specs.{Prelude.{◌≡◌, ◌≤ℤ◌, ℕ, ℤ, Option, Some, None}, Ordering.{nat_cmp}}
use Rattle.due_queue.specs.Moments.{found}
use Rattle.rete_net.specs.declared.timers.Timers.{Timers}

-- the place waits for a moment, where there is one
abbrev pub IsSet : Timers → ℕ → Option ℤ → Type 0
IsSet timers place None = Unit {0}
IsSet timers place (Some at) = found nat_cmp timers.waiting place ≡ Some (at, tt)

-- a moment is not below this bound, where there is one
abbrev pub IsFrom : ℤ → Option ℤ → Type 0
IsFrom bound None = Unit {0}
IsFrom bound (Some at) = bound ≤ℤ at
