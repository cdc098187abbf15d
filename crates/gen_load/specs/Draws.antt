-- The numbers that a load is drawn from.
use Rattle.std.specs.Prelude.{ℕ, ◌+◌, ◌*◌, ◌/◌, ◌%◌, ◌^◌}

-- the number after x
abbrev pub next_number : ℕ → ℕ
next_number x = (x * 1103515245 + 12345) % 2 ^ 31

-- what a draw from 0 up to m gives of the number x that it takes
abbrev pub drawn : ℕ → ℕ → ℕ
drawn m x = x / 65536 % m
