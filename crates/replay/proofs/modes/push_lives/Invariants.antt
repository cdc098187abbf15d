use Rattle.replay.proofs.Common.{◌≡◌, ◌++◌, length, drop, lives_text}
use Rattle.replay.proofs.modes.push_lives.Given as goal

-- the lines so far, and those of the types that are left
abbrev pub invariant-loop-ty : goal.invariant-loop-ty
invariant-loop-ty l =
    l.text.items ++ lives_text (drop (length l.yielded) l.types) (drop (length l.yielded) l.lives) ≡ l.fn.text.items ++ lives_text l.types l.lives
