-- Runs that differ in their limit of firings alone.
use Rattle.std.specs.Prelude.{◌≡◌, ◌-◌, ℕ}
use Rattle.script_run.specs.Run.{RunSetting}
use Rattle.line_run.specs.Run.{RunState, Outcome}

-- the same run with another limit
abbrev pub with_limit : ℕ → RunSetting → RunSetting
with_limit most setting = record setting { limit = most }

-- two runs, of which one had so many firings and the other so many, print the same and come to the same: neither met its limit
pub record IsSameRun (m n : ℕ) (a b : Outcome) (s t : RunState) : Type 0 where
  pub bytes : a.bytes ≡ b.bytes
  pub lines : s.progress.lines ≡ t.progress.lines
  pub faulted : s.progress.faulted ≡ t.progress.faulted
  pub world : s.world ≡ t.world
  -- as many firings were made
  pub made : m - s.progress.left ≡ n - t.progress.left
