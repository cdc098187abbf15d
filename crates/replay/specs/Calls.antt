-- What a call of the program does with the outside, by what it is asked for.
use Rattle.std.specs.Prelude.{◌≡◌, ◌⊎◌, ◌<◌, ◌≤◌, ◌^◌, ℕ, List, [], length, Option, Some, None, option_map, IfSome}
use Rattle.fx_io.specs.Outside.{Rose, append, AppendsFront, count_after}
use Rattle.command_words.specs.declared.asking.Asked.{Asked, TheVariants.{RuleFile, Load}}
use Rattle.script_run.specs.Firings.{Gives, Fires, Counts}
use Rattle.replay.specs.{Notices.{usage}, Refusals.{refusal_text}, Report.{Report, Reports, IsWritten, IsLong, IsStopped, TakesFor}, Wanted.{Wanted, Files}}
use Rattle.replay.specs.Wanted.{runs, resumes, saves, saves_on, usage_line, wanted_from, wanted_rules, wanted_by_name, wanted_by_number, IfRefuses, RunsScript}
use Rattle.replay.specs.Wanted.{IsUnfit, ReadFails, MayRefuse}

-- ---- what is seen of the outside

-- of a shelf: the files that it tells, and how often each failed and was missing
pub record ShelfSeen : Type 0 where
  pub files : Option Files
  pub faults : List ℕ → ℕ
  pub misses : List ℕ → ℕ

-- of a shelf, a script and an output: what the script has left, how much it has given, how often it failed; what was written, and how often
-- that failed
pub record Outside : Type 0 where
  pub shelf : ShelfSeen
  pub left : Option (List ℕ)
  pub given : ℕ
  pub read_faults : ℕ
  pub written : Option (List ℕ)
  pub write_faults : ℕ

abbrev pub seen_of_shelf : Option Files → (List ℕ → ℕ) → (List ℕ → ℕ) → ShelfSeen
seen_of_shelf files faults misses = record { files = files; faults = faults; misses = misses }

abbrev pub seen : ShelfSeen → Option (List ℕ) → ℕ → ℕ → Option (List ℕ) → ℕ → Outside
seen shelf left given read_faults written write_faults = record {
  shelf = shelf;
  left = left;
  given = given;
  read_faults = read_faults;
  written = written;
  write_faults = write_faults;
}

-- ---- what is asked for and wanted

-- what is wanted, as far as the shelf tells its files
abbrev pub wanted_told : Option Asked → Option Files → Option Wanted
wanted_told None told = Some usage_line
wanted_told (Some (RuleFile name mode limit image)) told = option_map (λ files. wanted_by_name (wanted_from mode limit image files (wanted_rules (files name))) files name) told
wanted_told (Some (Load number limit)) told = Some (wanted_by_number number limit)

-- where a run is wanted, the script tells these bytes
abbrev pub TellsScript : Wanted → Option (List ℕ) → List ℕ → Type 0
TellsScript (runs limit program) told script = told ≡ Some script
TellsScript (resumes limit image program) told script = told ≡ Some script
TellsScript (saves limit rules program) told script = told ≡ Some script
TellsScript (saves_on limit image program) told script = told ≡ Some script
TellsScript _ told script = Unit {0}

-- the statuses that a call may end with
abbrev pub MayEnd : Option Asked → ℕ → Type 0
MayEnd None status = (status ≡ 2) ⊎ ((6 ≤ status) × (status ≤ 7))
MayEnd (Some (RuleFile name mode limit image)) status = (status ≤ 1) ⊎ ((3 ≤ status) × (status ≤ 9))
MayEnd (Some (Load number limit)) status = (status ≤ 1) ⊎ (status ≡ 4) ⊎ ((6 ≤ status) × (status ≤ 7))

-- ---- a call

-- a report was said, or a front of it was written
abbrev pub Says : Option (List ℕ) → Option (List ℕ) → ℕ → Report → Type 0
Says before after status r = ((status ≤ 4) ⊎ (status ≡ 9) → Reports before after status r) × (5 ≤ status → AppendsFront before after r.bytes)

-- What a call does that is asked for this, where this is wanted, if that is told, with the outside before and behind it and the status.
pub record RunOf (gives : Gives) (fires : Fires) (counts : Counts) (asked : Option Asked) (wanted : Option Wanted) (before after : Outside) (status : ℕ) : Type 0 where
  -- what is written
  pub written : (w : Wanted) (script : List ℕ) → wanted ≡ Some w → TellsScript w before.left script → IsWritten gives fires counts w script before.written after.written status
  pub stopped : (w : Wanted) (script : List ℕ) → wanted ≡ Some w → before.left ≡ Some script → (status ≡ 5) ⊎ (status ≡ 8)
      → IsStopped gives fires counts w script after.left before.written after.written
  pub long : (w : Wanted) (script : List ℕ) → wanted ≡ Some w → before.left ≡ Some script → status ≡ 8 → IsLong gives fires counts w script
  pub refusal : (w : Wanted) → wanted ≡ Some w → status ≡ 3 → IfRefuses w (λ refusal. after.written ≡ append before.written (refusal_text refusal))
  pub said_usage : status ≡ 2 → after.written ≡ append before.written usage
  -- why it ends so
  pub ends : MayEnd asked status
  pub file : status ≡ 3 → IfSome asked (IsUnfit before.shelf.files before.shelf.misses after.shelf.misses)
  pub read : status ≡ 5 → (it : Asked) × (asked ≡ Some it) × ReadFails before.shelf.faults after.shelf.faults before.read_faults after.read_faults it
  pub checkpoint : status ≡ 9 → (it : Asked) × (asked ≡ Some it) × MayRefuse before.shelf.files before.shelf.misses after.shelf.misses it
  pub write : status ≡ 6 → Rose before.write_faults after.write_faults
  pub over : status ≡ 8 → IfSome asked RunsScript × IfSome before.left (λ script. 2 ^ 30 < length script)
  -- what is taken of the script, and left
  pub taken : (n : ℕ) × (after.given ≡ count_after before.given n) × TakesFor status n
  pub nothing_left : status ≤ 1 → IfSome asked (λ it. RunsScript it → IfSome after.left (λ bytes. bytes ≡ []))
