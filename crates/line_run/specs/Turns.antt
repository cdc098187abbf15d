-- What the loop over the lines does in a turn.
use Rattle.std.specs.Prelude.{◌≡◌, ◌<◌, ◌≤◌, ℕ, ◌++◌, List, [], length, take, drop, Option, Some, None, Result, Ok, Err, IfSome}
use Rattle.fx_io.specs.{Outside.{append}, Lines.{with_line}, declared.line.Line.{Line, TheVariants.{Whole, Long, End as line_end}}}
use Rattle.rule_world.specs.Worlds.{World}
use Rattle.line_run.specs.declared.{fault.StopFault.{StopFault, TheVariants.{ReadFault, WriteFault, NoMemory, ScriptLong, Refused}}, turn.Turn.{Turn}}
use Rattle.line_run.specs.declared.turn.{Turn.TheVariants.{Goes, Saves, Stops}, Progress.{Progress}, Ended.{Ended, TheVariants.{Script, Limit}}}
use Rattle.line_run.specs.Run.{RunState, LineEffect, goes_on, saves, stops, progress_after}

-- a line was done: its text was gathered, and what took it stands for its world, or the limit was met
abbrev pub Does : (World → Type 0) → LineEffect → List ℕ → List ℕ → Turn → Type 0
Does stands (goes_on done) before after turn = (after ≡ before ++ done.text) × stands done.world × (turn ≡ Goes done.faulty done.left)
Does stands (saves done) before after turn = (after ≡ before ++ done.text) × stands done.world × (turn ≡ Saves done.faulty done.left)
Does stands (stops text) before after turn = (after ≡ before ++ text) × (turn ≡ Stops)

-- the next of the lines ahead was done, or there was none
abbrev pub Turns : (World → Type 0) → (List ℕ → LineEffect) → List ℕ → List ℕ → Option (List (List ℕ)) → Option (List (List ℕ)) → Option Turn → Type 0
Turns stands step before after ahead behind None = IfSome ahead (λ lines. lines ≡ []) × (after ≡ before)
Turns stands step before after ahead behind (Some turn) =
    (line : List ℕ) × (ahead ≡ with_line line behind) × Does stands (step line) before after turn

-- after a turn that goes on, what took the line can take so many more
abbrev pub StaysReady : (Progress → ℕ → Type 0) → Progress → ℕ → Option Turn → Type 0
StaysReady ready at n None = Unit {0}
StaysReady ready at n (Some (Goes faulty left)) = ready (progress_after at faulty left) n
StaysReady ready at n (Some (Saves faulty left)) = ready (progress_after at faulty left) n
StaysReady ready at n (Some Stops) = Unit {0}

-- a line that is whole has at most so many bytes
abbrev pub HasAtMost : ℕ → Line → Type 0
HasAtMost most (Whole line) = length line ≤ most
HasAtMost most Long = Unit {0}
HasAtMost most line_end = Unit {0}

-- there was no line exactly where the reader said so
abbrev pub EndsAt : Line → Option Turn → Type 0
EndsAt line None = line ≡ line_end
EndsAt line (Some turn) = Unit {0}

-- a line was used up
abbrev pub Smaller : Option Turn → ℕ → ℕ → Type 0
Smaller None before after = Unit {0}
Smaller (Some turn) before after = after < before

-- a front of the gathered bytes was written
abbrev pub Flushes : Option (List ℕ) → List ℕ → Option (List ℕ) → List ℕ → Type 0
Flushes written gathered written' gathered' =
    (n : ℕ) × (n ≤ length gathered) × (written' ≡ append written (take n gathered)) × (gathered' ≡ drop n gathered)

-- how a run ended that left what took its lines and how far it has come, or met the limit
abbrev pub ended_as : {T : Type 0} → Option (T × Progress) → Ended
ended_as None = Limit
ended_as (Some found) = Script found.1.faulted

abbrev pub as_ended : {T : Type 0} → Result (Option (T × Progress)) StopFault → Result Ended StopFault
as_ended (Ok found) = Ok (ended_as found)
as_ended (Err fault) = Err fault

-- what a run left stands for the world that the run comes to
abbrev pub ReachesWorld : {T : Type 0} → (T → World → Type 0) → Option RunState → Option (T × Progress) → Type 0
ReachesWorld stands None None = Unit {0}
ReachesWorld stands (Some s) (Some found) = (found.1 ≡ s.progress) × stands found.0 s.world
ReachesWorld stands None (Some found) = ⊥
ReachesWorld stands (Some s) None = ⊥

-- the run came to the end of the script
abbrev pub AtEnd : Ended → Type 0 → Type 0
AtEnd (Script faulted) holds = holds
AtEnd Limit holds = Unit {0}

-- how many bytes of the script a run took: more than it may take where it says so, and never where it came to the end
abbrev pub TakesUpTo : ℕ → Result Ended StopFault → ℕ → Type 0
TakesUpTo most (Ok ended) n = AtEnd ended (n ≤ most)
TakesUpTo most (Err ReadFault) n = n ≤ most
TakesUpTo most (Err WriteFault) n = Unit {0}
TakesUpTo most (Err NoMemory) n = Unit {0}
TakesUpTo most (Err ScriptLong) n = most < n
TakesUpTo most (Err (Refused why)) n = Unit {0}
