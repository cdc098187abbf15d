-- What a line does to an engine that stands for worlds.
use Rattle.std.specs.Prelude.{◌≡◌, ◌<◌, ◌≤◌, ◌+◌, ◌*◌, ◌^◌, ℕ, ◌++◌, Bool, List, Option, Some, None, Result, Ok, Err}
use Rattle.rule_world.specs.Worlds.{World}
use Rattle.answer_lines.specs.declared.lines.OutLine.{OutLine}
use Rattle.script_run.specs.{declared.run_fault.RunFault.{RunFault, TheVariants.{ReadFault, WriteFault, NoMemory, ScriptLong}}, Run.{RunSetting, end_text}}
use Rattle.script_run.specs.Run.{fired_of}
use Rattle.line_run.specs.{declared.turn.{Progress.{Progress}, Turn.{Turn, TheVariants.{Goes, Saves, Stops}}, Ended.{Ended}}, Turns.{AtEnd, ended_as}}

-- no firing is left: the limit is met where a match is pending, which this tells
abbrev pub EndsFirings : List ℕ → Option (List OutLine × World) → Bool → List ℕ → List ℕ → Turn → Type 0
EndsFirings told None faulty before after turn = (after ≡ before) × (turn ≡ Goes faulty 0)
EndsFirings told (Some f) faulty before after turn = (after ≡ before ++ told) × (turn ≡ Stops)

-- A turn after which the run goes on is closed, in each world for which the engine stands then; so many firings were left before it.
abbrev pub Closes : RunSetting → ℕ → ℕ → Bool → (World → Type 0) → Turn → List ℕ → List ℕ → Type 0
Closes setting number had fires stands (Goes faulty left) before after =
    (w : World) → stands w → after ≡ before ++ end_text setting setting.live number (fired_of setting fires had left w)
Closes setting number had fires stands (Saves faulty left) before after =
    (w : World) → stands w → after ≡ before ++ end_text setting setting.live number (fired_of setting fires had left w)
Closes setting number had fires stands Stops before after = after ≡ before

-- the tags given, and those that the firings that are left may give, are at most so many
abbrev pub Within : ℕ → ℕ → Turn → Type 0
Within most tags (Goes faulty left) = tags + 16 * left ≤ most
Within most tags (Saves faulty left) = tags + 16 * left ≤ most
Within most tags Stops = Unit {0}

abbrev pub AllWithin : ℕ → ℕ → Option Turn → Type 0
AllWithin most tags None = Unit {0}
AllWithin most tags (Some turn) = Within most tags turn

-- how many bytes of the script a run took: more than 1 GiB where it says so, and never where it came to the end
abbrev pub TakesScript : Result Ended RunFault → ℕ → Type 0
TakesScript (Ok ended) n = AtEnd ended (n ≤ 2 ^ 30)
TakesScript (Err ReadFault) n = n ≤ 2 ^ 30
TakesScript (Err WriteFault) n = Unit {0}
TakesScript (Err NoMemory) n = Unit {0}
TakesScript (Err ScriptLong) n = 2 ^ 30 < n

-- how a run ended
abbrev pub as_ended : {T : Type 0} → Result (Option (T × Progress)) RunFault → Result Ended RunFault
as_ended (Ok found) = Ok (ended_as found)
as_ended (Err fault) = Err fault
