-- What lies behind a handle.
use Rattle.std.specs.Prelude.{◌≡◌, ◌-◌, ◌==◌, not, ℕ, Bool, true, false, List, [], ◌∷◌, Option, Some, None, is_some, option_map}
use Rattle.engine.specs.declared.world_counts.WorldCounts.{WorldCounts}
use Rattle.line_run.specs.{Run.{RunState}, declared.turn.Progress.{Progress}}
use Rattle.script_run.specs.Live.{LiveSetting, most_firings}
use Rattle.answer_lines.specs.declared.lines.Detail.TheVariants.{Full}
use Rattle.session.specs.contracts.{session.SessionEngine.TheImpl.{ghosts as brief}, detailed.DetailedSessionEngine.TheImpl.{ghosts as detailed}}
use Rattle.session.specs.{Sessions.{StandsInBrief, StandsInFull}, declared.{session.Session.{Session}, detailed.DetailedSession.{DetailedSession}}}
use Rattle.session_model.specs.{Counts.{held_counts}, Gives.{fires, fires_in, gives, gives_in}}
use Rattle.fed_desk.specs.{Openings.{IsOpen, live_of}, Runs.{ComesTo, FedCourse, HasCome, Tells, fed_setting}, declared.lines.Lines.{Lines}}
use Rattle.fed_desk.specs.declared.opening.Options.{Options}
use Rattle.desk_c.specs.declared.{counts.Counts.{Counts}, state.AnyDesk.{AnyDesk, TheVariants.{Text, Objects}}}

-- ---- the desk behind a handle, with the engine for the form of its answers

abbrev pub text_setting : Lines Session → LiveSetting
text_setting = fed_setting gives fires held_counts brief.made_with brief.table

abbrev pub objects_setting : Lines DetailedSession → LiveSetting
objects_setting = fed_setting (gives_in Full) (fires_in Full) held_counts detailed.made_with detailed.table

-- These bytes were fed, and these were put out, as `HasCome` of `fed_desk` says it.
abbrev pub HasComeBy : FedCourse → List ℕ → List ℕ → AnyDesk → Type 0
HasComeBy course bytes out (Text desk) = HasCome StandsInBrief text_setting course bytes out desk
HasComeBy course bytes out (Objects desk) = HasCome StandsInFull objects_setting course bytes out desk

-- what waits to be put out
abbrev pub waiting_in : AnyDesk → List ℕ
waiting_in (Text desk) = desk.text.items
waiting_in (Objects desk) = desk.text.items

-- whether the run goes on
abbrev pub goes_in : AnyDesk → Bool
goes_in (Text desk) = is_some desk.run
goes_in (Objects desk) = is_some desk.run

-- how many bytes may still come
abbrev pub room_in : AnyDesk → Option ℕ
room_in (Text desk) = option_map (λ it. it.fed.room) desk.run
room_in (Objects desk) = option_map (λ it. it.fed.room) desk.run

-- it is open, of these rules, options and this image
abbrev pub IsOpenBy : Options → List ℕ → Option (List ℕ) → AnyDesk → Type 0
IsOpenBy options rules image (Text desk) =
    (options.text ≡ true) × IsOpen StandsInBrief text_setting (live_of gives fires held_counts options rules) rules image desk
IsOpenBy options rules image (Objects desk) =
    (options.text ≡ false) × IsOpen StandsInFull objects_setting (live_of (gives_in Full) (fires_in Full) held_counts options rules) rules image desk

-- no bytes stand for no image
abbrev pub image_given : List ℕ → Option (List ℕ)
image_given [] = None
image_given (b ∷ bytes) = Some (b ∷ bytes)

-- ---- the status at the end

abbrev pub status_of : Bool → ℕ
status_of true = 1
status_of false = 0

-- of a run that is ended between two lines: whether one of its lines was a fault
abbrev pub EndsWith : FedCourse → List ℕ → ℕ → Type 0
EndsWith course bytes status = (s : RunState) × ComesTo course bytes s × (status ≡ status_of s.progress.faulted)

-- ---- what is told in numbers

abbrev pub options_given : ℕ → ℕ → Options
options_given each text = record { each = each; text = not (text == 0) }

-- how far a run has come, and the counts of its world, as C has them
abbrev pub TellsAs : Progress → WorldCounts → Counts → Type 0
TellsAs at counts it =
    (it.clock ≡ counts.clock) × (it.pending ≡ counts.pending) × (it.lines ≡ at.lines) × (it.firings ≡ most_firings - at.left) × (it.faulted ≡ status_of at.faulted)

abbrev pub TellsC : FedCourse → List ℕ → Counts → Type 0
TellsC course bytes it = (at : Progress) × (counts : WorldCounts) × Tells course bytes at counts × TellsAs at counts it
