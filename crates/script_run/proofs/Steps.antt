-- The step of a line, by what the line is, and the line that closes it.
use Rattle.script_run.proofs.Common.{None, ◌≡◌, ℕ, ◌<◌, ◌≤◌, ◌++◌, true, if◌then◌else◌, List, length, Option, refl, sym, ap, ◌∙◌, append_assoc, subst, World}
use Rattle.script_run.proofs.Common.{Goes, Stops, written_fault, Bool, false, RunSetting, LineEffect, Saves, goes_on, saves, stops, fault_step, Does}
use Rattle.script_run.specs.{declared.{fault.LineCode.TheVariants.{LineLong}, line_read.LineRead.TheVariants.{Blank}}, Reads.{fires_read, line_read}}
use Rattle.script_run.specs.{Reads.{read_asked, read_step}, Run.{asked_step, blank_step, closed, end_text, fired_of, fires_asked, is_fire_line, line_step}}
use Rattle.script_run.specs.{Run.{met_lines, met_step, told_step}, Live.{LiveSetting, live_line, question_in, told_or_asked}, Turns.{Closes}}
use Rattle.{std.proofs.lemmas.Bool.{le-ltb, lt-ltb}, line_run.specs.declared.turn.Turn.{Turn}, script_read.specs.Asked.{Asked, asks, bad_json, bad_command}}
use Rattle.script_read.specs.{Asked.{asked}, Blank.{is_line_blank}}

too_long : (setting : RunSetting) (number left : ℕ) (w : World) (line : List ℕ) → 65536 < length line → told_step setting number left w line ≡ fault_step setting.form number left w LineLong
too_long setting number left w line h = rw (lt-ltb 65536 (length line) h) refl

-- and it is no fire command
long_fires_not : (line : List ℕ) → 65536 < length line → is_fire_line line ≡ false
long_fires_not line h = rw (lt-ltb 65536 (length line) h) refl

-- a line that is too long is a fault
long_step : (setting : RunSetting) (number left : ℕ) (w : World) (line : List ℕ) → 65536 < length line → (before after : List ℕ) (stands : World → Type 0)
    → after ≡ before ++ written_fault setting.form number LineLong → stands w → Does stands (told_step setting number left w line) before after (Goes true left)
long_step setting number left w line h before after stands text st =
    let d : Does stands (fault_step setting.form number left w LineLong) before after (Goes true left) = (text, st, refl) in
    subst (λ (step : LineEffect). Does stands step before after (Goes true left)) (sym (too_long setting number left w line h)) d

-- what closes a turn closes its line
closed_turn : (stands : World → Type 0) (setting : RunSetting) (number had : ℕ) (fires : Bool) (effect : LineEffect) (before middle after : List ℕ) (turn : Turn)
    → Does stands effect before middle turn → Closes setting number had fires stands turn middle after → Does stands (closed setting number had fires effect) before after turn
closed_turn stands setting number had fires (goes_on done) before middle after turn h end =
    let text : List ℕ = end_text setting setting.live number (fired_of setting fires had done.left done.world) in
    let closes : Closes setting number had fires stands (Goes done.faulty done.left) middle after = rw h.2 at end in
    let is : after ≡ middle ++ text = closes done.world h.1 in
    (is ∙ ap (λ (z : List ℕ). z ++ text) h.0 ∙ append_assoc before done.text text, h.1, h.2)
closed_turn stands setting number had fires (saves done) before middle after turn h end =
    let text : List ℕ = end_text setting setting.live number (fired_of setting fires had done.left done.world) in
    let closes : Closes setting number had fires stands (Saves done.faulty done.left) middle after = rw h.2 at end in
    let is : after ≡ middle ++ text = closes done.world h.1 in
    (is ∙ ap (λ (z : List ℕ). z ++ text) h.0 ∙ append_assoc before done.text text, h.1, h.2)
closed_turn stands setting number had fires (stops text) before middle after turn h end =
    let closes : Closes setting number had fires stands Stops middle after = rw h.1 at end in
    (closes ∙ h.0, h.1)

pub closes : (setting : RunSetting) (number left : ℕ) (w : World) (line before middle after : List ℕ) (stands : World → Type 0) (fires : Bool) (turn : Turn) → fires ≡ is_fire_line line
    → Does stands (told_step setting number left w line) before middle turn → Closes setting number left fires stands turn middle after → Does stands (line_step setting number left w line) before after turn
unfolding line_step
closes setting number left w line before middle after stands fires turn is h end =
    subst (λ (b : Bool). Does stands (closed setting number left b (told_step setting number left w line)) before after turn) is
    (closed_turn stands setting number left fires (told_step setting number left w line) before middle after turn h end)

-- a line that is too long
pub long_closes : (setting : RunSetting) (number left : ℕ) (w : World) (line before middle after : List ℕ) (stands : World → Type 0) → 65536 < length line
    → middle ≡ before ++ written_fault setting.form number LineLong → stands w → Closes setting number left false stands (Goes true left) middle after
    → Does stands (line_step setting number left w line) before after (Goes true left)
long_closes setting number left w line before middle after stands h text st end =
    closes setting number left w line before middle after stands false (Goes true left) (sym (long_fires_not line h)) (long_step setting number left w line h before middle stands text st) end

-- what is said of the limit for each command is behind what its firings print
pub met_there : (stands : World → Type 0) (setting : RunSetting) (each number : ℕ) (most : Option ℕ) (effect : LineEffect) (before middle after : List ℕ) (turn : Turn) → ((bad : Bool) (left : ℕ) → turn ≡ Saves bad left → ⊥) → (turn ≡ Stops → ⊥)
    → ((v : World) → stands v → after ≡ middle ++ met_lines setting.form (setting.fires setting.program v) each number most) → Does stands effect before middle turn
    → Does stands (met_step setting each number most effect) before after turn
met_there stands setting each number most (goes_on done) before middle after turn not_saves on told h =
    let text : List ℕ = met_lines setting.form (setting.fires setting.program done.world) each number most in
    (told done.world h.1 ∙ ap (λ (z : List ℕ). z ++ text) h.0 ∙ append_assoc before done.text text, h.1, h.2)
met_there stands setting each number most (saves done) before middle after turn not_saves on told h = absurd (not_saves done.faulty done.left h.2)
met_there stands setting each number most (stops text) before middle after turn not_saves on told h = absurd (on h.1)

pub met_stops : (stands : World → Type 0) (setting : RunSetting) (each number : ℕ) (most : Option ℕ) (effect : LineEffect) (before after : List ℕ) → Does stands effect before after Stops
    → Does stands (met_step setting each number most effect) before after Stops
met_stops stands setting each number most (goes_on done) before after h = absurd (let e : Stops ≡ Goes done.faulty done.left = h.2 in cc)
met_stops stands setting each number most (saves done) before after h = absurd (let e : Stops ≡ Saves done.faulty done.left = h.2 in cc)
met_stops stands setting each number most (stops text) before after h = h

-- ---- what a line reads as

asked_read : (setting : RunSetting) (number left : ℕ) (w : World) (a : Asked) → asked_step setting number left w a ≡ read_step setting number left w (read_asked a)
asked_read setting number left w (asks command) = refl
asked_read setting number left w bad_json = refl
asked_read setting number left w bad_command = refl

-- a line that is not too long is done as it reads
pub told_read : (setting : RunSetting) (number left : ℕ) (w : World) (line : List ℕ) → length line ≤ 65536 → told_step setting number left w line ≡ read_step setting number left w (line_read line)
told_read setting number left w line short = rw (le-ltb 65536 (length line) short) (here (is_line_blank line))
  where
    here : (blank : Bool) → (if blank then blank_step left w else asked_step setting number left w (asked line)) ≡ read_step setting number left w (if blank then Blank else read_asked (asked line))
    here true = refl
    here false = asked_read setting number left w (asked line)

fires_asked_read : (a : Asked) → fires_asked a ≡ fires_read (read_asked a)
fires_asked_read (asks command) = refl
fires_asked_read bad_json = refl
fires_asked_read bad_command = refl

pub fires_line : (line : List ℕ) → length line ≤ 65536 → is_fire_line line ≡ fires_read (line_read line)
fires_line line short = rw (le-ltb 65536 (length line) short) (here (is_line_blank line))
  where
    here : (blank : Bool) → (if blank then false else fires_asked (asked line)) ≡ fires_read (if blank then Blank else read_asked (asked line))
    here true = refl
    here false = fires_asked_read (asked line)

-- ---- lines of a live run

-- what closes a turn closes its line
pub closes_live : (live : LiveSetting) (number left : ℕ) (w : World) (line before middle after : List ℕ) (stands : World → Type 0) (fires : Bool) (turn : Turn) → fires ≡ is_fire_line line
    → Does stands (told_or_asked live number left w line (question_in line)) before middle turn → Closes live.run number left fires stands turn middle after → Does stands (live_line live number left w line) before after turn
unfolding live_line
closes_live live number left w line before middle after stands fires turn is h end =
    subst (λ (b : Bool). Does stands (closed live.run number left b (told_or_asked live number left w line (question_in line))) before after turn) is
    (closed_turn stands live.run number left fires (told_or_asked live number left w line (question_in line)) before middle after turn h end)

-- a line that is too long asks nothing
long_asks_not : (line : List ℕ) → 65536 < length line → question_in line ≡ None
long_asks_not line h = rw (lt-ltb 65536 (length line) h) refl

pub long_closes_live : (live : LiveSetting) (number left : ℕ) (w : World) (line before middle after : List ℕ) (stands : World → Type 0) → 65536 < length line
    → middle ≡ before ++ written_fault live.run.form number LineLong → stands w → Closes live.run number left false stands (Goes true left) middle after
    → Does stands (live_line live number left w line) before after (Goes true left)
long_closes_live live number left w line before middle after stands h text st end =
    closes_live live number left w line before middle after stands false (Goes true left) (sym (long_fires_not line h))
    (rw (long_asks_not line h) (long_step live.run number left w line h before middle stands text st)) end
