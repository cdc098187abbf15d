-- What changes and firings keep, a run keeps.
use Rattle.script_run.proofs.Common.{◌≡◌, ◌+◌, ℕ, zero, suc, Bool, true, false, List, [], ◌∷◌, length, nat_lt, Option, Some, None, refl, sym, ap, ◌∙◌}
use Rattle.script_run.proofs.Common.{if◌then◌else◌, World, OutLine, Firings, all_fired, limit_met, none_left, onto_lines, then_fires, wants_one, one_less}
use Rattle.script_run.proofs.Common.{RunSetting, RunState, Outcome, LineEffect, goes_on, saves, stops, state_after, step_in, fire_step, command_step}
use Rattle.script_run.{proofs.Common.{asked_step}, specs.{Firings.{firings}, Run.{run, line_step, at_most, closed, fire_by, is_fire_line, met_step, told_step}}}
use Rattle.{script_run.proofs.Joined.{no_more}, std.proofs.lemmas.Option.{same_Some}, script_read.specs.Asked.{Asked, asks, bad_json, bad_command, asked}}
use Rattle.script_read.specs.{Blank.{is_line_blank}, declared.asked.{Change.{Change as ScriptChange}, Command.{Command, TheVariants.{Change, Fire, Held}}}}
use Rattle.line_run.{specs.Run.{run as run_lines}, proofs.Ahead.{run_goes, run_saves, run_stops}}

module _ (setting : RunSetting) (Holds : World → Type 0)
    (changes : (w : World) (c : ScriptChange) → Holds w → Holds (setting.gives setting.program w c).1)
    (fired : (w : World) (f : List OutLine × World) → Holds w → setting.fires setting.program w ≡ Some f → Holds f.1) where
  abbrev FiresTo : Firings → Type 0
  FiresTo (all_fired lines w left) = Holds w
  FiresTo (limit_met lines) = Unit {0}

  none_to : (o : Option (List OutLine × World)) (w : World) → Holds w → FiresTo (none_left o w)
  none_to None w h = h
  none_to (Some f) w h = tt

  onto_to : (lines : List OutLine) (r : Firings) → FiresTo r → FiresTo (onto_lines lines r)
  onto_to lines (all_fired more w left) h = h
  onto_to lines (limit_met more) h = tt

  then_to : (n : ℕ) (o : Option (List OutLine × World)) (w : World) (next : World → Firings) → setting.fires setting.program w ≡ o → Holds w
      → ((v : World) → Holds v → FiresTo (next v)) → FiresTo (then_fires o w n next)
  then_to n None w next e h k = h
  then_to n (Some f) w next e h k = onto_to f.0 (next f.1) (k f.1 (fired w f h e))

  if_to : (flag : Bool) (a b : Firings) → FiresTo a → FiresTo b → FiresTo (if flag then a else b)
  if_to true a b h k = h
  if_to false a b h k = k

  firings_to : (most : Option ℕ) (n : ℕ) (w : World) → Holds w → FiresTo (firings setting.fires setting.program most n w)
  unfolding firings
  firings_to most zero w h = if_to (wants_one most) (none_left (setting.fires setting.program w) w) (all_fired [] w zero) (none_to (setting.fires setting.program w) w h) h
  firings_to most (suc n) w h =
      if_to (wants_one most) (then_fires (setting.fires setting.program w) w (suc n) (firings setting.fires setting.program (one_less most) n)) (all_fired [] w (suc n))
      (then_to (suc n) (setting.fires setting.program w) w (firings setting.fires setting.program (one_less most) n) refl h (λ v k. firings_to (one_less most) n v k)) h

  abbrev StepsTo : LineEffect → Type 0
  StepsTo (goes_on done) = Holds done.world
  StepsTo (saves done) = Holds done.world
  StepsTo (stops text) = Unit {0}

  if_step : (flag : Bool) (a b : LineEffect) → StepsTo a → StepsTo b → StepsTo (if flag then a else b)
  if_step true a b h k = h
  if_step false a b h k = k

  fire_to : (number : ℕ) (r : Firings) → FiresTo r → StepsTo (fire_step setting number r)
  fire_to number (all_fired lines w left) h = h
  fire_to number (limit_met lines) h = tt

  met_to : (each number : ℕ) (most : Option ℕ) (effect : LineEffect) → StepsTo effect → StepsTo (met_step setting each number most effect)
  met_to each number most (goes_on done) h = h
  met_to each number most (saves done) h = h
  met_to each number most (stops text) h = tt

  by_to : (live : Option ℕ) (number n : ℕ) (w : World) (most : Option ℕ) → Holds w → StepsTo (fire_by setting live number n w most)
  by_to None number n w most h = fire_to number (firings setting.fires setting.program most n w) (firings_to most n w h)
  by_to (Some each) number n w most h =
      let fired : Firings = firings setting.fires setting.program (Some (at_most each most)) n w in
      met_to each number most (fire_step setting number fired) (fire_to number fired (firings_to (Some (at_most each most)) n w h))

  closed_to : (number had : ℕ) (fires : Bool) (effect : LineEffect) → StepsTo effect → StepsTo (closed setting number had fires effect)
  closed_to number had fires (goes_on done) h = h
  closed_to number had fires (saves done) h = h
  closed_to number had fires (stops text) h = tt

  command_to : (number n : ℕ) (w : World) (c : Command) → Holds w → StepsTo (command_step setting number n w c)
  command_to number n w (Change change) h = changes w change h
  command_to number n w (Fire most) h = by_to setting.live number n w most h
  command_to number n w Held h = h

  asked_to : (number n : ℕ) (w : World) (a : Asked) → Holds w → StepsTo (asked_step setting number n w a)
  asked_to number n w (asks command) h = command_to number n w command h
  asked_to number n w bad_json h = h
  asked_to number n w bad_command h = h

  step_to : (number n : ℕ) (w : World) (line : List ℕ) → Holds w → StepsTo (line_step setting number n w line)
  unfolding line_step
  step_to number n w line h =
      closed_to number n (is_fire_line line) (told_step setting number n w line) (if_step (nat_lt 65536 (length line)) _ _ h (if_step (is_line_blank line) _ _ h (asked_to number n w (asked line) h)))

  pub run_keeps : (s t : RunState) (lines : List (List ℕ)) → Holds s.world → (run setting s lines).comes_to ≡ Some t → Holds t.world
  unfolding run_lines
  run_keeps s t [] h e = let is : s ≡ t = same_Some s t e in rw (sym is) h
  run_keeps s t (x ∷ xs) h e = here (step_in setting s x) refl (step_to (s.progress.lines + 1) s.progress.left s.world x h) (λ u k f. run_keeps u t xs k f)
    where
      here : (step : LineEffect) → step_in setting s x ≡ step → StepsTo step
          → ((u : RunState) → Holds u.world → (run setting u xs).comes_to ≡ Some t → Holds t.world) → Holds t.world
      here (goes_on done) is there rest = rest (state_after s done) there (sym (ap (λ (o : Outcome). o.comes_to) (run_goes (step_in setting) s x done is xs)) ∙ e)
      here (saves done) is there rest = rest (state_after s done) there (sym (ap (λ (o : Outcome). o.comes_to) (run_saves (step_in setting) s x done is xs)) ∙ e)
      here (stops text) is there rest = absurd (no_more s t (sym (ap (λ (o : Outcome). o.comes_to) (run_stops (step_in setting) s x text is xs)) ∙ e))
