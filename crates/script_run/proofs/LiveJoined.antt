-- The run of a live script in two parts.
use Rattle.script_run.{proofs.Common.{◌+◌, ℕ, true, false, Bool, List, Option, Some, None, arith, World}, specs.Live.{LiveSetting, facts_of_type, live_line}}
use Rattle.script_run.{specs.{Live.{live_step, question_in, question_step, save_step, told_or_asked}, Run.{is_fire_line}}, proofs.Joined.{AreWithin}}
use Rattle.{script_run.proofs.Joined.{StepWithin, closed_within, told_within}, rule_model.specs.declared.program.TypeInfo.{TypeInfo}}
use Rattle.{change_resolve.specs.Changes.{type_named}, desk_read.specs.declared.asked.Question.{Question, TheVariants.{Save, Facts, Counts}}}

saved_within : (live : LiveSetting) (number n : ℕ) (w : World) → StepWithin n (save_step live number n w)
saved_within live number n w = here live.has_image
  where
    here : (has : Bool) → StepWithin n (save_step (record live { has_image = has }) number n w)
    here true = omega arith
    here false = omega arith

facts_within : (live : LiveSetting) (number n : ℕ) (w : World) (found : Option (ℕ × TypeInfo)) → StepWithin n (facts_of_type live number n w found)
facts_within live number n w None = omega arith
facts_within live number n w (Some ty) = omega arith

question_within : (live : LiveSetting) (number n : ℕ) (w : World) (q : Question) → StepWithin n (question_step live number n w q)
question_within live number n w Save = saved_within live number n w
question_within live number n w (Facts None) = omega arith
question_within live number n w (Facts (Some name)) = facts_within live number n w (type_named name live.run.program.types 0)
question_within live number n w Counts = omega arith

asked_within : (live : LiveSetting) (number n : ℕ) (w : World) (line : List ℕ) (q : Option Question) → StepWithin n (told_or_asked live number n w line q)
asked_within live number n w line None = told_within live.run number n w line
asked_within live number n w line (Some q) = question_within live number n w q

pub live_within : (live : LiveSetting) → AreWithin (live_step live)
unfolding live_line
live_within live s line =
    closed_within live.run (s.progress.lines + 1) s.progress.left (is_fire_line line) s.progress.left (told_or_asked live (s.progress.lines + 1) s.progress.left s.world line (question_in line))
    (asked_within live (s.progress.lines + 1) s.progress.left s.world line (question_in line))
