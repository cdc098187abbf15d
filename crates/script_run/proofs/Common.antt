-- Names from modules that two proofs and more cite, passed on from one place. Declares nothing.
pub use Rattle.std.proofs.Common.{◌≡◌, ◌++◌, ap, sym, ◌∙◌, List, arith, ℕ, refl, [], false, take, ◌+◌, ◌≤◌, Bool, None, Option, length, true, ◌^◌, ◌||◌, Some}
pub use Rattle.std.proofs.Common.{drop, suc, ◌-◌, ◌<◌, ◌∷◌, Err, Ok, Result, append_assoc, inl, inr, nat_lt, subst, zero, ◌*◌, ◌==◌, ◌≢◌, ◌⊎◌, ap₂, is_some}
pub use Rattle.std.proofs.{Common.{not, option_map}, lemmas.{Grind.{flat_map-append}, List.{append-nil, length-append, take-append-drop, take_at}}}
pub use Rattle.std.{proofs.lemmas.List.Folds.{list_any-append}, specs.{List.{flat_map}, Prelude.{if◌then◌else◌, IfSome, IsErr, IsErrAnd, OnErr}}}
pub use Rattle.{answer_lines.specs.declared.lines.OutLine.{OutLine}, fx_io.specs.Answers.{Answers, GivesLine, LeavesNoEnd, ReadsBytes, TakesLine}}
pub use Rattle.fx_io.specs.{Lines.{HasNoEnd, total_told, has_end, lines_ahead, lines_of, onto_first, to_come, with_line}, Outside.{append, prepend}}
pub use Rattle.fx_io.specs.{Outside.{AppendsFront, IsExhausted, count_after}, declared.line.Line.{Line, TheVariants.{End, Whole, Long}}}
pub use Rattle.{rule_model.specs.declared.program.Program.{Program}, rule_world.specs.Worlds.{World, empty_world}, script_run.specs.Firings.{Fires, Firings}}
pub use Rattle.script_run.specs.{Firings.{all_fired, firings, limit_met, none_left, one_less, onto_lines, then_fires, wants_one}, Run.{setting_of}}
pub use Rattle.script_run.specs.Run.{setting_with, RunSetting, fire_step, run, step_in, asked_step, command_step, fault_step, first_state, whole_run}
pub use Rattle.line_run.specs.Run.{state_in, LineEffect, Done, Outcome, RunState, at_end, at_limit, goes_on, saves, state_after, stops, then_run}
pub use Rattle.{line_run.specs.Run.{progress_after}, script_run.specs.{Texts.{has_fault, cell_text, is_fault, quoted_byte}, Written.{held_by, kept_by}}}
pub use Rattle.script_run.specs.{Written.{written_kept, written_fault, written_held, written_limit, written_line, written_lines}, declared.form.Form.{Form}}
pub use Rattle.{line_run.specs.{Turns.{Does, Flushes, HasAtMost}, declared.turn.Ended.{Ended}}, script_run.specs.Turns.{EndsFirings, TakesScript}}
pub use Rattle.line_run.specs.declared.turn.{Progress.{Progress}, Turn.TheVariants.{Goes, Saves, Stops}}
