-- Names from modules that two proofs and more cite, passed on from one place. Declares nothing.
pub use Rattle.std.proofs.Common.{◌≡◌, ap, ◌∙◌, arith, refl, length, sym, ℕ, List, inl, inr, Option, ◌≤◌, Some, subst, ◌++◌, None, take, ◌<◌, Bool, [], drop}
pub use Rattle.std.proofs.Common.{true, ◌+◌, ◌⊎◌, Err, false, ◌≢◌, nat_lt, ◌∷◌, suc, Result, option_map, rules, zero, ◌^◌, Global, Ok, String, ap₂, cond}
pub use Rattle.std.proofs.{Common.{get_or, pos, ℤ, ◌&&◌, ◌-◌, ◌==◌, ◌||◌, ◌↔◌}, lemmas.{Bool.Decides.{nat_tests}, List.{append-nil, length-append, take_all}}}
pub use Rattle.std.proofs.lemmas.List.{append_assoc, drop_all, length-take, length-take-le, take-append-drop, take-append-le, take_rest}
pub use Rattle.std.specs.{List.{flat_map, All, fold, list_all, list_any, starts_with}, Prelude.{IfSome, if◌then◌else◌, slice_get, ◌≤ℤ◌}, Str.{bytes_eq}}
pub use Rattle.checkpoint.specs.{Bytes.{image_bytes, IsImage}, declared.image.{Image.{Image}, RunPart.{RunPart}}}
pub use Rattle.command_words.specs.declared.asking.{Asked.{Asked, TheVariants.{RuleFile, Load}}, Mode.{Mode, TheVariants.{Run, Save, Check, Lives, Proof}}}
pub use Rattle.{drl_check.specs.{Checks.{Failure, failure_of}, Outcomes.{checked, checked_by}}, drl_grammar.specs.declared.written.Written.{Written}}
pub use Rattle.{drl_parse.specs.Parsed.{file_limit, IsLexical, Parsed, is_file, lexical, outside, parsed, too_long}, fx_io.specs.Lines.{lines_of, IsFirstEnd}}
pub use Rattle.{fx_io.specs.Outside.{AppendsFront, append, file_told, IsOnShelf, Rose, count_after, IsExhausted, IsMissing}, gen_load.specs.Rules.{rules_text}}
pub use Rattle.replay.specs.{Beginnings.{RunsIn, CanBegin, part_of, BeginsIn, IsBeginningFor, RefusesFor}, Behind.{IsUnread, GoesOn, IsImageOfRun, IsRest}}
pub use Rattle.replay.specs.{Calls.{Says, MayEnd, RunOf, ShelfSeen, TellsScript, seen, wanted_told, Outside, seen_of_shelf}, Certificates.{edge_text}}
pub use Rattle.replay.specs.{Certificates.{part_text, proof_text}, Checkpoints.{image_limit, Checkpoint, can_go_on, checkpoint_text, is_refused}}
pub use Rattle.replay.specs.{Checkpoints.{TellsCheckpointFault, checkpoint_in, checkpoint_of, has_image, of_decoded, rules_shown}, Notices.{lives_text}}
pub use Rattle.replay.specs.{Notices.{accepted_text, life_text, usage}, Refusals.{reading, of_checked, of_obstacle, of_parsed, plain_file, IsRefusedReading}}
pub use Rattle.replay.specs.{Refusals.{refusal_text, whole_file}, Report.{Report, IsReport, image_report, IsToldBehind, IsFront, IsRunBehind, IsRunStatus}}
pub use Rattle.replay.specs.Report.{Reports, checkpoint_report, outcome_report, run_status, IsBehindSome, IsDefinite, IsLong, IsSaveStatus, IsSaved, IsStopped}
pub use Rattle.replay.specs.{Report.{IsWritten, TakesFor, IsFrontOfEach, IsSavedBehind, fault_status, summary_report}, Summary.{lines_with, summary_text}}
pub use Rattle.replay.specs.{Titles.{with_titles, first_or, renamed}, Wanted.{refuses_checkpoint, wanted_at, Wanted, accepts, proves, refuses, sums_up}}
pub use Rattle.replay.specs.Wanted.{tells_lives, resumes, runs, saves, saves_on, usage_line, wanted_rules, wanted_from, Files, MayRefuse, wanted_by}
pub use Rattle.replay.specs.Wanted.{wanted_by_file, wanted_by_reading, HasRefused, IfRefuses, IsRefusedFile, IsUnfit, ReadFails, ReadsFile, RunsScript}
pub use Rattle.replay.specs.{Wanted.{wanted_behind, wanted_by_name}, declared.beginning.Beginning.{Beginning, TheVariants.{Behind, First}}}
pub use Rattle.replay.specs.declared.{refusal.Refusal.{Refusal}, refused_checkpoint.CheckpointCode.{CheckpointCode, TheVariants.{Unfit, TooLong, BadImage}}}
pub use Rattle.replay.specs.declared.{refused_checkpoint.CheckpointCode.TheVariants.{OtherRules}, rule_file.Reading.{Reading, TheVariants.{Accepted, Refused}}}
pub use Rattle.{life_meaning.specs.Tables.{AreLives, IsLifeOf}, rule_model.specs.declared.life.{Life.{Life}, LifeTable.{LifeTable}}}
pub use Rattle.{rule_model.specs.declared.program.Program.{Program}, rule_world.specs.Worlds.{World, empty_world}, script_run.proofs.Joined.{first_behind}}
pub use Rattle.script_run.{proofs.Joined.{script_joined, whole_behind}, specs.{Firings.{Counts, Fires, Gives}, Parts.{run_on}}}
pub use Rattle.{line_run.specs.Parts.{first_part, run_part_at, progress_behind}, script_run.specs.Run.{setting_of, whole_run, RunSetting, first_state}}
pub use Rattle.{line_run.specs.{Run.{Outcome, RunState, at_end, state_in, then_run}, Unfinished.{StoppedAtRead}}, script_run.specs.Texts.{limit_text}}
pub use Rattle.{script_run.specs.Unfinished.{Long}, line_run.specs.declared.turn.Ended.TheVariants.{Script, Limit}, subrules.specs.Faults.{obstacle}}
