-- Names from modules that two proofs and more cite, passed on from one place. Declares nothing.
pub use Rattle.std.proofs.Common.{◌≡◌, ◌++◌, ap, sym, ◌∙◌, List, arith, ℕ, refl, [], false, take, ◌+◌, ◌≤◌, Bool, None, Option, length, true, Some, drop, ◌-◌}
pub use Rattle.std.proofs.Common.{◌<◌, ◌∷◌, Err, Ok, Result, append_assoc, inl, inr, subst, ◌==◌, ◌≢◌, ◌⊎◌, ap₂, not, option_map}
pub use Rattle.std.proofs.lemmas.{Grind.{flat_map-append}, List.{append-nil, length-append, take-append-drop, take_at, Folds.{list_any-append}}}
pub use Rattle.{std.specs.Prelude.{if◌then◌else◌, IfSome, IsErr, IsErrAnd, OnErr}, fx_io.specs.Answers.{Answers, GivesLine, LeavesNoEnd, ReadsBytes, TakesLine}}
pub use Rattle.fx_io.specs.{Lines.{HasNoEnd, total_told, has_end, lines_ahead, lines_of, onto_first, to_come, with_line}, Outside.{append, prepend}}
pub use Rattle.fx_io.specs.{Outside.{AppendsFront, IsExhausted, count_after}, declared.line.Line.{Line, TheVariants.{End, Whole, Long}}}
pub use Rattle.{rule_world.specs.Worlds.{World}, line_run.specs.Run.{Steps, state_in, LineEffect, Done, Outcome, RunState, at_end, at_limit, goes_on, run}}
pub use Rattle.line_run.specs.{Run.{state_after, saved_states, saves, stops, then_run, progress_after}, Saves.{ArePut, Files, Puts}, Turns.{Does, Flushes}}
pub use Rattle.line_run.specs.{Turns.{HasAtMost, TakesUpTo}, declared.turn.{Ended.{Ended}, Progress.{Progress}, Turn.TheVariants.{Goes, Saves, Stops}}}
