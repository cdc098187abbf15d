-- Names from modules that two proofs and more cite, passed on from one place. Declares nothing.
pub use Rattle.std.proofs.Common.{◌≡◌, arith, ◌+◌, ◌≤◌, List, length, refl, take, ℕ, ◌∙◌, None, Option, Some, [], ap, drop, sym, ◌++◌, append_assoc, subst, ◌∷◌}
pub use Rattle.std.proofs.Common.{append-nil, inl, inr, length-append, true, ◌-◌, ◌<◌, ◌≢◌, Ok, false, get_or, option_map, suc, zero, ◌==◌}
pub use Rattle.std.proofs.lemmas.{Bool.{both_ways, eq-eqb, eqb-true, ne_eqb, or_from, or_parts}, List.{length-drop, take-append-drop, drop-drop, drop_more}}
pub use Rattle.{std.proofs.lemmas.List.{length-take, take-append-le, take_all, take_rest}, fx_io.specs.Answers.{ReadsBytes, TakesFromBytes, TakesLine, Answers}}
pub use Rattle.fx_io.specs.{Answers.{GivesLine, UsesBytesUp, IsAnswer, IsLastAnswer, IsLinePart}, Asking.{Follows, MayAlways, MayAskMidLine, IsEnded}}
pub use Rattle.fx_io.specs.{Asking.{EndsOrMay}, Lines.{has_end, HasNoEnd, IsFirstEnd, lines_ahead, to_come, with_line}, Outside.{prepend, IsExhausted, append}}
pub use Rattle.fx_io.specs.{Outside.{count_after}, declared.line.Line.{Line, TheVariants.{End, Long, Whole}}}
