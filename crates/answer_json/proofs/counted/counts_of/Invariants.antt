use Rattle.{std.proofs.Common.{◌≡◌, drop}, serde_json.specs.{Data.{no_members}, View.{members_view}}, answer_json.specs.Answers.{with_counts}}
use Rattle.answer_json.proofs.counted.counts_of.Given as goal

abbrev pub invariant-loop-ty : goal.invariant-loop-ty
invariant-loop-ty l = with_counts (members_view l.map.entries) (drop l.ty-index l.types) l.rest ≡ with_counts no_members l.types l.numbers
