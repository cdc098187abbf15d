use Rattle.{std.proofs.Common.{◌≡◌, drop}, serde_json.specs.{Data.{no_members}, View.{members_view}}, answer_json.specs.Answers.{with_floors}}
use Rattle.answer_json.proofs.counted.floors_of.Given as goal

abbrev pub invariant-loop-entry : goal.invariant-loop-entry
invariant-loop-entry l = with_floors (members_view l.map.entries) (drop l.entry-index l.entries) l.rest ≡ with_floors no_members l.entries l.floors
