use Rattle.{std.proofs.Common.{◌≡◌, drop}, serde_json.specs.{Data.{no_members}, View.{members_view}}, answer_json.specs.Facts.{with_fields}}
use Rattle.answer_json.proofs.facts.under_names.Given as goal

abbrev pub invariant-loop-name : goal.invariant-loop-name
invariant-loop-name l = with_fields (members_view l.map.entries) (drop l.name-index l.fields) l.rest ≡ with_fields no_members l.fields l.values
