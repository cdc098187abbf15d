use Rattle.{serde_json.specs.View.{members_view}, answer_json.proofs.Ends.{no_value_next}}
use Rattle.answer_json.proofs.facts.put_next.Goals as goal

pub returns-in-None : goal.returns-in-None
returns-in-None c kind fields = no_value_next (members_view c.args.map.now.entries) (c.args.name.now, kind) fields c.args.values.now c.in-None.ensures.cases
