use Rattle.{serde_json.specs.View.{members_view}, answer_json.proofs.Ends.{no_floor_next}}
use Rattle.answer_json.proofs.counted.put_floor.Goals as goal

pub returns-in-None : goal.returns-in-None
returns-in-None c entries = no_floor_next (members_view c.args.map.now.entries) c.args.entry.now entries c.args.floors.now c.in-None.ensures.cases
