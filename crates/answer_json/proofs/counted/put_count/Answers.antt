use Rattle.{serde_json.specs.View.{members_view}, answer_json.proofs.Ends.{no_count_next}}
use Rattle.answer_json.proofs.counted.put_count.Goals as goal

pub returns-in-None : goal.returns-in-None
returns-in-None c types = no_count_next (members_view c.args.map.now.entries) c.args.ty.now types c.args.numbers.now c.in-None.ensures.cases
