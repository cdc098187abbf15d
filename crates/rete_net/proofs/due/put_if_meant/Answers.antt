use Rattle.rete_net.proofs.{Common.{has_place}, Places.{put_stays}}
use Rattle.rete_net.proofs.due.put_if_meant.Goals as goal

pub returns-clause-kept : goal.returns-clause-kept
returns-clause-kept c k was = put_stays c.args.place k (has_place c.args.due.now.keys k) _ (c.in_ok-insert.ensures.updates.0 k) was
