use Rattle.retention.proofs.Calls.{same_covered, same_watched}
use Rattle.retention.proofs.laws.events_are_covered_one_by_one.Goals as goal

pub returns : goal.returns
returns c = record { covered = same_covered; watched = same_watched }
