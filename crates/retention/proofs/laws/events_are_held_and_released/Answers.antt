use Rattle.retention.proofs.Calls.{new_law, later_law, hold_law, release_law}
use Rattle.retention.proofs.laws.events_are_held_and_released.Goals as goal

pub returns : goal.returns
returns c = record { new = new_law; later = later_law; hold = hold_law; release = release_law }
