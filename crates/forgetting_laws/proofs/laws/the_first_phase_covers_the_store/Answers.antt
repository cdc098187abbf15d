use Rattle.forgetting_laws.proofs.Covering.{later_covers, free_covers, insert_covers, retract_covers, endless_covers}
use Rattle.forgetting_laws.proofs.laws.the_first_phase_covers_the_store.Goals as goal

pub returns : goal.returns
returns c = record { later = later_covers; free = free_covers; insert = insert_covers; retract = retract_covers; endless = endless_covers }
