use Rattle.forgetting_laws.proofs.{Seeing.{sight_law, world_fire_law}, WorldSteps.{world_step_law, retracts_one}}
use Rattle.forgetting_laws.proofs.laws.worlds_are_seen_by_tags.Goals as goal

pub returns : goal.returns
returns c = record { sight = sight_law; step = world_step_law; retracted = retracts_one; firing = world_fire_law }
