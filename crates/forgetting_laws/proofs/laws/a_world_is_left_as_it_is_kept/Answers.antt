use Rattle.forgetting_laws.proofs.Closing.{step_comes_clean, next_clean, world_step_kept, world_fire_kept}
use Rattle.forgetting_laws.proofs.laws.a_world_is_left_as_it_is_kept.Goals as goal

pub returns : goal.returns
returns c = record { clean = step_comes_clean; next = next_clean; step = world_step_kept; firing = world_fire_kept }
