use Rattle.image_laws.proofs.One.{one_image}
use Rattle.image_laws.proofs.laws.a_world_has_one_image.Goals as goal

pub returns : goal.returns
returns c p table w a b of_a of_b e = one_image p table w a b of_a of_b e
