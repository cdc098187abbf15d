use Rattle.desk_image.proofs.DeskExact.{one_spelling}
use Rattle.desk_image.proofs.laws.a_desk_image_has_one_spelling.Goals as goal

pub returns : goal.returns
returns c = one_spelling
