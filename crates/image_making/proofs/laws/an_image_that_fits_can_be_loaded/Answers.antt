use Rattle.image_making.proofs.Behind.{fitting_can_be_loaded}
use Rattle.image_making.proofs.laws.an_image_that_fits_can_be_loaded.Goals as goal

pub returns : goal.returns
returns c = fitting_can_be_loaded c.an_image_fits_by_tests_and_rows.ensures
