use Rattle.image_fitting.proofs.Law.{fitting_law}
use Rattle.image_fitting.proofs.laws.an_image_fits_by_tests_and_rows.Goals as goal

pub returns : goal.returns
returns c p table image owners safe own = fitting_law p table image owners safe own
