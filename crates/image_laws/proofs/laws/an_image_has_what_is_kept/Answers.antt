use Rattle.image_laws.proofs.{Common.{snapshot, is_forgotten, snapshot_of, laden_rows}, Imaged.{image_kept}}
use Rattle.image_laws.proofs.laws.an_image_has_what_is_kept.Goals as goal

pub returns-clause-kept : goal.returns-clause-kept
returns-clause-kept c p table w image safe l is = image_kept p table w image safe l is

pub returns-clause-rows : goal.returns-clause-rows
returns-clause-rows c p table w image owners safe l is own place rule stands n row =
    laden_rows p (snapshot w) (snapshot_of image) (is_forgotten p table w) image.extras owners l.ordered.tags (image_kept p table w image safe l is) is.extras own place rule stands n row
