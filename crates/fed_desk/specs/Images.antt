-- The image of a desk.
use Rattle.std.specs.Prelude.{◌≡◌, ◌⊎◌, ◌<◌, ◌≤◌, true, false, ℕ, List, length}
use Rattle.checkpoint.specs.{Bytes.{IsImage, image_bytes}, declared.image.Image.{Image}}
use Rattle.image_laws.specs.Images.{IsImageOf}
use Rattle.line_run.specs.{Parts.{run_part_at}, Run.{RunState}}
use Rattle.replay.specs.Checkpoints.{can_go_on, image_limit}
use Rattle.script_run.specs.Live.{most_firings}
use Rattle.fed_desk.specs.Runs.{ComesTo, FedCourse}

-- These bytes are those of the image of the state to which the lines come whose ends were fed: with its world, the number of its lines and firings, and
-- whether a line was a fault. They are not too many, and a run can go on behind them.
pub record IsSaved (course : FedCourse) (fed bytes : List ℕ) : Type 0 where
  pub state : RunState
  pub comes : ComesTo course fed state
  pub image : Image
  pub run : image.run ≡ run_part_at most_firings course.part state.progress
  pub is_of : IsImageOf course.live.run.program course.live.table state.world image
  pub is_image : IsImage image
  pub goes_on : can_go_on image ≡ true
  pub spelled : bytes ≡ image_bytes image
  pub short : length bytes ≤ image_limit

-- The image of that state is refused: no run could go on from its numbers, or it has too many bytes.
pub record IsUnsaved (course : FedCourse) (fed : List ℕ) : Type 0 where
  pub state : RunState
  pub comes : ComesTo course fed state
  pub image : Image
  pub run : image.run ≡ run_part_at most_firings course.part state.progress
  pub is_of : IsImageOf course.live.run.program course.live.table state.world image
  pub refused : (can_go_on image ≡ false) ⊎ (image_limit < length (image_bytes image))
