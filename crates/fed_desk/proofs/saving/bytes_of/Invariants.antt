use Rattle.{std.proofs.Common.{◌≡◌, ◌++◌, ◌≤◌, length}, checkpoint.specs.{Bytes.{image_bytes, IsImage}, Pieces.{bytes_left, fit_left, pieces_left, whole}}}
use Rattle.replay.specs.Checkpoints.{image_limit}
use Rattle.fed_desk.proofs.saving.bytes_of.Given as goal

abbrev pub invariant-next : goal.invariant-next
invariant-next l = record {
  bytes : l.bytes.items ++ bytes_left l.pieces ≡ image_bytes (whole l.fn.image);
  fit : fit_left l.pieces → IsImage (whole l.fn.image);
  short : length l.bytes.items ≤ image_limit;
}

abbrev pub decreases-next : goal.decreases-next
decreases-next l = pieces_left l.pieces
