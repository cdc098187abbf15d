use Rattle.{std.proofs.Common.{◌≡◌, ◌++◌, ◌+◌, ◌≤◌, ℕ, List, [], length}, checkpoint.specs.{Bytes.{image_bytes, IsImage}, Pieces.{bytes_left, fit_left}}}
use Rattle.{checkpoint.specs.Pieces.{pieces_left, whole}, fx_store.specs.Puts.{IsDraft}}
use Rattle.desk.proofs.ending.add_pieces.Given as goal

abbrev pub invariant-next : goal.invariant-next
invariant-next g l = record {
  added : (piece : List ℕ) × ((front : List ℕ) → IsDraft (g.K.Sink.files l.fn.out) (g.K.FileSink.draft l.fn.out) front → IsDraft (g.K.Sink.files l.out) (g.K.FileSink.draft l.out) (front ++ piece))
      × (piece ++ bytes_left l.pieces ≡ image_bytes (whole l.fn.image)) × (length piece + l.room ≡ l.fn.most);
  fit : fit_left l.pieces → IsImage (whole l.fn.image);
  empty : l.piece.items ≡ [];
  files : g.K.Sink.files l.out ≡ g.K.Sink.files l.fn.out;
  written : g.K.Sink.written l.out ≡ g.K.Sink.written l.fn.out;
  counts : g.K.Sink.faults l.fn.out ≤ g.K.Sink.faults l.out;
}

abbrev pub decreases-next : goal.decreases-next
decreases-next g l = pieces_left l.pieces
