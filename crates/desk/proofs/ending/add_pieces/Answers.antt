use Rattle.{std.proofs.Common.{◌∙◌, ◌++◌, ap, arith}, checkpoint.specs.Pieces.{bytes_left}, desk.proofs.Adding.{added_behind, left_behind, room_behind}}
use Rattle.desk.proofs.ending.add_pieces.Goals as goal

pub next-preserved : goal.next-preserved
next-preserved g c =
    let inv = c.next.invariant in
    let so_far = inv.added.0 in
    let piece = c.as_slice-bytes.result.now in
    let value = c.as_slice-bytes.ensures.value in
    record {
      added = (
        so_far ++ piece,
        λ front was. added_behind _ _ _ front so_far piece (rw c.in_ok-add.ensures.files (inv.added.1 front was)) c.in_ok-add.ensures.added,
        left_behind so_far piece _ _ _ (rw value (c.in_ok-put_next.ensures.bytes ∙ ap (λ z. z ++ bytes_left c.next.pieces) inv.empty)) inv.added.2,
        room_behind so_far piece _ _ c.if-bytes-room.false inv.added.3,
      );
      fit = λ fit. inv.fit (c.in_ok-put_next.ensures.fit fit);
      empty = c.clear.ensures.items;
      files = c.in_ok-add.ensures.files ∙ inv.files;
      written = c.in_ok-add.ensures.written ∙ inv.written;
      counts = omega (arith, inv.counts, c.in_ok-add.ensures.counts);
    }
