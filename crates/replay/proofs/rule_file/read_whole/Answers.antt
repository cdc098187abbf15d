use Rattle.replay.proofs.{Common.{◌≡◌, ◌++◌, ◌+◌, ℕ, length, take, arith, rules, ap, ◌∙◌, length-append, length-take-le, file_told}, Files.{piece_more}}
use Rattle.replay.proofs.Files.{so_far_of, le_trans}
use Rattle.replay.proofs.rule_file.read_whole.Goals as goal

pub loop-n-preserved : goal.loop-n-preserved
loop-n-preserved g c =
    let inv = c.loop-n.invariant in
    let at_end : c.len.result ≡ length c.loop-n.bytes.items = search rules in
    let bytes = rw (inv.same, at_end) at c.in-Ok.ensures.bytes in
    let items = c.in_ok-extend_from_slice.ensures.items in
    let more = piece_more (file_told (g.F.Shelf.files c.args.shelf.now) c.args.name.now) c.loop-n.bytes.items (take c.in-Ok.n c.read_piece.new.buffer) (length c.loop-n.bytes.items) c.in-Ok.n inv.so_far bytes in
    let taken = length-take-le c.in-Ok.n c.read_piece.new.buffer (omega (arith, c.in-Ok.ensures.within)) in
    let len : length c.extend_from_slice.new.self.items ≡ length c.loop-n.bytes.items + c.in-Ok.n = ap length items ∙ length-append c.loop-n.bytes.items (take c.in-Ok.n c.read_piece.new.buffer) ∙ ap (λ (k : ℕ). length c.loop-n.bytes.items + k) taken in
    record {
      so_far = so_far_of (file_told (g.F.Shelf.files c.args.shelf.now) c.args.name.now) c.extend_from_slice.new.self.items (c.loop-n.bytes.items ++ take c.in-Ok.n c.read_piece.new.buffer) (length c.loop-n.bytes.items + c.in-Ok.n) items len more;
      few = omega (arith, len, c.in-Ok.ensures.few, c.if-len-most.false);
      same = c.read_piece.ensures.files ∙ inv.same;
      counts = λ other. le_trans (inv.counts other) (c.read_piece.ensures.counts other);
      miss_counts = λ other. le_trans (inv.miss_counts other) (c.read_piece.ensures.miss_counts other);
    }
