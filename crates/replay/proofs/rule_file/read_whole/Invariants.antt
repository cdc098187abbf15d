use Rattle.replay.proofs.Common.{◌≡◌, ◌<◌, ◌≤◌, ◌-◌, length, take, List, ℕ, IfSome, file_told}
use Rattle.replay.proofs.rule_file.read_whole.Given as goal

abbrev pub invariant-loop-n : goal.invariant-loop-n
invariant-loop-n g l =
    let files = g.F.Shelf.files in
    let faults = g.F.Shelf.faults in
    let misses = g.F.Shelf.misses in
    record {
      so_far : IfSome (file_told (files l.fn.shelf) l.name) (λ file. l.bytes.items ≡ take (length l.bytes.items) file);
      few : length l.bytes.items < l.most;
      same : files l.shelf ≡ files l.fn.shelf;
      counts : (other : List ℕ) → faults l.fn.shelf other ≤ faults l.shelf other;
      miss_counts : (other : List ℕ) → misses l.fn.shelf other ≤ misses l.shelf other;
    }

abbrev pub decreases-loop-n : goal.decreases-loop-n
decreases-loop-n g l = l.most - length l.bytes.items
