use Rattle.page_map.proofs.{Common.{◌≡◌, length, rules}, Moved.{begun_same}}
use Rattle.page_map.proofs.moves.begin_at.Goals as goal

pub returns-then-is_empty-clause-same : goal.returns-then-is_empty-clause-same
returns-then-is_empty-clause-same c tree =
    let none : length c.args.run.now.directories.items ≡ 0 = search rules in
    begun_same c.args.run.now.first c.args.number c.args.run.now.directories.items tree none
