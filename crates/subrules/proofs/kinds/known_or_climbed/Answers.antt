use Rattle.subrules.proofs.KnownLaws.{above_by_parent}
use Rattle.subrules.proofs.kinds.known_or_climbed.Goals as goal

pub returns-in-Some : goal.returns-in-Some
returns-in-Some c = above_by_parent c.args.types.now c.args.over.now c.args.tree.now c.args.known.now c.args.up c.in-Some.found.now c.requires.known c.requires.up c.in-Some.ensures
