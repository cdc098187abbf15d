use Rattle.page_map.proofs.Kept.{more_directories}
use Rattle.page_map.proofs.moves.send.Goals as goal

pub returns-in-Ok-clause-are : goal.returns-in-Ok-clause-are
returns-in-Ok-clause-are c =
    more_directories c.args.tree.now.entries c.insert.new.self.entries c.requires.are c.insert.ensures.ordered c.args.number c.args.pages c.in-Ok.ensures.entries c.requires.number c.requires.short
