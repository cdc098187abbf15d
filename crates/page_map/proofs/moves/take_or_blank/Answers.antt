use Rattle.page_map.proofs.{Common.{sym, is_at, nat_cmp}, Kept.{directory_short, fewer_directories}}
use Rattle.page_map.proofs.moves.take_or_blank.Goals as goal

pub returns-in-Some-clause-short : goal.returns-in-Some-clause-short
returns-in-Some-clause-short c were =
    directory_short c.args.tree.now.entries c.remove.new.self.entries were c.remove.ensures.ordered (is_at (nat_cmp c.args.number)) c.in-Some.pages (sym c.in-Some.ensures.value)

pub returns-in-Some-clause-are : goal.returns-in-Some-clause-are
returns-in-Some-clause-are c were =
    fewer_directories c.args.tree.now.entries c.remove.new.self.entries were c.remove.ensures.ordered (is_at (nat_cmp c.args.number)) c.remove.ensures.entries
