use Rattle.page_map.proofs.{Common.{arith}, Rows.{none_before, none_behind}}
use Rattle.page_map.proofs.run.Run.place_of.Goals as goal

pub returns-then-number-self-clause-none : goal.returns-then-number-self-clause-none
returns-then-number-self-clause-none c = none_before c.args.number c.args.self.now.first c.args.self.now.directories.items c.if-number-self.true

pub returns-else-place-len-clause-none : goal.returns-else-place-len-clause-none
returns-else-place-len-clause-none c =
    let from = c.if-number-self.false in
    let past = c.if-place-len.false in
    let all = c.len.ensures in
    let same = c.args.self.now.directories.ok.0 in
    none_behind c.args.number c.args.self.now.first c.args.self.now.directories.items (omega (arith, from, past, all, same))
