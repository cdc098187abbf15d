use Rattle.subrules.proofs.{Common.{arith, rules}, KnownLaws.{counted_alone, counted_behind}}
use Rattle.subrules.proofs.counts.count_of.Goals as goal

pub returns-then-is_none : goal.returns-then-is_none
returns-then-is_none c = counted_alone c.args.types.now c.args.tree.now c.min-own.result (search rules) (Prim.grind arith)

pub returns-in-Some : goal.returns-in-Some
returns-in-Some c = counted_behind c.args.types.now c.args.tree.now c.args.known.now c.in-Some.above.now _ c.requires c.in-Some.ensures (Prim.grind arith)
