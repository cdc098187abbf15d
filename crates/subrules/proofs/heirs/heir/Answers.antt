use Rattle.subrules.{proofs.{Common.{subst, sym}, HeirLaws.{heir_behind}}, specs.Known.{IsHeir}}
use Rattle.subrules.proofs.heirs.heir.Goals as goal

pub returns-in_ok-made-in-Some : goal.returns-in_ok-made-in-Some
returns-in_ok-made-in-Some c =
    subst (IsHeir c.args.types.now c.args.tree.now) (sym c.in_ok-made-in-Some.ensures)
    (heir_behind c.args.types.now c.args.tree.now c.args.known.now c.in-Some.above.now c.requires c.in-Some.ensures)
