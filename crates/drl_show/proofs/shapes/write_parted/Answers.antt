use Rattle.{drl_show.proofs.{Common.{arith, on_ok_weaker}, Added.{parted_turn}}, std.proofs.lemmas.Grind.{common_steps}}
use Rattle.drl_show.proofs.shapes.write_parted.Goals as goal

pub returns-in_ok-write-in-len1-up : goal.returns-in_ok-write-in-len1-up
returns-in_ok-write-in-len1-up g c = on_ok_weaker c.write_behind.result (parted_turn g.T.Printed.tokens c.args.items.now c.first-item.result c.args.separator _ c.args.out.now.items _ _ (omega arith) c.first-item.is (grind (arith, common_steps)) c.in_ok-write-in-len1-up.ensures) c.write_behind.ensures
