use Rattle.temporal_net.proofs.{Common.{◌++◌, ◌∷◌, [], set, replicate, Some, None, ap, ◌∙◌, arith, length_push}, Places.{bare_more}}
use Rattle.temporal_net.proofs.table.bare_rows.Goals as goal

pub loop-point-preserved : goal.loop-point-preserved
loop-point-preserved c =
    let i = c.loop-point.invariant in
    let below = c.loop-point-test.true in
    let few = c.requires in
    let is = c.in_ok-push.ensures.items ∙ ap (λ z. c.loop-point.rows.items ++ set (replicate 16 None) c.loop-point.point (Some z) ∷ []) c.zero.ensures in
    record {
      tall = grind (arith, length_push);
      cells = bare_more c.loop-point.rows.items c.push.new.self.items c.loop-point.point (omega arith) i.tall i.cells is;
    }
