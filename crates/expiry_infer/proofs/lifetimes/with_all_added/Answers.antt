use Rattle.expiry_infer.proofs.{Common.{refl, slice_get_read}, Given.{all_added}, Tops.{top_next}}
use Rattle.expiry_infer.proofs.lifetimes.with_all_added.Goals as goal

pub loop-place-preserved : goal.loop-place-preserved
loop-place-preserved c =
    let here = slice_get_read c.args.conditions.now _ c.loop-place.place c.index-conditions-place.result refl c.loop-place-test.true c.index-conditions-place.is in
    record {
      top = top_next _ _ _ _ _ _ _ here c.loop-place.invariant.top c.in_ok-most.ensures.top;
      small = λ small. c.in_ok-most.ensures.small (c.loop-place.invariant.small small);
    }

pub returns-clause-top : goal.returns-clause-top
returns-clause-top c = all_added _ _ _ _ _ _ c.loop-place-test.false c.loop-place.invariant.top
