use Rattle.rete_net.proofs.{Common.{◌∙◌, ◌<◌, ap, sym, refl, Some, slice_get-get_or, length, length-set, arith}, Ranged.{found_still}}
use Rattle.rete_net.proofs.ranges.Ranges.settle.Goals as goal

pub loop-at-preserved : goal.loop-at-preserved
loop-at-preserved c =
    let fields = c.loop-at.self.fields.items in let was = c.index_mut.result.now in
    let within : c.loop-at.at < length fields = omega (arith, c.loop-at-test.true, c.loop-at.invariant.count) in
    record {
      found = λ f k found. found_still c.loop-at.self.by_type fields c.loop-at.at was (record { field = was.field; ranges = c.settle.new.self })
          (slice_get-get_or fields c.loop-at.at was within ∙ ap Some (sym c.index_mut.ensures.value)) refl (λ number place held. c.in_ok-settle.ensures.found number place ∙ held) f k (c.loop-at.invariant.found f k found);
      count = length-set fields c.loop-at.at (record { field = was.field; ranges = c.settle.new.self }) ∙ c.loop-at.invariant.count;
    }
