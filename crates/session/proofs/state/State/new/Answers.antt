use Rattle.{session.proofs.Common.{◌∙◌, ap, arith, nat_cmp, zero_clock}, std.specs.FinMap.{get-empty}}
use Rattle.std.specs.FinMap as map
use Rattle.session.proofs.state.State.new.Goals as goal

pub invariant_of-result : goal.invariant_of-result
invariant_of-result c = record {
  fresh = λ tag le. ap (λ m. map.get m tag) c.new-facts.ensures ∙ get-empty nat_cmp tag;
  untimed = λ tag le. ap (λ m. map.get m tag) c.new-expiries.ensures ∙ get-empty nat_cmp tag;
  ids = omega arith;
  clock_low = zero_clock.0;
  clock_high = zero_clock.1;
}
