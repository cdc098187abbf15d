-- The orders of what stands in an image are total.
use Rattle.std.{specs.Cmp.{IsTotalOrder}, proofs.lemmas.Cmp.{on_total, then_total, nat_cmp_total}}
use Rattle.fx_base.specs.declared.fact.Fact.{Fact}
use Rattle.row_delta.specs.{declared.extra.Extra.{Extra}, RowOrder.{row_total}}
use Rattle.rule_model.specs.{MatchOrders.{match_total}, Distinct.{tag_cmp}}
use Rattle.laden_rows.specs.Extras.{extra_cmp}
use Rattle.image_laws.specs.Images.{match_fired, fired_cmp}

pub tag_total : IsTotalOrder tag_cmp
tag_total = on_total (λ (f : Fact). f.tag.0) nat_cmp_total

pub fired_total : IsTotalOrder fired_cmp
fired_total = on_total match_fired match_total

pub extra_total : IsTotalOrder extra_cmp
extra_total = then_total (on_total (λ (e : Extra). e.rule.0) nat_cmp_total) (then_total (on_total (λ (e : Extra). e.condition) nat_cmp_total) (on_total (λ (e : Extra). e.row) row_total))
