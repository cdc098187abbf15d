use Rattle.fact_store.proofs.{Common.{sym, subst, ◌<◌}, Others.{Walks, rank, begins, goes_on, falls}}
use Rattle.fact_store.proofs.store.holds_type.Goals as goal

pub loop-next-init : goal.loop-next-init
loop-next-init c =
    begins c.args.slots.now c.args.by_tag.now c.args.by_id.now c.args.ty c.args.id c.newest_tag-next.result c.newest_tag-next.ensures.found c.newest_tag-next.ensures.greatest c.newest_tag-next.ensures.none

pub loop-next-preserved : goal.loop-next-preserved
loop-next-preserved c =
    goes_on c.args.slots.now c.args.by_tag.now c.args.by_id.now c.args.ty c.args.id c.in-Some.tag c.tag_below-next.result
    (subst (Walks c.args.slots.now c.args.by_tag.now c.args.by_id.now c.args.ty c.args.id) c.in-Some.is c.loop-next.invariant) (sym c.if-names_type.ensures)
    c.tag_below-next.ensures.found c.tag_below-next.ensures.greatest c.tag_below-next.ensures.none

pub loop-next-smaller : goal.loop-next-smaller
loop-next-smaller c =
    subst (λ o. rank c.tag_below-next.result < rank o) (sym c.in-Some.is)
    (falls c.args.slots.now c.args.by_tag.now c.args.by_id.now c.args.ty c.args.id c.in-Some.tag c.tag_below-next.result c.tag_below-next.ensures.found)
