use Rattle.page_map.proofs.Common.{◌≡◌, ◌∙◌, sym, ap, subst, ◌++◌, ◌∷◌, [], ◌<◌, List, length, arith, length-append, Page, ArePagesApart, number_in}
use Rattle.page_map.proofs.Written.{lengthened, more_short}
use Rattle.page_map.proofs.directory.reach.Goals as goal

pub loop-count-preserved : goal.loop-count-preserved
loop-count-preserved c =
    let pages = c.loop-count.pages.items in
    let blank = c.new.result in
    let items : c.push.new.self.items ≡ pages ++ blank ∷ [] = c.in_ok-push.ensures.items in
    let none : length blank.items ≡ 0 = ap length c.new.ensures.items in
    let so_far = c.loop-count.invariant.reached in
    let more = c.loop-count-test.true in
    let top = c.requires in
    let few : length pages < 32 = omega (arith, so_far, more, top) in
    let all = ap length items in
    let one_more = length-append pages (blank ∷ []) in
    record {
      reached = omega (arith, so_far, all, one_more);
      kept = λ i k. ap (λ ps. number_in ps i k) items ∙ lengthened pages blank none i k ∙ c.loop-count.invariant.kept i k;
      short = λ were. subst (λ (ps : List Page). ArePagesApart ps) (sym items) (more_short pages blank none few (c.loop-count.invariant.short were));
    }
