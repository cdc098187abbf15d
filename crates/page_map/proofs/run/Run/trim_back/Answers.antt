use Rattle.page_map.proofs.Common.{rules, ◌≡◌, ◌∙◌, sym, ap, subst, ◌<◌, ◌∷◌, ◌++◌, List, [], Some, length, option_to_list, deque_len, Directory, IsTrimmed}
use Rattle.page_map.proofs.Moved.{back_off}
use Rattle.page_map.proofs.run.Run.trim_back.Goals as goal

pub loop-count-preserved : goal.loop-count-preserved
loop-count-preserved c =
    let old = c.args.self.now in
    let row = c.pop_back.new.self.items in
    let back = c.in-Some.back.now in
    let some : 0 < deque_len c.loop-count.self.directories = search rules in
    let none : length back.items ≡ 0 = search rules in
    let took = c.pop_back.ensures.value back some ∙ ap Some (sym c.in-Some.ensures.lookup) in
    let is : c.loop-count.self.directories.items ≡ row ++ back ∷ [] = c.pop_back.ensures.items ∙ ap (λ r. row ++ option_to_list r) took in
    back_off old.first old.directories.items c.loop-count.self.first back row none
    (subst (λ (r : List Directory). IsTrimmed old.first old.directories.items c.loop-count.self.first r) is c.loop-count.invariant)
