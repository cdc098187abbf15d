use Rattle.page_map.proofs.Common.{rules, ◌≡◌, ◌∙◌, sym, ap, subst, ◌<◌, ◌∷◌, ◌++◌, List, Some, length, option_to_list, deque_len, Directory, IsTrimmed}
use Rattle.page_map.proofs.Moved.{front_off}
use Rattle.page_map.proofs.run.Run.trim_front.Goals as goal

pub loop-count-preserved : goal.loop-count-preserved
loop-count-preserved c =
    let old = c.args.self.now in
    let row = c.pop_front.new.self.items in
    let front = c.in-Some.front.now in
    let some : 0 < deque_len c.loop-count.self.directories = search rules in
    let none : length front.items ≡ 0 = search rules in
    let took = c.pop_front.ensures.value front some ∙ ap Some (sym c.in-Some.ensures.lookup) in
    let is : c.loop-count.self.directories.items ≡ front ∷ row = c.pop_front.ensures.items ∙ ap (λ r. option_to_list r ++ row) took in
    front_off old.first old.directories.items c.loop-count.self.first front row none
    (subst (λ (r : List Directory). IsTrimmed old.first old.directories.items c.loop-count.self.first r) is c.loop-count.invariant)
