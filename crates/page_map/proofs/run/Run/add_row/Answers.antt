use Rattle.page_map.proofs.Common.{◌≡◌, ◌∙◌, sym, ap, subst, ◌++◌, ◌*◌, ◌+◌, List, [], append_assoc, arith, length, All, deque_iter_rest, All-tail, Directory}
use Rattle.page_map.proofs.{Common.{ArePagesApart, entries_of, entries_by, numbered}, Kept.{joined_pages}}
use Rattle.page_map.proofs.run.Run.add_row.Goals as goal

pub loop-place-preserved : goal.loop-place-preserved
loop-place-preserved c =
    let head = c.in-Some.ensures.steps in
    let before = c.loop-place.entries.items in
    let number = c.args.self.now.first + c.loop-place.place in
    let pages = c.in-Some.pages.now in
    let still = deque_iter_rest c.next.new.self in
    let rest = entries_of (numbered (number + 1) still) in
    let next : c.args.self.now.first + (c.loop-place.place + 1) ≡ number + 1 = omega arith in
    let all = ap length head in
    let end = c.loop-place.invariant.end in
    record {
      so_far = ap (λ n. c.add_pages.new.entries.items ++ entries_of (numbered n still)) next
          ∙ ap (λ es. es ++ rest) (c.in_ok-add_pages.ensures ∙ ap (λ xs. before ++ entries_by (2048 * number) xs []) c.deref.ensures.value)
          ∙ append_assoc before (entries_by (2048 * number) pages.items []) rest
          ∙ ap (λ es. before ++ es) (joined_pages (2048 * number) pages.items rest)
          ∙ sym (ap (λ it. before ++ entries_of (numbered number it)) head) ∙ c.loop-place.invariant.so_far;
      short = All-tail (λ (directory : Directory). ArePagesApart directory.items) pages still
          (subst (λ (it : List Directory). All (λ (directory : Directory). ArePagesApart directory.items) it) head c.loop-place.invariant.short);
      end = omega (arith, all, end);
    }
