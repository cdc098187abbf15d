use Rattle.page_map.proofs.Common.{◌∙◌, sym, ap, subst, ◌++◌, ◌*◌, ◌<◌, ◌^◌, ℕ, List, append_assoc, [], All, keys_of, values_of, All-tail, Directory}
use Rattle.page_map.proofs.{Common.{ArePagesApart, entries_of, entries_by}, Kept.{joined_pages}}
use Rattle.page_map.proofs.pages.add_directories.Goals as goal

pub loop-number-preserved : goal.loop-number-preserved
loop-number-preserved c =
    let head = c.in-Some.ensures.steps in
    let before = c.loop-number.entries.items in
    let rest = entries_of c.next.new.self in
    record {
      so_far = ap (λ es. es ++ rest) (c.in_ok-add_pages.ensures ∙ ap (λ xs. before ++ entries_by (2048 * c.in-Some.number.now) xs []) c.deref.ensures.value)
          ∙ append_assoc before (entries_by (2048 * c.in-Some.number.now) c.in-Some.pages.now.items []) rest
          ∙ ap (λ es. before ++ es) (joined_pages (2048 * c.in-Some.number.now) c.in-Some.pages.now.items rest)
          ∙ sym (ap (λ it. before ++ entries_of it) head) ∙ c.loop-number.invariant.so_far;
      numbers = All-tail (λ number. number < 2 ^ 53) c.in-Some.number.now (keys_of c.next.new.self)
          (subst (λ (it : List (ℕ × Directory)). All (λ number. number < 2 ^ 53) (keys_of it)) head c.loop-number.invariant.numbers);
      short = All-tail (λ (directory : Directory). ArePagesApart directory.items) c.in-Some.pages.now (values_of c.next.new.self)
          (subst (λ (it : List (ℕ × Directory)). All (λ (directory : Directory). ArePagesApart directory.items) (values_of it)) head c.loop-number.invariant.short);
    }
