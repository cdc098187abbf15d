use Rattle.page_map.proofs.Common.{◌∙◌, sym, ap, subst, ◌++◌, ◌<◌, ◌^◌, ℕ, List, append_assoc, Included, Excluded, Unbounded, range_contains, nat_cmp, All}
use Rattle.page_map.proofs.{Common.{keys_of, values_of, Directory, ArePagesApart, entries_of, numbered}, Listed.{Below, each_kept, entries_parts}}
use Rattle.page_map.proofs.pages.entries_in.Goals as goal

pub add_directories-requires-clause-numbers : goal.add_directories-requires-clause-numbers
add_directories-requires-clause-numbers c =
    subst (λ (ds : List (ℕ × Directory)). All (λ n. n < 2 ^ 53) (keys_of ds)) (sym (c.range.ensures.between tt))
    (each_kept (λ e. range_contains nat_cmp Unbounded (Excluded c.args.run.now.first) e.0) (λ e. e.0) (λ n. n < 2 ^ 53) c.args.tree.now.entries c.requires.stored.numbers)

pub add_directories-requires-clause-short : goal.add_directories-requires-clause-short
add_directories-requires-clause-short c =
    subst (λ (ds : List (ℕ × Directory)). All (λ (d : Directory). ArePagesApart d.items) (values_of ds)) (sym (c.range.ensures.between tt))
    (each_kept (λ e. range_contains nat_cmp Unbounded (Excluded c.args.run.now.first) e.0) (λ e. e.1) (λ (d : Directory). ArePagesApart d.items) c.args.tree.now.entries c.requires.stored.short)

pub add_directories-requires-2-clause-numbers : goal.add_directories-requires-2-clause-numbers
add_directories-requires-2-clause-numbers c =
    subst (λ (ds : List (ℕ × Directory)). All (λ n. n < 2 ^ 53) (keys_of ds)) (sym (c.range-2.ensures.between tt))
    (each_kept (λ e. range_contains nat_cmp (Included c.args.run.now.first) Unbounded e.0) (λ e. e.0) (λ n. n < 2 ^ 53) c.args.tree.now.entries c.requires.stored.numbers)

pub add_directories-requires-2-clause-short : goal.add_directories-requires-2-clause-short
add_directories-requires-2-clause-short c =
    subst (λ (ds : List (ℕ × Directory)). All (λ (d : Directory). ArePagesApart d.items) (values_of ds)) (sym (c.range-2.ensures.between tt))
    (each_kept (λ e. range_contains nat_cmp (Included c.args.run.now.first) Unbounded e.0) (λ e. e.1) (λ (d : Directory). ArePagesApart d.items) c.args.tree.now.entries c.requires.stored.short)

pub returns : goal.returns
returns c =
    let run = c.args.run.now in
    let row = entries_of (numbered run.first run.directories.items) in
    let below = c.in_ok-add_directories.ensures ∙ ap (λ es. es ++ entries_of c.range.result) c.new-entries.ensures.items ∙ ap entries_of (c.range.ensures.between tt) in
    let behind = entries_of c.range-2.result in
    c.in_ok-add_directories-2.ensures
    ∙ ap (λ es. es ++ behind) (c.in_ok-add_row.ensures ∙ ap (λ es. es ++ row) below)
    ∙ append_assoc (entries_of (Below run.first c.args.tree.now.entries)) row behind
    ∙ ap (λ ds. entries_of (Below run.first c.args.tree.now.entries) ++ (row ++ entries_of ds)) (c.range-2.ensures.between tt)
    ∙ sym (entries_parts run.first run.directories.items c.args.tree.now.entries c.requires.stored.ordered)
