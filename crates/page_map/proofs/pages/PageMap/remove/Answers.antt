use Rattle.page_map.proofs.Common.{◌≡◌, ◌∙◌, sym, ap, ◌/◌, length, Some, None, set, rules, nat_cmp, is_at, held}
use Rattle.std.specs.FinMap as map
use Rattle.page_map.proofs.{Kept.{rewritten, fewer_directories, remove_absent}, Moved.{trimmed_same}, Changes.{found, row_here, row_are, row_take, in_tree}}
use Rattle.page_map.proofs.Changes.{tree_are, tree_take, last_are, last_take}
use Rattle.page_map.proofs.pages.PageMap.remove.Goals as goal
use Rattle.page_map.proofs.pages.PageMap.remove.Goals.{in-Some-1, in-None-1}

pub returns-in-Some-clause-taken : goal.returns-in-Some-clause-taken
returns-in-Some-clause-taken c =
    let run = c.self.inside.run in
    let tree = c.self.inside.tree.entries in
    let d = c.index_mut.result.now in
    c.take_at-value.ensures.taken
    ∙ found run.first run.directories.items tree c.self.invariant c.args.key (Some d)
    (row_here run.first run.directories.items tree c.self.invariant c.args.key c.in-Some.place d d c.in-Some.ensures.some.0 c.in-Some.ensures.some.1 c.index_mut.ensures.value)
    ∙ ap (λ m. map.get m c.args.key) c.self.view_is

pub returns-in-Some-clause-rest : goal.returns-in-Some-clause-rest
returns-in-Some-clause-rest c =
    let run = c.self.inside.run in
    let row = run.directories.items in
    let tree = c.self.inside.tree.entries in
    let w = c.take_at-value.new.pages in
    trimmed_same run.first (set row c.in-Some.place w) c.trim.new.self.first c.trim.new.self.directories.items tree c.trim.ensures
    (row_are run.first row tree c.self.invariant c.args.key c.in-Some.place c.index_mut.result.now w c.in-Some.ensures.some.0 c.in-Some.ensures.some.1 c.index_mut.ensures.value c.take_at-value.ensures.short)
    ∙ row_take run.first row tree c.self.invariant c.args.key c.in-Some.place c.index_mut.result.now w c.in-Some.ensures.some.0 c.in-Some.ensures.some.1 c.index_mut.ensures.value c.take_at-value.ensures.short
    c.take_at-value.ensures.rest
    ∙ ap (λ m. map.remove m c.args.key) c.self.view_is

pub invariant_of-self-then-is_empty : goal.invariant_of-self-then-is_empty
invariant_of-self-then-is_empty c =
    let run = c.self.inside.run in
    let tree = c.self.inside.tree in
    let d = c.in-Some-get_mut.pages.now in
    let w = c.take_at-value-in-Some-get_mut.new.pages in
    let lent = c.get_mut.follows.lender w in
    let kept = fewer_directories lent.entries c.remove.new.self.entries
    (rewritten tree lent (c.args.key / 2048) d w c.self.invariant.stored c.in-Some-get_mut.ensures.value (c.get_mut.follows.holds w) c.take_at-value-in-Some-get_mut.ensures.short)
    c.remove.ensures.ordered (is_at (nat_cmp (c.args.key / 2048))) c.remove.ensures.entries in
    last_are run.first run.directories.items tree lent c.self.invariant c.args.key c.in_default.ensures.none d w c.in-Some-get_mut.ensures.value (c.get_mut.follows.holds w)
    c.take_at-value-in-Some-get_mut.ensures.short c.remove.new.self.entries kept c.remove.ensures.updates.0

pub invariant_of-self-else-is_empty : goal.invariant_of-self-else-is_empty
invariant_of-self-else-is_empty c =
    let run = c.self.inside.run in
    let w = c.take_at-value-in-Some-get_mut.new.pages in
    tree_are run.first run.directories.items c.self.inside.tree (c.get_mut.follows.lender w) c.self.invariant c.args.key c.in_default.ensures.none c.in-Some-get_mut.pages.now w c.in-Some-get_mut.ensures.value
    (c.get_mut.follows.holds w) c.take_at-value-in-Some-get_mut.ensures.short

pub returns-then-is_empty-clause-taken : goal.returns-then-is_empty-clause-taken
returns-then-is_empty-clause-taken c =
    let run = c.self.inside.run in
    let tree = c.self.inside.tree.entries in
    let d = c.in-Some-get_mut.pages.now in
    c.take_at-value-in-Some-get_mut.ensures.taken
    ∙ found run.first run.directories.items tree c.self.invariant c.args.key (Some d)
    (in_tree run.first run.directories.items tree c.self.invariant c.args.key c.in_default.ensures.none (Some d) c.in-Some-get_mut.ensures.value)
    ∙ ap (λ m. map.get m c.args.key) c.self.view_is

pub returns-then-is_empty-clause-rest : goal.returns-then-is_empty-clause-rest
returns-then-is_empty-clause-rest c =
    let run = c.self.inside.run in
    let tree = c.self.inside.tree in
    let d = c.in-Some-get_mut.pages.now in
    let w = c.take_at-value-in-Some-get_mut.new.pages in
    let lent = c.get_mut.follows.lender w in
    let none : length w.items ≡ 0 = search rules in
    let kept = fewer_directories lent.entries c.remove.new.self.entries
    (rewritten tree lent (c.args.key / 2048) d w c.self.invariant.stored c.in-Some-get_mut.ensures.value (c.get_mut.follows.holds w) c.take_at-value-in-Some-get_mut.ensures.short)
    c.remove.ensures.ordered (is_at (nat_cmp (c.args.key / 2048))) c.remove.ensures.entries in
    let shown : c.match-remove.self ≡ held run.first run.directories.items c.remove.new.self.entries = elim c.match-remove.branch [ in-Some-1 w ↦ w.self-is | in-None-1 w ↦ w.self-is ] in
    shown
    ∙ last_take run.first run.directories.items tree lent c.self.invariant c.args.key c.in_default.ensures.none d w c.in-Some-get_mut.ensures.value (c.get_mut.follows.holds w)
    c.take_at-value-in-Some-get_mut.ensures.short c.remove.new.self.entries kept c.remove.ensures.updates.0 none c.take_at-value-in-Some-get_mut.ensures.rest
    ∙ ap (λ m. map.remove m c.args.key) c.self.view_is

pub returns-else-is_empty-clause-taken : goal.returns-else-is_empty-clause-taken
returns-else-is_empty-clause-taken c =
    let run = c.self.inside.run in
    let tree = c.self.inside.tree.entries in
    let d = c.in-Some-get_mut.pages.now in
    c.take_at-value-in-Some-get_mut.ensures.taken
    ∙ found run.first run.directories.items tree c.self.invariant c.args.key (Some d)
    (in_tree run.first run.directories.items tree c.self.invariant c.args.key c.in_default.ensures.none (Some d) c.in-Some-get_mut.ensures.value)
    ∙ ap (λ m. map.get m c.args.key) c.self.view_is

pub returns-else-is_empty-clause-rest : goal.returns-else-is_empty-clause-rest
returns-else-is_empty-clause-rest c =
    let run = c.self.inside.run in
    let w = c.take_at-value-in-Some-get_mut.new.pages in
    tree_take run.first run.directories.items c.self.inside.tree (c.get_mut.follows.lender w) c.self.invariant c.args.key c.in_default.ensures.none c.in-Some-get_mut.pages.now w c.in-Some-get_mut.ensures.value
    (c.get_mut.follows.holds w) c.take_at-value-in-Some-get_mut.ensures.short c.take_at-value-in-Some-get_mut.ensures.rest
    ∙ ap (λ m. map.remove m c.args.key) c.self.view_is

pub returns-in-None-clause-taken : goal.returns-in-None-clause-taken
returns-in-None-clause-taken c =
    let run = c.self.inside.run in
    let tree = c.self.inside.tree.entries in
    found run.first run.directories.items tree c.self.invariant c.args.key None
    (in_tree run.first run.directories.items tree c.self.invariant c.args.key c.in_default.ensures.none None c.in-None.ensures.value)
    ∙ ap (λ m. map.get m c.args.key) c.self.view_is

pub returns-in-None-clause-rest : goal.returns-in-None-clause-rest
returns-in-None-clause-rest c =
    let run = c.self.inside.run in
    let tree = c.self.inside.tree.entries in
    ap (held run.first run.directories.items) (ap (λ m. m.entries) c.get_mut.follows.holds-at-none) ∙ c.self.view_is ∙ remove_absent c.args.self.now c.args.key
    (sym (found run.first run.directories.items tree c.self.invariant c.args.key None
    (in_tree run.first run.directories.items tree c.self.invariant c.args.key c.in_default.ensures.none None c.in-None.ensures.value)
    ∙ ap (λ m. map.get m c.args.key) c.self.view_is))
