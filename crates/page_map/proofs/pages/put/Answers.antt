use Rattle.page_map.proofs.{Common.{rules, ◌/◌, ◌<◌, ◌^◌, on_ok_weaker, on_err_weaker}, Kept.{more_directories, no_pages}, Changes.{row_put, row_unchanged}}
use Rattle.page_map.proofs.Changes.{tree_are, tree_put, tree_unchanged, first_are, first_put}
use Rattle.page_map.proofs.pages.put.Goals as goal

pub returns-in-Some-clause-ok : goal.returns-in-Some-clause-ok
returns-in-Some-clause-ok c =
    let run = c.args.run.now in
    on_ok_weaker c.put_at.result
    (row_put run.first run.directories.items c.args.tree.now.entries c.requires.are c.args.key c.in-Some.place c.index_mut.result.now c.put_at.new.pages c.in-Some.ensures.some.0 c.in-Some.ensures.some.1
    c.index_mut.ensures.value c.put_at.ensures.short c.args.value c.requires.value)
    c.put_at.ensures.ok

pub returns-in-Some-clause-err : goal.returns-in-Some-clause-err
returns-in-Some-clause-err c =
    let run = c.args.run.now in
    on_err_weaker c.put_at.result
    (row_unchanged run.first run.directories.items c.args.tree.now.entries c.requires.are c.args.key c.in-Some.place c.index_mut.result.now c.put_at.new.pages c.in-Some.ensures.some.0 c.in-Some.ensures.some.1
    c.index_mut.ensures.value c.put_at.ensures.short)
    c.put_at.ensures.err

pub returns-in-Some-get_mut-clause-are : goal.returns-in-Some-get_mut-clause-are
returns-in-Some-get_mut-clause-are c =
    let run = c.args.run.now in
    let w = c.put_at-in-Some-get_mut.new.pages in
    tree_are run.first run.directories.items c.args.tree.now (c.get_mut.follows.lender w) c.requires.are c.args.key c.in_default.ensures.none c.in-Some-get_mut.pages.now w c.in-Some-get_mut.ensures.value
    (c.get_mut.follows.holds w) c.put_at-in-Some-get_mut.ensures.short

pub returns-in-Some-get_mut-clause-ok : goal.returns-in-Some-get_mut-clause-ok
returns-in-Some-get_mut-clause-ok c =
    let run = c.args.run.now in
    let w = c.put_at-in-Some-get_mut.new.pages in
    on_ok_weaker c.put_at-in-Some-get_mut.result
    (tree_put run.first run.directories.items c.args.tree.now (c.get_mut.follows.lender w) c.requires.are c.args.key c.in_default.ensures.none c.in-Some-get_mut.pages.now w c.in-Some-get_mut.ensures.value
    (c.get_mut.follows.holds w) c.put_at-in-Some-get_mut.ensures.short c.args.value c.requires.value)
    c.put_at-in-Some-get_mut.ensures.ok

pub returns-in-Some-get_mut-clause-err : goal.returns-in-Some-get_mut-clause-err
returns-in-Some-get_mut-clause-err c =
    let run = c.args.run.now in
    let w = c.put_at-in-Some-get_mut.new.pages in
    on_err_weaker c.put_at-in-Some-get_mut.result
    (tree_unchanged run.first run.directories.items c.args.tree.now (c.get_mut.follows.lender w) c.requires.are c.args.key c.in_default.ensures.none c.in-Some-get_mut.pages.now w c.in-Some-get_mut.ensures.value
    (c.get_mut.follows.holds w) c.put_at-in-Some-get_mut.ensures.short)
    c.put_at-in-Some-get_mut.ensures.err

pub returns-in_ok-insert-in-None-clause-are : goal.returns-in_ok-insert-in-None-clause-are
returns-in_ok-insert-in-None-clause-are c =
    let run = c.args.run.now in
    let below : c.args.key / 2048 < 2 ^ 53 = search rules in
    let entries = rw c.get_mut.follows.holds-at-none at c.in_ok-insert-in-None.ensures.entries in
    let others = rw c.get_mut.follows.holds-at-none at c.in_ok-insert-in-None.ensures.updates.0 in
    let stored = more_directories c.args.tree.now.entries c.insert.new.self.entries c.requires.are.stored c.insert.ensures.ordered (c.args.key / 2048) c.put_at-in-None.new.pages entries below
    (c.put_at-in-None.ensures.short (no_pages c.new-pages.result.items c.new-pages.ensures.items)) in
    first_are run.first run.directories.items c.args.tree.now.entries c.requires.are c.args.key c.in_default.ensures.none c.insert.new.self.entries stored c.new-pages.result c.put_at-in-None.new.pages others

pub returns-in_ok-insert-in-None-clause-ok : goal.returns-in_ok-insert-in-None-clause-ok
returns-in_ok-insert-in-None-clause-ok c =
    let run = c.args.run.now in
    let below : c.args.key / 2048 < 2 ^ 53 = search rules in
    let entries = rw c.get_mut.follows.holds-at-none at c.in_ok-insert-in-None.ensures.entries in
    let others = rw c.get_mut.follows.holds-at-none at c.in_ok-insert-in-None.ensures.updates.0 in
    let stored = more_directories c.args.tree.now.entries c.insert.new.self.entries c.requires.are.stored c.insert.ensures.ordered (c.args.key / 2048) c.put_at-in-None.new.pages entries below
    (c.put_at-in-None.ensures.short (no_pages c.new-pages.result.items c.new-pages.ensures.items)) in
    first_put run.first run.directories.items c.args.tree.now.entries c.requires.are c.args.key c.in_default.ensures.none c.insert.new.self.entries stored c.new-pages.result c.put_at-in-None.new.pages others
    c.in-None.ensures.value c.new-pages.ensures.items c.args.value c.requires.value c.in_ok-put_at-in-None.ensures.ok
