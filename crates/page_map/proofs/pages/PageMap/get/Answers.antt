use Rattle.page_map.proofs.Common.{◌∙◌, ap, Some, None}
use Rattle.std.specs.FinMap as map
use Rattle.page_map.proofs.Changes.{found, row_here, in_tree}
use Rattle.page_map.proofs.pages.PageMap.get.Goals as goal

pub returns-in-Some : goal.returns-in-Some
returns-in-Some c =
    let run = c.self.inside.run in
    let tree = c.self.inside.tree.entries in
    let d = c.index.result.now in
    c.find_at.ensures
    ∙ found run.first run.directories.items tree c.self.invariant c.args.key (Some d)
    (row_here run.first run.directories.items tree c.self.invariant c.args.key c.in-Some.place d d c.in-Some.ensures.some.0 c.in-Some.ensures.some.1 c.index.ensures)
    ∙ ap (λ m. map.get m c.args.key) c.self.view_is

pub returns-in-Some-get : goal.returns-in-Some-get
returns-in-Some-get c =
    let run = c.self.inside.run in
    let tree = c.self.inside.tree.entries in
    let d = c.in-Some-get.pages.now in
    c.find_at-in-Some-get.ensures
    ∙ found run.first run.directories.items tree c.self.invariant c.args.key (Some d)
    (in_tree run.first run.directories.items tree c.self.invariant c.args.key c.in_default.ensures.none (Some d) c.in-Some-get.ensures.value)
    ∙ ap (λ m. map.get m c.args.key) c.self.view_is

pub returns-in-None : goal.returns-in-None
returns-in-None c =
    let run = c.self.inside.run in
    let tree = c.self.inside.tree.entries in
    found run.first run.directories.items tree c.self.invariant c.args.key None
    (in_tree run.first run.directories.items tree c.self.invariant c.args.key c.in_default.ensures.none None c.in-None.ensures.value)
    ∙ ap (λ m. map.get m c.args.key) c.self.view_is
