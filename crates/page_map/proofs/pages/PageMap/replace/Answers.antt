use Rattle.page_map.proofs.Common.{◌≡◌, ◌∙◌, sym, ap, subst, ℕ, List, Some, None, arith, Directory, free, AreDirectoriesApart, held}
use Rattle.std.specs.FinMap as map
use Rattle.page_map.proofs.{Kept.{on_some_weaker, if_none_weaker}, Changes.{found, row_here, row_put, row_unchanged, in_tree, tree_are, tree_put}}
use Rattle.page_map.proofs.Changes.{tree_unchanged}
use Rattle.page_map.proofs.pages.PageMap.replace.Goals as goal
use Rattle.page_map.proofs.pages.PageMap.replace.Goals.{in-Some-get_mut, in-None}

pub returns-in-Some-clause-before : goal.returns-in-Some-clause-before
returns-in-Some-clause-before c =
    let run = c.self.inside.run in
    let tree = c.self.inside.tree.entries in
    let d = c.index_mut.result.now in
    c.replace_at.ensures.before
    ∙ found run.first run.directories.items tree c.self.invariant c.args.key (Some d)
    (row_here run.first run.directories.items tree c.self.invariant c.args.key c.in-Some.place d d c.in-Some.ensures.some.0 c.in-Some.ensures.some.1 c.index_mut.ensures.value)
    ∙ ap (λ m. map.get m c.args.key) c.self.view_is

pub returns-in-Some-clause-some : goal.returns-in-Some-clause-some
returns-in-Some-clause-some c =
    let run = c.self.inside.run in
    let proper : c.args.value ≡ free → ⊥ = λ e. let below = c.requires in omega (arith, e, below) in
    on_some_weaker c.replace_at.result
    (λ places. row_put run.first run.directories.items c.self.inside.tree.entries c.self.invariant c.args.key c.in-Some.place c.index_mut.result.now c.replace_at.new.pages c.in-Some.ensures.some.0
    c.in-Some.ensures.some.1 c.index_mut.ensures.value c.replace_at.ensures.short c.args.value proper places
    ∙ ap (λ m. map.insert m c.args.key c.args.value) c.self.view_is)
    c.replace_at.ensures.some

pub returns-in-Some-clause-none : goal.returns-in-Some-clause-none
returns-in-Some-clause-none c =
    let run = c.self.inside.run in
    if_none_weaker c.replace_at.result
    (λ same. row_unchanged run.first run.directories.items c.self.inside.tree.entries c.self.invariant c.args.key c.in-Some.place c.index_mut.result.now c.replace_at.new.pages c.in-Some.ensures.some.0
    c.in-Some.ensures.some.1 c.index_mut.ensures.value c.replace_at.ensures.short same
    ∙ c.self.view_is)
    c.replace_at.ensures.none

pub invariant_of-self-2 : goal.invariant_of-self-2
invariant_of-self-2 c =
    let run = c.self.inside.run in
    let tree = c.self.inside.tree in
    elim c.match-get_mut.branch [
      | in-Some-get_mut w ↦ rw w.self-inside-is
          (tree_are run.first run.directories.items tree (c.get_mut.follows.lender w.replace_at-in-Some-get_mut.new.pages) c.self.invariant c.args.key c.in_default.ensures.none w.in-Some-get_mut.pages.now
          w.replace_at-in-Some-get_mut.new.pages w.in-Some-get_mut.ensures.value (c.get_mut.follows.holds w.replace_at-in-Some-get_mut.new.pages) w.replace_at-in-Some-get_mut.ensures.short)
      | in-None w ↦ rw w.self-inside-is
          (subst (λ (es : List (ℕ × Directory)). AreDirectoriesApart run.first run.directories.items es) (sym (ap (λ m. m.entries) c.get_mut.follows.holds-at-none)) c.self.invariant)
    ]

pub returns-clause-before : goal.returns-clause-before
returns-clause-before c =
    let run = c.self.inside.run in
    let tree = c.self.inside.tree.entries in
    let shown = ap (λ m. map.get m c.args.key) c.self.view_is in
    elim c.match-get_mut.branch [
      | in-Some-get_mut w ↦ w.result-is ∙ w.replace_at-in-Some-get_mut.ensures.before
          ∙ found run.first run.directories.items tree c.self.invariant c.args.key (Some w.in-Some-get_mut.pages.now)
          (in_tree run.first run.directories.items tree c.self.invariant c.args.key c.in_default.ensures.none (Some w.in-Some-get_mut.pages.now) w.in-Some-get_mut.ensures.value)
          ∙ shown
      | in-None w ↦ w.result-is
          ∙ found run.first run.directories.items tree c.self.invariant c.args.key None
          (in_tree run.first run.directories.items tree c.self.invariant c.args.key c.in_default.ensures.none None w.in-None.ensures.value)
          ∙ shown
    ]

pub returns-clause-some : goal.returns-clause-some
returns-clause-some c =
    let run = c.self.inside.run in
    let tree = c.self.inside.tree in
    let proper : c.args.value ≡ free → ⊥ = λ e. let below = c.requires in omega (arith, e, below) in
    elim c.match-get_mut.branch [
      | in-Some-get_mut w ↦ rw w.result-is (rw w.self-inside-is
          (on_some_weaker w.replace_at-in-Some-get_mut.result
          (λ places. tree_put run.first run.directories.items tree (c.get_mut.follows.lender w.replace_at-in-Some-get_mut.new.pages) c.self.invariant c.args.key c.in_default.ensures.none w.in-Some-get_mut.pages.now
          w.replace_at-in-Some-get_mut.new.pages w.in-Some-get_mut.ensures.value (c.get_mut.follows.holds w.replace_at-in-Some-get_mut.new.pages) w.replace_at-in-Some-get_mut.ensures.short c.args.value proper places
          ∙ ap (λ m. map.insert m c.args.key c.args.value) c.self.view_is)
          w.replace_at-in-Some-get_mut.ensures.some))
      | in-None w ↦ rw w.result-is tt
    ]

pub returns-clause-none : goal.returns-clause-none
returns-clause-none c =
    let run = c.self.inside.run in
    let tree = c.self.inside.tree in
    elim c.match-get_mut.branch [
      | in-Some-get_mut w ↦ rw w.result-is (rw w.self-inside-is
          (if_none_weaker w.replace_at-in-Some-get_mut.result
          (λ same. tree_unchanged run.first run.directories.items tree (c.get_mut.follows.lender w.replace_at-in-Some-get_mut.new.pages) c.self.invariant c.args.key c.in_default.ensures.none
          w.in-Some-get_mut.pages.now w.replace_at-in-Some-get_mut.new.pages w.in-Some-get_mut.ensures.value (c.get_mut.follows.holds w.replace_at-in-Some-get_mut.new.pages) w.replace_at-in-Some-get_mut.ensures.short same
          ∙ c.self.view_is)
          w.replace_at-in-Some-get_mut.ensures.none))
      | in-None w ↦ rw w.result-is (rw w.self-inside-is (ap (held run.first run.directories.items) (ap (λ m. m.entries) c.get_mut.follows.holds-at-none) ∙ c.self.view_is))
    ]
