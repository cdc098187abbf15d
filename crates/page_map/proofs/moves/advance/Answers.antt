use Rattle.page_map.proofs.Common.{◌∙◌, sym, ap, subst, ◌≡◌, ◌+◌, ◌^◌, ◌<◌, ℕ, List, Some, None, cond, length, is_at, lookup, nat_cmp, Directory, value_at}
use Rattle.page_map.proofs.{Common.{AreDirectoriesApart, held}, Moved.{grown_same}}
use Rattle.page_map.proofs.moves.advance.Goals as goal

pub returns-clause-same : goal.returns-clause-same
returns-clause-same c =
    let first = c.args.run.now.first in
    let row = c.reserve.new.self.items in
    let tree = c.args.tree.now.entries in
    let next = c.take_or_blank-pages.new.tree.entries in
    let d = c.take_or_blank-pages.result in
    let same : row ≡ c.args.run.now.directories.items = c.reserve.ensures.items in
    let were : AreDirectoriesApart first row tree = subst (λ (r : List Directory). AreDirectoriesApart first r tree) (sym same) c.requires.are in
    let room : first + length row < 2 ^ 53 = subst (λ (r : List Directory). first + length r < 2 ^ 53) (sym same) c.requires.room in
    let few : length row < 2 ^ 16 = subst (λ (r : List Directory). length r < 2 ^ 16) (sym same) c.requires.few in
    let others = subst (λ m. (n : ℕ) → lookup (is_at (nat_cmp n)) next ≡ cond (is_at (nat_cmp m) n) None (lookup (is_at (nat_cmp n)) tree)) c.end.ensures c.take_or_blank-pages.ensures.rest in
    let values = subst (λ m. (k : ℕ) → value_at (Some d) k ≡ value_at (lookup (is_at (nat_cmp m)) tree) k) c.end.ensures c.take_or_blank-pages.ensures.taken in
    ap (λ r. held first r next) c.push_back_reserved.ensures.items
    ∙ grown_same first row d tree next were room few (c.take_or_blank-pages.ensures.are were.stored) (c.take_or_blank-pages.ensures.short were.stored) others values
    ∙ ap (λ r. held first r tree) same
