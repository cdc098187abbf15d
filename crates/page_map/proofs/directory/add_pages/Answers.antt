use Rattle.page_map.proofs.Common.{◌≡◌, ◌∙◌, sym, ap, ◌++◌, ◌∷◌, [], ◌+◌, ◌*◌, ◌<◌, arith, length, drop, append_assoc, rules, entries_from, entries_by}
use Rattle.page_map.proofs.{Common.{drop_more}, Kept.{joined}}
use Rattle.page_map.proofs.directory.add_pages.Goals as goal

pub loop-place-preserved : goal.loop-place-preserved
loop-place-preserved c =
    let pages = c.args.pages.now in
    let place = c.loop-place.place in
    let page = c.index-pages-place.result in
    let before = c.loop-place.entries.items in
    let first = 64 * (c.args.number * 32 + place) in
    let key = 2048 * c.args.number + 64 * place in
    let rest = entries_by (2048 * c.args.number + 64 * (place + 1)) (drop (place + 1) pages) [] in
    let within : place < length pages = search rules in
    let same : first ≡ key = omega arith in
    let next : 2048 * c.args.number + 64 * (place + 1) ≡ key + 64 = omega arith in
    let split : drop place pages ≡ page ∷ drop (place + 1) pages = drop_more pages place page within ∙ ap (λ p. p ∷ drop (place + 1) pages) (sym c.index-pages-place.is) in
    ap (λ es. es ++ rest) (c.in_ok-add_entries.ensures ∙ ap (λ xs. before ++ entries_from first xs []) c.deref.ensures.value)
    ∙ append_assoc before (entries_from first page.items []) rest
    ∙ ap (λ es. before ++ es) (joined first page.items rest ∙ ap (λ n. entries_from n page.items rest) same
    ∙ ap (λ n. entries_from key page.items (entries_by n (drop (place + 1) pages) [])) next ∙ ap (λ ps. entries_by key ps []) (sym split))
    ∙ c.loop-place.invariant
