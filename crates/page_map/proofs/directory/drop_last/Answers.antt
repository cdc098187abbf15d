use Rattle.page_map.proofs.Common.{rules, ◌≡◌, ◌∙◌, sym, ap, ◌<◌, ◌≤◌, ◌++◌, ◌-◌, Some, length, get_or, vec_len, option_to_list, slice_get, number_in}
use Rattle.{page_map.proofs.Written.{lengthened, shortened}, std.proofs.lemmas.Option.{get_or_from_slice_get}}
use Rattle.page_map.proofs.directory.drop_last.Goals as goal

pub loop-last-preserved-else-not-is_empty : goal.loop-last-preserved-else-not-is_empty
loop-last-preserved-else-not-is_empty c =
    let pages = c.loop-last.pages.items in
    let fewer = c.pop.new.self.items in
    let last = c.in-Some.last.now in
    let e : slice_get pages (vec_len c.loop-last.pages - 1) ≡ Some last =
    sym (c.in-Some.ensures.value ∙ ap (λ n. slice_get c.deref.result.now (n - 1)) c.deref.ensures.len ∙ ap (λ xs. slice_get xs (vec_len c.loop-last.pages - 1)) c.deref.ensures.value) in
    let there : get_or pages (vec_len c.loop-last.pages - 1) last ≡ last = get_or_from_slice_get pages (vec_len c.loop-last.pages - 1) last last e in
    let some : 0 < vec_len c.loop-last.pages = search rules in
    let none : length last.items ≡ 0 = search rules in
    let took = c.pop.ensures.value last some ∙ ap Some there in
    let is = c.pop.ensures.items ∙ ap (λ r. fewer ++ option_to_list r) took in
    let less : length fewer ≤ length pages = search rules in (
      λ i k. sym (lengthened fewer last none i k) ∙ ap (λ ps. number_in ps i k) (sym is) ∙ c.loop-last.invariant.0 i k,
      λ short. shortened pages fewer c.pop.result c.pop.ensures.items less (c.loop-last.invariant.1 short),
    )
