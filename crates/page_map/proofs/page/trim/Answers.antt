use Rattle.page_map.proofs.Common.{rules, ◌≡◌, ◌∙◌, sym, ap, ◌++◌, ◌∷◌, [], ◌-◌, Some, arith, length, vec_len, option_to_list, length-append, slice_get, free}
use Rattle.page_map.proofs.Kept.{shown, popped}
use Rattle.page_map.proofs.page.trim.Goals as goal

pub loop-last-preserved : goal.loop-last-preserved
loop-last-preserved c =
    let items = c.loop-last.page.items in
    let last = c.in-Some.last.now in
    let e : slice_get items (vec_len c.loop-last.page - 1) ≡ Some last =
    sym (c.in-Some.ensures.value ∙ ap (λ n. slice_get c.deref.result.now (n - 1)) c.deref.ensures.len ∙ ap (λ xs. slice_get xs (vec_len c.loop-last.page - 1)) c.deref.ensures.value) in
    let there = shown items (vec_len c.loop-last.page - 1) last e in
    let below = there.0 in
    let all = c.deref.ensures.len in
    let same = ap length c.deref.ensures.value in
    let is_free : last ≡ free = search rules in
    let took = c.pop.ensures.value free (omega (arith, below, all, same)) ∙ ap Some (there.1 ∙ is_free) in
    let is = c.pop.ensures.items ∙ ap (λ r. c.pop.new.self.items ++ option_to_list r) took in
    let shorter = ap length is in
    let sum = length-append c.pop.new.self.items (free ∷ []) in
    let short = c.loop-last.invariant.1 in
    (λ k. popped items c.pop.new.self.items k is ∙ c.loop-last.invariant.0 k, omega (arith, shorter, sum, short))
