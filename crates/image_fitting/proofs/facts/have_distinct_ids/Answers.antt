use Rattle.image_fitting.proofs.{Common.{◌≡◌, ◌↔◌, List, ℕ, map, IsTrue, subst, rules, Fact, IsStrictlySortedBy}, Telling.{distinct_is}}
use Rattle.std.proofs.Common.{nat_cmp}
use Rattle.image_fitting.proofs.facts.have_distinct_ids.Goals as goal

pub returns : goal.returns
returns c =
    let are : c.in_ok-ids.ids.items ≡ map (λ (f : Fact). f.id.0) c.args.facts.now = search rules in
    distinct_is c.args.facts.now c.in_ok-ids.ids.items c.sort.new.self.items c.are_in_order.result are c.in_ok-sort.ensures.permutation c.in_ok-sort.ensures.sorted
    (subst (λ (ids : List ℕ). IsTrue c.are_in_order.result ↔ IsStrictlySortedBy nat_cmp ids) c.as_slice.ensures.value c.are_in_order.ensures)
