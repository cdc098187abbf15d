use Rattle.counting_node.proofs.{Common.{◌∙◌, ap, rules, of_calls, Extra, row_cmp}, Searching.{found_at, not_found}}
use Rattle.std.proofs.lemmas.Fn.{always_returns_same}
use Rattle.counting_node.proofs.node.loading.extra_of.Goals as goal

pub returns-in-Ok : goal.returns-in-Ok
returns-in-Ok c sorted =
    let row = c.args.row.now in
    let equal = c.in-Ok.ensures.position (λ (e : Extra). row_cmp e.row row) (always_returns_same _ _ _ (λ a r f k. search (rules, of_calls))) in
    found_at c.args.extras.now row c.in-Ok.place c.index-extras-place.result sorted c.in-Ok.ensures.bound c.index-extras-place.is (ap (λ (e : Extra). row_cmp e.row row) c.index-extras-place.is ∙ equal c.index-extras-place.result)

pub returns-in-Err : goal.returns-in-Err
returns-in-Err c sorted =
    let row = c.args.row.now in
    not_found c.args.extras.now row c.in-Err.field-0 sorted (c.in-Err.ensures.position (λ (e : Extra). row_cmp e.row row) (always_returns_same _ _ _ (λ a r f k. search (rules, of_calls))))
