use Rattle.rete_net.proofs.Common.{◌≡◌, ◌∙◌, ap, sym, cond, List, [], ◌∷◌, ◌++◌, Some, slice_get, slice_get-get_or, Fact, is_fact_of_type}
use Rattle.rete_net.proofs.Grouped.{one_fact_more}
use Rattle.rete_net.proofs.pieces.put_fact.Goals as goal

pub returns : goal.returns
returns c ty =
    let f = c.args.fact.now in
    let groups = c.reach.new.groups.items in
    let place = c.from-number.result in
    let at : slice_get c.reach.new.groups.items c.from-number.result ≡ Some c.index_mut.result.now =
    slice_get-get_or groups place c.index_mut.result.now c.in_ok-reach.ensures.reached ∙ ap Some (sym c.index_mut.ensures.value) in
    one_fact_more groups place c.index_mut.result.now c.push.new.self c.args.fact at c.in_ok-push.ensures.items c.from-number.ensures ty
    ∙ ap (λ (facts : List Fact). facts ++ cond (is_fact_of_type ty f) (f ∷ []) []) (c.in_ok-reach.ensures.kept ty)
