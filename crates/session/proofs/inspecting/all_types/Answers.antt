use Rattle.session.{proofs.Common.{◌∙◌, ◌∷◌, ◌++◌, [], List, TypeId, ap, sym, arith}, specs.Inspected.{type_at}}
use Rattle.std.proofs.lemmas.List.FromFn.{map-range_with_len_more}
use Rattle.session.proofs.inspecting.all_types.Goals as goal

pub loop-place-preserved : goal.loop-place-preserved
loop-place-preserved c =
    let place = c.loop-place.place in
    c.in_ok-push.ensures.items
    ∙ ap (λ (found : List TypeId). found ++ type_at place ∷ []) c.loop-place.invariant
    ∙ sym (map-range_with_len_more type_at 0 place place (omega arith))
