use Rattle.session.proofs.Common.{◌≡◌, ◌∙◌, ◌∷◌, ◌++◌, [], List, ℤ, ap, sym, arith, rules, of_z, to_z, w64}
use Rattle.{std.proofs.lemmas.List.FromFn.{map-range_with_len_more}, session_model.specs.Places.{floor_in}}
use Rattle.session.proofs.state.State.floors.Goals as goal

pub loop-place-preserved : goal.loop-place-preserved
loop-place-preserved c =
    let place = c.loop-place.place in
    let is : to_z w64 (of_z w64 c.floor.result) ≡ floor_in c.args.program.now c.args.self.now place = search rules in
    c.in_ok-push.ensures.items
    ∙ ap (λ (floor : ℤ). c.loop-place.floors.items ++ floor ∷ []) is
    ∙ ap (λ (floors : List ℤ). floors ++ floor_in c.args.program.now c.args.self.now place ∷ []) c.loop-place.invariant
    ∙ sym (map-range_with_len_more (floor_in c.args.program.now c.args.self.now) 0 place place (omega arith))
