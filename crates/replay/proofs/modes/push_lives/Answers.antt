use Rattle.{replay.proofs.{Common.{rules, refl, length}, LivesText.{next_life, last_life, one_more, one_empty}}, std.proofs.lemmas.Slice.Zip.{zip_turn}}
use Rattle.std.proofs.lemmas.Slice.Zip.{Zip-so_far, either_empty_from_Zip}
use Rattle.replay.proofs.modes.push_lives.Goals as goal

pub loop-ty-init : goal.loop-ty-init
loop-ty-init c = refl

pub loop-ty-preserved : goal.loop-ty-preserved
loop-ty-preserved c =
    let yielded = c.loop-ty.yielded in
    let at = zip_turn c.args.types.now c.args.lives.now yielded c.into_iter-ty-iterator.result c.loop-ty.ty-iterator c.next.new.self c.next.result (search rules) (search rules) c.loop-ty.yielded_by
    (c.in-Some.ty, c.in-Some.life) c.in-Some.is c.next.ensures.steps in
    next_life c.args.types.now c.args.lives.now (length yielded) _ c.in-Some.ty.now c.in-Some.life.now _ _ _ at c.loop-ty.invariant (rw c.as_str.ensures at c.in_ok-push_life.ensures) (one_more yielded _)

pub returns : goal.returns
returns c =
    let yielded = c.loop-ty.yielded in
    let so_far = Zip-so_far yielded c.into_iter-ty-iterator.result c.loop-ty.ty-iterator c.loop-ty.yielded_by in
    let empty = either_empty_from_Zip c.loop-ty.ty-iterator c.next.new.self c.next.result c.in-None.is c.next.ensures.steps in
    last_life c.args.types.now c.args.lives.now (length yielded) _ _ (one_empty (length yielded) c.args.types.now _ _ c.args.lives.now _ _ (search rules) (search rules) so_far.0 so_far.1 empty) c.loop-ty.invariant
