use Rattle.{change_rules.proofs.Common.{List, ap, arith, get_or, length, map, rules, sym, take, ℕ, ◌+◌, ◌<◌, ◌∙◌, ◌≡◌}, std.proofs.lemmas.List.{get_or-map}}
use Rattle.std.proofs.lemmas.List.{length-map, take_more_same}
use Rattle.change_rules.proofs.moved.are_moved.Goals as goal

moved_more : {A : Type 0} (f : A → A) (xs ys : List A) (i : ℕ) (x y : A) → i < length xs → i < length ys → x ≡ get_or xs i x → y ≡ get_or ys i y → y ≡ f x
    → take i ys ≡ take i (map f xs) → take (i + 1) ys ≡ take (i + 1) (map f xs)
moved_more f xs ys i x y lx ly at there same so =
    let long = length-map xs f in
    take_more_same ys (map f xs) i y ly (omega (arith, lx, long)) so (sym there ∙ same ∙ ap f at ∙ sym (get_or-map f xs i x y lx))

pub loop-place-preserved : goal.loop-place-preserved
loop-place-preserved g c =
    moved_more (g.T.Moved.moved c.args.old.now c.args.new.now) c.args.ours.now c.args.theirs.now c.loop-place.place c.index-ours-place.result c.index-theirs-place.result
    (omega arith) (omega arith) c.index-ours-place.is c.index-theirs-place.is (c.in_ok-is_moved.ensures.0 (search rules)) c.loop-place.invariant
