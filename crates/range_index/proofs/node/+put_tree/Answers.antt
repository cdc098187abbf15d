use Rattle.std.proofs.{Common.{◌≡◌, ◌∙◌, ap, ◌++◌, ◌<◌, ◌/◌, take, length, arith}, lemmas.{List.{take-append-drop}, Result.{on_ok_weaker}}}
use Rattle.range_index.proofs.Trees.{halves_put}
use Rattle.range_index.proofs.node.+put_tree.Goals as goal

pub returns-in_ok-put_tree-in_default : goal.returns-in_ok-put_tree-in_default
returns-in_ok-put_tree-in_default t c =
    let all = c.args.ranges.now in let halves = c.split_at.result in let many = c.in_default.len_at_least in
    let both : halves.0.now ++ halves.1.now ≡ all = ap (λ front. front ++ halves.1.now) c.split_at.ensures.front ∙ ap (λ behind. take (length all / 2) all ++ behind) c.split_at.ensures.back ∙ take-append-drop (length all / 2) all in
    let some : 0 < length halves.0.now = omega (arith, c.split_at.ensures.front_len, many) in
    let also : 0 < length halves.1.now = omega (arith, c.split_at.ensures.back_len, many) in
    on_ok_weaker c.put_tree-in_default.result
    (halves_put c.block_over.result halves.0.now halves.1.now all c.args.nodes.now.items _ _ _ both some also c.block_over.ensures.bounds c.block_over.ensures.below c.in_ok-push-in_default.ensures.items c.in_ok-put_tree-in_default.ensures) c.put_tree-in_default.ensures
