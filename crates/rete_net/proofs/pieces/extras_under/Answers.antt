use Rattle.rete_net.proofs.Common.{◌≡◌, ◌∙◌, ap, subst, ℕ, ◌-◌, List, length, take, drop, nat_lt, true, Some, slice_get, take_rest, IsStrictlySortedBy, Extra}
use Rattle.rete_net.proofs.{Common.{extra_cmp, comes_before}, Searched.{sorted_behind, under_found}}
use Rattle.rete_net.proofs.pieces.extras_under.Goals as goal

pub returns : goal.returns
returns c sorted =
    let extras = c.args.extras.now in
    let n = c.count_before.result in
    let m = c.count_before-2.result in
    let rest : take (length extras - n) (drop n extras) ≡ drop n extras = take_rest extras n in
    let under = subst (λ (es : List Extra). IsStrictlySortedBy extra_cmp es → (k : ℕ) (e : Extra) → slice_get es k ≡ Some e → comes_before true c.args.owner e ≡ nat_lt k m) rest c.count_before-2.ensures.parted in
    ap (take m) rest ∙ under_found c.args.owner extras n m (c.count_before.ensures.parted sorted) (under (sorted_behind n extras sorted))
