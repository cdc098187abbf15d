use Rattle.change_resolve.proofs.Common.{◌≡◌, ◌∙◌, ◌<◌, ◌≤◌, ◌∷◌, [], None, sym, ap, subst, length, take, arith, length-append, fields_of}
use Rattle.change_resolve.proofs.Merging.{none_more}
use Rattle.change_resolve.proofs.merge.none_named.Goals as goal

pub fill-preserved : goal.fill-preserved
fill-preserved c =
    let ms = c.args.members.now in
    let xs = c.fill.named.items in
    let pushed = c.in_ok-push.ensures.items in
    let below : length xs < length ms = omega (arith, c.len.ensures, c.fill-test.true) in
    record {
      within = subst (λ n. n ≤ length ms) (sym (ap length pushed ∙ length-append xs (None ∷ []))) (omega arith);
      none = subst (λ ys. ys ≡ fields_of [] (take (length ys) ms)) (sym pushed) (none_more ms xs below c.fill.invariant.none);
    }
