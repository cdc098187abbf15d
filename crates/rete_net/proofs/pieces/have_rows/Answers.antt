use Rattle.rete_net.proofs.Common.{◌≡◌, ◌∙◌, ap, sym, subst, ◌∷◌, [], ◌++◌, ◌+◌, inl, inr, true, Some, slice_get, take, take_more, take_all, slice_get-get_or}
use Rattle.{rete_net.proofs.Common.{In, Extra, has, in_place}, fx_base.proofs.Sequences.{In-append}}
use Rattle.rete_net.proofs.pieces.have_rows.Goals as goal

pub loop-extra-init : goal.loop-extra-init
loop-extra-init c sorted e i = absurd i

pub returns-then-not-has_row-clause-missing : goal.returns-then-not-has_row-clause-missing
returns-then-not-has_row-clause-missing c torn sorted =
    let extras = c.args.extras.now in
    let k = c.loop-extra.extra-index in
    let at : slice_get c.args.extras.now c.loop-extra.extra-index ≡ Some c.extra-item.result = slice_get-get_or extras k c.extra-item.result c.loop-extra-test.true ∙ ap Some (sym c.extra-item.is) in
    (c.extra-item.result, in_place extras k c.extra-item.result at, sym (c.has_row.ensures sorted) ∙ c.if-not-has_row.true)

pub loop-extra-preserved : goal.loop-extra-preserved
loop-extra-preserved c sorted e i =
    let extras = c.args.extras.now in
    let k = c.loop-extra.extra-index in
    let x = c.extra-item.result in
    let here : has c.args.rows.now c.extra-item.result.row ≡ true = sym (c.has_row.ensures sorted) ∙ c.if-not-has_row.false in
    let more : take (k + 1) extras ≡ take k extras ++ x ∷ [] = take_more extras k x c.loop-extra-test.true ∙ ap (λ y. take k extras ++ y ∷ []) (sym c.extra-item.is) in
    elim (In-append e (take k extras) (x ∷ []) (subst (In e) more i)) [
      | inl was ↦ c.loop-extra.invariant sorted e was
      | inr now ↦ elim now [
        | inl is ↦ ap (λ (y : Extra). has c.args.rows.now y.row) is ∙ here
        | inr never ↦ absurd never
      ]
    ]

pub returns-clause-there : goal.returns-clause-there
returns-clause-there c torn sorted e i =
    let over = c.loop-extra-test.false in
    c.loop-extra.invariant sorted e (subst (In e) (sym (take_all c.loop-extra.extra-index c.args.extras.now over)) i)
