use Rattle.expiry_infer.proofs.{Common.{ap, refl, sym, ◌∙◌, slice_get_read, Pattern}, Given.{of_pattern}, Tops.{top_next, top_skipped}}
use Rattle.expiry_infer.proofs.lifetimes.with_rule.Goals as goal
use Rattle.expiry_infer.proofs.lifetimes.with_rule.Goals.{then-pattern-ty+in_ok-most, else-pattern-ty}

pub loop-place-preserved : goal.loop-place-preserved
loop-place-preserved c =
    let conditions = c.args.conditions.now in
    let place = c.loop-place.place in
    let first = c.index-conditions-place.result in
    let here = slice_get_read conditions _ place first refl c.loop-place-test.true c.index-conditions-place.is in
    let ty = ap (λ (q : Pattern). q.ty.0) c.pattern.ensures in
    elim c.if-pattern-ty.branch [
      | then-pattern-ty+in_ok-most w ↦
          rw w.most-is (record {
            top = top_next _ _ _ _ _ _ _ here c.loop-place.invariant.top
                (of_pattern c.args.program.now conditions c.args.ty place first _ _ (sym ty ∙ w.if-pattern-ty.true) w.in_ok-most.ensures.top);
            small = λ small. w.in_ok-most.ensures.small (c.loop-place.invariant.small small);
          })
      | else-pattern-ty w ↦
          rw w.most-is (record {
            top = top_skipped _ _ _ _ _ _ here c.loop-place.invariant.top (λ l gives. w.if-pattern-ty.false (ty ∙ gives.0));
            small = c.loop-place.invariant.small;
          })
    ]
