use Rattle.change_rules.proofs.Common.{IsFirstFree, List, Option, Some, [], ap, arith, get_or, length, length-append, refl, subst, sym, ℕ, ◌+◌, ◌∙◌, ◌∷◌, ◌≡◌}
use Rattle.{change_rules.proofs.Finding.{AreSoFar, all_found, one_more}, std.proofs.{Common.{slice_get}, lemmas.Option.{slice_get_read}}}
use Rattle.change_rules.proofs.staying.staying_rules.Goals as goal

pub loop-rule-preserved : goal.loop-rule-preserved
loop-rule-preserved c =
    let many = c.loop-rule.invariant.many in
    let long = ap length c.as_slice-rule-items.ensures in
    let stands : slice_get c.args.new.now.rules (length c.loop-rule.places.items) ≡ Some c.rule-item.result =
    slice_get_read c.args.new.now.rules (length c.args.new.now.rules) (length c.loop-rule.places.items) c.rule-item.result refl (omega (arith, many, long))
    ((rw c.as_slice-rule-items.ensures at c.rule-item.is) ∙ ap (λ (n : ℕ). get_or c.args.new.now.rules n c.rule-item.result) (sym many)) in
    record {
      so =
          subst (AreSoFar c.args.old.now c.args.new.now) (sym c.in_ok-push.ensures.items)
          (one_more c.args.old.now c.args.new.now c.loop-rule.places.items c.rule-item.result stands c.loop-rule.invariant.so c.in_ok-place.place
          (subst (λ (places : List (Option ℕ)). IsFirstFree c.args.old.now c.args.new.now c.rule-item.result places c.in_ok-place.place) c.deref.ensures.value c.in_ok-place.ensures));
      many = ap length c.in_ok-push.ensures.items ∙ length-append c.loop-rule.places.items (c.in_ok-place.place ∷ []) ∙ ap (λ (n : ℕ). n + 1) c.loop-rule.invariant.many;
    }

pub returns-clause-from : goal.returns-clause-from
returns-clause-from c =
    let many = c.loop-rule.invariant.many in
    let long = ap length c.as_slice-rule-items.ensures in
    all_found c.args.old.now c.args.new.now c.loop-rule.places.items (omega (arith, many, long)) c.loop-rule.invariant.so
