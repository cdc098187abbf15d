use Rattle.change_rules.proofs.{Common.{ap, arith, length, rules, slice_get_within}, Finding.{one_passed}}
use Rattle.change_rules.proofs.staying.first_free.Goals as goal
use Rattle.change_rules.proofs.staying.first_free.Goals.{else-branch-via-else-branch, else-branch-via-then-branch+else-not-is_taken}

pub loop-place-preserved : goal.loop-place-preserved
loop-place-preserved c =
    one_passed c.args.old.now c.args.new.now c.args.rule.now c.args.places.now c.loop-place.place c.index-rules-place.result
    (rw c.as_slice-rules.ensures at c.index-rules-place.is)
    (λ e. elim c.else-branch.branch [
      | else-branch-via-then-branch+else-not-is_taken w ↦ search rules
      | else-branch-via-else-branch w ↦ search rules
    ]) c.loop-place.invariant

pub returns : goal.returns
returns c = λ old there.
    let within = slice_get_within c.args.old.now.rules old there.0 there.1 in
    let long = ap length c.as_slice-rules.ensures in
    c.loop-place.invariant old (omega (arith, within, long)) there
