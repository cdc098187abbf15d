use Rattle.life_proof.proofs.{Common.{sym, subst, arith, length, ◌≡◌, ◌+◌}, Certified.{Makes, makes_more, makes_all}}
use Rattle.life_proof.proofs.certifying.parts_of.Goals as goal

pub loop-one-preserved : goal.loop-one-preserved
loop-one-preserved c =
    let p = c.args.program.now in
    let asked = c.args.asked.now in
    let k = c.loop-one.one-index in
    subst (Makes p asked (k + 1)) (sym c.in_ok-push.ensures.items) (makes_more p asked k _ c.loop-one.parts.items c.in_ok-part.part c.loop-one-test.true c.in_ok-part.ensures c.loop-one.invariant)

pub returns : goal.returns
returns c =
    let asked = c.args.asked.now in
    let at_end : c.loop-one.one-index ≡ length asked = omega (arith, c.loop-one-test.false, c.loop-one.auto.one-index-end) in
    makes_all c.args.program.now asked c.loop-one.one-index c.loop-one.parts.items at_end c.loop-one.invariant
