use Rattle.image_fitting.proofs.{Common.{◌≡◌, ◌∙◌, ◌+◌, List, ℕ, subst, sym, arith, AreFirsts}, Tabling.{AreSoFar, filled, last_filled}}
use Rattle.image_fitting.proofs.table.firsts.Goals as goal

pub loop-other-preserved : goal.loop-other-preserved
loop-other-preserved c =
    subst (λ (firsts : List ℕ). AreSoFar c.args.program.now c.conditions_of-conditions.result.now firsts (c.loop-other.other + 1)) (sym c.in_ok-fill_up.ensures)
    (filled c.args.program.now c.conditions_of-conditions.result.now c.loop-other.firsts.items c.loop-other.other c.shared-alike.result c.conditions_of.result.now c.conditions_of.ensures
    c.shared-alike.ensures.alike c.shared-alike.ensures.within c.shared-alike.ensures.most c.loop-other.invariant)

pub returns : goal.returns
returns c = λ rule stands.
    let last : c.loop-other.other ≡ c.args.place = omega arith in
    subst (λ (firsts : List ℕ). AreFirsts c.args.program.now rule.conditions firsts) (sym (c.from_vec.ensures ∙ c.in_ok-fill_up-2.ensures))
    (last_filled c.args.program.now c.conditions_of-conditions.result.now c.loop-other.firsts.items c.args.place c.conditions_of-conditions.ensures
    (subst (λ n. AreSoFar c.args.program.now c.conditions_of-conditions.result.now c.loop-other.firsts.items n) last c.loop-other.invariant) rule stands)
