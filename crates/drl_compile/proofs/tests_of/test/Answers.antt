use Rattle.drl_compile.proofs.{Common.{List, map, refl, ap, ◌∙◌, Cmp, compare_of}, Loops.{one_mapped, all_made}}
use Rattle.rule_model.specs.declared.test.Compare.{Compare}
use Rattle.drl_compile.proofs.tests_of.test.Goals as goal

pub loop-group-preserved : goal.loop-group-preserved
loop-group-preserved c =
    let compares = λ (group : List Cmp). map (compare_of c.args.ty.now c.args.place.now.sight) group in
    one_mapped compares _ _ _ _ _ _ _ c.loop-group-test.true c.group-item.is (c.in_ok-choice.ensures ∙ ap compares c.as_slice.ensures) c.in_ok-push.ensures.items c.loop-group.invariant

pub returns : goal.returns
returns c =
    let compares = λ (group : List Cmp). map (compare_of c.args.ty.now c.args.place.now.sight) group in
    ap (λ (choices : List (List Compare)). record { choices = choices }) (all_made (map compares) _ _ _ _ _ c.loop-group-test.false refl c.from_vec.ensures c.loop-group.invariant)
