use Rattle.drl_compile.proofs.{Common.{refl, ap, ◌∙◌, filter, flat_map, tests_in, is_joined}, Loops.{one_passed, one_left_out, all_made}}
use Rattle.drl_compile.proofs.tests_of.joined_tests.Goals as goal
use Rattle.drl_compile.proofs.tests_of.joined_tests.Goals.{then-is_part_joined+in_ok-add_test, else-is_part_joined}

pub loop-part-preserved : goal.loop-part-preserved
loop-part-preserved c =
    let made = tests_in c.args.ty.now c.args.place.now.sight in
    elim c.if-is_part_joined.branch [
      | then-is_part_joined+in_ok-add_test w ↦
          one_passed made is_joined _ _ _ _ _ _ c.loop-part-test.true c.part-item.is (cc) (ap (λ v. v.items) w.tests-is ∙ w.in_ok-add_test.ensures) c.loop-part.invariant
      | else-is_part_joined w ↦
          one_left_out made is_joined _ _ _ _ _ _ c.loop-part-test.true c.part-item.is (cc) (ap (λ v. v.items) w.tests-is) c.loop-part.invariant
    ]

pub returns : goal.returns
returns c = all_made (λ parts. flat_map (tests_in c.args.ty.now c.args.place.now.sight) (filter is_joined parts)) _ _ _ _ _ c.loop-part-test.false refl c.from_vec.ensures c.loop-part.invariant
