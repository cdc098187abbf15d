use Rattle.change_resolve.proofs.{Common.{refl, ap, set, rules, arith}, Merging.{with_found, with_missing}, merge.fields_named.Goals.{in-Some, in-None}}
use Rattle.std.proofs.lemmas.Grind.{common_steps}
use Rattle.change_resolve.proofs.merge.fields_named.Goals as goal

pub loop-place-preserved : goal.loop-place-preserved
loop-place-preserved c =
    let fs = c.args.fields.now in
    let ms = c.args.members.now in
    let f = c.index-fields-place.result in
    elim c.match-place_near.branch [
      | in-Some w ↦ rw (w.all_given-is, w.named-is)
          (with_found fs ms c.loop-place.place f c.loop-place-test.true c.index-fields-place.is c.loop-place.named.items _ c.loop-place.all_given w.in-Some.member
          c.requires w.in-Some.ensures.within w.in-Some.ensures.named (ap (set c.loop-place.named.items w.in-Some.member) (first_of (search rules, grind (arith, common_steps, w.index.ensures, w.earlier_or.ensures)))) c.loop-place.invariant)
      | in-None w ↦ rw (w.all_given-is, w.named-is)
          (with_missing fs ms c.loop-place.place f c.loop-place-test.true c.index-fields-place.is c.loop-place.named.items c.loop-place.all_given (w.in-None.ensures.none refl) c.loop-place.invariant)
    ]
