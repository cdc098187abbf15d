use Rattle.image_fitting.proofs.Common.{◌↔◌, ◌∙◌, List, length, replicate, pos, IsTrue, refl, sym, ap, subst, IfOk-weaker, Fact, HaveDistinctIds, FitByParts}
use Rattle.image_fitting.proofs.Common.{IsPlaceTable, come_in_turn}
use Rattle.image_fitting.proofs.fitting.fits_by_table.Goals as goal

pub returns : goal.returns
returns c =
    let p = c.args.program.now in
    let told_of = ap (come_in_turn p (replicate (length p.entries) (pos 0))) c.as_slice-facts.ensures in
    let distinct = c.in_ok-have_distinct_ids.ensures.0 c.if-not-branch.false in
    IfOk-weaker c.come_in_turn.result _ (λ yes. IsPlaceTable p c.args.table.now → (IsTrue yes ↔ FitByParts p c.args.lives.now c.args.image.now))
    (λ yes told whole. (
      λ e. record {
        alone = (c.if-not-fits_alone.ensures whole).0 refl;
        distinct = subst (λ (facts : List Fact). HaveDistinctIds facts) c.as_slice-facts.ensures distinct;
        in_turn = sym told_of ∙ sym told ∙ e;
      },
      λ x. told ∙ told_of ∙ x.in_turn,
    )) c.come_in_turn.ensures
