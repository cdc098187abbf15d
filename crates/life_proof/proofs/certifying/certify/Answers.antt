use Rattle.life_proof.proofs.{Common.{◌∙◌, List, sym, subst, All-same, Asked, IsReachAsked, asked, AreGoodParts}, Asked.{all_asked}, Certified.{table_lawful}}
use Rattle.life_proof.proofs.certifying.certify.Goals as goal

pub parts_of-requires-clause-asked : goal.parts_of-requires-clause-asked
parts_of-requires-clause-asked c =
    let p = c.args.program.now in
    All-same (IsReachAsked p c.args.lives.now) c.deref.result.now (asked p c.args.lives.now) (c.deref.ensures.value ∙ c.in_ok-asked.ensures) (all_asked p c.args.lives.now)

pub returns : goal.returns
returns c =
    let p = c.args.program.now in
    let questions = c.deref.ensures.value ∙ c.in_ok-asked.ensures in
    record {
      lawful = table_lawful p c.args.lives.now c.requires.lives;
      parts = subst (AreGoodParts p (asked p c.args.lives.now)) (sym c.from_vec.ensures)
          (subst (λ (a : List Asked). AreGoodParts p a c.in_ok-parts.parts.items) questions c.in_ok-parts.ensures);
    }
