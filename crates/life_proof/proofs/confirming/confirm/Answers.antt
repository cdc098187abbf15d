use Rattle.life_proof.proofs.Common.{◌≡◌, ◌∙◌, List, Bool, ap, sym, Decides, All-same, IfOk-weaker, Asked, Part, HasPlaces, asked, are_good_parts, IsGood}
use Rattle.life_proof.proofs.{Asked.{all_placed}, Good.{lawful, unlawful}}
use Rattle.life_proof.proofs.confirming.confirm.Goals as goal

pub are_good_parts-requires-clause-places : goal.are_good_parts-requires-clause-places
are_good_parts-requires-clause-places c =
    let p = c.args.program.now in
    All-same (HasPlaces p) c.deref.result.now (asked p c.args.lives.now) (c.deref.ensures.value ∙ c.in_ok-asked.ensures) (all_placed p c.args.lives.now)

pub returns-then-not-is_lawful_table : goal.returns-then-not-is_lawful_table
returns-then-not-is_lawful_table c = unlawful c.args.program.now c.args.lives.now c.args.certificate.now (sym c.is_lawful_table.ensures ∙ c.if-not-is_lawful_table.true)

pub returns : goal.returns
returns c =
    let p = c.args.program.now in
    let table = c.args.lives.now in
    let certificate = c.args.certificate.now in
    let questions = c.deref.ensures.value ∙ c.in_ok-asked.ensures in
    IfOk-weaker c.are_good_parts.result (λ (good : Bool). good ≡ are_good_parts p c.deref.result.now c.as_slice.result.now) (λ (good : Bool). Decides good (IsGood p table certificate))
    (λ good e. lawful p table certificate good (sym c.is_lawful_table.ensures ∙ c.if-not-is_lawful_table.false)
    (e ∙ ap (λ (a : List Asked). are_good_parts p a c.as_slice.result.now) questions ∙ ap (λ (parts : List Part). are_good_parts p (asked p table) parts) c.as_slice.ensures))
    c.are_good_parts.ensures
