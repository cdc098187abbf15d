-- What memories stand for after a step, and after forgetting.
use Rattle.join_memory.{proofs.Common.{◌≡◌, ◌∙◌, ap, refl, Bool, true, false, not, ◌&&◌, ◌||◌, has, row_naming, cleaned, remembered}, specs.Steps.{StepsLaw}}
use Rattle.{join_memory.{specs.Steps.{ForgetsLaw}, proofs.Worlds.{forgotten_more}}, fx_base.proofs.Tests.{and_not_not}}

-- a set after its difference
stepped : (a b : Bool) → ((a && not (a && not b)) || (b && not a)) ≡ b
stepped true true = refl
stepped true false = refl
stepped false true = refl
stepped false false = refl

-- what memories stand for after a step
pub steps_law : (S : Type 0) → StepsLaw S
steps_law S m n look rows rows_now names names_now forgotten left right stands rows_lead names_lead changed = record {
  rows = λ r.
      changed.rows r
      ∙ ap (λ b. (b && not (has left.gone r)) || has left.come r) (stands.rows r)
      ∙ ap (λ b. (cleaned rows forgotten r && not b) || has left.come r) (rows_lead.goes r)
      ∙ ap (λ b. (cleaned rows forgotten r && not (cleaned rows forgotten r && not (cleaned rows_now forgotten r))) || b) (rows_lead.comes r)
      ∙ stepped (cleaned rows forgotten r) (cleaned rows_now forgotten r);
  names = λ c.
      changed.names c
      ∙ ap (λ b. (b && not (has right.gone (row_naming c))) || has right.come (row_naming c)) (stands.names c)
      ∙ ap (λ b. (remembered names forgotten c && not b) || has right.come (row_naming c)) (names_lead.goes c)
      ∙ ap (λ b. (remembered names forgotten c && not (remembered names forgotten c && not (remembered names_now forgotten c))) || b) (names_lead.comes c)
      ∙ stepped (remembered names forgotten c) (remembered names_now forgotten c);
  agrees = changed.agrees stands.agrees;
}

-- what memories stand for after their old candidates and rows are dropped
pub forgets_law : (S : Type 0) → ForgetsLaw S
forgets_law S m n look rows names forgotten old dropped stands drops keeps = record {
  rows = λ r. keeps.rows r ∙ ap (λ b. b && not (has dropped r)) (stands.rows r) ∙ forgotten_more (rows r) forgotten old r (has dropped r) (drops r);
  names = λ c. keeps.names c ∙ ap (λ b. b && not (old c)) (stands.names c) ∙ and_not_not (names c) (forgotten c) (old c);
  agrees = keeps.agrees stands.agrees;
}
