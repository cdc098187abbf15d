-- Sets that answer alike change alike.
use Rattle.row_change.{proofs.Common.{◌≡◌, ◌∙◌, ap, List, Bool, ◌&&◌, not, Row}, specs.Changes.{LeadsRows, IsDifference}}
use Rattle.row_delta.specs.declared.delta.Delta.{Delta}

-- the new set may be another that answers alike
pub leads_alike : (old now too : Row → Bool) (gone come : List Row) → LeadsRows old now gone come → ((row : Row) → now row ≡ too row) → LeadsRows old too gone come
leads_alike old now too gone come leads h = record {
  goes = λ row. leads.goes row ∙ ap (λ b. old row && not b) (h row);
  comes = λ row. leads.comes row ∙ ap (λ b. b && not (old row)) (h row);
}

-- and so may both
pub difference_alike : (old old_too new new_too : Row → Bool) (delta : Delta) → ((row : Row) → old row ≡ old_too row) → ((row : Row) → new row ≡ new_too row) → IsDifference old new delta → IsDifference old_too new_too delta
difference_alike old old_too new new_too delta h k is = record {
  gone_in_order = is.gone_in_order;
  come_in_order = is.come_in_order;
  leads = record {
    goes = λ row. is.leads.goes row ∙ ap (λ b. b && not (new row)) (h row) ∙ ap (λ b. old_too row && not b) (k row);
    comes = λ row. is.leads.comes row ∙ ap (λ b. b && not (old row)) (k row) ∙ ap (λ b. new_too row && not b) (h row);
  };
}
