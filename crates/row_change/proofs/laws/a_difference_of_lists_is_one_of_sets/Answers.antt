use Rattle.row_change.proofs.laws.a_difference_of_lists_is_one_of_sets.Goals as goal

pub returns : goal.returns
returns c old new delta = (
  (λ is. record {
    gone_in_order = is.gone_in_order;
    come_in_order = is.come_in_order;
    leads = record { goes = is.gone; comes = is.come };
  }),
  (λ is. record {
    gone_in_order = is.gone_in_order;
    come_in_order = is.come_in_order;
    gone = is.leads.goes;
    come = is.leads.comes;
  }),
)
