use Rattle.session.proofs.Common.{◌∙◌, List, sym, ap, match_fired, RuleChange, comes_by}
use Rattle.session.proofs.restoring.agenda_of.Goals as goal

pub returns-clause-came : goal.returns-clause-came
returns-clause-came c m i =
    sym (ap (λ (cs : List RuleChange). comes_by cs (match_fired m)) c.as_slice.ensures.value) ∙ sym (c.in_ok-came.ensures (match_fired m)) ∙ c.in_ok-mark_fired.ensures.marked.there m i
