use Rattle.drl_check.proofs.{Common.{◌≡◌, false, sym, subst, ◌∙◌, lacks_type}, Solvable.{has_network}}
use Rattle.drl_check.proofs.refusal.failing_use.Goals as goal

pub failing_event-requires : goal.failing_event-requires
failing_event-requires c =
    let types = c.args.whole.now.types in
    let body = c.args.body.now in
    let known = subst (λ ts. lacks_type ts body ≡ false) c.declared.ensures (sym c.is_type_missing.ensures ∙ c.if-is_type_missing.false) in
    has_network types body c.requires known (sym c.in_ok-is_variable_missing.ensures ∙ c.if-branch-2.false) (sym c.in_ok-is_kind_wrong.ensures ∙ c.if-branch-3.false)
