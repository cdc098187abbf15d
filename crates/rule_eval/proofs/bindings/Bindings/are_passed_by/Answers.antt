use Rattle.rule_eval.proofs.Common.{◌∙◌, ap, passes, lent, tuple_of}
use Rattle.rule_eval.proofs.bindings.Bindings.are_passed_by.Goals as goal

pub returns : goal.returns
returns c =
    c.passes_with.ensures ∙ ap (λ fs. passes c.args.pattern.now (tuple_of (lent fs) c.deref-2.result.now) c.args.fact.now) c.deref.ensures.value
    ∙ ap (λ vs. passes c.args.pattern.now (tuple_of (lent c.self.inside.facts.items) vs) c.args.fact.now) c.deref-2.ensures.value
    ∙ ap (λ t. passes c.args.pattern.now t c.args.fact.now) c.self.view_is
