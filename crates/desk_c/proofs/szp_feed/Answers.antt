use Rattle.{std.proofs.Common.{◌∙◌, ap, sym}, desk_c.{specs.declared.handle.Handle.{Handle}, proofs.Behind.{some_of}}}
use Rattle.desk_c.proofs.szp_feed.Goals as goal

pub returns-in-Some-clause-fed : goal.returns-in-Some-clause-fed
returns-in-Some-clause-fed c which =
    some_of _ c.in-Some.state.value _ (c.in-Some.ensures ∙ ap (λ (handle : Handle). handle.state) c.replace.ensures.value)
    (some_of _ c.fed-state.result.0.value _ (sym (ap (λ (handle : Handle). handle.state) c.replace-in-Some.ensures.after ∙ c.kept.ensures)) (c.fed-state.ensures.fed which))
