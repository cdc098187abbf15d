use Rattle.{std.proofs.Common.{◌∙◌, ap, sym}, desk_c.{specs.declared.handle.Handle.{Handle}, proofs.Behind.{some_of}}}
use Rattle.desk_c.proofs.szp_save.Goals as goal

pub returns-after-status-eq0-clause-saved : goal.returns-after-status-eq0-clause-saved
returns-after-status-eq0-clause-saved c zero =
    some_of _ c.in-Some.state.value _ (c.in-Some.ensures ∙ ap (λ (handle : Handle). handle.state) c.replace.ensures.value)
    (some_of _ c.saved-state.result.0.value _ (sym (ap (λ (handle : Handle). handle.state) c.replace-in-Some.ensures.after ∙ c.kept.ensures)) (c.saved-state.ensures.saved zero))

pub returns-after-status-eq0-clause-refused : goal.returns-after-status-eq0-clause-refused
returns-after-status-eq0-clause-refused c nine =
    some_of _ c.in-Some.state.value _ (c.in-Some.ensures ∙ ap (λ (handle : Handle). handle.state) c.replace.ensures.value) (c.saved-state.ensures.refused nine)
