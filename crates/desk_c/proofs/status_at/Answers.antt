use Rattle.{std.proofs.Common.{◌∙◌, ap, sym}, line_run.specs.declared.turn.Progress.{Progress}, desk_c.specs.Handles.{status_of}}
use Rattle.desk_c.proofs.status_at.Goals as goal

pub returns-in-Some-clause-ends : goal.returns-in-Some-clause-ends
returns-in-Some-clause-ends c le course fed out has =
    let told = c.in-Some.ensures.told course fed out has in
    (told.0, told.1, sym (ap status_of c.if-at.true) ∙ ap (λ (at : Progress). status_of at.faulted) told.2)

pub returns-in-Some-2-clause-ends : goal.returns-in-Some-2-clause-ends
returns-in-Some-2-clause-ends c le course fed out has =
    let told = c.in-Some.ensures.told course fed out has in
    (told.0, told.1, sym (ap status_of c.if-at.false) ∙ ap (λ (at : Progress). status_of at.faulted) told.2)
