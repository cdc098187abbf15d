use Rattle.{std.proofs.Common.{◌∙◌, ap}, desk_c.{specs.declared.handle.Handle.{Handle}, proofs.Behind.{some_of}}}
use Rattle.desk_c.proofs.szp_close.Goals as goal

pub returns-in-Some-clause-ends : goal.returns-in-Some-clause-ends
returns-in-Some-clause-ends c le =
    some_of c.args.handle.now.state c.in-Some.state.value _ (c.in-Some.ensures ∙ ap (λ (handle : Handle). handle.state) c.replace.ensures.value)
    (rw c.deref.ensures at (c.status_at.ensures.ends le))
