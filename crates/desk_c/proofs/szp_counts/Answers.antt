use Rattle.{std.proofs.Common.{◌∙◌, ap}, desk_c.{specs.declared.handle.Handle.{Handle}, proofs.Behind.{some_of}}}
use Rattle.desk_c.proofs.szp_counts.Goals as goal

pub returns-in-Ok-clause-told : goal.returns-in-Ok-clause-told
returns-in-Ok-clause-told c zero =
    some_of c.args.handle.now.state c.in-Some.state.value _ (c.in-Some.ensures ∙ ap (λ (handle : Handle). handle.state) c.replace.ensures.value) (λ course fed out has.
    (c.in-Ok.told.at, c.in-Ok.told.counts, (rw c.deref.ensures at c.in-Ok.ensures.told) course fed out has, c.counts_of.ensures))
