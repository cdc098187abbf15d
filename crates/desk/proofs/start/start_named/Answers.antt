use Rattle.{std.proofs.{Common.{◌∙◌, ap, subst, sym}, lemmas.Result.{IfErr-weaker, IfOk-weaker}}, replay.specs.Checkpoints.{image_limit}}
use Rattle.desk.{specs.{Starts.{TellsStartFault}, Wanted.{Start, start_of}}, proofs.Starts.{start_found}}
use Rattle.desk.proofs.start.start_named.Goals as goal

pub returns-in-Ok-clause-found : goal.returns-in-Ok-clause-found
unfolding image_limit
returns-in-Ok-clause-found g c =
    IfOk-weaker c.start_of.result _ _
    (λ found is files told. start_found c.args.rules.items c.args.name.now _ files c.in-Ok.bytes.items told c.in-Ok.ensures.found c.in-Ok.ensures.bytes
    ∙ ap (start_of c.args.rules.items) (sym c.deref.ensures.value) ∙ is)
    c.start_of.ensures.found

pub returns-in-Ok-clause-refused : goal.returns-in-Ok-clause-refused
unfolding image_limit
returns-in-Ok-clause-refused g c =
    IfErr-weaker c.start_of.result _ _
    (λ fault is files told. subst (λ (found : Start). TellsStartFault found fault)
    (sym (start_found c.args.rules.items c.args.name.now _ files c.in-Ok.bytes.items told c.in-Ok.ensures.found c.in-Ok.ensures.bytes
    ∙ ap (start_of c.args.rules.items) (sym c.deref.ensures.value))) is)
    c.start_of.ensures.refused
