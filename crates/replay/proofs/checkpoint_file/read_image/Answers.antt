use Rattle.replay.{proofs.Common.{sym, ap, subst, ◌∙◌, Checkpoint, checkpoint_of, TellsCheckpointFault}, specs.Checkpoints.{image_limit}}
use Rattle.{replay.proofs.Reports.{image_found}, std.proofs.lemmas.Result.{IfOk-weaker, IfErr-weaker}}
use Rattle.replay.proofs.checkpoint_file.read_image.Goals as goal

pub returns-clause-found : goal.returns-clause-found
unfolding image_limit
returns-clause-found g c =
    IfOk-weaker c.image_of.result _ _
    (λ image is files told. image_found c.args.rules.now c.args.name.now _ files c.in-Ok.bytes.items told c.in-Ok.ensures.found c.in-Ok.ensures.bytes ∙ ap (checkpoint_of c.args.rules.now) (sym c.deref.ensures.value) ∙ is)
    c.image_of.ensures.found

pub returns-clause-refused : goal.returns-clause-refused
unfolding image_limit
returns-clause-refused g c =
    IfErr-weaker c.image_of.result _ _
    (λ fault is files told. subst (λ (found : Checkpoint). TellsCheckpointFault found fault)
    (sym (image_found c.args.rules.now c.args.name.now _ files c.in-Ok.bytes.items told c.in-Ok.ensures.found c.in-Ok.ensures.bytes ∙ ap (checkpoint_of c.args.rules.now) (sym c.deref.ensures.value))) is)
    c.image_of.ensures.refused

pub returns-clause-failed : goal.returns-clause-failed
returns-clause-failed g c is = absurd (c.image_of.ensures.read is)
