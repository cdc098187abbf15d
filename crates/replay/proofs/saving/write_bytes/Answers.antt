use Rattle.replay.proofs.{Common.{refl, sym, ◌∙◌, arith, TooLong, Unfit}, ImagesWritten.{faulty_status, long_report, stuck_report, whole_report, refusal_says}}
use Rattle.replay.proofs.ImagesWritten.{whole_says}
use mir.Val.{bool_byte}
use Rattle.replay.proofs.saving.write_bytes.Goals as goal

pub returns-then-bytes-gt-IMAGE_MAX-clause-said : goal.returns-then-bytes-gt-IMAGE_MAX-clause-said
returns-then-bytes-gt-IMAGE_MAX-clause-said g c =
    rw (long_report c.args.image.now c.args.bytes.now c.requires (omega arith))
    (refusal_says _ _ _ TooLong c.refuse_checkpoint.ensures.said c.refuse_checkpoint.ensures.front c.refuse_checkpoint.ensures.answers)

pub returns-then-not-can_go_on-clause-said : goal.returns-then-not-can_go_on-clause-said
returns-then-not-can_go_on-clause-said g c =
    let said = c.refuse_checkpoint-then-not-can_go_on.ensures in
    rw (stuck_report c.args.image.now c.args.bytes.now c.requires (omega arith) (sym c.can_go_on.ensures ∙ c.if-not-can_go_on.true)) (refusal_says _ _ _ Unfit said.said said.front said.answers)

pub returns-clause-said : goal.returns-clause-said
returns-clause-said g c =
    rw (whole_report c.args.image.now c.args.bytes.now c.requires (omega arith) (sym c.can_go_on.ensures ∙ c.if-not-can_go_on.false))
    (whole_says _ _ _ c.args.bytes.now c.args.image.now.run.faulty c.from.result (c.from.ensures ∙ faulty_status bool_byte refl refl c.args.image.now.run.faulty) c.say.ensures.said c.say.ensures.front c.say.ensures.either)
