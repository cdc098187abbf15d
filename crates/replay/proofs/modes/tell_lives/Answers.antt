use Rattle.replay.proofs.{Common.{◌≡◌, ◌∙◌, lives_text}, Tables.{same_lives_text}}
use Rattle.replay.proofs.modes.tell_lives.Goals as goal

pub returns-in-Ok-clause-front : goal.returns-in-Ok-clause-front
returns-in-Ok-clause-front g c table are high =
    let p = c.args.program.now in
    let text : c.as_slice.result.now ≡ lives_text p.types table.lives =
    c.as_slice.ensures.value ∙ c.in-Ok.ensures.text ∙ same_lives_text p c.in-Ok.field-0-0 table c.in-Ok.ensures.lives are in
    rw text at (c.say.ensures.front high)
