use Rattle.{expiry_infer.proofs.{Common.{◌∙◌, arith}, Given.{event_here, expiry_here}}, std.proofs.lemmas.Int.{to_z-of_z}}
use Rattle.expiry_infer.proofs.lifetimes.life.Goals as goal

pub returns-then-not-ty-clause-life : goal.returns-then-not-ty-clause-life
returns-then-not-ty-clause-life c = event_here c.args.program.now c.args.place c.args.ty.now c.requires.at ∙ c.if-not-ty.true

pub returns-in-Some-clause-life : goal.returns-in-Some-clause-life
returns-in-Some-clause-life c =
    let at = c.requires.at in
    let x = expiry_here c.args.program.now c.args.place c.args.ty.now at ∙ c.in-Some.is in
    (event_here c.args.program.now c.args.place c.args.ty.now at ∙ c.if-not-ty.false, grind (arith, to_z-of_z))

pub inferred-requires-clause-event : goal.inferred-requires-clause-event
inferred-requires-clause-event c = event_here c.args.program.now c.args.place c.args.ty.now c.requires.at ∙ c.if-not-ty.false

pub inferred-requires-clause-unexpired : goal.inferred-requires-clause-unexpired
inferred-requires-clause-unexpired c = expiry_here c.args.program.now c.args.place c.args.ty.now c.requires.at ∙ c.in_default.is
