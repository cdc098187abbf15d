use Rattle.{std.proofs.Common.{string_bytes, ◌∙◌}, gen_load.{specs.Script.{turns_text}, proofs.Turns.{turns_step, turns_done}}}
use Rattle.gen_load.proofs.load.script.Goals as goal

pub loop-preserved : goal.loop-preserved
loop-preserved c =
    turns_step c.args.turns c.loop.counter c.loop.draws.number c.draw.new.draws.number
    (string_bytes c.loop.script) (string_bytes c.write.new.script) (turns_text c.args.turns c.args.n) c.draw.result
    c.loop-test.true c.draw.ensures.turn c.draw.ensures.after c.in_ok-write.ensures c.loop.invariant

pub returns : goal.returns
returns c =
    rw c.into_bytes.ensures.value at c.from_vec.ensures
    ∙ turns_done c.args.turns c.loop.counter c.loop.draws.number (string_bytes c.loop.script) (turns_text c.args.turns c.args.n) c.loop-test.false c.loop.invariant
