use Rattle.window_gate.proofs.{Common.{sym}, Wholes.{whole_come, whole_gone, whole_clock}}
use Rattle.window_gate.proofs.gate.whole_difference.Goals as goal

pub returns-in-Come : goal.returns-in-Come
returns-in-Come c arrivals was now differ may =
    whole_come arrivals was now c.in-Come.named c.in-Come.field-1 c.args.change.now c.difference.result (sym c.in-Come.is) differ may c.difference.ensures.gone c.difference.ensures.come

pub returns-in-Gone : goal.returns-in-Gone
returns-in-Gone c arrivals was now differ may =
    whole_gone arrivals was now c.in-Gone.named c.args.change.now c.difference-in-Gone.result (sym c.in-Gone.is) differ may c.difference-in-Gone.ensures.gone c.difference-in-Gone.ensures.come

pub returns-in-Clock : goal.returns-in-Clock
returns-in-Clock c arrivals was now differ may =
    whole_clock arrivals was now c.args.change.now c.difference-in-Clock.result (sym c.in-Clock.is) c.difference-in-Clock.ensures.gone c.difference-in-Clock.ensures.come
