use Rattle.{std.{proofs.{Common.{rules, of_calls}, lemmas.Fn.{always_returns_same}}, specs.Prelude.{◌-◌}}, due_queue.specs.declared.rising.Entry.{Entry}}
use Rattle.due_queue.proofs.{Common.{refl, arith}, Entries.{indexes_rise, none_between, none_above}, Orders.{is_less}}
use Rattle.due_queue.proofs.rising.Rising.place_of.Goals as goal

pub returns-in-Ok-clause-there : goal.returns-in-Ok-clause-there
returns-in-Ok-clause-there g c =
    c.in-Ok.ensures.position (λ (w : Entry _ _ _). g.K.Ord.cmp w.key c.args.key.now) (always_returns_same _ _ _ (λ a r f k. search (rules, of_calls)))

pub returns-in-Err-clause-none : goal.returns-in-Err-clause-none
returns-in-Err-clause-none g c is =
    none_between g.met.M.Ord.total g.met.K.Ord.total c.args.key.now c.args.self.now.entries.items c.in-Err.field-0
    (c.in-Err.ensures.position (λ (w : Entry _ _ _). g.K.Ord.cmp w.key c.args.key.now) (always_returns_same _ _ _ (λ a r f k. search (rules, of_calls)))
    (indexes_rise g.met.M.Ord.total g.met.K.Ord.total c.args.key.now c.args.self.now.entries.items c.requires))

pub returns-then-is_lt-clause-none : goal.returns-then-is_lt-clause-none
returns-then-is_lt-clause-none g c is =
    none_above g.met.M.Ord.total g.met.K.Ord.total c.args.key.now c.args.self.now.entries.items (c.args.self.now.entries.len - 1) c.in_ok-last.last.now
    (let ok = c.args.self.now.entries.ok.0 in let some = c.in_ok-last.ensures.variant.0 refl in omega arith) c.requires c.in_ok-last.ensures.lookup
    (is_less _ (let a = c.cmp.ensures in let b = c.is_lt.ensures in let d = c.if-is_lt.true in cc))
