use Rattle.{due_queue.proofs.{Common.{refl, arith}, Entries.{all_behind}, Orders.{is_less, not_greater}}, std.specs.Prelude.{◌-◌}}
use Rattle.due_queue.proofs.rising.Rising.is_last.Goals as goal

pub returns-then-is_lt : goal.returns-then-is_lt
returns-then-is_lt g c is =
    all_behind g.met.M.Ord.total g.met.K.Ord.total c.args.at.now c.args.key.now c.args.self.now.entries.items (c.args.self.now.entries.len - 1) c.in-Some.last.now
    (let ok = c.args.self.now.entries.ok.0 in let some = c.in-Some.ensures.variant.0 refl in omega arith) c.requires c.in-Some.ensures.lookup
    (is_less _ (let a = c.cmp.ensures in let b = c.is_lt.ensures in let d = c.if-is_lt.true in cc), not_greater _ (let a = c.cmp-then-is_lt.ensures in let b = c.is_le.ensures in cc))
