use Rattle.join_tests.proofs.Common.{◌∙◌, ap, arith, ints, slot_value}
use Rattle.join_tests.proofs.time_key.TimeKey.candidate_slots.Goals as goal

pub returns-clause-first : goal.returns-clause-first
returns-clause-first c = c.slot_at.ensures ∙ ap (slot_value c.args.self.span) (omega (arith, ints, c.from.ensures, c.from-2.ensures))

pub returns-clause-last : goal.returns-clause-last
returns-clause-last c = c.slot_at-2.ensures ∙ ap (slot_value c.args.self.span) (omega (arith, ints, c.from.ensures, c.from-2.ensures, c.from-3.ensures))
