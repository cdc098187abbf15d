use Rattle.session.proofs.Common.{◌≤◌, ◌+◌, length, World, AllFit, AllWantKnown, StayKnown, Standing, StaysSound, SoFar}
use Rattle.session.proofs.state.State.apply_all.Given as goal

abbrev pub invariant-loop-wanted : goal.invariant-loop-wanted
invariant-loop-wanted l = record {
  tags : l.self.next_tag + length l.wanted-iterator.rest.items ≤ l.fn.self.next_tag + length l.fn.plan.items;
  known : AllWantKnown l.setting.program l.fn.plan.items
      → AllWantKnown l.setting.program l.wanted-iterator.rest.items × StayKnown l.setting.program l.fn.lines.items l.lines.items × StaysSound l.setting.program l.fn.memory l.fn.self l.memory l.self;
  done : (w : World) → Standing l.setting l.fn.memory l.fn.self w → AllFit l.setting.program w l.fn.plan.items
      → SoFar l.setting w l.fn.plan.items l.fn.lines.items l.lines.items l.memory l.self l.wanted-iterator.rest.items;
}
