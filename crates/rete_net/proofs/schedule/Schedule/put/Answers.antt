use Rattle.rete_net.proofs.Common.{◌≡◌, ◌∙◌, ◌<◌, sym, ap, refl, subst, Some, slice_get, length, slice_get_within, slice_get-get_or, EntryTimers, Timers, IsSet}
use Rattle.rete_net.{specs.Schedules.{gate_told}, proofs.Scheduling.{if_some, kept_beside, quiet_sooner, scheduled_still}}
use Rattle.{beta_node.specs.Lending.{with_candidates}, fx_base.proofs.Sequences.{get-set_same, one_value}}
use Rattle.rete_net.proofs.schedule.Schedule.put.Goals as goal

-- the timers of the entry point as they were
at : (c : goal.In_ok-put-2) → slice_get c.line.new.self.floors.items c.in_ok-line.line ≡ Some c.index_mut.result.now
at c =
    let line = c.in_ok-line.ensures.line in
    let within : c.in_ok-line.line < length c.line.new.self.floors.items = slice_get_within c.line.new.self.floors.items c.in_ok-line.line line.0 line.1 in
    slice_get-get_or c.line.new.self.floors.items c.in_ok-line.line c.index_mut.result.now within ∙ ap Some (sym c.index_mut.ensures.value)

abbrev after : goal.In_ok-put-2 → EntryTimers
after c = record { entry = c.index_mut.result.now.entry; timers = c.put-2.new.self }

pub returns-clause-put : goal.returns-clause-put
returns-clause-put c timed =
    let line = c.in_ok-line.ensures.line in
    let same : line.0 ≡ c.index_mut.result.now = one_value (slice_get c.line.new.self.floors.items c.in_ok-line.line) line.0 c.index_mut.result.now line.1 (at c) in
    record {
      until = c.earlier-until.result;
      set = c.in_ok-put.ensures.put;
      quiet = quiet_sooner c.args.program.now c.args.node.now.node c.quiet_until.result c.earlier-until.result (λ clock before. ((c.earlier-until.ensures clock).0 before).1) c.quiet_until.ensures.quiet;
      lent = λ own. quiet_sooner c.args.program.now (with_candidates own c.args.node.now.node) c.quiet_until.result c.earlier-until.result (λ clock before. ((c.earlier-until.ensures clock).0 before).1)
          (c.quiet_until.ensures.lent own);
      gate = if_some (gate_told c.args.sources.now c.args.place c.args.node.now) (λ gate still clock before. still clock ((c.earlier-until.ensures clock).0 before).0) c.gate_until.ensures;
      line = c.in_ok-line.line;
      timers = after c;
      found = get-set_same c.line.new.self.floors.items c.in_ok-line.line (after c) c.index_mut.result.now (at c);
      entry = ap (λ (t : EntryTimers). t.entry.0) (sym same) ∙ line.2 ∙ c.entry.ensures;
      up_to = c.waits_up_to.result;
      waits = c.in_ok-put-2.ensures.put;
      still = c.waits_up_to.ensures;
    }

pub returns-clause-others : goal.returns-clause-others
returns-clause-others c p of k n other was =
    scheduled_still p of c.args.self.now _ k n
    (λ until set. c.in_ok-put.ensures.others k until other (subst (λ (t : Timers). IsSet t k until) (sym c.in_ok-line.ensures.clock) set))
    (λ line timers e.
    kept_beside c.line.new.self.floors.items c.in_ok-line.line k c.index_mut.result.now (after c) (at c) refl (λ up_to set. c.in_ok-put-2.ensures.others k up_to other set)
    line timers (c.in_ok-line.ensures.kept line timers e))
    was
