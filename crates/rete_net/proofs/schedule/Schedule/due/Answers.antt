use Rattle.rete_net.proofs.Common.{◌≡◌, ◌∙◌, ◌<◌, sym, ap, subst, inl, inr, ℕ, true, false, List, Some, slice_get, length, arith, slice_get_within}
use Rattle.rete_net.proofs.{Common.{slice_get-get_or, snapshot_at, floor, has_place, IsFrom, IsSet, EntryTimers}, Scheduling.{undue}}
use Rattle.{std.proofs.lemmas.Bool.{false_from_ne_true}, fx_base.proofs.{Orders.{below_or_last}, Sequences.{one_value}}}
use Rattle.rete_net.proofs.schedule.Schedule.due.Goals as goal

pub loop-line-init : goal.loop-line-init
loop-line-init c = record {
  clock = λ k until set out. c.in_ok-put_past.ensures k until set out;
  floors = λ line timers lt e k up_to set out. absurd (omega arith);
}

out_before : (c : goal.In_ok-put_due) (k : ℕ) → has_place c.put_due.new.due.keys k ≡ false → has_place c.loop-line.due.keys k ≡ false
out_before c k out = false_from_ne_true (has_place c.loop-line.due.keys k) (λ there. let no : true ≡ false = sym (c.in_ok-put_due.ensures.kept k there) ∙ out in cc)

pub loop-line-preserved : goal.loop-line-preserved
loop-line-preserved c = record {
  clock = λ k until set out. c.loop-line.invariant.clock k until set (out_before c k out);
  floors = λ line timers lt e k up_to set out.
      elim (below_or_last line c.loop-line.line-index lt) [
        | inl below ↦ c.loop-line.invariant.floors line timers below e k up_to set (out_before c k out)
        | inr at ↦
            let floors = c.args.self.now.floors.items in
            let x = c.line-item.result in
            let found : slice_get c.args.self.now.floors.items c.loop-line.line-index ≡ Some c.line-item.result =
            ap (λ (xs : List EntryTimers). slice_get xs c.loop-line.line-index) (sym c.as_slice-line-items.ensures.value)
            ∙ slice_get-get_or c.as_slice-line-items.result.now c.loop-line.line-index x c.loop-line-test.true ∙ ap Some (sym c.line-item.is) in
            let is : c.line-item.result ≡ timers = one_value (slice_get floors c.loop-line.line-index) x timers found (ap (slice_get floors) (sym at) ∙ e) in
            subst (λ (t : EntryTimers). IsFrom (floor c.args.program.now (snapshot_at c.args.moment.now) t.entry.0) up_to) is
            (c.in_ok-put_due.ensures.put k up_to (subst (λ (t : EntryTimers). IsSet t.timers k up_to) (sym is) set) out)
      ];
}

pub returns : goal.returns
returns c of k n is out =
    let floors = c.args.self.now.floors.items in
    let within : is.line < length c.args.self.now.floors.items = slice_get_within floors is.line is.timers is.found in
    let len : length c.as_slice-line-items.result.now ≡ length c.args.self.now.floors.items = ap (λ (xs : List EntryTimers). length xs) c.as_slice-line-items.ensures.value in
    let past = c.loop-line-test.false in
    undue c.args.program.now of c.args.self.now k n c.args.moment.now is (c.loop-line.invariant.clock k is.until is.set out)
    (c.loop-line.invariant.floors is.line is.timers (omega (arith, within, len, past)) is.found k is.up_to is.waits out)
