use Rattle.line_run.proofs.Common.{◌≡◌, ℕ, Ok, Err, subst, to_come, ◌++◌, true, false, not, [], take, arith, sym, ap, ◌∙◌, refl, inl, inr, append, AppendsFront}
use Rattle.line_run.proofs.Common.{lines_of, lines_ahead, Goes, Saves, Stops, World, state_in, at_end, at_limit, run}
use Rattle.line_run.specs.{declared.fault.{KeepFault.{KeepFault}, StopFault.TheVariants.{NoMemory, WriteFault}}, Faults.{unkept_fault}, Prompt.{heard}}
use Rattle.line_run.proofs.Ahead.{goes_turn, saves_turn, saves_at, saves_of, behind_is, goes_further, ends_there, flushed, flushed_front, front_flushed}
use Rattle.line_run.proofs.Ahead.{all_flushed, before_saving, all_done, all_put, no_line, no_line_saves, no_more, no_more_saves, none_saved, heard_run}
use Rattle.line_run.proofs.Ahead.{heard_ended, stopped, stopped_in, stopped_kept, stopped_kept_err, stopped_in_kept, stopped_at_read, refused_there, long_run}
use Rattle.line_run.proofs.{Ahead.{long_heard, told_err, if_told, at_start, moves_on, written_then, append_nothing}, Asking.{asks_first, asks_flushed}}
use Rattle.line_run.proofs.Asking.{asks_mid_line, asks_turned, nothing_said, said_flushed, said_hushed, said_stays, said_front, quiet_first, quiet_so}
use Rattle.line_run.proofs.{Asking.{quiet_flushed, quiet_front, quiet_all}, Stops.{err_of, given_since, takes_stop, takes_unkept, refused_so, long_stop}}
use Rattle.line_run.proofs.Stops.{read_stop, long_taken, exhausted, none_given, stops_mid_line, no_memory_at_read, no_memory_at_length, none_kept, has_at_most}
use Rattle.{line_run.proofs.Stops.{first_to_come, last_to_come, some_to_come}, fx_io.specs.Reader.{Reader}}
use Rattle.line_run.proofs.running.run_lines.Goals as goal
use Rattle.line_run.proofs.running.run_lines.Goals.{then-not-is_ready, else-not-is_ready}

pub returns-in_err-flush-clause-front : goal.returns-in_err-flush-clause-front
returns-in_err-flush-clause-front g c w st =
    let steps = g.T.LineTaker.steps c.args.taker in
    told_err (g.S.Source.left c.args.script.now) c.from_residual-in_err-flush.result (λ bytes. AppendsFront (g.K.Sink.written c.args.out.now) (g.K.Sink.written c.flush.new.out) (heard c.args.silent (run steps (state_in w c.args.at) (lines_of bytes))).bytes)
    (stopped_in (g.S.Source.left c.args.script.now) (g.K.Sink.written c.flush.new.out) (c.loop-text.invariant.so_far.2 w st).2 c.in_err-flush.ensures.err)

pub returns-in-Err-clause-front : goal.returns-in-Err-clause-front
returns-in-Err-clause-front g c w st =
    let inv = c.loop-text.invariant in
    let so = inv.so_far.2 w st in
    let now = flushed (g.K.Sink.written c.flush.new.out) c.flush.new.text.items (g.K.Sink.files c.flush.new.out) so.2 c.in_ok-flush.ensures.ok c.flush.ensures.files in
    stopped (g.S.Source.left c.args.script.now) now

pub returns-in-Err-clause-taken : goal.returns-in-Err-clause-taken
returns-in-Err-clause-taken g c =
    let inv = c.loop-text.invariant in
    let most = rw inv.total_max at c.next_line.ensures.at_most in
    let all = given_since (g.S.Source.given c.args.script.now) c.loop-text.reader.taken c.next_line.new.self.taken _ _ c.next_line.ensures.taken inv.given c.next_line.ensures.together in
    let gives = c.in-Err.ensures.gives inv.fault in
    let stops = rw inv.total_max at gives.2 in
    (c.next_line.new.self.taken, all, rw c.of_line_fault.ensures (takes_stop c.args.most c.in-Err.fault _ c.next_line.new.self.taken stops), most)

pub returns-in-Err-clause-long : goal.returns-in-Err-clause-long
returns-in-Err-clause-long g c w st is =
    let steps = g.T.LineTaker.steps c.args.taker in
    let inv = c.loop-text.invariant in
    let so = inv.so_far.2 w st in
    let now = flushed (g.K.Sink.written c.flush.new.out) c.flush.new.text.items (g.K.Sink.files c.flush.new.out) so.2 c.in_ok-flush.ensures.ok c.flush.ensures.files in
    let gives = c.in-Err.ensures.gives inv.fault in
    let stops = rw inv.total_max at gives.2 in
    let taken = long_taken c.in-Err.fault c.of_line_fault.result _ c.next_line.new.self.taken c.args.most c.of_line_fault.ensures is stops in
    let stop = long_stop c.in-Err.fault c.of_line_fault.result _ _ c.of_line_fault.ensures is (c.in-Err.ensures.stops inv.fault) in
    long_heard c.args.silent c.args.most steps (state_in w c.args.at) (g.S.Source.left c.args.script.now)
    (long_run c.args.most (g.S.Source.left c.args.script.now) (g.S.Source.left c.next_line.new.source) (state_in so.0 c.loop-text.at) c.next_line.new.self.taken now
    (heard_ended c.args.silent steps (state_in so.0 c.loop-text.at)) stop (inv.total ∙ c.next_line.ensures.total) taken)

pub returns-in-Err-clause-stopped_at_read : goal.returns-in-Err-clause-stopped_at_read
returns-in-Err-clause-stopped_at_read g c w st is =
    let steps = g.T.LineTaker.steps c.args.taker in
    let inv = c.loop-text.invariant in
    let so = inv.so_far.2 w st in
    let now = flushed (g.K.Sink.written c.flush.new.out) c.flush.new.text.items (g.K.Sink.files c.flush.new.out) so.2 c.in_ok-flush.ensures.ok c.flush.ensures.files in
    let gives = c.in-Err.ensures.gives inv.fault in
    let stop = read_stop c.in-Err.fault c.of_line_fault.result _ _ c.of_line_fault.ensures is (c.in-Err.ensures.stops inv.fault) in
    let mid = stops_mid_line c.in-Err.fault c.of_line_fault.result _ _ _ c.of_line_fault.ensures (no_memory_at_read c.of_line_fault.result is) gives.2 in
    let not_ready = none_kept c.loop-text.reader.kept gives.0 mid in
    let none : c.flush.new.text.items ≡ [] = elim c.if-not-is_ready.branch [
      | then-not-is_ready w ↦ c.in_ok-flush.ensures.all (w.wanted-is ∙ ap not w.if-not-is_ready.true)
      | else-not-is_ready w ↦ absurd (let both : true ≡ false = sym w.if-not-is_ready.false ∙ c.is_ready.ensures ∙ not_ready in cc)
    ] in
    if_told (g.S.Source.left c.args.script.now) (λ bytes it. it.stop)
    (stopped_at_read (g.S.Source.left c.args.script.now) (g.S.Source.left c.next_line.new.source) (state_in so.0 c.loop-text.at) now none (heard_ended c.args.silent steps (state_in so.0 c.loop-text.at)) (none_saved steps (state_in so.0 c.loop-text.at)) stop)

pub returns-in-Err-clause-kept_at_read : goal.returns-in-Err-clause-kept_at_read
returns-in-Err-clause-kept_at_read g c w st is =
    let steps = g.T.LineTaker.steps c.args.taker in
    let inv = c.loop-text.invariant in
    let so = inv.so_far.2 w st in
    let now = flushed (g.K.Sink.written c.flush.new.out) c.flush.new.text.items (g.K.Sink.files c.flush.new.out) so.2 c.in_ok-flush.ensures.ok c.flush.ensures.files in
    let gives = c.in-Err.ensures.gives inv.fault in
    let stop = read_stop c.in-Err.fault c.of_line_fault.result _ _ c.of_line_fault.ensures is (c.in-Err.ensures.stops inv.fault) in
    let mid = stops_mid_line c.in-Err.fault c.of_line_fault.result _ _ _ c.of_line_fault.ensures (no_memory_at_read c.of_line_fault.result is) gives.2 in
    let not_ready = none_kept c.loop-text.reader.kept gives.0 mid in
    let none : c.flush.new.text.items ≡ [] = elim c.if-not-is_ready.branch [
      | then-not-is_ready w ↦ c.in_ok-flush.ensures.all (w.wanted-is ∙ ap not w.if-not-is_ready.true)
      | else-not-is_ready w ↦ absurd (let both : true ≡ false = sym w.if-not-is_ready.false ∙ c.is_ready.ensures ∙ not_ready in cc)
    ] in
    stopped_at_read (g.S.Source.left c.args.script.now) (g.S.Source.left c.next_line.new.source) (state_in so.0 c.loop-text.at) now none (heard_ended c.args.silent steps (state_in so.0 c.loop-text.at)) (none_saved steps (state_in so.0 c.loop-text.at)) stop

pub returns-in-Err-clause-stopped_at_length : goal.returns-in-Err-clause-stopped_at_length
returns-in-Err-clause-stopped_at_length g c w st is =
    let steps = g.T.LineTaker.steps c.args.taker in
    let inv = c.loop-text.invariant in
    let so = inv.so_far.2 w st in
    let now = flushed (g.K.Sink.written c.flush.new.out) c.flush.new.text.items (g.K.Sink.files c.flush.new.out) so.2 c.in_ok-flush.ensures.ok c.flush.ensures.files in
    let gives = c.in-Err.ensures.gives inv.fault in
    let stop = long_stop c.in-Err.fault c.of_line_fault.result _ _ c.of_line_fault.ensures is (c.in-Err.ensures.stops inv.fault) in
    let mid = stops_mid_line c.in-Err.fault c.of_line_fault.result _ _ _ c.of_line_fault.ensures (no_memory_at_length c.of_line_fault.result is) gives.2 in
    let not_ready = none_kept c.loop-text.reader.kept gives.0 mid in
    let none : c.flush.new.text.items ≡ [] = elim c.if-not-is_ready.branch [
      | then-not-is_ready w ↦ c.in_ok-flush.ensures.all (w.wanted-is ∙ ap not w.if-not-is_ready.true)
      | else-not-is_ready w ↦ absurd (let both : true ≡ false = sym w.if-not-is_ready.false ∙ c.is_ready.ensures ∙ not_ready in cc)
    ] in
    if_told (g.S.Source.left c.args.script.now) (λ bytes it. it.stop)
    (stopped_at_read (g.S.Source.left c.args.script.now) (g.S.Source.left c.next_line.new.source) (state_in so.0 c.loop-text.at) now none (heard_ended c.args.silent steps (state_in so.0 c.loop-text.at)) (none_saved steps (state_in so.0 c.loop-text.at)) stop)

pub returns-in_err-next-clause-front : goal.returns-in_err-next-clause-front
returns-in_err-next-clause-front g c w st =
    let steps = g.T.LineTaker.steps c.args.taker in
    let inv = c.loop-text.invariant in
    let so = inv.so_far.2 w st in
    let now = flushed (g.K.Sink.written c.flush.new.out) c.flush.new.text.items (g.K.Sink.files c.flush.new.out) so.2 c.in_ok-flush.ensures.ok c.flush.ensures.files in
    told_err (g.S.Source.left c.args.script.now) c.from_residual-in_err-next.result (λ bytes. AppendsFront (g.K.Sink.written c.args.out.now) (g.K.Sink.written c.flush.new.out) (heard c.args.silent (run steps (state_in w c.args.at) (lines_of bytes))).bytes)
    (stopped (g.S.Source.left c.args.script.now) now)

pub returns-in_err-next-clause-taken : goal.returns-in_err-next-clause-taken
returns-in_err-next-clause-taken g c =
    let inv = c.loop-text.invariant in
    let most = rw inv.total_max at c.next_line.ensures.at_most in
    let all = given_since (g.S.Source.given c.args.script.now) c.loop-text.reader.taken c.next_line.new.self.taken _ _ c.next_line.ensures.taken inv.given c.next_line.ensures.together in
    rw (err_of c.from_residual-in_err-next.result NoMemory c.from_residual-in_err-next.ensures.0 c.from_residual-in_err-next.ensures.1) (c.next_line.new.self.taken, all, tt, most)

pub returns-in_err-write_all-in-None-clause-front : goal.returns-in_err-write_all-in-None-clause-front
returns-in_err-write_all-in-None-clause-front g c w st =
    let steps = g.T.LineTaker.steps c.args.taker in
    let inv = c.loop-text.invariant in
    let so = inv.so_far.2 w st in
    let now = flushed (g.K.Sink.written c.flush.new.out) c.flush.new.text.items (g.K.Sink.files c.flush.new.out) so.2 c.in_ok-flush.ensures.ok c.flush.ensures.files in
    let answers = rw inv.line_max at c.in-Ok.ensures.line in
    let ended = rw c.in-None.is at (c.in_ok-next.ensures.turn so.0 _ _ so.1 answers) in
    let none = said_flushed c.args.silent _ _ c.loop-text.text.items c.flush.new.text.items inv.hushed c.in_ok-flush.ensures.ok in
    let stays = said_stays c.args.silent c.flush.new.text.items c.take.new.text.items c.hush.new.text.items none ended.1 c.hush.ensures in
    let part : AppendsFront (g.K.Sink.written c.flush.new.out) (g.K.Sink.written c.write_all.new.sink) c.flush.new.text.items =
    rw (sym stays, sym c.deref.ensures.value) c.in_err-write_all-in-None.ensures.err in
    told_err (g.S.Source.left c.args.script.now) c.from_residual-in_err-write_all-in-None.result (λ bytes. AppendsFront (g.K.Sink.written c.args.out.now) (g.K.Sink.written c.write_all.new.sink) (heard c.args.silent (run steps (state_in w c.args.at) (lines_of bytes))).bytes)
    (stopped_in (g.S.Source.left c.args.script.now) (g.K.Sink.written c.write_all.new.sink) now part)

pub returns-in_err-write_all-in-None-clause-taken : goal.returns-in_err-write_all-in-None-clause-taken
returns-in_err-write_all-in-None-clause-taken g c =
    let inv = c.loop-text.invariant in
    let most = rw inv.total_max at c.next_line.ensures.at_most in
    let all = given_since (g.S.Source.given c.args.script.now) c.loop-text.reader.taken c.next_line.new.self.taken _ _ c.next_line.ensures.taken inv.given c.next_line.ensures.together in
    rw (err_of c.from_residual-in_err-write_all-in-None.result WriteFault c.from_residual-in_err-write_all-in-None.ensures.0 c.from_residual-in_err-write_all-in-None.ensures.1) (c.next_line.new.self.taken, all, tt, most)

pub returns-in-None-clause-done : goal.returns-in-None-clause-done
returns-in-None-clause-done g c =
    let steps = g.T.LineTaker.steps c.args.taker in
    let inv = c.loop-text.invariant in
    let flush = c.in_ok-flush.ensures.ok in
    let all : g.K.Sink.written c.write_all.new.sink ≡ append (g.K.Sink.written c.flush.new.out) c.hush.new.text.items = c.in_ok-write_all-in-None.ensures.ok ∙ ap (append (g.K.Sink.written c.flush.new.out)) c.deref.ensures.value in (
      (inv.so_far.0 ++ take flush.0 c.loop-text.text.items) ++ c.hush.new.text.items,
      all ∙ written_then (g.K.Sink.written c.args.out.now) _ _ (flushed_front (g.K.Sink.written c.args.out.now) inv.so_far.0 inv.so_far.1 flush) c.hush.new.text.items,
      λ w st.
          let so = inv.so_far.2 w st in
          let now = flushed (g.K.Sink.written c.flush.new.out) c.flush.new.text.items (g.K.Sink.files c.flush.new.out) so.2 flush c.flush.ensures.files in
          let answers = rw inv.line_max at c.in-Ok.ensures.line in
          let ended = rw c.in-None.is at (c.in_ok-next.ensures.turn so.0 _ _ so.1 answers) in
          let same : c.in_ok-next.next ≡ c.loop-text.taker = c.in_ok-next.ensures.stays c.in-None.is in
          let there : g.T.LineTaker.stands c.in_ok-next.next so.0 = rw same so.1 in
          let none = said_flushed c.args.silent _ _ c.loop-text.text.items c.flush.new.text.items inv.hushed flush in
          let stays = said_stays c.args.silent c.flush.new.text.items c.take.new.text.items c.hush.new.text.items none ended.1 c.hush.ensures in
          rw stays (if_told (g.S.Source.left c.args.script.now) (λ bytes d. (d.0, d.1, rw (sym d.2) (refl, there)))
          (all_done (g.S.Source.left c.args.script.now) (at_end (state_in so.0 c.loop-text.at)) refl now
          (no_line c.args.silent steps (state_in so.0 c.loop-text.at) (lines_ahead c.loop-text.reader.kept (g.S.Source.left c.loop-text.script)) ended.0))),
    )

pub returns-in-None-clause-taken : goal.returns-in-None-clause-taken
returns-in-None-clause-taken g c =
    let inv = c.loop-text.invariant in
    let most = rw inv.total_max at c.next_line.ensures.at_most in
    let all = given_since (g.S.Source.given c.args.script.now) c.loop-text.reader.taken c.next_line.new.self.taken _ _ c.next_line.ensures.taken inv.given c.next_line.ensures.together in
    let line = rw c.in-None.is at c.in_ok-next.ensures.ends in
    let gives = c.in-Ok.ensures.gives inv.fault in
    let over = exhausted _ _ c.in-Ok.line _ _ _ _ line gives.2 in
    (c.next_line.new.self.taken, all, rw inv.total_max at over.0, most)

pub returns-in-None-clause-nothing_left : goal.returns-in-None-clause-nothing_left
returns-in-None-clause-nothing_left g c =
    let inv = c.loop-text.invariant in
    let line = rw c.in-None.is at c.in_ok-next.ensures.ends in
    let gives = c.in-Ok.ensures.gives inv.fault in
    let over = exhausted _ _ c.in-Ok.line _ _ _ _ line gives.2 in
    over.1

pub returns-in_err-write_all-in-Some-Stops-clause-front : goal.returns-in_err-write_all-in-Some-Stops-clause-front
returns-in_err-write_all-in-Some-Stops-clause-front g c w st =
    let steps = g.T.LineTaker.steps c.args.taker in
    let inv = c.loop-text.invariant in
    let so = inv.so_far.2 w st in
    let now = flushed (g.K.Sink.written c.flush.new.out) c.flush.new.text.items (g.K.Sink.files c.flush.new.out) so.2 c.in_ok-flush.ensures.ok c.flush.ensures.files in
    let answers = rw inv.line_max at c.in-Ok.ensures.line in
    let is : c.in-Some-Stops.field-0 ≡ Stops = rw c.in-Some-Stops.is at c.in-Some-Stops.field-0-is in
    let turn = rw (c.in-Some-Stops.is, is, inv.steps) at (c.in_ok-next.ensures.turn so.0 _ _ so.1 answers) in
    let gives = c.in-Ok.ensures.gives inv.fault in
    let moved = moves_on _ _ c.in-Ok.line turn.0 c.loop-text.reader.kept gives.0 c.next_line.new.self.kept _ _ _ _ _ _ gives.1 gives.2 turn.1 in
    let none = said_flushed c.args.silent _ _ c.loop-text.text.items c.flush.new.text.items inv.hushed c.in_ok-flush.ensures.ok in
    let there = ends_there c.args.silent steps (state_in so.0 c.loop-text.at) turn.0 c.flush.new.text.items c.take.new.text.items c.hush.new.text.items (g.T.LineTaker.stands c.in_ok-next.next) now turn.1 moved turn.2 none c.hush.ensures in
    let part : AppendsFront (g.K.Sink.written c.flush.new.out) (g.K.Sink.written c.write_all-in-Some-Stops.new.sink) c.hush.new.text.items = rw (sym c.deref-in-Some-Stops.ensures.value) c.in_err-write_all-in-Some-Stops.ensures.err in
    told_err (g.S.Source.left c.args.script.now) c.from_residual-in_err-write_all-in-Some-Stops.result (λ bytes. AppendsFront (g.K.Sink.written c.args.out.now) (g.K.Sink.written c.write_all-in-Some-Stops.new.sink) (heard c.args.silent (run steps (state_in w c.args.at) (lines_of bytes))).bytes)
    (stopped_in (g.S.Source.left c.args.script.now) (g.K.Sink.written c.write_all-in-Some-Stops.new.sink) there part)

pub returns-in_err-write_all-in-Some-Stops-clause-taken : goal.returns-in_err-write_all-in-Some-Stops-clause-taken
returns-in_err-write_all-in-Some-Stops-clause-taken g c =
    let inv = c.loop-text.invariant in
    let most = rw inv.total_max at c.next_line.ensures.at_most in
    let all = given_since (g.S.Source.given c.args.script.now) c.loop-text.reader.taken c.next_line.new.self.taken _ _ c.next_line.ensures.taken inv.given c.next_line.ensures.together in
    rw (err_of c.from_residual-in_err-write_all-in-Some-Stops.result WriteFault c.from_residual-in_err-write_all-in-Some-Stops.ensures.0 c.from_residual-in_err-write_all-in-Some-Stops.ensures.1) (c.next_line.new.self.taken, all, tt, most)

pub returns-in-Some-Stops-clause-done : goal.returns-in-Some-Stops-clause-done
returns-in-Some-Stops-clause-done g c =
    let steps = g.T.LineTaker.steps c.args.taker in
    let inv = c.loop-text.invariant in
    let flush = c.in_ok-flush.ensures.ok in
    let all : g.K.Sink.written c.write_all-in-Some-Stops.new.sink ≡ append (g.K.Sink.written c.flush.new.out) c.hush.new.text.items = c.in_ok-write_all-in-Some-Stops.ensures.ok ∙ ap (append (g.K.Sink.written c.flush.new.out)) c.deref-in-Some-Stops.ensures.value in (
      (inv.so_far.0 ++ take flush.0 c.loop-text.text.items) ++ c.hush.new.text.items,
      all ∙ written_then (g.K.Sink.written c.args.out.now) _ _ (flushed_front (g.K.Sink.written c.args.out.now) inv.so_far.0 inv.so_far.1 flush) c.hush.new.text.items,
      λ w st.
          let so = inv.so_far.2 w st in
          let now = flushed (g.K.Sink.written c.flush.new.out) c.flush.new.text.items (g.K.Sink.files c.flush.new.out) so.2 flush c.flush.ensures.files in
          let answers = rw inv.line_max at c.in-Ok.ensures.line in
          let is : c.in-Some-Stops.field-0 ≡ Stops = rw c.in-Some-Stops.is at c.in-Some-Stops.field-0-is in
          let turn = rw (c.in-Some-Stops.is, is, inv.steps) at (c.in_ok-next.ensures.turn so.0 _ _ so.1 answers) in
          let gives = c.in-Ok.ensures.gives inv.fault in
          let moved = moves_on _ _ c.in-Ok.line turn.0 c.loop-text.reader.kept gives.0 c.next_line.new.self.kept _ _ _ _ _ _ gives.1 gives.2 turn.1 in
          let none = said_flushed c.args.silent _ _ c.loop-text.text.items c.flush.new.text.items inv.hushed flush in
          let there = ends_there c.args.silent steps (state_in so.0 c.loop-text.at) turn.0 c.flush.new.text.items c.take.new.text.items c.hush.new.text.items (g.T.LineTaker.stands c.in_ok-next.next) now turn.1 moved turn.2 none c.hush.ensures in
          if_told (g.S.Source.left c.args.script.now) (λ bytes d. (d.0, d.1, rw (sym d.2) tt))
          (all_done (g.S.Source.left c.args.script.now) at_limit refl there (no_more (lines_ahead c.next_line.new.self.kept (g.S.Source.left c.next_line.new.source)))),
    )

pub returns-in-Some-Stops-clause-taken : goal.returns-in-Some-Stops-clause-taken
returns-in-Some-Stops-clause-taken g c =
    let inv = c.loop-text.invariant in
    let most = rw inv.total_max at c.next_line.ensures.at_most in
    let all = given_since (g.S.Source.given c.args.script.now) c.loop-text.reader.taken c.next_line.new.self.taken _ _ c.next_line.ensures.taken inv.given c.next_line.ensures.together in
    (c.next_line.new.self.taken, all, tt, most)

pub loop-text-init : goal.loop-text-init
loop-text-init g c =
    let steps = g.T.LineTaker.steps c.args.taker in
    let reader = c.in_ok-reader.ensures in
    let kept : c.in_ok-reader.reader.kept ≡ [] = ap (λ (r : Reader). r.kept) reader in
    let taken : c.in_ok-reader.reader.taken ≡ 0 = ap (λ (r : Reader). r.taken) reader in
    record {
      so_far = (
        [],
        sym (append_nothing (g.K.Sink.written c.args.out.now)),
        λ w st. (w, st, at_start {all = heard_run c.args.silent steps (state_in w c.args.at)} (g.S.Source.left c.args.script.now) (g.K.Sink.written c.args.out.now) (g.K.Sink.files c.args.out.now) c.in_ok-reader.reader.kept c.new-text.result.items kept c.new-text.ensures.items),
      );
      asks = asks_first steps (g.T.LineTaker.puts c.args.taker) (g.T.LineTaker.stands c.args.taker) g.K.Sink.written g.K.Sink.files (g.K.Sink.written c.args.out.now) c.args.silent c.args.at (g.K.Sink.files c.args.out.now) (g.S.Source.may_ask c.args.script.now) c.in_ok-reader.reader.kept c.new-text.result.items
          kept c.new-text.ensures.items c.requires.prompt;
      hushed = nothing_said c.args.silent c.new-text.result.items c.new-text.ensures.items;
      quiet = quiet_first c.args.silent (g.K.Sink.written c.args.out.now);
      program = refl;
      table = refl;
      steps = refl;
      puts = λ s before after put. put;
      refuses = λ s why is. is;
      ready = subst (λ (n : ℕ). g.T.LineTaker.ready c.args.taker c.args.at n) (sym (first_to_come c.args.most c.in_ok-reader.reader.taken c.in_ok-reader.reader.kept taken kept)) c.requires.ready;
      total = rw taken refl;
      given = rw taken (none_given (g.S.Source.given c.args.script.now));
      line_max = ap (λ (r : Reader). r.line_max) reader;
      total_max = ap (λ (r : Reader). r.total_max) reader;
      fault = ap (λ (r : Reader). r.fault) reader;
      few = rw (kept, taken) (omega arith);
      script_counts = omega arith;
      out_counts = omega arith;
    }

pub loop-text-preserved-in-Some-Goes : goal.loop-text-preserved-in-Some-Goes
loop-text-preserved-in-Some-Goes g c =
    let steps = g.T.LineTaker.steps c.args.taker in
    let puts = g.T.LineTaker.puts c.args.taker in
    let stands = g.T.LineTaker.stands c.in_ok-next.next in
    let files = g.K.Sink.files c.flush.new.out in
    let inv = c.loop-text.invariant in
    let answers = rw inv.line_max at c.in-Ok.ensures.line in
    let is : c.in-Some-Goes.field-0 ≡ Goes c.in-Some-Goes.bad c.in-Some-Goes.left = rw c.in-Some-Goes.is at c.in-Some-Goes.field-0-is in
    let goes_on = rw (c.next_line.ensures.total_max ∙ inv.total_max, inv.total_max) at c.in-Ok.ensures.goes_on in
    let less = rw c.in-Some-Goes.is at (c.in_ok-next.ensures.smaller _ _ goes_on) in
    let gives = c.in-Ok.ensures.gives inv.fault in
    let asked = c.in-Ok.ensures.asks inv.fault in
    let none = said_flushed c.args.silent _ _ c.loop-text.text.items c.flush.new.text.items inv.hushed c.in_ok-flush.ensures.ok in
    record {
      so_far = (
        inv.so_far.0 ++ take c.in_ok-flush.ensures.ok.0 c.loop-text.text.items,
        flushed_front (g.K.Sink.written c.args.out.now) inv.so_far.0 inv.so_far.1 c.in_ok-flush.ensures.ok,
        λ w st.
            let so = inv.so_far.2 w st in
            let now = flushed (g.K.Sink.written c.flush.new.out) c.flush.new.text.items files so.2 c.in_ok-flush.ensures.ok c.flush.ensures.files in
            let does = rw (c.in-Some-Goes.is, is, inv.steps) at (c.in_ok-next.ensures.turn so.0 _ _ so.1 answers) in
            let moved = moves_on _ _ c.in-Ok.line does.0 c.loop-text.reader.kept gives.0 c.next_line.new.self.kept _ _ _ _ _ _ gives.1 gives.2 does.1 in
            let turn = goes_turn puts steps (state_in so.0 c.loop-text.at) does.0 c.flush.new.text.items c.take.new.text.items stands c.in-Some-Goes.bad c.in-Some-Goes.left c.next-at.result files does.2 c.next-at.ensures in (
              turn.done.world,
              turn.there,
              goes_further c.args.silent steps (state_in so.0 c.loop-text.at) c.next-at.result does.0 c.flush.new.text.items c.take.new.text.items c.hush.new.text.items stands files now does.1 moved turn none c.hush.ensures,
            ),
      );
      asks = asks_turned steps puts (g.T.LineTaker.stands c.args.taker) (g.T.LineTaker.stands c.loop-text.taker) stands c.loop-text.at c.next-at.result g.K.Sink.written g.K.Sink.files (g.K.Sink.written c.args.out.now)
          (g.K.Sink.written c.flush.new.out) files files c.flush.new.text.items c.take.new.text.items c.hush.new.text.items c.loop-text.reader.kept asked.0 c.next_line.new.self.kept
          (g.S.Source.may_ask c.loop-text.script) (g.S.Source.may_ask c.next_line.new.source) c.args.silent c.loop-text.reader.line_max c.in-Ok.line _ _ inv.line_max answers
          (λ v ahead behind st a.
          let does = rw (c.in-Some-Goes.is, is, inv.steps) at (c.in_ok-next.ensures.turn v ahead behind st a) in
          (does.0, does.1, goes_turn puts steps (state_in v c.loop-text.at) does.0 c.flush.new.text.items c.take.new.text.items stands c.in-Some-Goes.bad c.in-Some-Goes.left c.next-at.result files does.2 c.next-at.ensures))
          c.hush.ensures asked.1 asked.2
          (asks_flushed steps puts (g.T.LineTaker.stands c.args.taker) g.K.Sink.written g.K.Sink.files (g.K.Sink.written c.args.out.now) c.args.silent (g.T.LineTaker.stands c.loop-text.taker) c.loop-text.at _ _ _ files
          c.loop-text.text.items c.flush.new.text.items c.loop-text.reader.kept (g.S.Source.may_ask c.loop-text.script) c.in_ok-flush.ensures.ok c.flush.ensures.files inv.asks);
      hushed = said_hushed c.args.silent c.take.new.text.items c.hush.new.text.items c.hush.ensures;
      quiet = quiet_flushed c.args.silent _ _ _ c.loop-text.text.items c.flush.new.text.items inv.hushed c.in_ok-flush.ensures.ok inv.quiet;
      program = c.in_ok-next.ensures.program ∙ inv.program;
      table = c.in_ok-next.ensures.table ∙ inv.table;
      steps = c.in_ok-next.ensures.steps ∙ inv.steps;
      puts = λ s before after put. inv.puts s before after ((c.in_ok-next.ensures.puts s before after).0 put);
      refuses = λ s why refused. inv.refuses s why ((c.in_ok-next.ensures.refuses s why).0 refused);
      ready = rw c.next-at.ensures (rw (c.in-Some-Goes.is, is) at (c.in_ok-next.ensures.ready _ _ inv.ready less));
      total = inv.total ∙ c.next_line.ensures.total;
      given = given_since (g.S.Source.given c.args.script.now) c.loop-text.reader.taken c.next_line.new.self.taken _ _ c.next_line.ensures.taken inv.given c.next_line.ensures.together;
      line_max = c.next_line.ensures.line_max ∙ inv.line_max;
      total_max = c.next_line.ensures.total_max ∙ inv.total_max;
      fault = c.in-Ok.ensures.none;
      few = rw c.next-at.ensures (omega (arith, less, inv.few, c.next_line.ensures.total_max, inv.total_max));
      script_counts = omega (arith, c.next_line.ensures.counts);
      out_counts = omega (arith, c.flush.ensures.counts);
    }

pub loop-text-preserved : goal.loop-text-preserved
loop-text-preserved g c =
    let steps = g.T.LineTaker.steps c.args.taker in
    let puts = g.T.LineTaker.puts c.args.taker in
    let stands = g.T.LineTaker.stands c.in_ok-next.next in
    let files = g.K.Sink.files c.flush_front.new.out in
    let files_next = g.K.Sink.files c.keep.new.out in
    let same_files : files ≡ g.K.Sink.files c.loop-text.out = c.flush_front.ensures.files ∙ c.flush.ensures.files in
    let inv = c.loop-text.invariant in
    let answers = rw inv.line_max at c.in-Ok.ensures.line in
    let is : c.in-Some-Saves.field-0 ≡ Saves c.in-Some-Saves.bad c.in-Some-Saves.left = rw c.in-Some-Saves.is at c.in-Some-Saves.field-0-is in
    let goes_on = rw (c.next_line.ensures.total_max ∙ inv.total_max, inv.total_max) at c.in-Ok.ensures.goes_on in
    let less = rw c.in-Some-Saves.is at (c.in_ok-next.ensures.smaller _ _ goes_on) in
    let gives = c.in-Ok.ensures.gives inv.fault in
    let asked = c.in-Ok.ensures.asks inv.fault in
    let none = said_flushed c.args.silent _ _ c.loop-text.text.items c.flush.new.text.items inv.hushed c.in_ok-flush.ensures.ok in
    let hushed = said_hushed c.args.silent c.take.new.text.items c.hush.new.text.items c.hush.ensures in
    let front = front_flushed c.len-before.result c.hush.new.text.items (g.K.Sink.written c.flush.new.out) (g.K.Sink.written c.keep.new.out) c.flush_front.new.text.items
    (c.keep.ensures.written ∙ c.in_ok-flush_front-in-Some-Saves.ensures.ok) c.in_ok-flush_front-in-Some-Saves.ensures.rest in
    let put : (v : World) → stands v → puts (state_in v c.next-behind.result) files files_next =
    λ v there. inv.puts _ _ _ ((c.in_ok-next.ensures.puts _ _ _).0 (c.in_ok-keep-in-Some-Saves.ensures.put v there)) in
    record {
      so_far = (
        (inv.so_far.0 ++ take c.in_ok-flush.ensures.ok.0 c.loop-text.text.items) ++ take front.0 c.hush.new.text.items,
        flushed_front (g.K.Sink.written c.args.out.now) (inv.so_far.0 ++ take c.in_ok-flush.ensures.ok.0 c.loop-text.text.items)
            (flushed_front (g.K.Sink.written c.args.out.now) inv.so_far.0 inv.so_far.1 c.in_ok-flush.ensures.ok) front,
        λ w st.
            let so = inv.so_far.2 w st in
            let now = flushed (g.K.Sink.written c.flush.new.out) c.flush.new.text.items files so.2 c.in_ok-flush.ensures.ok same_files in
            let does = rw (c.in-Some-Saves.is, is, inv.steps) at (c.in_ok-next.ensures.turn so.0 _ _ so.1 answers) in
            let moved = moves_on _ _ c.in-Ok.line does.0 c.loop-text.reader.kept gives.0 c.next_line.new.self.kept _ _ _ _ _ _ gives.1 gives.2 does.1 in
            let turn = saves_turn puts steps (state_in so.0 c.loop-text.at) does.0 c.flush.new.text.items c.take.new.text.items stands c.in-Some-Saves.bad c.in-Some-Saves.left c.next-behind.result files files_next does.2
            c.next-behind.ensures put in
            let further = goes_further c.args.silent steps (state_in so.0 c.loop-text.at) c.next-behind.result does.0 c.flush.new.text.items c.take.new.text.items c.hush.new.text.items stands files_next now does.1 moved turn none
            c.hush.ensures in
            (turn.done.world, turn.there, flushed (g.K.Sink.written c.keep.new.out) c.flush_front.new.text.items files_next further front refl),
      );
      asks = asks_flushed steps puts (g.T.LineTaker.stands c.args.taker) g.K.Sink.written g.K.Sink.files (g.K.Sink.written c.args.out.now) c.args.silent stands c.next-behind.result _ _ files_next files_next
          c.hush.new.text.items c.flush_front.new.text.items c.next_line.new.self.kept (g.S.Source.may_ask c.next_line.new.source) front refl
          (asks_turned steps puts (g.T.LineTaker.stands c.args.taker) (g.T.LineTaker.stands c.loop-text.taker) stands c.loop-text.at c.next-behind.result g.K.Sink.written g.K.Sink.files (g.K.Sink.written c.args.out.now)
          (g.K.Sink.written c.flush.new.out) files files_next c.flush.new.text.items c.take.new.text.items c.hush.new.text.items c.loop-text.reader.kept asked.0 c.next_line.new.self.kept
          (g.S.Source.may_ask c.loop-text.script) (g.S.Source.may_ask c.next_line.new.source) c.args.silent c.loop-text.reader.line_max c.in-Ok.line _ _ inv.line_max answers
          (λ v ahead behind st a.
          let does = rw (c.in-Some-Saves.is, is, inv.steps) at (c.in_ok-next.ensures.turn v ahead behind st a) in (
            does.0,
            does.1,
            saves_turn puts steps (state_in v c.loop-text.at) does.0 c.flush.new.text.items c.take.new.text.items stands c.in-Some-Saves.bad c.in-Some-Saves.left c.next-behind.result files files_next does.2
                c.next-behind.ensures put,
          ))
          c.hush.ensures asked.1 asked.2
          (asks_flushed steps puts (g.T.LineTaker.stands c.args.taker) g.K.Sink.written g.K.Sink.files (g.K.Sink.written c.args.out.now) c.args.silent (g.T.LineTaker.stands c.loop-text.taker) c.loop-text.at _ _ _ files
          c.loop-text.text.items c.flush.new.text.items c.loop-text.reader.kept (g.S.Source.may_ask c.loop-text.script) c.in_ok-flush.ensures.ok same_files inv.asks));
      hushed = said_flushed c.args.silent _ _ c.hush.new.text.items c.flush_front.new.text.items hushed front;
      quiet = quiet_flushed c.args.silent _ _ _ c.hush.new.text.items c.flush_front.new.text.items hushed front
          (quiet_flushed c.args.silent _ _ _ c.loop-text.text.items c.flush.new.text.items inv.hushed c.in_ok-flush.ensures.ok inv.quiet);
      program = c.in_ok-next.ensures.program ∙ inv.program;
      table = c.in_ok-next.ensures.table ∙ inv.table;
      steps = c.in_ok-next.ensures.steps ∙ inv.steps;
      puts = λ s before after put. inv.puts s before after ((c.in_ok-next.ensures.puts s before after).0 put);
      refuses = λ s why refused. inv.refuses s why ((c.in_ok-next.ensures.refuses s why).0 refused);
      ready = rw c.next-behind.ensures (rw (c.in-Some-Saves.is, is) at (c.in_ok-next.ensures.ready _ _ inv.ready less));
      total = inv.total ∙ c.next_line.ensures.total;
      given = given_since (g.S.Source.given c.args.script.now) c.loop-text.reader.taken c.next_line.new.self.taken _ _ c.next_line.ensures.taken inv.given c.next_line.ensures.together;
      line_max = c.next_line.ensures.line_max ∙ inv.line_max;
      total_max = c.next_line.ensures.total_max ∙ inv.total_max;
      fault = c.in-Ok.ensures.none;
      few = rw c.next-behind.ensures (omega (arith, less, inv.few, c.next_line.ensures.total_max, inv.total_max));
      script_counts = omega (arith, c.next_line.ensures.counts);
      out_counts = omega (arith, c.flush.ensures.counts, c.flush_front.ensures.counts, c.keep.ensures.counts);
    }

pub take-requires-clause-short : goal.take-requires-clause-short
take-requires-clause-short g c = has_at_most 65536 c.in-Ok.line _ _ (rw c.loop-text.invariant.line_max at c.in-Ok.ensures.line)

pub take-requires-clause-ready : goal.take-requires-clause-ready
take-requires-clause-ready g c =
    let inv = c.loop-text.invariant in
    let goes_on = rw inv.total_max at c.in-Ok.ensures.goes_on in (
      to_come c.args.most c.loop-text.reader.taken c.loop-text.reader.kept,
      some_to_come c.in-Ok.line _ _ goes_on
          (λ e. last_to_come c.args.most c.loop-text.reader.taken c.next_line.new.self.taken c.loop-text.reader.kept c.next_line.ensures.taken
          (rw inv.total_max at (c.next_line.ensures.ended (c.in-Ok.is ∙ ap Ok e)))),
      inv.ready,
    )

-- it asks for more in the middle of a line alone, where all is written
pub next_line-requires : goal.next_line-requires
next_line-requires g c =
    let steps = g.T.LineTaker.steps c.args.taker in
    let inv = c.loop-text.invariant in
    record {
      asks = λ none.
          asks_mid_line steps (g.T.LineTaker.puts c.args.taker) (g.T.LineTaker.stands c.args.taker) g.K.Sink.written g.K.Sink.files (g.K.Sink.written c.args.out.now) c.args.silent (g.T.LineTaker.stands c.loop-text.taker) c.loop-text.at c.flush.new.out
          c.flush.new.text.items c.loop-text.reader.kept (g.S.Source.may_ask c.loop-text.script)
          (λ no_end. elim c.if-not-is_ready.branch [
            | then-not-is_ready w ↦ c.in_ok-flush.ensures.all (w.wanted-is ∙ ap not w.if-not-is_ready.true)
            | else-not-is_ready w ↦ absurd (let both : true ≡ false = sym w.if-not-is_ready.false ∙ c.is_ready.ensures ∙ no_end in cc)
          ])
          (quiet_flushed c.args.silent _ _ _ c.loop-text.text.items c.flush.new.text.items inv.hushed c.in_ok-flush.ensures.ok inv.quiet)
          (asks_flushed steps (g.T.LineTaker.puts c.args.taker) (g.T.LineTaker.stands c.args.taker) g.K.Sink.written g.K.Sink.files (g.K.Sink.written c.args.out.now) c.args.silent (g.T.LineTaker.stands c.loop-text.taker)
          c.loop-text.at _ _ _ (g.K.Sink.files c.flush.new.out) c.loop-text.text.items c.flush.new.text.items c.loop-text.reader.kept (g.S.Source.may_ask c.loop-text.script) c.in_ok-flush.ensures.ok c.flush.ensures.files inv.asks);
    }

-- ---- a silent run writes nothing

pub returns-in_err-flush-clause-quiet : goal.returns-in_err-flush-clause-quiet
returns-in_err-flush-clause-quiet g c =
    let inv = c.loop-text.invariant in
    quiet_so c.args.silent _ _ (quiet_front c.args.silent _ _ _ c.loop-text.text.items inv.hushed c.in_err-flush.ensures.err inv.quiet)

pub returns-in-Err-clause-quiet : goal.returns-in-Err-clause-quiet
returns-in-Err-clause-quiet g c =
    let inv = c.loop-text.invariant in
    quiet_so c.args.silent _ _ (quiet_flushed c.args.silent _ _ _ c.loop-text.text.items c.flush.new.text.items inv.hushed c.in_ok-flush.ensures.ok inv.quiet)

pub returns-in_err-next-clause-quiet : goal.returns-in_err-next-clause-quiet
returns-in_err-next-clause-quiet g c =
    let inv = c.loop-text.invariant in
    quiet_so c.args.silent _ _ (quiet_flushed c.args.silent _ _ _ c.loop-text.text.items c.flush.new.text.items inv.hushed c.in_ok-flush.ensures.ok inv.quiet)

pub returns-in_err-write_all-in-None-clause-quiet : goal.returns-in_err-write_all-in-None-clause-quiet
returns-in_err-write_all-in-None-clause-quiet g c =
    let inv = c.loop-text.invariant in
    let flushed = quiet_flushed c.args.silent (g.K.Sink.written c.args.out.now) _ _ c.loop-text.text.items c.flush.new.text.items inv.hushed c.in_ok-flush.ensures.ok inv.quiet in
    let none = said_hushed c.args.silent c.take.new.text.items c.hush.new.text.items c.hush.ensures in
    let part : AppendsFront (g.K.Sink.written c.flush.new.out) (g.K.Sink.written c.write_all.new.sink) c.hush.new.text.items = rw (sym c.deref.ensures.value) c.in_err-write_all-in-None.ensures.err in
    quiet_so c.args.silent _ _ (quiet_front c.args.silent _ _ _ c.hush.new.text.items none part flushed)

pub returns-in-None-clause-quiet : goal.returns-in-None-clause-quiet
returns-in-None-clause-quiet g c =
    let inv = c.loop-text.invariant in
    let flushed = quiet_flushed c.args.silent (g.K.Sink.written c.args.out.now) _ _ c.loop-text.text.items c.flush.new.text.items inv.hushed c.in_ok-flush.ensures.ok inv.quiet in
    let none = said_hushed c.args.silent c.take.new.text.items c.hush.new.text.items c.hush.ensures in
    let all : g.K.Sink.written c.write_all.new.sink ≡ append (g.K.Sink.written c.flush.new.out) c.hush.new.text.items = c.in_ok-write_all-in-None.ensures.ok ∙ ap (append (g.K.Sink.written c.flush.new.out)) c.deref.ensures.value in
    quiet_so c.args.silent _ _ (quiet_all c.args.silent _ _ _ c.hush.new.text.items none all flushed)

pub returns-in_err-write_all-in-Some-Stops-clause-quiet : goal.returns-in_err-write_all-in-Some-Stops-clause-quiet
returns-in_err-write_all-in-Some-Stops-clause-quiet g c =
    let inv = c.loop-text.invariant in
    let flushed = quiet_flushed c.args.silent (g.K.Sink.written c.args.out.now) _ _ c.loop-text.text.items c.flush.new.text.items inv.hushed c.in_ok-flush.ensures.ok inv.quiet in
    let none = said_hushed c.args.silent c.take.new.text.items c.hush.new.text.items c.hush.ensures in
    let part : AppendsFront (g.K.Sink.written c.flush.new.out) (g.K.Sink.written c.write_all-in-Some-Stops.new.sink) c.hush.new.text.items = rw (sym c.deref-in-Some-Stops.ensures.value) c.in_err-write_all-in-Some-Stops.ensures.err in
    quiet_so c.args.silent _ _ (quiet_front c.args.silent _ _ _ c.hush.new.text.items none part flushed)

pub returns-in-Some-Stops-clause-quiet : goal.returns-in-Some-Stops-clause-quiet
returns-in-Some-Stops-clause-quiet g c =
    let inv = c.loop-text.invariant in
    let flushed = quiet_flushed c.args.silent (g.K.Sink.written c.args.out.now) _ _ c.loop-text.text.items c.flush.new.text.items inv.hushed c.in_ok-flush.ensures.ok inv.quiet in
    let none = said_hushed c.args.silent c.take.new.text.items c.hush.new.text.items c.hush.ensures in
    let all : g.K.Sink.written c.write_all-in-Some-Stops.new.sink ≡ append (g.K.Sink.written c.flush.new.out) c.hush.new.text.items = c.in_ok-write_all-in-Some-Stops.ensures.ok ∙ ap (append (g.K.Sink.written c.flush.new.out)) c.deref-in-Some-Stops.ensures.value in
    quiet_so c.args.silent _ _ (quiet_all c.args.silent _ _ _ c.hush.new.text.items none all flushed)

-- ---- a line that saves

pub returns-in_err-flush_front-in-Some-Saves-clause-front : goal.returns-in_err-flush_front-in-Some-Saves-clause-front
returns-in_err-flush_front-in-Some-Saves-clause-front g c w st =
    let steps = g.T.LineTaker.steps c.args.taker in
    let inv = c.loop-text.invariant in
    let so = inv.so_far.2 w st in
    let now = flushed (g.K.Sink.written c.flush.new.out) c.flush.new.text.items (g.K.Sink.files c.flush.new.out) so.2 c.in_ok-flush.ensures.ok c.flush.ensures.files in
    let answers = rw inv.line_max at c.in-Ok.ensures.line in
    let is : c.in-Some-Saves.field-0 ≡ Saves c.in-Some-Saves.bad c.in-Some-Saves.left = rw c.in-Some-Saves.is at c.in-Some-Saves.field-0-is in
    let does = rw (c.in-Some-Saves.is, is, inv.steps) at (c.in_ok-next.ensures.turn so.0 _ _ so.1 answers) in
    let none = said_flushed c.args.silent _ _ c.loop-text.text.items c.flush.new.text.items inv.hushed c.in_ok-flush.ensures.ok in
    let before = before_saving (g.T.LineTaker.stands c.in_ok-next.next) (steps (state_in so.0 c.loop-text.at) does.0) c.args.silent c.len-before.result c.flush.new.text.items c.take.new.text.items c.hush.new.text.items
    c.in-Some-Saves.bad c.in-Some-Saves.left does.2 none c.hush.ensures (c.len-before.ensures ∙ c.flush.new.text.ok.0) in
    let part : AppendsFront (g.K.Sink.written c.flush.new.out) (g.K.Sink.written c.flush_front.new.out) c.flush.new.text.items = rw before at c.in_err-flush_front-in-Some-Saves.ensures.err in
    told_err (g.S.Source.left c.args.script.now) c.from_residual-in_err-flush_front-in-Some-Saves.result (λ bytes. AppendsFront (g.K.Sink.written c.args.out.now) (g.K.Sink.written c.flush_front.new.out) (heard c.args.silent (run steps (state_in w c.args.at) (lines_of bytes))).bytes)
    (stopped_in (g.S.Source.left c.args.script.now) (g.K.Sink.written c.flush_front.new.out) now part)

pub returns-in_err-flush_front-in-Some-Saves-clause-quiet : goal.returns-in_err-flush_front-in-Some-Saves-clause-quiet
returns-in_err-flush_front-in-Some-Saves-clause-quiet g c =
    let inv = c.loop-text.invariant in
    let flushed = quiet_flushed c.args.silent (g.K.Sink.written c.args.out.now) _ _ c.loop-text.text.items c.flush.new.text.items inv.hushed c.in_ok-flush.ensures.ok inv.quiet in
    let hushed = said_hushed c.args.silent c.take.new.text.items c.hush.new.text.items c.hush.ensures in
    quiet_so c.args.silent _ _ (quiet_front c.args.silent _ _ _ (take c.len-before.result c.hush.new.text.items) (said_front c.args.silent c.len-before.result c.hush.new.text.items hushed) c.in_err-flush_front-in-Some-Saves.ensures.err flushed)

pub returns-in_err-flush_front-in-Some-Saves-clause-taken : goal.returns-in_err-flush_front-in-Some-Saves-clause-taken
returns-in_err-flush_front-in-Some-Saves-clause-taken g c =
    let inv = c.loop-text.invariant in
    let most = rw inv.total_max at c.next_line.ensures.at_most in
    let all = given_since (g.S.Source.given c.args.script.now) c.loop-text.reader.taken c.next_line.new.self.taken _ _ c.next_line.ensures.taken inv.given c.next_line.ensures.together in
    rw (err_of c.from_residual-in_err-flush_front-in-Some-Saves.result WriteFault c.from_residual-in_err-flush_front-in-Some-Saves.ensures.0 c.from_residual-in_err-flush_front-in-Some-Saves.ensures.1) (c.next_line.new.self.taken, all, tt, most)

pub returns-in_err-keep-in-Some-Saves-clause-front : goal.returns-in_err-keep-in-Some-Saves-clause-front
returns-in_err-keep-in-Some-Saves-clause-front g c w st =
    let steps = g.T.LineTaker.steps c.args.taker in
    let inv = c.loop-text.invariant in
    let so = inv.so_far.2 w st in
    let now = flushed (g.K.Sink.written c.flush.new.out) c.flush.new.text.items (g.K.Sink.files c.flush.new.out) so.2 c.in_ok-flush.ensures.ok c.flush.ensures.files in
    let answers = rw inv.line_max at c.in-Ok.ensures.line in
    let is : c.in-Some-Saves.field-0 ≡ Saves c.in-Some-Saves.bad c.in-Some-Saves.left = rw c.in-Some-Saves.is at c.in-Some-Saves.field-0-is in
    let does = rw (c.in-Some-Saves.is, is, inv.steps) at (c.in_ok-next.ensures.turn so.0 _ _ so.1 answers) in
    let none = said_flushed c.args.silent _ _ c.loop-text.text.items c.flush.new.text.items inv.hushed c.in_ok-flush.ensures.ok in
    let before = before_saving (g.T.LineTaker.stands c.in_ok-next.next) (steps (state_in so.0 c.loop-text.at) does.0) c.args.silent c.len-before.result c.flush.new.text.items c.take.new.text.items c.hush.new.text.items
    c.in-Some-Saves.bad c.in-Some-Saves.left does.2 none c.hush.ensures (c.len-before.ensures ∙ c.flush.new.text.ok.0) in
    let all : g.K.Sink.written c.keep.new.out ≡ append (g.K.Sink.written c.flush.new.out) c.flush.new.text.items = c.keep.ensures.written ∙ rw before at c.in_ok-flush_front-in-Some-Saves.ensures.ok in
    told_err (g.S.Source.left c.args.script.now) c.from_residual-in_err-keep-in-Some-Saves.result (λ bytes. AppendsFront (g.K.Sink.written c.args.out.now) (g.K.Sink.written c.keep.new.out) (heard c.args.silent (run steps (state_in w c.args.at) (lines_of bytes))).bytes)
    (stopped (g.S.Source.left c.args.script.now) (flushed (g.K.Sink.written c.keep.new.out) [] (g.K.Sink.files c.flush.new.out) now (all_flushed c.flush.new.text.items _ _ all) refl))

pub returns-in_err-keep-in-Some-Saves-clause-quiet : goal.returns-in_err-keep-in-Some-Saves-clause-quiet
returns-in_err-keep-in-Some-Saves-clause-quiet g c =
    let inv = c.loop-text.invariant in
    let flushed = quiet_flushed c.args.silent (g.K.Sink.written c.args.out.now) _ _ c.loop-text.text.items c.flush.new.text.items inv.hushed c.in_ok-flush.ensures.ok inv.quiet in
    let hushed = said_hushed c.args.silent c.take.new.text.items c.hush.new.text.items c.hush.ensures in
    let all : g.K.Sink.written c.keep.new.out ≡ append (g.K.Sink.written c.flush.new.out) (take c.len-before.result c.hush.new.text.items) = c.keep.ensures.written ∙ c.in_ok-flush_front-in-Some-Saves.ensures.ok in
    quiet_so c.args.silent _ _ (quiet_all c.args.silent _ _ _ (take c.len-before.result c.hush.new.text.items) (said_front c.args.silent c.len-before.result c.hush.new.text.items hushed) all flushed)

pub returns-in_err-keep-in-Some-Saves-clause-taken : goal.returns-in_err-keep-in-Some-Saves-clause-taken
returns-in_err-keep-in-Some-Saves-clause-taken g c =
    let inv = c.loop-text.invariant in
    let most = rw inv.total_max at c.next_line.ensures.at_most in
    let all = given_since (g.S.Source.given c.args.script.now) c.loop-text.reader.taken c.next_line.new.self.taken _ _ c.next_line.ensures.taken inv.given c.next_line.ensures.together in
    let is = err_of c.from_residual-in_err-keep-in-Some-Saves.result (unkept_fault c.in_err-keep-in-Some-Saves.field-0.0) c.from_residual-in_err-keep-in-Some-Saves.ensures.0 c.from_residual-in_err-keep-in-Some-Saves.ensures.1 in
    rw is (c.next_line.new.self.taken, all, takes_unkept c.args.most c.in_err-keep-in-Some-Saves.field-0.0 c.next_line.new.self.taken, most)

-- ---- the images that are put

pub returns-in-None-clause-kept : goal.returns-in-None-clause-kept
returns-in-None-clause-kept g c w st =
    let steps = g.T.LineTaker.steps c.args.taker in
    let inv = c.loop-text.invariant in
    let so = inv.so_far.2 w st in
    let now = flushed (g.K.Sink.written c.flush.new.out) c.flush.new.text.items (g.K.Sink.files c.flush.new.out) so.2 c.in_ok-flush.ensures.ok c.flush.ensures.files in
    let answers = rw inv.line_max at c.in-Ok.ensures.line in
    let ended = rw c.in-None.is at (c.in_ok-next.ensures.turn so.0 _ _ so.1 answers) in
    rw c.write_all.ensures.files (all_put (g.S.Source.left c.args.script.now) now (no_line_saves steps (state_in so.0 c.loop-text.at) (lines_ahead c.loop-text.reader.kept (g.S.Source.left c.loop-text.script)) ended.0))

pub returns-in-Some-Stops-clause-kept : goal.returns-in-Some-Stops-clause-kept
returns-in-Some-Stops-clause-kept g c w st =
    let steps = g.T.LineTaker.steps c.args.taker in
    let inv = c.loop-text.invariant in
    let so = inv.so_far.2 w st in
    let now = flushed (g.K.Sink.written c.flush.new.out) c.flush.new.text.items (g.K.Sink.files c.flush.new.out) so.2 c.in_ok-flush.ensures.ok c.flush.ensures.files in
    let answers = rw inv.line_max at c.in-Ok.ensures.line in
    let is : c.in-Some-Stops.field-0 ≡ Stops = rw c.in-Some-Stops.is at c.in-Some-Stops.field-0-is in
    let turn = rw (c.in-Some-Stops.is, is, inv.steps) at (c.in_ok-next.ensures.turn so.0 _ _ so.1 answers) in
    let gives = c.in-Ok.ensures.gives inv.fault in
    let moved = moves_on _ _ c.in-Ok.line turn.0 c.loop-text.reader.kept gives.0 c.next_line.new.self.kept _ _ _ _ _ _ gives.1 gives.2 turn.1 in
    let none = said_flushed c.args.silent _ _ c.loop-text.text.items c.flush.new.text.items inv.hushed c.in_ok-flush.ensures.ok in
    let there = ends_there c.args.silent steps (state_in so.0 c.loop-text.at) turn.0 c.flush.new.text.items c.take.new.text.items c.hush.new.text.items (g.T.LineTaker.stands c.in_ok-next.next) now turn.1 moved turn.2 none c.hush.ensures in
    rw c.write_all-in-Some-Stops.ensures.files (all_put (g.S.Source.left c.args.script.now) there (no_more_saves (lines_ahead c.next_line.new.self.kept (g.S.Source.left c.next_line.new.source))))

pub returns-in_err-reader-clause-kept_front : goal.returns-in_err-reader-clause-kept_front
returns-in_err-reader-clause-kept_front g c w st =
    let steps = g.T.LineTaker.steps c.args.taker in
    stopped_kept_err (g.S.Source.left c.args.script.now) c.from_residual.result
    (at_start {puts = g.T.LineTaker.puts c.args.taker} {all = heard_run c.args.silent steps (state_in w c.args.at)} (g.S.Source.left c.args.script.now) (g.K.Sink.written c.args.out.now) (g.K.Sink.files c.args.out.now) [] [] refl refl)
    (none_saved steps (state_in w c.args.at))

pub returns-in_err-flush-clause-kept_front : goal.returns-in_err-flush-clause-kept_front
returns-in_err-flush-clause-kept_front g c w st =
    let steps = g.T.LineTaker.steps c.args.taker in
    let so = c.loop-text.invariant.so_far.2 w st in
    stopped_in_kept (g.S.Source.left c.args.script.now) c.from_residual-in_err-flush.result (g.K.Sink.written c.flush.new.out) (g.K.Sink.files c.flush.new.out) so.2 (none_saved steps (state_in so.0 c.loop-text.at)) c.in_err-flush.ensures.err c.flush.ensures.files

pub returns-in-Err-clause-kept_front : goal.returns-in-Err-clause-kept_front
returns-in-Err-clause-kept_front g c w st =
    let steps = g.T.LineTaker.steps c.args.taker in
    let inv = c.loop-text.invariant in
    let so = inv.so_far.2 w st in
    let now = flushed (g.K.Sink.written c.flush.new.out) c.flush.new.text.items (g.K.Sink.files c.flush.new.out) so.2 c.in_ok-flush.ensures.ok c.flush.ensures.files in
    stopped_kept (g.S.Source.left c.args.script.now) now (none_saved steps (state_in so.0 c.loop-text.at))

pub returns-in_err-next-clause-kept_front : goal.returns-in_err-next-clause-kept_front
returns-in_err-next-clause-kept_front g c w st =
    let steps = g.T.LineTaker.steps c.args.taker in
    let inv = c.loop-text.invariant in
    let so = inv.so_far.2 w st in
    let now = flushed (g.K.Sink.written c.flush.new.out) c.flush.new.text.items (g.K.Sink.files c.flush.new.out) so.2 c.in_ok-flush.ensures.ok c.flush.ensures.files in
    stopped_kept_err (g.S.Source.left c.args.script.now) c.from_residual-in_err-next.result now (none_saved steps (state_in so.0 c.loop-text.at))

pub returns-in_err-write_all-in-None-clause-kept_front : goal.returns-in_err-write_all-in-None-clause-kept_front
returns-in_err-write_all-in-None-clause-kept_front g c w st =
    let steps = g.T.LineTaker.steps c.args.taker in
    let inv = c.loop-text.invariant in
    let so = inv.so_far.2 w st in
    let now = flushed (g.K.Sink.written c.flush.new.out) c.flush.new.text.items (g.K.Sink.files c.flush.new.out) so.2 c.in_ok-flush.ensures.ok c.flush.ensures.files in
    let answers = rw inv.line_max at c.in-Ok.ensures.line in
    let ended = rw c.in-None.is at (c.in_ok-next.ensures.turn so.0 _ _ so.1 answers) in
    let none = said_flushed c.args.silent _ _ c.loop-text.text.items c.flush.new.text.items inv.hushed c.in_ok-flush.ensures.ok in
    let stays = said_stays c.args.silent c.flush.new.text.items c.take.new.text.items c.hush.new.text.items none ended.1 c.hush.ensures in
    let part : AppendsFront (g.K.Sink.written c.flush.new.out) (g.K.Sink.written c.write_all.new.sink) c.flush.new.text.items =
    rw (sym stays, sym c.deref.ensures.value) c.in_err-write_all-in-None.ensures.err in
    stopped_in_kept (g.S.Source.left c.args.script.now) c.from_residual-in_err-write_all-in-None.result (g.K.Sink.written c.write_all.new.sink) (g.K.Sink.files c.write_all.new.sink) now (none_saved steps (state_in so.0 c.loop-text.at)) part c.write_all.ensures.files

pub returns-in_err-write_all-in-Some-Stops-clause-kept_front : goal.returns-in_err-write_all-in-Some-Stops-clause-kept_front
returns-in_err-write_all-in-Some-Stops-clause-kept_front g c w st =
    let steps = g.T.LineTaker.steps c.args.taker in
    let inv = c.loop-text.invariant in
    let so = inv.so_far.2 w st in
    let now = flushed (g.K.Sink.written c.flush.new.out) c.flush.new.text.items (g.K.Sink.files c.flush.new.out) so.2 c.in_ok-flush.ensures.ok c.flush.ensures.files in
    let answers = rw inv.line_max at c.in-Ok.ensures.line in
    let is : c.in-Some-Stops.field-0 ≡ Stops = rw c.in-Some-Stops.is at c.in-Some-Stops.field-0-is in
    let turn = rw (c.in-Some-Stops.is, is, inv.steps) at (c.in_ok-next.ensures.turn so.0 _ _ so.1 answers) in
    let gives = c.in-Ok.ensures.gives inv.fault in
    let moved = moves_on _ _ c.in-Ok.line turn.0 c.loop-text.reader.kept gives.0 c.next_line.new.self.kept _ _ _ _ _ _ gives.1 gives.2 turn.1 in
    let none = said_flushed c.args.silent _ _ c.loop-text.text.items c.flush.new.text.items inv.hushed c.in_ok-flush.ensures.ok in
    let there = ends_there c.args.silent steps (state_in so.0 c.loop-text.at) turn.0 c.flush.new.text.items c.take.new.text.items c.hush.new.text.items (g.T.LineTaker.stands c.in_ok-next.next) now turn.1 moved turn.2 none c.hush.ensures in
    let part : AppendsFront (g.K.Sink.written c.flush.new.out) (g.K.Sink.written c.write_all-in-Some-Stops.new.sink) c.hush.new.text.items = rw (sym c.deref-in-Some-Stops.ensures.value) c.in_err-write_all-in-Some-Stops.ensures.err in
    stopped_in_kept (g.S.Source.left c.args.script.now) c.from_residual-in_err-write_all-in-Some-Stops.result (g.K.Sink.written c.write_all-in-Some-Stops.new.sink) (g.K.Sink.files c.write_all-in-Some-Stops.new.sink) there refl part
    c.write_all-in-Some-Stops.ensures.files

pub returns-in_err-flush_front-in-Some-Saves-clause-kept_front : goal.returns-in_err-flush_front-in-Some-Saves-clause-kept_front
returns-in_err-flush_front-in-Some-Saves-clause-kept_front g c w st =
    let steps = g.T.LineTaker.steps c.args.taker in
    let inv = c.loop-text.invariant in
    let so = inv.so_far.2 w st in
    let now = flushed (g.K.Sink.written c.flush.new.out) c.flush.new.text.items (g.K.Sink.files c.flush.new.out) so.2 c.in_ok-flush.ensures.ok c.flush.ensures.files in
    let answers = rw inv.line_max at c.in-Ok.ensures.line in
    let is : c.in-Some-Saves.field-0 ≡ Saves c.in-Some-Saves.bad c.in-Some-Saves.left = rw c.in-Some-Saves.is at c.in-Some-Saves.field-0-is in
    let does = rw (c.in-Some-Saves.is, is, inv.steps) at (c.in_ok-next.ensures.turn so.0 _ _ so.1 answers) in
    let none = said_flushed c.args.silent _ _ c.loop-text.text.items c.flush.new.text.items inv.hushed c.in_ok-flush.ensures.ok in
    let before = before_saving (g.T.LineTaker.stands c.in_ok-next.next) (steps (state_in so.0 c.loop-text.at) does.0) c.args.silent c.len-before.result c.flush.new.text.items c.take.new.text.items c.hush.new.text.items
    c.in-Some-Saves.bad c.in-Some-Saves.left does.2 none c.hush.ensures (c.len-before.ensures ∙ c.flush.new.text.ok.0) in
    let part : AppendsFront (g.K.Sink.written c.flush.new.out) (g.K.Sink.written c.flush_front.new.out) c.flush.new.text.items = rw before at c.in_err-flush_front-in-Some-Saves.ensures.err in
    stopped_in_kept (g.S.Source.left c.args.script.now) c.from_residual-in_err-flush_front-in-Some-Saves.result (g.K.Sink.written c.flush_front.new.out) (g.K.Sink.files c.flush_front.new.out) now (none_saved steps (state_in so.0 c.loop-text.at)) part c.flush_front.ensures.files

-- the files are as they were, or the image of this line is put too
pub returns-in_err-keep-in-Some-Saves-clause-kept_front : goal.returns-in_err-keep-in-Some-Saves-clause-kept_front
returns-in_err-keep-in-Some-Saves-clause-kept_front g c w st =
    let steps = g.T.LineTaker.steps c.args.taker in
    let inv = c.loop-text.invariant in
    let so = inv.so_far.2 w st in
    let now = flushed (g.K.Sink.written c.flush.new.out) c.flush.new.text.items (g.K.Sink.files c.flush.new.out) so.2 c.in_ok-flush.ensures.ok c.flush.ensures.files in
    let answers = rw inv.line_max at c.in-Ok.ensures.line in
    let is : c.in-Some-Saves.field-0 ≡ Saves c.in-Some-Saves.bad c.in-Some-Saves.left = rw c.in-Some-Saves.is at c.in-Some-Saves.field-0-is in
    let does = rw (c.in-Some-Saves.is, is, inv.steps) at (c.in_ok-next.ensures.turn so.0 _ _ so.1 answers) in
    let none = said_flushed c.args.silent _ _ c.loop-text.text.items c.flush.new.text.items inv.hushed c.in_ok-flush.ensures.ok in
    let before = before_saving (g.T.LineTaker.stands c.in_ok-next.next) (steps (state_in so.0 c.loop-text.at) does.0) c.args.silent c.len-before.result c.flush.new.text.items c.take.new.text.items c.hush.new.text.items
    c.in-Some-Saves.bad c.in-Some-Saves.left does.2 none c.hush.ensures (c.len-before.ensures ∙ c.flush.new.text.ok.0) in
    let all : g.K.Sink.written c.keep.new.out ≡ append (g.K.Sink.written c.flush.new.out) c.flush.new.text.items = c.keep.ensures.written ∙ rw before at c.in_ok-flush_front-in-Some-Saves.ensures.ok in
    let puts = g.T.LineTaker.puts c.args.taker in
    let stands = g.T.LineTaker.stands c.in_ok-next.next in
    let files = g.K.Sink.files c.keep.new.out in
    let script = g.S.Source.left c.args.script.now in
    let gives = c.in-Ok.ensures.gives inv.fault in
    let moved = moves_on _ _ c.in-Ok.line does.0 c.loop-text.reader.kept gives.0 c.next_line.new.self.kept _ _ _ _ _ _ gives.1 gives.2 does.1 in
    let it = saves_of stands (steps (state_in so.0 c.loop-text.at) does.0) c.flush.new.text.items c.take.new.text.items c.in-Some-Saves.bad c.in-Some-Saves.left does.2 in
    elim (c.in_err-keep-in-Some-Saves.ensures.failed it.0.world it.3) [
      | inl same ↦ stopped_kept_err script c.from_residual-in_err-keep-in-Some-Saves.result
          (flushed (g.K.Sink.written c.keep.new.out) [] files now (all_flushed c.flush.new.text.items _ _ all) (same ∙ c.flush_front.ensures.files)) (none_saved steps (state_in so.0 c.loop-text.at))
      | inr put ↦
          let put_first = inv.puts _ _ _ ((c.in_ok-next.ensures.puts _ _ _).0 (rw c.flush_front.ensures.files at put)) in
          let turn = saves_at puts steps (state_in so.0 c.loop-text.at) does.0 c.flush.new.text.items c.take.new.text.items stands c.in-Some-Saves.bad c.in-Some-Saves.left c.next-behind.result (g.K.Sink.files c.flush.new.out) files it
          c.next-behind.ensures put_first in
          let further = goes_further c.args.silent steps (state_in so.0 c.loop-text.at) c.next-behind.result does.0 c.flush.new.text.items c.take.new.text.items c.hush.new.text.items stands files now does.1 moved turn none c.hush.ensures in
          let front = front_flushed c.len-before.result c.hush.new.text.items (g.K.Sink.written c.flush.new.out) (g.K.Sink.written c.keep.new.out) c.flush_front.new.text.items
          (c.keep.ensures.written ∙ c.in_ok-flush_front-in-Some-Saves.ensures.ok) c.in_ok-flush_front-in-Some-Saves.ensures.rest in
          stopped_kept_err script c.from_residual-in_err-keep-in-Some-Saves.result (flushed (g.K.Sink.written c.keep.new.out) c.flush_front.new.text.items files further front refl)
          (none_saved steps (state_in turn.done.world c.next-behind.result))
    ]

pub returns-in_err-keep-in-Some-Saves-clause-refused : goal.returns-in_err-keep-in-Some-Saves-clause-refused
returns-in_err-keep-in-Some-Saves-clause-refused g c w st why told =
    let steps = g.T.LineTaker.steps c.args.taker in
    let inv = c.loop-text.invariant in
    let so = inv.so_far.2 w st in
    let now = flushed (g.K.Sink.written c.flush.new.out) c.flush.new.text.items (g.K.Sink.files c.flush.new.out) so.2 c.in_ok-flush.ensures.ok c.flush.ensures.files in
    let answers = rw inv.line_max at c.in-Ok.ensures.line in
    let is : c.in-Some-Saves.field-0 ≡ Saves c.in-Some-Saves.bad c.in-Some-Saves.left = rw c.in-Some-Saves.is at c.in-Some-Saves.field-0-is in
    let does = rw (c.in-Some-Saves.is, is, inv.steps) at (c.in_ok-next.ensures.turn so.0 _ _ so.1 answers) in
    let none = said_flushed c.args.silent _ _ c.loop-text.text.items c.flush.new.text.items inv.hushed c.in_ok-flush.ensures.ok in
    let before = before_saving (g.T.LineTaker.stands c.in_ok-next.next) (steps (state_in so.0 c.loop-text.at) does.0) c.args.silent c.len-before.result c.flush.new.text.items c.take.new.text.items c.hush.new.text.items
    c.in-Some-Saves.bad c.in-Some-Saves.left does.2 none c.hush.ensures (c.len-before.ensures ∙ c.flush.new.text.ok.0) in
    let all : g.K.Sink.written c.keep.new.out ≡ append (g.K.Sink.written c.flush.new.out) c.flush.new.text.items = c.keep.ensures.written ∙ rw before at c.in_ok-flush_front-in-Some-Saves.ensures.ok in
    let stands = g.T.LineTaker.stands c.in_ok-next.next in
    let it = saves_of stands (steps (state_in so.0 c.loop-text.at) does.0) c.flush.new.text.items c.take.new.text.items c.in-Some-Saves.bad c.in-Some-Saves.left does.2 in
    let found = err_of c.from_residual-in_err-keep-in-Some-Saves.result (unkept_fault c.in_err-keep-in-Some-Saves.field-0.0) c.from_residual-in_err-keep-in-Some-Saves.ensures.0 c.from_residual-in_err-keep-in-Some-Saves.ensures.1 in
    let fault = c.in_err-keep-in-Some-Saves.was ∙ ap (λ (z : KeepFault). Err z) (refused_so c.in_err-keep-in-Some-Saves.field-0.0 why (sym found ∙ told)) in
    let same = c.keep.ensures.refused_files why fault ∙ c.flush_front.ensures.files in
    let behind = behind_is (state_in so.0 c.loop-text.at) it.0 c.in-Some-Saves.bad c.in-Some-Saves.left c.next-behind.result it.4 it.5 c.next-behind.ensures in
    let refused = inv.refuses _ why ((c.in_ok-next.ensures.refuses _ why).0 (c.keep.ensures.refused why fault it.0.world it.3)) in
    refused_there (g.S.Source.left c.args.script.now) c.args.silent steps (state_in so.0 c.loop-text.at) does.0 _ it.0 (g.T.LineTaker.refuses c.args.taker) why
    (flushed (g.K.Sink.written c.keep.new.out) [] (g.K.Sink.files c.keep.new.out) now (all_flushed c.flush.new.text.items _ _ all) same) does.1 it.1 (rw behind refused)
