use Rattle.line_run.proofs.Common.{◌≡◌, ◌≤◌, ◌+◌, ℕ, List, None, append, prepend, count_after, total_told, to_come, World, RunState, Files, state_in}
use Rattle.line_run.{specs.{declared.fault.ImageFault.{ImageFault}, Prompt.{said}}, proofs.{Ahead.{SoFar, heard_run}, Asking.{Asks, IsQuiet}}}
use Rattle.line_run.proofs.running.run_lines.Given as goal

-- the front was written, and behind it comes what is gathered; from each world that the first engine stands for, that is what the lines done
-- so far print, their images were put, and the engine stands for their world; the source may be asked where all of it is written
abbrev pub invariant-loop-text : goal.invariant-loop-text
invariant-loop-text g l =
    let stands = g.T.LineTaker.stands in
    let left = g.S.Source.left in
    let written = g.K.Sink.written in
    let files = g.K.Sink.files in
    let puts = g.T.LineTaker.puts in
    let refuses = g.T.LineTaker.refuses in
    let steps = g.T.LineTaker.steps l.fn.taker in
    record {
      so_far : (front : List ℕ) × (written l.out ≡ append (written l.fn.out) front) × ((w : World) → stands l.fn.taker w
          → (v : World) × stands l.taker v × SoFar (puts l.fn.taker) (heard_run l.fn.silent steps (state_in w l.fn.at)) (heard_run l.fn.silent steps (state_in v l.at)) (left l.fn.script) (prepend l.reader.kept (left l.script)) (written l.fn.out) (written l.out) (files l.fn.out) (files l.out) front l.text.items);
      asks : Asks l.fn.silent steps (puts l.fn.taker) (stands l.fn.taker) (stands l.taker) l.at written files (written l.fn.out) (written l.out) (files l.out) l.text.items l.reader.kept (g.S.Source.may_ask l.script);
      hushed : l.text.items ≡ said l.fn.silent l.text.items;
      quiet : IsQuiet l.fn.silent (written l.fn.out) (written l.out);
      program : g.T.LineTaker.program l.taker ≡ g.T.LineTaker.program l.fn.taker;
      table : g.T.LineTaker.table l.taker ≡ g.T.LineTaker.table l.fn.taker;
      steps : g.T.LineTaker.steps l.taker ≡ g.T.LineTaker.steps l.fn.taker;
      puts : (s : RunState) (before after : Files) → puts l.taker s before after → puts l.fn.taker s before after;
      refuses : (s : RunState) (why : ImageFault) → refuses l.taker s why → refuses l.fn.taker s why;
      ready : g.T.LineTaker.ready l.taker l.at (to_come l.fn.most l.reader.taken l.reader.kept);
      total : total_told 0 (left l.fn.script) ≡ total_told l.reader.taken (left l.script);
      given : g.S.Source.given l.script ≡ count_after (g.S.Source.given l.fn.script) l.reader.taken;
      line_max : l.reader.line_max ≡ 65536;
      total_max : l.reader.total_max ≡ l.fn.most;
      fault : l.reader.fault ≡ None;
      few : l.at.lines + to_come l.fn.most l.reader.taken l.reader.kept ≤ l.fn.at.lines + (l.fn.most + 1);
      script_counts : g.S.Source.faults l.fn.script ≤ g.S.Source.faults l.script;
      out_counts : g.K.Sink.faults l.fn.out ≤ g.K.Sink.faults l.out;
    }

abbrev pub decreases-loop-text : goal.decreases-loop-text
decreases-loop-text g l = to_come l.fn.most l.reader.taken l.reader.kept
