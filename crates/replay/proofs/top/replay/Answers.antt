use Rattle.replay.proofs.{Common.{Option, subst, sym, arith, Asked, wanted_by, IsUnread}, GoingOn.{goes_on, refused_on}, Programs.{wants_runnable}}
use Rattle.replay.proofs.{Taken.{taken_again}, Calls.{wanted_is, written_told, long_told, stopped_told, refusal_told, written_no_script, written_no_file}}
use Rattle.replay.{proofs.Calls.{completes, completes_unread, completes_load}, specs.{Report.{IsPrompt}, Wanted.{Wanted}}}
use Rattle.command_words.specs.Asked.{asked_by}
use Rattle.replay.proofs.top.replay.Goals as goal

pub returns-in-Ok-clause-exact : goal.returns-in-Ok-clause-exact
returns-in-Ok-clause-exact g c files bytes told tells low =
    let run = rw c.in-Ok.ensures.asks at c.do_asked.ensures.run in
    rw (wanted_is c.args.words.now files) ((written_told run files bytes told tells).exact low)

pub returns-in-Ok-clause-checkpoint : goal.returns-in-Ok-clause-checkpoint
returns-in-Ok-clause-checkpoint g c files bytes told tells nine =
    let run = rw c.in-Ok.ensures.asks at c.do_asked.ensures.run in
    rw (wanted_is c.args.words.now files) ((written_told run files bytes told tells).refused nine)

pub returns-in-Ok-clause-front : goal.returns-in-Ok-clause-front
returns-in-Ok-clause-front g c files bytes told tells high =
    let run = rw c.in-Ok.ensures.asks at c.do_asked.ensures.run in
    rw (wanted_is c.args.words.now files) ((written_told run files bytes told tells).front high)

pub returns-in-Ok-clause-long : goal.returns-in-Ok-clause-long
returns-in-Ok-clause-long g c files bytes told tells eight =
    let run = rw c.in-Ok.ensures.asks at c.do_asked.ensures.run in
    rw (wanted_is c.args.words.now files) (long_told run files bytes told tells eight)

pub returns-in-Ok-clause-stopped : goal.returns-in-Ok-clause-stopped
returns-in-Ok-clause-stopped g c files bytes told tells stop =
    let run = rw c.in-Ok.ensures.asks at c.do_asked.ensures.run in
    rw (wanted_is c.args.words.now files) (stopped_told run files bytes told tells stop)

pub returns-in-Ok-clause-no_script : goal.returns-in-Ok-clause-no_script
returns-in-Ok-clause-no_script g c files bytes told none =
    let run = rw c.in-Ok.ensures.asks at c.do_asked.ensures.run in
    rw (wanted_is c.args.words.now files) (written_no_script run files bytes told none)

pub returns-in-Ok-clause-load : goal.returns-in-Ok-clause-load
returns-in-Ok-clause-load g c files bytes none =
    let run = rw c.in-Ok.ensures.asks at c.do_asked.ensures.run in
    rw (wanted_is c.args.words.now files) (written_no_file run files bytes none)

pub returns-in-Ok-clause-usage : goal.returns-in-Ok-clause-usage
returns-in-Ok-clause-usage g c =
    let run = rw c.in-Ok.ensures.asks at c.do_asked.ensures.run in
    run.said_usage

pub returns-in-Ok-clause-refusal : goal.returns-in-Ok-clause-refusal
returns-in-Ok-clause-refusal g c files told three =
    let run = rw c.in-Ok.ensures.asks at c.do_asked.ensures.run in
    rw (wanted_is c.args.words.now files) (refusal_told run files told three)

pub returns-in-Ok-clause-completes : goal.returns-in-Ok-clause-completes
returns-in-Ok-clause-completes g c bytes tells short shelf read write =
    let run = rw c.in-Ok.ensures.asks at c.do_asked.ensures.run in
    completes run bytes tells short shelf read write

pub returns-in-Ok-clause-no_script_completes : goal.returns-in-Ok-clause-no_script_completes
returns-in-Ok-clause-no_script_completes g c none shelf write =
    let run = rw c.in-Ok.ensures.asks at c.do_asked.ensures.run in
    completes_unread run none shelf write

pub returns-in-Ok-clause-load_completes : goal.returns-in-Ok-clause-load_completes
returns-in-Ok-clause-load_completes g c none write =
    let run = rw c.in-Ok.ensures.asks at c.do_asked.ensures.run in
    completes_load run none write

pub returns-in-Ok-clause-file : goal.returns-in-Ok-clause-file
returns-in-Ok-clause-file g c =
    let run = rw c.in-Ok.ensures.asks at c.do_asked.ensures.run in
    run.file

pub returns-in-Ok-clause-read : goal.returns-in-Ok-clause-read
returns-in-Ok-clause-read g c =
    let run = rw c.in-Ok.ensures.asks at c.do_asked.ensures.run in
    run.read

pub returns-in-Ok-clause-refused_checkpoint : goal.returns-in-Ok-clause-refused_checkpoint
returns-in-Ok-clause-refused_checkpoint g c =
    let run = rw c.in-Ok.ensures.asks at c.do_asked.ensures.run in
    run.checkpoint

pub returns-in-Ok-clause-write : goal.returns-in-Ok-clause-write
returns-in-Ok-clause-write g c =
    let run = rw c.in-Ok.ensures.asks at c.do_asked.ensures.run in
    run.write

pub returns-in-Ok-clause-taken : goal.returns-in-Ok-clause-taken
returns-in-Ok-clause-taken g c =
    let run = rw c.in-Ok.ensures.asks at c.do_asked.ensures.run in
    run.taken

pub returns-in-Ok-clause-nothing_left : goal.returns-in-Ok-clause-nothing_left
returns-in-Ok-clause-nothing_left g c =
    let run = rw c.in-Ok.ensures.asks at c.do_asked.ensures.run in
    run.nothing_left

pub returns-in-Ok-clause-goes_on : goal.returns-in-Ok-clause-goes_on
returns-in-Ok-clause-goes_on g c keep files first second told tells low =
    let run = rw c.in-Ok.ensures.asks at c.do_asked.ensures.run in
    let written = (written_told run files second told tells).exact low in
    rw (wanted_is c.args.words.now files)
    (goes_on g.E.Engine.gives g.E.Engine.fires g.E.Engine.counts keep _ first second _ _ _ written.0 (wants_runnable (asked_by c.args.words.now) files) written.1 written.2 low)

pub returns-in-Ok-clause-refused_on : goal.returns-in-Ok-clause-refused_on
returns-in-Ok-clause-refused_on g c keep files first second told tells nine =
    let run = rw c.in-Ok.ensures.asks at c.do_asked.ensures.run in
    let written = (written_told run files second told tells).refused nine in
    rw (wanted_is c.args.words.now files)
    (refused_on g.E.Engine.gives g.E.Engine.fires g.E.Engine.counts keep _ first second _ _ _ written.0 (wants_runnable (asked_by c.args.words.now) files) written.1 written.2)

pub returns-in-Ok-clause-taken_again : goal.returns-in-Ok-clause-taken_again
returns-in-Ok-clause-taken_again g c keep files first second told tells low =
    let run = rw c.in-Ok.ensures.asks at c.do_asked.ensures.run in
    let written = (written_told run files second told tells).exact (omega (arith, low)) in
    rw (wanted_is c.args.words.now files)
    (taken_again g.E.Engine.gives g.E.Engine.fires g.E.Engine.counts keep _ first second _ _ _ written.0 (wants_runnable (asked_by c.args.words.now) files) written.1 written.2 low)

pub returns-in-Ok-clause-unread : goal.returns-in-Ok-clause-unread
returns-in-Ok-clause-unread g c files told refused =
    c.do_asked.ensures.unread files told
    (subst (λ (asked : Option Asked). IsUnread (wanted_by asked files)) (sym c.in-Ok.ensures.asks) (subst IsUnread (wanted_is c.args.words.now files) refused))

pub do_asked-requires-clause-prompt : goal.do_asked-requires-clause-prompt
do_asked-requires-clause-prompt g c bytes now h =
    let told_then = λ (w : Wanted). IsPrompt g.E.Engine.gives g.E.Engine.fires g.E.Engine.counts w bytes (g.K.Sink.written c.args.out.now) (g.K.Sink.written now) in
    c.requires.prompt bytes now (λ files told. subst told_then (sym (wanted_is c.args.words.now files)) (subst (λ (asked : Option Asked). told_then (wanted_by asked files)) c.in-Ok.ensures.asks (h files told)))
