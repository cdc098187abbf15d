use Rattle.{std.proofs.Common.{◌∙◌, Err, ap, inl, inr, sym, subst, arith}, replay.specs.Checkpoints.{checkpoint_text}, desk.specs.Meanings.{both}}
use Rattle.desk.{specs.{Report.{IsPrompt, IsServed, IsStopped}, Wanted.{Wanted}}, proofs.{Said.{rose_behind, said, unasked, unbegun, unruled}, Wanting.{begun}}}
use Rattle.desk.proofs.Wanting.{has_rules, image_refused, later_refused, refused_wanted}
use Rattle.desk.proofs.serving.serve.Goals as goal

pub returns-in-Err-clause-served : goal.returns-in-Err-clause-served
returns-in-Err-clause-served g c files bytes told script =
    unruled _ _ bytes _ _ _ _ c.refuse_rules.result c.in-Err.fault
    (λ refusal is. refused_wanted c.args.asked files refusal (rw c.as_str.ensures at (c.in-Err.ensures.refused refusal (ap Err is) files told)))
    c.refuse_rules.ensures.refused c.refuse_rules.ensures.silent

pub returns-in-Err-later_rules-clause-served : goal.returns-in-Err-later_rules-clause-served
returns-in-Err-later_rules-clause-served g c files bytes told script =
    let rules = c.in-Ok.rules in
    let has = has_rules c.args.asked files rules (rw (c.as_str.ensures, told) at c.in-Ok.ensures.found)
    (rw c.as_str.ensures at (c.in-Ok.ensures.accepted files told)) in
    unruled _ _ bytes _ _ _ _ c.refuse_rules-in-Err-later_rules.result c.in-Err-later_rules.fault
    (λ refusal is. later_refused c.args.asked files rules has refusal (c.in-Err-later_rules.ensures.refused refusal (ap Err is) files (c.in-Ok.ensures.files ∙ told)))
    c.refuse_rules-in-Err-later_rules.ensures.refused c.refuse_rules-in-Err-later_rules.ensures.silent

pub returns-in-Err-Refused-clause-served : goal.returns-in-Err-Refused-clause-served
returns-in-Err-Refused-clause-served g c files bytes told script =
    let rules = c.in-Ok.rules in
    let has = has_rules c.args.asked files rules (rw (c.as_str.ensures, told) at c.in-Ok.ensures.found)
    (rw c.as_str.ensures at (c.in-Ok.ensures.accepted files told)) in
    let before_later = c.in-Ok.ensures.files ∙ told in
    let later = c.in-Ok-later_rules.later in
    let comes = c.in-Ok-later_rules.ensures.later files before_later in
    let before_start = c.in-Ok-later_rules.ensures.files ∙ before_later in
    let code = c.in-Err-Refused.code in
    let start = rw (c.in-Err-Refused.field-0-is, c.lent.ensures) at (c.in-Err-Refused.ensures.refused files before_start) in
    subst (λ (w : Wanted). IsServed (both g.E.Engine.gives g.E.Engine.fires g.E.Engine.counts g.D.Engine.gives g.D.Engine.fires g.D.Engine.counts) w bytes (g.K.Sink.written c.args.out.now) (g.K.Sink.written c.refuse_checkpoint.new.out)
    (g.K.Sink.files c.args.out.now) (g.K.Sink.files c.refuse_checkpoint.new.out) c.refuse_checkpoint.result)
    (sym (image_refused c.args.asked files rules has later code comes start))
    (said (checkpoint_text code) 9 _ _ _ _ c.refuse_checkpoint.result c.refuse_checkpoint.ensures.files c.refuse_checkpoint.ensures.said
    c.refuse_checkpoint.ensures.front c.refuse_checkpoint.ensures.answers)

pub returns-in-Err-ReadFault-clause-served : goal.returns-in-Err-ReadFault-clause-served
returns-in-Err-ReadFault-clause-served g c files bytes told script = unbegun _ _ bytes _ _ 5 (omega arith) (omega arith)

pub returns-in-Err-NoMemory-clause-served : goal.returns-in-Err-NoMemory-clause-served
returns-in-Err-NoMemory-clause-served g c files bytes told script = unbegun _ _ bytes _ _ 7 (omega arith) (omega arith)

pub run_from-requires-clause-prompt : goal.run_from-requires-clause-prompt
run_from-requires-clause-prompt g c bytes now h = c.requires.prompt bytes now (λ files told.
    let rules = c.in-Ok.rules in
    let has = has_rules c.args.asked files rules (rw (c.as_str.ensures, told) at c.in-Ok.ensures.found)
    (rw c.as_str.ensures at (c.in-Ok.ensures.accepted files told)) in
    let before_later = c.in-Ok.ensures.files ∙ told in
    let later = c.in-Ok-later_rules.later in
    let comes = c.in-Ok-later_rules.ensures.later files before_later in
    let before_start = c.in-Ok-later_rules.ensures.files ∙ before_later in
    let from = c.in-Ok-find_start.start in
    let is = begun c.args.asked files rules has later from c.for_answers.result comes
    (rw c.lent.ensures at (c.in-Ok-find_start.ensures.found files before_start)) c.in-Ok-find_start.ensures.text c.for_answers.ensures in
    subst (λ (w : Wanted). IsPrompt (both g.E.Engine.gives g.E.Engine.fires g.E.Engine.counts g.D.Engine.gives g.D.Engine.fires g.D.Engine.counts) w bytes (g.K.Sink.written c.args.out.now) (g.K.Sink.written now)
    (g.K.Sink.files c.args.out.now) (g.K.Sink.files now)) (sym is) h)

pub returns-clause-served : goal.returns-clause-served
returns-clause-served g c files bytes told script =
    let rules = c.in-Ok.rules in
    let has = has_rules c.args.asked files rules (rw (c.as_str.ensures, told) at c.in-Ok.ensures.found)
    (rw c.as_str.ensures at (c.in-Ok.ensures.accepted files told)) in
    let before_later = c.in-Ok.ensures.files ∙ told in
    let later = c.in-Ok-later_rules.later in
    let comes = c.in-Ok-later_rules.ensures.later files before_later in
    let before_start = c.in-Ok-later_rules.ensures.files ∙ before_later in
    let from = c.in-Ok-find_start.start in
    let is = begun c.args.asked files rules has later from c.for_answers.result comes
    (rw c.lent.ensures at (c.in-Ok-find_start.ensures.found files before_start)) c.in-Ok-find_start.ensures.text c.for_answers.ensures in
    subst (λ (w : Wanted). IsServed (both g.E.Engine.gives g.E.Engine.fires g.E.Engine.counts g.D.Engine.gives g.D.Engine.fires g.D.Engine.counts) w bytes (g.K.Sink.written c.args.out.now) (g.K.Sink.written c.run_from.new.out)
    (g.K.Sink.files c.args.out.now) (g.K.Sink.files c.run_from.new.out) c.run_from.result) (sym is) (rw script at c.run_from.ensures.served)

pub returns-clause-stopped : goal.returns-clause-stopped
returns-clause-stopped g c files bytes told script five =
    let rules = c.in-Ok.rules in
    let has = has_rules c.args.asked files rules (rw (c.as_str.ensures, told) at c.in-Ok.ensures.found)
    (rw c.as_str.ensures at (c.in-Ok.ensures.accepted files told)) in
    let before_later = c.in-Ok.ensures.files ∙ told in
    let later = c.in-Ok-later_rules.later in
    let comes = c.in-Ok-later_rules.ensures.later files before_later in
    let before_start = c.in-Ok-later_rules.ensures.files ∙ before_later in
    let from = c.in-Ok-find_start.start in
    let is = begun c.args.asked files rules has later from c.for_answers.result comes
    (rw c.lent.ensures at (c.in-Ok-find_start.ensures.found files before_start)) c.in-Ok-find_start.ensures.text c.for_answers.ensures in
    subst (λ (w : Wanted). IsStopped (both g.E.Engine.gives g.E.Engine.fires g.E.Engine.counts g.D.Engine.gives g.D.Engine.fires g.D.Engine.counts) w bytes (g.S.Source.left c.run_from.new.script) (g.K.Sink.written c.args.out.now)
    (g.K.Sink.written c.run_from.new.out) (g.K.Sink.files c.args.out.now) (g.K.Sink.files c.run_from.new.out)) (sym is)
    (rw script at (c.run_from.ensures.stopped five))

-- a read failed before the run began
pub returns-in-Err-clause-stopped : goal.returns-in-Err-clause-stopped
returns-in-Err-clause-stopped g c files bytes told script five =
    let q = c.refuse_rules.ensures.read five in rw (q.1, q.2) (unasked _ _ bytes _ _ _ script)

pub returns-in-Err-later_rules-clause-stopped : goal.returns-in-Err-later_rules-clause-stopped
returns-in-Err-later_rules-clause-stopped g c files bytes told script five =
    let q = c.refuse_rules-in-Err-later_rules.ensures.read five in rw (q.1, q.2) (unasked _ _ bytes _ _ _ script)

pub returns-in-Err-ReadFault-clause-stopped : goal.returns-in-Err-ReadFault-clause-stopped
returns-in-Err-ReadFault-clause-stopped g c files bytes told script five = unasked _ _ bytes _ _ _ script

pub returns-in-Err-ReadFault-clause-read : goal.returns-in-Err-ReadFault-clause-read
returns-in-Err-ReadFault-clause-read g c five =
    let failed = rw c.lent.ensures at (c.in-Err-ReadFault.ensures.failed (ap Err c.in-Err-ReadFault.field-0-is)) in
    inr (inr (inl (failed.0, failed.1, rose_behind _ _ _ _ (c.in-Ok.ensures.counts failed.0) (c.in-Ok-later_rules.ensures.counts failed.0) failed.2)))
