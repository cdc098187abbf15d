use Rattle.replay.proofs.Common.{◌≡◌, Some, Err, sym, subst, ap, ◌∙◌, inl, inr, refl, option_map, arith, RuleFile, Accepted, Refused, seen_of_shelf}
use Rattle.replay.proofs.Common.{wanted_told, reading, refuses, refuses_checkpoint, wanted_rules, wanted_at, wanted_from, wanted_by_name, IsUnread}
use Rattle.replay.proofs.{Calls.{by_told, told_is, refused_done, refuses_since, rose_since, checkpoint_done, nothing_done, not_refused}, Reports.{no_file}}
use Rattle.replay.{proofs.{Reports.{a_file, accepted_file, refused_file, shown_enough}, ImagesRead.{unread_at}}, specs.{Report.{IsPrompt}, Wanted.{Wanted}}}
use Rattle.drl_parse.specs.Parsed.{file_limit}
use Rattle.replay.proofs.top.answer.Goals as goal

pub returns-in-Err-Missing-clause-run : goal.returns-in-Err-Missing-clause-run
returns-in-Err-Missing-clause-run g c =
    let gone = c.in-Err-Missing.ensures.missing (ap Err c.in-Err-Missing.field-0-is) in
    let miss = c.in-Err-Missing.ensures.miss (ap Err c.in-Err-Missing.field-0-is) in
    let image = option_map (λ it. it.now) c.args.image in
    by_told (wanted_told (Some (RuleFile c.args.name.now c.args.plan.mode c.args.plan.limit image)) (g.F.Shelf.files c.args.shelf.now)) (refuses c.whole_file.result)
    (refused_done g.E.Engine.gives g.E.Engine.fires g.E.Engine.counts c.args.name.now c.args.plan.mode c.args.plan.limit image c.whole_file.result _ _ _ _ _ _ _ _ _ _ c.refuse.ensures.said c.refuse.ensures.front c.refuse.ensures.answers c.refuse.ensures.cause
    (λ three. inl miss))
    (told_is (g.F.Shelf.files c.args.shelf.now) (λ files. wanted_by_name (wanted_from c.args.plan.mode c.args.plan.limit image files (wanted_rules (files c.args.name.now))) files c.args.name.now) (refuses c.whole_file.result)
    (λ files told. no_file (wanted_from c.args.plan.mode c.args.plan.limit image files (wanted_rules (files c.args.name.now))) c.args.name.now _ files told gone ∙ ap refuses (sym c.whole_file.ensures)))

pub returns-in-Err-ReadFault-clause-run : goal.returns-in-Err-ReadFault-clause-run
returns-in-Err-ReadFault-clause-run g c =
    let cause = c.in-Err-ReadFault.ensures.cause (ap Err c.in-Err-ReadFault.field-0-is) in
    nothing_done g.E.Engine.gives g.E.Engine.fires g.E.Engine.counts _ _ _ _ _ _ _ _ _ 5 (inr (omega arith, omega arith)) (inr (refl, _, refl, inl cause))

pub returns-in-Err-NoMemory-clause-run : goal.returns-in-Err-NoMemory-clause-run
returns-in-Err-NoMemory-clause-run g c = nothing_done g.E.Engine.gives g.E.Engine.fires g.E.Engine.counts _ _ _ _ _ _ _ _ _ 7 (inr (omega arith, omega arith)) (inl refl)

pub returns-in-Refused-clause-run : goal.returns-in-Refused-clause-run
unfolding file_limit
returns-in-Refused-clause-run g c =
    let image = option_map (λ it. it.now) c.args.image in
    let is : reading c.in-Ok.file.items ≡ Refused c.in-Refused.refusal = ap reading (sym c.deref.ensures.value) ∙ sym c.in-Ok-read_rules.ensures.reading ∙ c.in-Refused.is in
    by_told (wanted_told (Some (RuleFile c.args.name.now c.args.plan.mode c.args.plan.limit image)) (g.F.Shelf.files c.args.shelf.now)) (refuses c.in-Refused.refusal)
    (refused_done g.E.Engine.gives g.E.Engine.fires g.E.Engine.counts c.args.name.now c.args.plan.mode c.args.plan.limit image c.in-Refused.refusal _ _ _ _ _ _ _ _ _ _ c.refuse-in-Refused.ensures.said c.refuse-in-Refused.ensures.front c.refuse-in-Refused.ensures.answers c.refuse-in-Refused.ensures.cause
    (λ three. inr (refused_file c.args.name.now _ c.in-Ok.file.items c.in-Refused.refusal c.in-Ok.ensures.found c.in-Ok.ensures.bytes is)))
    (told_is (g.F.Shelf.files c.args.shelf.now) (λ files. wanted_by_name (wanted_from c.args.plan.mode c.args.plan.limit image files (wanted_rules (files c.args.name.now))) files c.args.name.now) (refuses c.in-Refused.refusal)
    (λ files told. a_file (wanted_from c.args.plan.mode c.args.plan.limit image files (wanted_rules (files c.args.name.now))) c.args.name.now _ files c.in-Ok.file.items (Refused c.in-Refused.refusal) told c.in-Ok.ensures.found c.in-Ok.ensures.bytes is))

pub returns-in-Ok-beginning-clause-run : goal.returns-in-Ok-beginning-clause-run
unfolding file_limit
returns-in-Ok-beginning-clause-run g c =
    let image = option_map (λ it. it.now) c.args.image in
    let mode = c.args.plan.mode in
    let limit = c.args.plan.limit in
    let p = c.in-Accepted.program in
    let bytes = c.in-Ok.file.items in
    let same = c.read_whole.ensures.files in
    let is : reading bytes ≡ Accepted p = ap reading (sym c.deref.ensures.value) ∙ sym c.in-Ok-read_rules.ensures.reading ∙ c.in-Accepted.is in
    by_told (wanted_told (Some (RuleFile c.args.name.now mode limit image)) (g.F.Shelf.files c.args.shelf.now)) (wanted_at mode limit c.in-Ok-beginning.beginning p)
    (c.do_mode.ensures.run c.args.name.now image (seen_of_shelf (g.F.Shelf.files c.args.shelf.now) (g.F.Shelf.faults c.args.shelf.now) (g.F.Shelf.misses c.args.shelf.now)) _
    (rw same at c.in-Ok-beginning.ensures.asked))
    (told_is (g.F.Shelf.files c.args.shelf.now) (λ files. wanted_by_name (wanted_from mode limit image files (wanted_rules (files c.args.name.now))) files c.args.name.now) (wanted_at mode limit c.in-Ok-beginning.beginning p)
    (λ files told. accepted_file mode limit image c.args.name.now _ files bytes p told c.in-Ok.ensures.found c.in-Ok.ensures.bytes is
    ∙ shown_enough mode limit image files bytes _ c.in-Ok-read_rules.read.1.items c.in-Ok-read_rules.read.0 p _ c.shows_rules-shows.ensures c.in-Accepted.is
    c.in-Ok-read_rules.ensures.text c.deref.ensures.value ∙ c.in-Ok-beginning.ensures.found files (same ∙ told) limit p))

pub returns-in-Err-Refused-clause-run : goal.returns-in-Err-Refused-clause-run
unfolding file_limit
returns-in-Err-Refused-clause-run g c =
    let image = option_map (λ it. it.now) c.args.image in
    let mode = c.args.plan.mode in
    let limit = c.args.plan.limit in
    let p = c.in-Accepted.program in
    let bytes = c.in-Ok.file.items in
    let same = c.read_whole.ensures.files in
    let code = c.in-Err-Refused.code in
    let is_code = ap Err c.in-Err-Refused.field-0-is in
    let said = rw c.in-Err-Refused.field-0-is at c.refuse_checkpoint.ensures.said in
    let front = rw c.in-Err-Refused.field-0-is at c.refuse_checkpoint.ensures.front in
    let is : reading bytes ≡ Accepted p = ap reading (sym c.deref.ensures.value) ∙ sym c.in-Ok-read_rules.ensures.reading ∙ c.in-Accepted.is in
    by_told (wanted_told (Some (RuleFile c.args.name.now mode limit image)) (g.F.Shelf.files c.args.shelf.now)) (refuses_checkpoint code)
    (checkpoint_done g.E.Engine.gives g.E.Engine.fires g.E.Engine.counts c.args.name.now mode limit image (refuses_checkpoint code) code _ _ _ _ _ _ _ _ _ _ (λ script. refl)
    said front c.refuse_checkpoint.ensures.answers c.refuse_checkpoint.ensures.cause
    (inr (refuses_since same c.read_whole.ensures.miss_counts (c.in-Err-Refused.ensures.cause code is_code))))
    (told_is (g.F.Shelf.files c.args.shelf.now) (λ files. wanted_by_name (wanted_from mode limit image files (wanted_rules (files c.args.name.now))) files c.args.name.now) (refuses_checkpoint code)
    (λ files told. accepted_file mode limit image c.args.name.now _ files bytes p told c.in-Ok.ensures.found c.in-Ok.ensures.bytes is
    ∙ shown_enough mode limit image files bytes _ c.in-Ok-read_rules.read.1.items c.in-Ok-read_rules.read.0 p _ c.shows_rules-shows.ensures c.in-Accepted.is
    c.in-Ok-read_rules.ensures.text c.deref.ensures.value ∙ c.in-Err-Refused.ensures.refused code is_code files (same ∙ told) limit p))

pub returns-in-Err-ReadFault-beginning-clause-run : goal.returns-in-Err-ReadFault-beginning-clause-run
returns-in-Err-ReadFault-beginning-clause-run g c =
    let failed = c.in-Err-ReadFault-beginning.ensures.failed (ap Err c.in-Err-ReadFault-beginning.field-0-is) in
    nothing_done g.E.Engine.gives g.E.Engine.fires g.E.Engine.counts _ _ _ _ _ _ _ _ _ 5 (inr (omega arith, omega arith))
    (inr (refl, _, refl, inr (inl (failed.0, failed.1, rose_since (c.read_whole.ensures.counts failed.0) failed.2))))

pub returns-in-Err-clause-run : goal.returns-in-Err-clause-run
returns-in-Err-clause-run g c = nothing_done g.E.Engine.gives g.E.Engine.fires g.E.Engine.counts _ _ _ _ _ _ _ _ _ 7 (inr (omega arith, omega arith)) (inl refl)

pub returns-clause-run : goal.returns-clause-run
returns-clause-run g c = nothing_done g.E.Engine.gives g.E.Engine.fires g.E.Engine.counts _ _ _ _ _ _ _ _ _ 7 (inr (omega arith, omega arith)) (inl refl)

pub returns-in-Ok-beginning-clause-untouched : goal.returns-in-Ok-beginning-clause-untouched
returns-in-Ok-beginning-clause-untouched g c three =
    absurd (not_refused c.args.plan.mode c.args.plan.limit c.in-Ok-beginning.beginning c.in-Accepted.program
    (c.do_mode.ensures.run c.args.name.now (option_map (λ it. it.now) c.args.image) (seen_of_shelf (g.F.Shelf.files c.args.shelf.now) (g.F.Shelf.faults c.args.shelf.now) (g.F.Shelf.misses c.args.shelf.now))
    (seen_of_shelf (g.F.Shelf.files c.args.shelf.now) (g.F.Shelf.faults c.args.shelf.now) (g.F.Shelf.misses c.args.shelf.now)) (rw c.read_whole.ensures.files at c.in-Ok-beginning.ensures.asked)) three)

pub returns-in-Ok-beginning-clause-unread : goal.returns-in-Ok-beginning-clause-unread
unfolding file_limit
returns-in-Ok-beginning-clause-unread g c files told refused =
    let image = option_map (λ it. it.now) c.args.image in
    let mode = c.args.plan.mode in
    let limit = c.args.plan.limit in
    let p = c.in-Accepted.program in
    let bytes = c.in-Ok.file.items in
    let is : reading bytes ≡ Accepted p = ap reading (sym c.deref.ensures.value) ∙ sym c.in-Ok-read_rules.ensures.reading ∙ c.in-Accepted.is in
    c.do_mode.ensures.unread (unread_at mode limit c.in-Ok-beginning.beginning p (subst IsUnread
    (accepted_file mode limit image c.args.name.now _ files bytes p told c.in-Ok.ensures.found c.in-Ok.ensures.bytes is
    ∙ shown_enough mode limit image files bytes _ c.in-Ok-read_rules.read.1.items c.in-Ok-read_rules.read.0 p _ c.shows_rules-shows.ensures c.in-Accepted.is
    c.in-Ok-read_rules.ensures.text c.deref.ensures.value ∙ c.in-Ok-beginning.ensures.found files (c.read_whole.ensures.files ∙ told) limit p) refused))

pub do_mode-requires-clause-prompt : goal.do_mode-requires-clause-prompt
unfolding file_limit
do_mode-requires-clause-prompt g c asked now h =
    let image = option_map (λ it. it.now) c.args.image in
    let mode = c.args.plan.mode in
    let limit = c.args.plan.limit in
    let p = c.in-Accepted.program in
    let bytes = c.in-Ok.file.items in
    let is : reading bytes ≡ Accepted p = ap reading (sym c.deref.ensures.value) ∙ sym c.in-Ok-read_rules.ensures.reading ∙ c.in-Accepted.is in
    c.requires.prompt asked now (λ files told. subst (λ (w : Wanted). IsPrompt g.E.Engine.gives g.E.Engine.fires g.E.Engine.counts w asked (g.K.Sink.written c.args.out.now) (g.K.Sink.written now))
    (sym (accepted_file mode limit image c.args.name.now _ files bytes p told c.in-Ok.ensures.found c.in-Ok.ensures.bytes is
    ∙ shown_enough mode limit image files bytes _ c.in-Ok-read_rules.read.1.items c.in-Ok-read_rules.read.0 p _ c.shows_rules-shows.ensures c.in-Accepted.is
    c.in-Ok-read_rules.ensures.text c.deref.ensures.value ∙ c.in-Ok-beginning.ensures.found files (c.read_whole.ensures.files ∙ told) limit p)) h)
