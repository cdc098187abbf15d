use Rattle.page_map.proofs.{Common.{◌∙◌, sym, ap, rules, ◌/◌, ◌%◌, ◌<◌, ◌≤◌, length, free, value_for_number}, Kept.{past_pages}, Written.{in_page, written}}
use Rattle.page_map.proofs.Written.{absent}
use Rattle.page_map.proofs.directory.take_at.Goals as goal

pub returns-then-number-len-clause-taken : goal.returns-then-number-len-clause-taken
returns-then-number-len-clause-taken c =
    let past : length c.args.pages.now.items ≤ c.args.place / 64 = search rules in
    sym (ap value_for_number (past_pages c.args.pages.now.items (c.args.place / 64) (c.args.place % 64) past))

pub returns-then-number-len-clause-rest : goal.returns-then-number-len-clause-rest
returns-then-number-len-clause-rest c k =
    let past : length c.args.pages.now.items ≤ c.args.place / 64 = search rules in
    absent c.args.pages.now.items c.args.place k (past_pages c.args.pages.now.items (c.args.place / 64) (c.args.place % 64) past)

pub returns-clause-taken : goal.returns-clause-taken
returns-clause-taken c =
    let within : c.args.place / 64 < length c.args.pages.now.items = search rules in
    c.take_from-value.ensures.taken
    ∙ ap value_for_number (sym (in_page c.args.pages.now.items (c.args.place / 64) (c.args.place % 64) c.index_mut.result.now within c.index_mut.ensures.value))

pub returns-clause-rest : goal.returns-clause-rest
returns-clause-rest c k =
    let within : c.args.place / 64 < length c.args.pages.now.items = search rules in
    c.drop_last.ensures.kept (k / 64) (k % 64)
    ∙ written c.args.pages.now.items c.args.place c.index_mut.result.now c.take_from-value.new.page within c.index_mut.ensures.value free c.take_from-value.ensures.rest k
