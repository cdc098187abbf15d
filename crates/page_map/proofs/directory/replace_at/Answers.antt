use Rattle.page_map.proofs.{Common.{◌∙◌, sym, ap, rules, ◌/◌, ◌%◌, ◌<◌, ◌≤◌, length, value_for_number}, Kept.{past_pages, on_some_weaker, if_none_weaker}}
use Rattle.page_map.proofs.Written.{in_page, written, unwritten}
use Rattle.page_map.proofs.directory.replace_at.Goals as goal

pub returns-then-number-len-clause-before : goal.returns-then-number-len-clause-before
returns-then-number-len-clause-before c =
    let within : c.args.place / 64 < length c.args.pages.now.items = search rules in
    c.replace_in.ensures.before ∙ ap value_for_number (sym (in_page c.args.pages.now.items (c.args.place / 64) (c.args.place % 64) c.index_mut.result.now within c.index_mut.ensures.value))

pub returns-then-number-len-clause-some : goal.returns-then-number-len-clause-some
returns-then-number-len-clause-some c =
    let within : c.args.place / 64 < length c.args.pages.now.items = search rules in
    on_some_weaker c.replace_in.result
    (written c.args.pages.now.items c.args.place c.index_mut.result.now c.replace_in.new.page within c.index_mut.ensures.value c.args.value)
    c.replace_in.ensures.some

pub returns-then-number-len-clause-none : goal.returns-then-number-len-clause-none
returns-then-number-len-clause-none c =
    let within : c.args.place / 64 < length c.args.pages.now.items = search rules in
    if_none_weaker c.replace_in.result
    (unwritten c.args.pages.now.items c.args.place c.index_mut.result.now c.replace_in.new.page within c.index_mut.ensures.value)
    c.replace_in.ensures.none

pub returns-else-number-len-clause-before : goal.returns-else-number-len-clause-before
returns-else-number-len-clause-before c =
    let past : length c.args.pages.now.items ≤ c.args.place / 64 = search rules in
    sym (ap value_for_number (past_pages c.args.pages.now.items (c.args.place / 64) (c.args.place % 64) past))
