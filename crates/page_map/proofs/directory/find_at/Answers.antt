use Rattle.page_map.proofs.{Common.{◌≡◌, ◌∙◌, sym, ap, rules, ◌/◌, ◌%◌, ◌<◌, ◌≤◌, length, get_or, value_for_number}, Kept.{past_pages}, Written.{in_page}}
use Rattle.page_map.proofs.directory.find_at.Goals as goal

pub returns-then-number-len : goal.returns-then-number-len
returns-then-number-len c =
    let pages = c.args.pages.now.items in
    let place = c.args.place in
    let within : place / 64 < length pages = search rules in
    let is : c.index.result.now ≡ get_or pages (place / 64) c.index.result.now = search rules in
    c.value_in.ensures.value ∙ ap value_for_number (sym (in_page pages (place / 64) (place % 64) c.index.result.now within is))

pub returns-else-number-len : goal.returns-else-number-len
returns-else-number-len c =
    let past : length c.args.pages.now.items ≤ c.args.place / 64 = search rules in
    sym (ap value_for_number (past_pages c.args.pages.now.items (c.args.place / 64) (c.args.place % 64) past))
