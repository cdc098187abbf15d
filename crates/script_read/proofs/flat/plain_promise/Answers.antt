use Rattle.script_read.proofs.Common.{rules, ◌≡◌, Some, None, codes, sym, ap, ◌∙◌, arith, w64, to_z, of_z, no_members, member, number, members_view}
use Rattle.script_read.proofs.{Common.{word_command, Change, Promise}, Forms.{one_member, promise_is}}
use Rattle.script_read.proofs.flat.plain_promise.Goals as goal

pub returns : goal.returns
returns c =
    let n = c.in_ok-from.from in
    let same : to_z w64 (of_z w64 n) ≡ n = search rules in
    let is = c.in_ok-from.ensures in
    let whole : members_view c.args.members.now ≡ member (codes "from") (number is.1) no_members =
    one_member c.args.members.now c.moment-item.result (omega (arith, c.in-len1.len_at_least, c.in-len1.len_below)) c.moment-item.is (is.0, is.2) in
    ap (word_command (codes "promise")) whole ∙ promise_is is.1 n is.3 ∙ ap (λ m. Some (Change (Promise None m))) (sym same)
