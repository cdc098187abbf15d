use Rattle.script_read.proofs.Common.{rules, ◌≡◌, Some, codes, sym, ap, ◌∙◌, arith, w64, to_z, of_z, no_members, member, number, members_view, word_command}
use Rattle.script_read.proofs.{Common.{Change, Advance}, Forms.{one_member, advance_is}}
use Rattle.script_read.proofs.flat.advance.Goals as goal

pub returns : goal.returns
returns c =
    let n = c.in_ok-whole_under.field-0 in
    let same : to_z w64 (of_z w64 n) ≡ n = search rules in
    let is = c.in_ok-whole_under.ensures in
    let whole : members_view c.args.members.now ≡ member (codes "by") (number is.1) no_members =
    one_member c.args.members.now c.time-item.result (omega (arith, c.in-len1.len_at_least, c.in-len1.len_below)) c.time-item.is (is.0, is.2) in
    ap (word_command (codes "advance")) whole ∙ advance_is is.1 n is.3 ∙ ap (λ m. Some (Change (Advance m))) (sym same)
