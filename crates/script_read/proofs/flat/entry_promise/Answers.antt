use Rattle.script_read.proofs.Common.{rules, ◌≡◌, Some, codes, sym, ap, ap₂, ◌∙◌, arith, w64, to_z, of_z, no_members, member, number, string, members_view}
use Rattle.script_read.proofs.{Common.{word_command, Change, Promise}, Forms.{two_members, promise_for_is}}
use Rattle.script_read.proofs.flat.entry_promise.Goals as goal

pub returns-in_ok-name-in-Some-Some : goal.returns-in_ok-name-in-Some-Some
returns-in_ok-name-in-Some-Some c =
    let is = c.in-Some-Some in
    let entry = is.entry.now in
    let n = is.from in
    let same : to_z w64 (of_z w64 n) ≡ n = search rules in
    let digits = is.ensures'.1 in
    let whole : members_view c.args.members.now ≡ member (codes "entry") (string entry) (member (codes "from") (number digits) no_members) =
    two_members c.args.members.now c.entry-item.result c.moment-item.result (omega (arith, c.in-len2.len_at_least, c.in-len2.len_below))
    c.entry-item.is c.moment-item.is is.ensures (is.ensures'.0, is.ensures'.2) in
    ap (word_command (codes "promise")) whole ∙ promise_for_is entry digits n is.ensures'.3
    ∙ ap₂ (λ e m. Some (Change (Promise (Some e) m))) (sym c.in_ok-name-in-Some-Some.ensures) (sym same)
